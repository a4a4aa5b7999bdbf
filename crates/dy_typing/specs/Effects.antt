-- What is known after a statement.
use Rattle.std.specs.Prelude.{ℕ, List, [], ◌∷◌, map, filter_map, fold, zip, Option, Some, None, if◌then◌else◌}
use Rattle.std.specs.Option.{option_map_or, option_to_list}
use Rattle.dy_label.specs.Labels.{Public, Nobody, Meet}
use Rattle.dy_label.specs.Words.{Atom, Prior, StaticLabel}
use Rattle.dy_types.specs.Claims.{StaticUse, Claim, Use, Known, plain, vk_labels, meet_of}
use Rattle.dy_types.specs.Claims as claims
use Rattle.dy_types.specs.FieldTypes.{Declared, declared_claims, narrow_by}
use Rattle.dy_syntax.specs.Names.{Id, Nm, Named, Pke, Sig, UseText}
use Rattle.dy_syntax.specs.Declarations.{Field, CaseDecl, StateDecl}
use Rattle.dy_syntax.specs.Statements as s
use Rattle.dy_syntax.specs.Statements.{Pattern, Bind, Equal, OnPart, Act, Handler}
use Rattle.dy_syntax.specs.Files.{Decl}
use Rattle.dy_syntax.specs.LookUps.{case_named, state_named}
use Rattle.dy_typing.specs.Names.{Setting, Stands, setting_of, name_number, stands_number, case_stands, state_stands, patterns_names, atom_names}
use Rattle.dy_typing.specs.Instances.{name_label, label_in, use_in, type_in}
use Rattle.dy_typing.specs.Knowledge.{Knowledge, self_alone, known_of, bind, identify_value, claim_value, same_names, add_event}
use Rattle.dy_typing.specs.Expressions.{is_of_kind, meet_all, known_of_expr}

-- a field of which this is known, against a pattern
abbrev pub match_field : Knowledge → Pattern × Known → Knowledge
match_field k pair = against pair.0 where
  against : Pattern → Knowledge
  against (Bind name) = bind k name.word pair.1
  against (s.Named line name) = bind k name.word plain
  against (Equal line to) = identify_value k to pair.1

-- fields of which this is known, each against its pattern
abbrev pub match_fields : Knowledge → List Pattern → List Known → Knowledge
match_fields k pats knowns = fold match_field k (zip pats knowns)

-- the lo of each variable that is compared with
abbrev pub compared_lo : Knowledge → Pattern → Option StaticLabel
compared_lo k (Equal line to) = Some (known_of k to).lo
compared_lo k _ = None

-- The fields of what was opened may be forged where all variables are open that they were compared with.
abbrev pub guard_of_compared : Knowledge → List Pattern → StaticLabel
guard_of_compared k pats = meet_all (filter_map (compared_lo k) pats)

-- the events of a case or a state, with their guards
pub record Guarded : Type 0 where
  pub event : List ℕ
  pub args : Option (List Nm)
  pub guard : StaticLabel

abbrev pub add_guarded : Knowledge → Guarded → Knowledge
add_guarded k event = add_event k event.event event.args event.guard

abbrev pub case_events : Stands → StaticLabel → CaseDecl → List Guarded
case_events stands guard case =
    map (λ atom. record { event = atom.event.word; args = atom_names stands atom; guard = guard }) case.requires_

abbrev pub state_events : Setting → Stands → Option Atom → StateDecl → List Guarded
state_events setting stands here state =
    map (λ partner. record {
      event = partner.atom.event.word;
      args = atom_names stands partner.atom;
      guard = label_in (stands_number setting stands) here partner.unless;
    }) state.knows

abbrev pub types_in : Setting → Stands → Option Atom → List Field → List Declared
types_in setting stands here fields = map (λ field. type_in (stands_number setting stands) here field.kind) fields

-- The fields of a case, of each of which its type says what is known; then the case's events, with a guard.
abbrev pub open_case : Setting → Knowledge → (Declared → Known) → StaticLabel → List Nm → List Pattern → CaseDecl
    → Knowledge
open_case setting k knowing guard args pats case =
    let stands = case_stands setting.decls args case (patterns_names pats) in
    fold add_guarded (match_fields k pats (map knowing (types_in setting stands None case.fields)))
    (case_events stands guard case)

abbrev pub match_case : Setting → Knowledge → (Declared → Known) → StaticLabel → UseText → List ℕ → List Pattern
    → Knowledge
match_case setting k knowing guard usage tag pats =
    option_map_or (open_case setting k knowing guard usage.args pats) (case_named setting.decls usage.usage.word tag) k

-- The fields of a state have their declared types, and what it knows has happened.
abbrev pub open_state : Setting → Knowledge → Option Atom → List Pattern → StateDecl → Knowledge
open_state setting k here pats state =
    let stands = state_stands state (patterns_names pats) in
    fold add_guarded
    (match_fields k pats (map (λ type. narrow_by type Nobody Nobody) (types_in setting stands here state.fields)))
    (state_events setting stands here state)

abbrev pub match_state : Setting → Knowledge → Option Atom → List ℕ → List Pattern → Knowledge
match_state setting k here state pats =
    option_map_or (open_state setting k here pats) (state_named setting.decls state) k

-- the label under which a verification key vouches: that of all its claims of this usage together
abbrev pub vouching : Known → StaticUse → StaticLabel
vouching key usage = all (vk_labels key.claims usage) where
  all : List StaticLabel → StaticLabel
  all [] = Public
  all (label ∷ labels) = meet_of label labels

-- What all may see of a value that is signed or split: whoever knows the value, and no lower bound.
abbrev pub shown_by : Known → List Claim → Known
shown_by value said = record { hi = value.hi; lo = Public; claims = said }

-- a key that is found: a public or a verification key of its owner, by the kind of its usage
abbrev pub found_claims : List Decl → StaticLabel → StaticUse → List Claim
found_claims decls owner usage =
    if is_of_kind decls Pke usage.usage then claims.Pk owner usage ∷ []
    else if is_of_kind decls Sig usage.usage then claims.Vk owner usage ∷ []
    else []

abbrev pub found_key : Setting → Id → Nm → Known
found_key setting usage owner =
    let number = name_number setting owner in
    record {
      hi = Public;
      lo = Public;
      claims = found_claims setting.decls (name_label number)
          (record { usage = usage.word; args = option_to_list number });
    }

-- what a fresh value is known to be
abbrev pub fresh : StaticLabel → StaticUse → Known
fresh label usage = record { hi = label; lo = label; claims = Use usage ∷ [] }

-- After a tag is checked, each argument is claimed to be what its field says, where the key is not open.
abbrev pub add_checked : StaticLabel → Knowledge → Nm × Declared → Knowledge
add_checked guard k pair = claim_value k pair.0 (declared_claims pair.1 guard)

abbrev pub check_fields : Setting → Knowledge → StaticLabel → List Nm → List Nm → CaseDecl → Knowledge
check_fields setting k guard usage_args args case =
    let stands = case_stands setting.decls usage_args case (map Some args) in
    fold add_guarded (fold (add_checked guard) k (zip args (types_in setting stands None case.fields)))
    (case_events stands guard case)

abbrev pub check_case : Setting → Knowledge → Nm → UseText → List ℕ → List Nm → Knowledge
check_case setting k key usage tag args =
    option_map_or (check_fields setting k (known_of k key).lo usage.args args)
    (case_named setting.decls usage.usage.word tag) k

-- of the fields of what was opened with this key: by their types, with this guard
abbrev pub opened_with : Known → StaticLabel → Declared → Known
opened_with key guard type = narrow_by type key.hi guard

-- of the fields of what was verified: claims by their types, with this guard
abbrev pub verified_in : Known → StaticLabel → Declared → Known
verified_in value guard type = shown_by value (declared_claims type guard)

-- what is known after a statement
abbrev pub after : Setting → Knowledge → Act → Knowledge
after setting k (s.New name usage label) =
    bind k name.word
    (fresh (label_in (name_number setting) None label) (use_in (name_number setting) usage))
after setting k (s.Let name value) = bind k name.word (known_of_expr setting.decls k value)
after setting k (s.Event atom) = add_event k atom.event.word (Some atom.args) Nobody
after setting k (s.Send value) = k
after setting k (s.Store state fields) = k
after setting k (s.Certify key usage) = k
after setting k (s.Find usage owner name) = bind k name.word (found_key setting usage owner)
after setting k (s.Recall state pats) = match_state setting k None state.word pats
after setting k (s.Split value tag pats) =
    match_fields k pats (map (λ pat. shown_by (known_of k (Named value)) []) pats)
after setting k (s.Opened value key usage tag pats ad) =
    let guard = Meet (known_of k (Named key)).lo (guard_of_compared k pats) in
    match_case setting k (opened_with (known_of k (Named key)) guard) guard usage tag.text pats
after setting k (s.Popened value key usage tag pats) =
    let guard = guard_of_compared k pats in
    match_case setting k (opened_with (known_of k (Named key)) guard) guard usage tag.text pats
after setting k (s.Verify value key usage tag pats) =
    let guard = vouching (known_of k (Named key)) (use_in (name_number setting) usage) in
    match_case setting k (verified_in (known_of k (Named value)) guard) guard usage tag.text pats
after setting k (s.Check value key usage tag args) = check_case setting k (Named key) usage tag.text args
after setting k (s.Same left right) = same_names k left right

-- an argument or the received message: all may know it
abbrev pub bind_plain : Knowledge → Id → Knowledge
bind_plain k name = bind k name.word plain

-- The arguments and the received message are bound first.
abbrev pub bound_first : Handler → Knowledge
bound_first handler = fold bind_plain (fold bind_plain self_alone handler.args) (option_to_list handler.recv)

-- Then comes what the state has that the handler goes on from.
abbrev pub at_start : Setting → Handler → Knowledge
at_start setting handler =
    option_map_or (λ on. match_state setting (bound_first handler) (Some Prior) on.state.word on.pats) handler.on
    (bound_first handler)

abbrev pub start_of : List Decl → Handler → Knowledge
start_of decls handler = at_start (setting_of decls handler) handler
