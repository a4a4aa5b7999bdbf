-- A statement gives from stronger knowledge stronger knowledge.
use Rattle.std.proofs.Common.{ℕ, List, [], ◌∷◌, map, zip, Option, Some, None, refl}
use Rattle.std.specs.Prelude.{fold}
use Rattle.dy_label.specs.Words.{Atom, StaticLabel, Implies}
use Rattle.dy_label.specs.Labels.{Nobody, Meet}
use Rattle.dy_types.specs.Claims.{Known, plain, IsWeaker}
use Rattle.dy_types.specs.FieldTypes.{Declared, narrow_by}
use Rattle.dy_syntax.specs.Names.{Nm, Named, UseText, AtomText}
use Rattle.dy_syntax.specs.LookUps.{case_named, state_named}
use Rattle.dy_syntax.specs.Statements.{Pattern, Bind, Equal, Act}
use Rattle.dy_syntax.specs.Statements as s
use Rattle.dy_typing.specs.Names.{Setting, Stands, name_number, case_stands, state_stands, patterns_names, atom_names}
use Rattle.dy_typing.specs.Knowledge.{Knowledge, known_of, IsWellNumbered, IsWeakerKnowledge}
use Rattle.dy_typing.specs.Instances.{label_in, use_in}
use Rattle.dy_typing.specs.Expressions.{known_of_expr}
use Rattle.dy_typing.specs.Effects.{match_field, match_fields, guard_of_compared, Guarded, add_guarded, types_in, state_events, open_case, match_case, open_state, match_state, vouching, shown_by, found_key, fresh, add_checked, check_fields, check_case, opened_with, verified_in, after}
use Rattle.dy_typing.proofs.ValueLaws.{Laws}
use Rattle.dy_typing.proofs.Meets.{Implies-itself}
use Rattle.dy_typing.proofs.Known.{known_of-weaker}
use Rattle.dy_typing.proofs.Expressions.{AreWeaker, known_of_expr-weaker}
use Rattle.dy_typing.proofs.Guards.{Implies-Meet, guard_of_compared-weaker, vouching-weaker, opened_with-weaker, verified_in-weaker, each_type-weaker, each_shown-weaker}
use Rattle.dy_typing.proofs.Changes.{option_map_or-weaker, bind-weaker, identify_value-weaker, claim_value-weaker, add_event-weaker, same_names-weaker}

-- What is done for each of a list.
fold-weaker : {A : Type 0} (f g : Knowledge → A → Knowledge)
    → ((stronger weaker : Knowledge) (x : A) → IsWeakerKnowledge stronger weaker → IsWeakerKnowledge (f stronger x) (g weaker x))
    → (stronger weaker : Knowledge) (xs : List A) → IsWeakerKnowledge stronger weaker
    → IsWeakerKnowledge (fold f stronger xs) (fold g weaker xs)
fold-weaker f g each stronger weaker [] h = h
fold-weaker f g each stronger weaker (x ∷ xs) h = fold-weaker f g each (f stronger x) (g weaker x) xs (each stronger weaker x h)

module _ (laws : Laws) where
  -- A field of which more is known gives more, against its pattern.
  pub match_field-weaker : (stronger weaker : Knowledge) → IsWeakerKnowledge stronger weaker → (pat : Pattern) (known weaker_known : Known)
      → IsWeaker known weaker_known → IsWeakerKnowledge (match_field stronger (pat, known)) (match_field weaker (pat, weaker_known))
  match_field-weaker stronger weaker h (Bind name) known weaker_known k =
      bind-weaker laws stronger weaker h name.word known weaker_known k
  match_field-weaker stronger weaker h (s.Named line name) known weaker_known k =
      bind-weaker laws stronger weaker h name.word plain plain (laws.itself plain)
  match_field-weaker stronger weaker h (Equal line to) known weaker_known k =
      identify_value-weaker laws stronger weaker h to known weaker_known k

  pub match_fields-weaker : (pats : List Pattern) (knowns weaker_knowns : List Known) (stronger weaker : Knowledge)
      → IsWeakerKnowledge stronger weaker → AreWeaker knowns weaker_knowns
      → IsWeakerKnowledge (match_fields stronger pats knowns) (match_fields weaker pats weaker_knowns)
  match_fields-weaker [] knowns weaker_knowns stronger weaker h k = h
  match_fields-weaker (pat ∷ pats) [] [] stronger weaker h k = h
  match_fields-weaker (pat ∷ pats) [] (weaker_known ∷ weaker_knowns) stronger weaker h k = absurd k
  match_fields-weaker (pat ∷ pats) (known ∷ knowns) [] stronger weaker h k = absurd k
  match_fields-weaker (pat ∷ pats) (known ∷ knowns) (weaker_known ∷ weaker_knowns) stronger weaker h k =
      match_fields-weaker pats knowns weaker_knowns (match_field stronger (pat, known)) (match_field weaker (pat, weaker_known))
      (match_field-weaker stronger weaker h pat known weaker_known k.0) k.1

  add_guarded-weaker : (stronger weaker : Knowledge) (event : Guarded) → IsWeakerKnowledge stronger weaker
      → IsWeakerKnowledge (add_guarded stronger event) (add_guarded weaker event)
  add_guarded-weaker stronger weaker event h =
      add_event-weaker laws stronger weaker h event.event event.args event.guard event.guard (Implies-itself event.guard)

  -- The events of a case have happened, unless a guard is open that is so in fewer cases.
  each_event-weaker : (stands : Stands) (guard weaker_guard : StaticLabel) → Implies guard weaker_guard → (atoms : List AtomText)
      → (stronger weaker : Knowledge) → IsWeakerKnowledge stronger weaker
      → IsWeakerKnowledge
      (fold add_guarded stronger (map (λ atom. record { event = atom.event.word; args = atom_names stands atom; guard = guard }) atoms))
      (fold add_guarded weaker (map (λ atom. record { event = atom.event.word; args = atom_names stands atom; guard = weaker_guard }) atoms))
  each_event-weaker stands guard weaker_guard k [] stronger weaker h = h
  each_event-weaker stands guard weaker_guard k (atom ∷ atoms) stronger weaker h =
      each_event-weaker stands guard weaker_guard k atoms
      (add_guarded stronger (record { event = atom.event.word; args = atom_names stands atom; guard = guard }))
      (add_guarded weaker (record { event = atom.event.word; args = atom_names stands atom; guard = weaker_guard }))
      (add_event-weaker laws stronger weaker h atom.event.word (atom_names stands atom) guard weaker_guard k)

  -- What a case gives, where its fields are known better and its guard is open in fewer cases.
  pub match_case-weaker : (setting : Setting) (stronger weaker : Knowledge) → IsWeakerKnowledge stronger weaker
      → (knowing weaker_knowing : Declared → Known) → ((type : Declared) → IsWeaker (knowing type) (weaker_knowing type))
      → (guard weaker_guard : StaticLabel) → Implies guard weaker_guard → (usage : UseText) (tag : List ℕ) (pats : List Pattern)
      → IsWeakerKnowledge (match_case setting stronger knowing guard usage tag pats)
      (match_case setting weaker weaker_knowing weaker_guard usage tag pats)
  match_case-weaker setting stronger weaker h knowing weaker_knowing each guard weaker_guard k usage tag pats =
      let named = case_named setting.decls usage.usage.word tag in
      option_map_or-weaker (open_case setting stronger knowing guard usage.args pats) (open_case setting weaker weaker_knowing weaker_guard usage.args pats)
      named named stronger weaker refl
      (λ case is.
      let stands = case_stands setting.decls usage.args case (patterns_names pats) in
      let types = types_in setting stands None case.fields in
      each_event-weaker stands guard weaker_guard k case.requires_
      (match_fields stronger pats (map knowing types)) (match_fields weaker pats (map weaker_knowing types))
      (match_fields-weaker pats (map knowing types) (map weaker_knowing types) stronger weaker h
      (each_type-weaker laws knowing weaker_knowing each types))) h

  -- What a state gives.
  pub match_state-weaker : (setting : Setting) (stronger weaker : Knowledge) → IsWeakerKnowledge stronger weaker
      → (here : Option Atom) (state : List ℕ) (pats : List Pattern)
      → IsWeakerKnowledge (match_state setting stronger here state pats) (match_state setting weaker here state pats)
  match_state-weaker setting stronger weaker h here state pats =
      let named = state_named setting.decls state in
      option_map_or-weaker (open_state setting stronger here pats) (open_state setting weaker here pats) named named stronger weaker refl
      (λ declared is.
      let stands = state_stands declared (patterns_names pats) in
      let knowing = λ (type : Declared). narrow_by type Nobody Nobody in
      let knowns = map knowing (types_in setting stands here declared.fields) in
      fold-weaker add_guarded add_guarded add_guarded-weaker (match_fields stronger pats knowns) (match_fields weaker pats knowns)
      (state_events setting stands here declared)
      (match_fields-weaker pats knowns knowns stronger weaker h
      (each_type-weaker laws knowing knowing (λ type. laws.itself (knowing type)) (types_in setting stands here declared.fields)))) h

  -- What a tag that is checked gives.
  pub check_case-weaker : (setting : Setting) (stronger weaker : Knowledge) → IsWeakerKnowledge stronger weaker
      → (key : Nm) (usage : UseText) (tag : List ℕ) (args : List Nm)
      → IsWeakerKnowledge (check_case setting stronger key usage tag args) (check_case setting weaker key usage tag args)
  check_case-weaker setting stronger weaker h key usage tag args =
      let named = case_named setting.decls usage.usage.word tag in
      let guard = (known_of stronger key).lo in
      let weaker_guard = (known_of weaker key).lo in
      let k = (known_of-weaker laws stronger weaker h key).lo in
      option_map_or-weaker (check_fields setting stronger guard usage.args args) (check_fields setting weaker weaker_guard usage.args args)
      named named stronger weaker refl
      (λ case is.
      let stands = case_stands setting.decls usage.args case (map Some args) in
      let fields = zip args (types_in setting stands None case.fields) in
      each_event-weaker stands guard weaker_guard k case.requires_
      (fold (add_checked guard) stronger fields) (fold (add_checked weaker_guard) weaker fields)
      (fold-weaker (add_checked guard) (add_checked weaker_guard)
      (λ known weaker_known pair g. claim_value-weaker laws known weaker_known g pair.0 pair.1 guard weaker_guard k)
      stronger weaker fields h)) h

  -- After a statement, stronger knowledge is stronger.
  pub after-weaker : (setting : Setting) (stronger weaker : Knowledge) (act : Act) → IsWellNumbered stronger
      → IsWeakerKnowledge stronger weaker → IsWeakerKnowledge (after setting stronger act) (after setting weaker act)
  after-weaker setting stronger weaker (s.New name usage label) numbered h =
      let made = fresh (label_in (name_number setting) None label) (use_in (name_number setting) usage) in
      bind-weaker laws stronger weaker h name.word made made (laws.itself made)
  after-weaker setting stronger weaker (s.Let name value) numbered h =
      bind-weaker laws stronger weaker h name.word (known_of_expr setting.decls stronger value) (known_of_expr setting.decls weaker value)
      (known_of_expr-weaker laws setting.decls stronger weaker h value)
  after-weaker setting stronger weaker (s.Event atom) numbered h =
      add_event-weaker laws stronger weaker h atom.event.word (Some atom.args) Nobody Nobody (Implies-itself Nobody)
  after-weaker setting stronger weaker (s.Send value) numbered h = h
  after-weaker setting stronger weaker (s.Store state fields) numbered h = h
  after-weaker setting stronger weaker (s.Certify key usage) numbered h = h
  after-weaker setting stronger weaker (s.Find usage owner name) numbered h =
      let found = found_key setting usage owner in
      bind-weaker laws stronger weaker h name.word found found (laws.itself found)
  after-weaker setting stronger weaker (s.Recall state pats) numbered h =
      match_state-weaker setting stronger weaker h None state.word pats
  after-weaker setting stronger weaker (s.Split value tag pats) numbered h =
      let tuple = known_of stronger (Named value) in
      let weaker_tuple = known_of weaker (Named value) in
      match_fields-weaker pats (map (λ pat. shown_by tuple []) pats) (map (λ pat. shown_by weaker_tuple []) pats) stronger weaker h
      (each_shown-weaker laws tuple weaker_tuple (known_of-weaker laws stronger weaker h (Named value)) pats)
  after-weaker setting stronger weaker (s.Opened value key usage tag pats ad) numbered h =
      let secret = known_of stronger (Named key) in
      let weaker_secret = known_of weaker (Named key) in
      let known = known_of-weaker laws stronger weaker h (Named key) in
      let guard = Meet secret.lo (guard_of_compared stronger pats) in
      let weaker_guard = Meet weaker_secret.lo (guard_of_compared weaker pats) in
      let fewer = Implies-Meet secret.lo (guard_of_compared stronger pats) weaker_secret.lo (guard_of_compared weaker pats) known.lo
      (guard_of_compared-weaker laws stronger weaker h pats) in
      match_case-weaker setting stronger weaker h (opened_with secret guard) (opened_with weaker_secret weaker_guard)
      (opened_with-weaker laws secret weaker_secret guard weaker_guard known fewer) guard weaker_guard fewer usage tag.text pats
  after-weaker setting stronger weaker (s.Popened value key usage tag pats) numbered h =
      let secret = known_of stronger (Named key) in
      let weaker_secret = known_of weaker (Named key) in
      let guard = guard_of_compared stronger pats in
      let weaker_guard = guard_of_compared weaker pats in
      let fewer = guard_of_compared-weaker laws stronger weaker h pats in
      match_case-weaker setting stronger weaker h (opened_with secret guard) (opened_with weaker_secret weaker_guard)
      (opened_with-weaker laws secret weaker_secret guard weaker_guard (known_of-weaker laws stronger weaker h (Named key)) fewer)
      guard weaker_guard fewer usage tag.text pats
  after-weaker setting stronger weaker (s.Verify value key usage tag pats) numbered h =
      let signed = known_of stronger (Named value) in
      let weaker_signed = known_of weaker (Named value) in
      let use_of = use_in (name_number setting) usage in
      let guard = vouching (known_of stronger (Named key)) use_of in
      let weaker_guard = vouching (known_of weaker (Named key)) use_of in
      let fewer = vouching-weaker (known_of stronger (Named key)) (known_of weaker (Named key))
      (known_of-weaker laws stronger weaker h (Named key)) use_of in
      match_case-weaker setting stronger weaker h (verified_in signed guard) (verified_in weaker_signed weaker_guard)
      (verified_in-weaker laws signed weaker_signed guard weaker_guard (known_of-weaker laws stronger weaker h (Named value)) fewer)
      guard weaker_guard fewer usage tag.text pats
  after-weaker setting stronger weaker (s.Check value key usage tag args) numbered h =
      check_case-weaker setting stronger weaker h (Named key) usage tag.text args
  after-weaker setting stronger weaker (s.Same left right) numbered h =
      same_names-weaker laws stronger weaker h numbered left right
