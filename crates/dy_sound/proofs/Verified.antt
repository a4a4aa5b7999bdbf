-- What is known after a signature is verified, a tag is checked or a tuple is split holds.
use Rattle.std.proofs.Common.{◌≡◌, ℕ, true, List, [], ◌∷◌, map, zip, length, Contains, Option, Some, None, ◌⊎◌, inl, inr, refl, sym, subst, ◌∙◌, arith}
use Rattle.std.specs.Prelude.{fold}
use Rattle.std.specs.Option.{option_map_or}
use Rattle.std.proofs.lemmas.List.{length-map}
use Rattle.dy_term.specs.Terms.{Term, Sign, Vk}
use Rattle.dy_term.specs.Tuples.{tagged_tuple}
use Rattle.dy_label.specs.Labels.{Public}
use Rattle.dy_label.specs.Words.{StaticLabel, Choice, meaning_of}
use Rattle.dy_label.specs.declared.usages.Usage.{Usage}
use Rattle.dy_types.specs.Claims.{StaticUse, Known, HasVk, vk_labels, meet_of, MeetImplies}
use Rattle.dy_types.specs.FieldTypes.{declared_claims}
use Rattle.dy_syntax.specs.Names.{Id, Quote, Nm, Named, UseText, AtomText}
use Rattle.dy_syntax.specs.Declarations.{Field, CaseDecl}
use Rattle.dy_syntax.specs.Statements.{Pattern}
use Rattle.dy_syntax.specs.LookUps.{case_named}
use Rattle.dy_syntax.specs.Scopes.{case_scope}
use Rattle.dy_typing.specs.Names.{Setting, Stands, name_number, stands_number, case_stands, patterns_names, atom_names}
use Rattle.dy_typing.specs.Knowledge.{Knowledge, known_of, claim_value}
use Rattle.dy_typing.specs.Instances.{use_in, type_in}
use Rattle.dy_typing.specs.Effects.{types_in, case_events, vouching, shown_by, verified_in, match_fields, match_case, add_guarded, add_checked, check_fields, check_case}
use Rattle.dy_entry.specs.Entries.{Entry}
use Rattle.dy_entry.specs.ValueLabels.{label_of}
use Rattle.dy_eval.specs.Names.{Names, write, bytes_at, bytes_for}
use Rattle.dy_eval.specs.Patterns.{fits, written_by, fields_in}
use Rattle.dy_sound.specs.Usages.{usage_of}
use Rattle.dy_sound.specs.Flows.{Flows, IsShown}
use Rattle.dy_sound.specs.Words.{Words, case_words}
use Rattle.dy_sound.specs.Events.{HasHappened}
use Rattle.dy_sound.specs.Fields.{HasUse, Meets, AllMeet}
use Rattle.dy_sound.specs.Valid.{IsUnder}
use Rattle.dy_sound.specs.Knowledge.{usage_chosen, Holds}
use Rattle.dy_sound.specs.InScope.{TypeIsInScope, AtomIsInScope}
use Rattle.dy_sound.specs.Matches.{Matches}
use Rattle.dy_sound.specs.LawsBelow.{LawsBelow}
use Rattle.dy_sound.proofs.Lists.{Contains-first, Contains-later}
use Rattle.dy_sound.proofs.DerivedValues.{shown_by_flow}
use Rattle.dy_sound.proofs.Weaker.{vk_holds}
use Rattle.dy_sound.proofs.WordsMeant.{args_mean}
use Rattle.dy_sound.proofs.Tuples.{SameAreEqual, is_tuple}
use Rattle.dy_sound.proofs.TypesHold.{HasType, has_type, ClaimsNoUse, typed_claims_hold, guarded_claims_hold, is_shown_by}
use Rattle.dy_sound.proofs.PatternsHold.{AllKnownHold, AreWritten, match_fields_hold, claims_hold}
use Rattle.dy_sound.proofs.GuardedHolds.{case_events_hold}
use Rattle.dy_sound.proofs.OpenedCases.{sealed_here, forged_holds, sealed_holds}
use Rattle.dy_sound.proofs.Openings.{IsOpened, fields_are_readable, count, sealed_by, opened_fields_readable}
use Rattle.dy_sound.proofs.SameStatement.{write_nothing}
use Rattle.dy_sound.proofs.KnownNames.{known_of_name}

-- the label under which a key vouches whose claims have these labels
abbrev meet_of_all : List StaticLabel → StaticLabel
meet_of_all [] = Public
meet_of_all (label ∷ labels) = meet_of label labels

meet_is_implied : (labels : List StaticLabel) → MeetImplies labels Public → MeetImplies labels (meet_of_all labels)
meet_is_implied [] none = none
meet_is_implied (label ∷ labels) some = λ choice C opened. opened

-- A verification key of a usage is one under the label under which it vouches.
vouches : (known : Known) (usage : StaticUse) → HasVk known Public usage → HasVk known (vouching known usage) usage
vouches known usage has = meet_is_implied (vk_labels known.claims usage) has

-- No field of the case is claimed to have a usage.
abbrev pub ClaimNoUses : Setting → Stands → CaseDecl → Type 0
ClaimNoUses setting stands case =
    (field : Field) → Contains case.fields field → ClaimsNoUse (type_in (stands_number setting stands) None field.kind)

module _ (below : LawsBelow) (equal : SameAreEqual) (setting : Setting) (T : List Entry) (choice : Choice) (start : Names) (k : Knowledge)
    (h : Holds setting.decls T choice start k) where
  module _ (usage : UseText) (tag : Quote) (pats : List Pattern) (message : Term) (fields : List Term)
      (opening : IsOpened setting T choice start usage tag.text pats message fields) where
    abbrev names_then : Names
    names_then = write start (written_by pats fields)

    abbrev own_use : StaticUse
    own_use = use_in (name_number setting) usage

    abbrev own_usage : Usage
    own_usage = usage_chosen setting.decls choice own_use

    pub verify_holds : (value key : Id) (own : Term) → bytes_at start value.word ≡ Sign own message → bytes_at start key.word ≡ Vk own
        → HasVk (known_of k (Named key)) Public own_use → IsUnder setting.decls T own message
        → ClaimNoUses setting (case_stands setting.decls usage.args opening.case (patterns_names pats)) opening.case
        → Holds setting.decls T choice names_then
        (match_case setting k (verified_in (known_of k (Named value)) (vouching (known_of k (Named key)) own_use)) (vouching (known_of k (Named key)) own_use) usage tag.text pats)
    verify_holds value key own value_is key_is has under no_use =
        let whole = known_of k (Named value) in
        let guard = vouching (known_of k (Named key)) own_use in
        let reads : Flows T (meaning_of choice whole.hi) (label_of T message) =
        subst (λ (v : Term). Flows T (meaning_of choice whole.hi) (label_of T v)) value_is (known_of_name setting.decls T choice start k h (Named value)).is_open_by_hi in
        let readable = opened_fields_readable below equal setting T choice start k h usage tag pats message fields opening (meaning_of choice whole.hi) reads in
        let forged : IsShown T (meaning_of choice guard) → Holds setting.decls T choice names_then (match_case setting k (verified_in whole guard) guard usage tag.text pats) = λ shown.
        forged_holds equal setting T choice (verified_in whole guard) start k h guard usage tag.text pats opening.case opening.is_declared fields opening.are_written opening.fit shown
        (count below equal setting T choice start k h usage tag pats message fields opening)
        (λ field one within here. is_shown_by setting.decls T choice one whole _ (readable one here)
        (guarded_claims_hold setting.decls T choice one (type_in (stands_number setting (case_stands setting.decls usage.args opening.case (patterns_names pats))) None field.kind) guard shown (inl (no_use field within)))) in
        elim (vk_holds below setting.decls T choice (bytes_at start key.word) (known_of k (Named key)) (known_of_name setting.decls T choice start k h (Named key)) guard own_use
        (vouches (known_of k (Named key)) own_use has)) [
          | inr shown ↦ forged shown
          | inl made ↦
              let same : made.key ≡ own = let one = made.value_is in cc in
              elim under [
                | inr shown ↦
                    forged (shown_by_flow below setting.decls T made.opens (subst (λ (v : Term). IsShown T (label_of T v)) (sym same) shown))
                | inl holds ↦
                    sealed_holds equal setting T choice (verified_in whole guard) start k h guard usage tag.text pats opening.case opening.is_declared fields opening.are_written opening.fit
                    (case_scope setting.decls opening.case) _ opening.matches opening.types_are_in_scope opening.atoms_are_in_scope
                    (sealed_by below equal setting T choice start k h usage tag pats message fields opening own
                    (subst (λ (v : Term). usage_of setting.decls T v ≡ Some own_usage) same made.has_usage) holds)
                    (λ type one here has_it. is_shown_by setting.decls T choice one whole (declared_claims type guard) (readable one here)
                    (typed_claims_hold setting.decls T choice one type guard has_it))
              ]
        ]

  -- The fields of a tuple that is split are shown by it.
  all_shown_by : (whole : Known) (pats : List Pattern) (fields : List Term) → length fields ≡ length pats
      → ((field : Term) → Contains fields field → Flows T (meaning_of choice whole.hi) (label_of T field))
      → AllKnownHold setting.decls T choice fields (map (λ (pat : Pattern). shown_by whole []) pats)
  all_shown_by whole [] [] same reads = tt
  all_shown_by whole [] (field ∷ fields) same reads = absurd (omega (arith, same))
  all_shown_by whole (pat ∷ pats) [] same reads = absurd (omega (arith, same))
  all_shown_by whole (pat ∷ pats) (field ∷ fields) same reads = (
    is_shown_by setting.decls T choice field whole [] (reads field (Contains-first field fields)) (λ claim none. absurd (omega (arith, none.1))),
    all_shown_by whole pats fields (omega (arith, same)) (λ other within. reads other (Contains-later field fields other within)),
  )

  pub split_holds : (value : Id) (tag : Quote) (pats : List Pattern) (fields : List Term) → fields_in tag.text (length pats) (bytes_at start value.word) ≡ Some fields
      → AreWritten start pats → fits start pats fields ≡ true
      → Holds setting.decls T choice (write start (written_by pats fields)) (match_fields k pats (map (λ (pat : Pattern). shown_by (known_of k (Named value)) []) pats))
  split_holds value tag pats fields fields_are written fit =
      let tuple = is_tuple equal tag.text (length pats) (bytes_at start value.word) fields fields_are in
      let whole = known_of k (Named value) in
      let reads : Flows T (meaning_of choice whole.hi) (label_of T (tagged_tuple tag.text fields)) =
      subst (λ (v : Term). Flows T (meaning_of choice whole.hi) (label_of T v)) tuple.term_is (known_of_name setting.decls T choice start k h (Named value)).is_open_by_hi in
      match_fields_hold equal setting.decls T choice start pats fields _ [] k written fit
      (all_shown_by whole pats fields tuple.count_is (fields_are_readable setting.decls T tag.text fields (meaning_of choice whole.hi) reads))
      (subst (λ (n : Names). Holds setting.decls T choice n k) (sym (write_nothing start)) h)

-- A tag is checked of a case: what stands for its words in the handler means what they mean in the trace.
pub record IsChecked (setting : Setting) (T : List Entry) (choice : Choice) (start : Names) (usage : UseText) (tag : List ℕ) (args : List Nm) : Type 0 where
  pub case : CaseDecl
  pub is_declared : case_named setting.decls usage.usage.word tag ≡ Some case
  pub as_many : length args ≡ length case.fields
  pub matches :
      Matches setting choice start (case_scope setting.decls case) (case_stands setting.decls usage.args case (map Some args)) None
      (case_words setting.decls (usage_chosen setting.decls choice (use_in (name_number setting) usage)).owners case (map (bytes_for start) args))
  pub types_are_in_scope : (field : Field) → Contains case.fields field → TypeIsInScope (case_scope setting.decls case) field.kind
  pub atoms_are_in_scope : (atom : AtomText) → Contains case.requires_ atom → AtomIsInScope (case_scope setting.decls case) atom
  pub no_use : ClaimNoUses setting (case_stands setting.decls usage.args case (map Some args)) case

module _ (below : LawsBelow) (setting : Setting) (T : List Entry) (choice : Choice) (start : Names) (guard : StaticLabel) (stands : Stands) where
  -- what is claimed of each argument, where it may be claimed of every value
  claims_forged : (args : List Nm) (fields : List Field) (k : Knowledge) → Holds setting.decls T choice start k → IsShown T (meaning_of choice guard)
      → ((field : Field) → Contains fields field → ClaimsNoUse (type_in (stands_number setting stands) None field.kind))
      → Holds setting.decls T choice start (fold (add_checked guard) k (zip args (types_in setting stands None fields)))
  claims_forged [] fields k h shown no_use = h
  claims_forged (arg ∷ args) [] k h shown no_use = h
  claims_forged (arg ∷ args) (field ∷ fields) k h shown no_use =
      let type = type_in (stands_number setting stands) None field.kind in
      claims_forged args fields (claim_value k arg (declared_claims type guard))
      (claims_hold setting.decls T choice start k h arg (declared_claims type guard)
      (guarded_claims_hold setting.decls T choice (bytes_for start arg) type guard shown (inl (no_use field (Contains-first field fields)))))
      shown (λ other within. no_use other (Contains-later field fields other within))

  -- where each has its type
  claims_sealed : (words : Words) (args : List Nm) (fields : List Field) (k : Knowledge) → Holds setting.decls T choice start k
      → AllMeet setting.decls T words fields (map (bytes_for start) args)
      → ((field : Field) (value : Term) → Contains fields field → Meets setting.decls T words value field.kind
      → HasType setting.decls T choice value (type_in (stands_number setting stands) None field.kind))
      → Holds setting.decls T choice start (fold (add_checked guard) k (zip args (types_in setting stands None fields)))
  claims_sealed words [] fields k h meet each = h
  claims_sealed words (arg ∷ args) [] k h meet each = h
  claims_sealed words (arg ∷ args) (field ∷ fields) k h meet each =
      let type = type_in (stands_number setting stands) None field.kind in
      claims_sealed words args fields (claim_value k arg (declared_claims type guard))
      (claims_hold setting.decls T choice start k h arg (declared_claims type guard)
      (typed_claims_hold setting.decls T choice (bytes_for start arg) type guard (each field (bytes_for start arg) (Contains-first field fields) meet.0)))
      meet.1 (λ other value within meets. each other value (Contains-later field fields other within) meets)

module _ (below : LawsBelow) (setting : Setting) (T : List Entry) (choice : Choice) (start : Names) (k : Knowledge)
    (h : Holds setting.decls T choice start k) (usage : UseText) (tag : List ℕ) (args : List Nm) (opening : IsChecked setting T choice start usage tag args) where
  abbrev checked_usage : Usage
  checked_usage = usage_chosen setting.decls choice (use_in (name_number setting) usage)

  abbrev stands_here : Stands
  stands_here = case_stands setting.decls usage.args opening.case (map Some args)

  checked_case : (key : Id) (claimed : Knowledge)
      → claimed ≡ fold (add_checked (known_of k (Named key)).lo) k (zip args (types_in setting stands_here None opening.case.fields))
      → Holds setting.decls T choice start claimed
      → ((atom : AtomText) → Contains opening.case.requires_ atom → (given : List Nm) → atom_names stands_here atom ≡ Some given
      → HasHappened T atom.event.word (map (bytes_for start) given) ⊎ IsShown T (meaning_of choice (known_of k (Named key)).lo))
      → Holds setting.decls T choice start (check_case setting k (Named key) usage tag args)
  checked_case key claimed is holds events =
      subst (λ (c : Option CaseDecl). Holds setting.decls T choice start (option_map_or (check_fields setting k (known_of k (Named key)).lo usage.args args) c k)) (sym opening.is_declared)
      (subst (λ (then : Knowledge). Holds setting.decls T choice start (fold add_guarded then (case_events stands_here (known_of k (Named key)).lo opening.case))) is
      (case_events_hold setting.decls T choice start claimed stands_here (known_of k (Named key)).lo opening.case holds events))

  pub check_holds : (key : Id) → HasUse setting.decls T (bytes_at start key.word) checked_usage
      → IsUnder setting.decls T (bytes_at start key.word) (tagged_tuple tag (map (bytes_for start) args))
      → Holds setting.decls T choice start (check_case setting k (Named key) usage tag args)
  check_holds key has under =
      let known = known_of_name setting.decls T choice start k h (Named key) in
      let guard = (known_of k (Named key)).lo in
      let forged : IsShown T (label_of T (bytes_at start key.word)) → Holds setting.decls T choice start (check_case setting k (Named key) usage tag args) = λ shown.
      let open_ = shown_by_flow below setting.decls T known.opens_lo shown in
      checked_case key _ refl (claims_forged below setting T choice start guard stands_here args opening.case.fields k h open_ opening.no_use)
      (λ atom within given is. inr open_) in
      elim has [
        | inr shown ↦ forged shown
        | inl own ↦ elim under [
          | inr shown ↦ forged shown
          | inl holds ↦
              let sealed = sealed_here setting.decls T (bytes_at start key.word) checked_usage tag opening.case (map (bytes_for start) args) own opening.is_declared
              (length-map args (bytes_for start) ∙ opening.as_many) holds in
              let words = case_words setting.decls checked_usage.owners opening.case (map (bytes_for start) args) in
              checked_case key _ refl
              (claims_sealed below setting T choice start guard stands_here words args opening.case.fields k h sealed.fields_meet
              (λ field value within meets. has_type setting T choice start (case_scope setting.decls opening.case) stands_here None words opening.matches value field.kind (opening.types_are_in_scope field within) meets))
              (λ atom within given is.
              let event = sealed.events_stand atom within in
              let args_are : event.args ≡ map (bytes_for start) given =
              let meant = args_mean setting choice start (case_scope setting.decls opening.case) stands_here None words opening.matches atom given (opening.atoms_are_in_scope atom within) is in
              let other = event.args_are in cc in
              inl (subst (λ (values : List Term). HasHappened T atom.event.word values) args_are event.has_happened))
        ]
      ]
