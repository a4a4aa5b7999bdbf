-- What is known after a value is opened holds, of each kind of opening.
use Rattle.std.proofs.Common.{◌≡◌, ℕ, true, ◌&&◌, List, [], ◌∷◌, length, Contains, Some, None, inl, inr, refl, subst, ◌∙◌}
use Rattle.std.proofs.lemmas.Bool.{and_parts, and_from}
use Rattle.dy_term.specs.Terms.{Term, Pk, Vk, Penc, Aead, Sign}
use Rattle.dy_term.specs.Tuples.{tagged_tuple}
use Rattle.dy_term.specs.Sameness.{is_same}
use Rattle.dy_label.specs.Labels.{Label, Meet, is_open}
use Rattle.dy_label.specs.Words.{StaticLabel, Choice, meaning_of}
use Rattle.dy_label.specs.declared.usages.Usage.{Usage}
use Rattle.dy_types.specs.Claims.{StaticUse, Known}
use Rattle.dy_syntax.specs.Names.{Id, Quote, Named, UseText, AtomText}
use Rattle.dy_syntax.specs.Declarations.{Field, CaseDecl}
use Rattle.dy_syntax.specs.Statements as s
use Rattle.dy_syntax.specs.Statements.{Pattern, Bind, Equal}
use Rattle.dy_syntax.specs.Files.{Decl}
use Rattle.dy_syntax.specs.LookUps.{case_named}
use Rattle.dy_syntax.specs.Scopes.{case_scope}
use Rattle.dy_flat.specs.Openings.{penc_message, aead_message_with}
use Rattle.dy_typing.specs.Names.{Setting, name_number, case_stands, patterns_names}
use Rattle.dy_typing.specs.Knowledge.{Knowledge, known_of}
use Rattle.dy_typing.specs.Instances.{use_in}
use Rattle.dy_typing.specs.Effects.{guard_of_compared, opened_with, match_case}
use Rattle.dy_entry.specs.Entries.{Entry}
use Rattle.dy_entry.specs.ValueLabels.{label_of}
use Rattle.dy_eval.specs.Names.{Names, write, bytes_at, bytes_for}
use Rattle.dy_eval.specs.Effects.{verified_message}
use Rattle.dy_eval.specs.Patterns.{fits_one, fits, written_by, fields_in}
use Rattle.dy_sound.specs.Usages.{usage_of}
use Rattle.dy_sound.specs.Flows.{Flows, IsShown}
use Rattle.dy_sound.specs.Words.{case_words}
use Rattle.dy_sound.specs.Fields.{HasUse}
use Rattle.dy_sound.specs.Cases.{CaseHolds}
use Rattle.dy_sound.specs.Valid.{IsEncrypted, IsUnder, IsValid}
use Rattle.dy_sound.specs.Knowledge.{usage_chosen, Holds}
use Rattle.dy_sound.specs.InScope.{TypeIsInScope, AtomIsInScope}
use Rattle.dy_sound.specs.Matches.{Matches}
use Rattle.dy_sound.specs.LawsBelow.{LawsBelow}
use Rattle.dy_sound.proofs.Lists.{Contains-first, Contains-later}
use Rattle.dy_sound.proofs.DerivedValues.{shown_by_flow, message_shown}
use Rattle.dy_sound.proofs.Tuples.{SameAreEqual, IsTuple, is_tuple, in_tuple}
use Rattle.dy_sound.proofs.TypesHold.{typed_is_known, forged_is_known}
use Rattle.dy_sound.proofs.PatternsHold.{AreWritten}
use Rattle.dy_sound.proofs.OpenedCases.{IsSealed, sealed_here, forged_holds, sealed_holds}
use Rattle.dy_sound.proofs.KnownNames.{known_of_name}
use Rattle.dy_sound.proofs.Elements.{if_some}

module _ (equal : SameAreEqual) where
  pub is_penc : (sealed key message : Term) → penc_message sealed key ≡ Some message → sealed ≡ Penc (Pk key) message
  is_penc (Penc (Pk own) inner) key message is =
      let parts = if_some (is_same own key) inner message is in
      let one = equal own key parts.0 in
      let other = parts.1 in cc
  is_penc sealed key message is = absurd cc

  pub is_aead : (sealed key wanted message : Term) → aead_message_with sealed key wanted ≡ Some message → (ad : Term) × (sealed ≡ Aead key message ad)
  is_aead (Aead own inner ad) key wanted message is =
      let parts = if_some (is_same own key && is_same ad wanted) inner message is in
      let one = equal own key (and_parts (is_same own key) (is_same ad wanted) parts.0).0 in
      let other = parts.1 in (ad, cc)
  is_aead sealed key wanted message is = absurd cc

  pub is_signed : (signed key message : Term) → verified_message signed key ≡ Some message → (own : Term) × (signed ≡ Sign own message) × (key ≡ Vk own)
  is_signed (Sign own inner) (Vk key) message is =
      let parts = if_some (is_same own key) inner message is in
      let one = equal own key parts.0 in
      let other = parts.1 in (own, cc, cc)
  is_signed signed key message is = absurd cc

module _ (decls : List Decl) (T : List Entry) (tag : List ℕ) (fields : List Term) where
  -- What is valid, shown or readable of a tuple is so of its fields.
  pub fields_are_valid : IsValid decls T (tagged_tuple tag fields) → (field : Term) → Contains fields field → IsValid decls T field
  fields_are_valid = in_tuple (IsValid decls T) (λ a b whole. whole) tag fields

  pub fields_are_shown : IsShown T (label_of T (tagged_tuple tag fields)) → (field : Term) → Contains fields field → IsShown T (label_of T field)
  fields_are_shown = in_tuple (λ (v : Term). IsShown T (label_of T v))
      (λ a b whole. let parts = and_parts _ _ whole.is_open_now in (record { is_open_now = parts.0 }, record { is_open_now = parts.1 })) tag fields

  pub fields_are_readable : (from : Label) → Flows T from (label_of T (tagged_tuple tag fields)) → (field : Term) → Contains fields field → Flows T from (label_of T field)
  fields_are_readable from = in_tuple (λ (v : Term). Flows T from (label_of T v))
      (λ a b whole. (
        record { opens = λ C over opened. (and_parts (is_open C (label_of T a)) (is_open C (label_of T b)) (whole.opens C over opened)).0 },
        record { opens = λ C over opened. (and_parts (is_open C (label_of T a)) (is_open C (label_of T b)) (whole.opens C over opened)).1 },
      )) tag fields

-- A case is opened. A message is a tuple of its fields, which fit the patterns. What stands for its words in the
-- handler means what they mean in the trace.
pub record IsOpened (setting : Setting) (T : List Entry) (choice : Choice) (start : Names) (usage : UseText) (tag : List ℕ)
    (pats : List Pattern) (message : Term) (fields : List Term) : Type 0 where
  pub case : CaseDecl
  pub is_declared : case_named setting.decls usage.usage.word tag ≡ Some case
  pub as_many : length pats ≡ length case.fields
  pub fields_are : fields_in tag (length pats) message ≡ Some fields
  pub are_written : AreWritten start pats
  pub fit : fits start pats fields ≡ true
  pub matches :
      Matches setting choice (write start (written_by pats fields)) (case_scope setting.decls case)
      (case_stands setting.decls usage.args case (patterns_names pats)) None
      (case_words setting.decls (usage_chosen setting.decls choice (use_in (name_number setting) usage)).owners case fields)
  pub types_are_in_scope : (field : Field) → Contains case.fields field → TypeIsInScope (case_scope setting.decls case) field.kind
  pub atoms_are_in_scope : (atom : AtomText) → Contains case.requires_ atom → AtomIsInScope (case_scope setting.decls case) atom

module _ (below : LawsBelow) (equal : SameAreEqual) (setting : Setting) (T : List Entry) (choice : Choice) (start : Names) (k : Knowledge)
    (h : Holds setting.decls T choice start k) where
  -- The guard of what is compared is open where all fields are.
  compared_shown : (pats : List Pattern) (fields : List Term) → fits start pats fields ≡ true
      → ((field : Term) → Contains fields field → IsShown T (label_of T field)) → IsShown T (meaning_of choice (guard_of_compared k pats))
  compared_shown [] fields fit shown = record { is_open_now = refl }
  compared_shown (pat ∷ pats) [] fit shown = absurd cc
  compared_shown (Bind name ∷ pats) (field ∷ fields) fit shown =
      compared_shown pats fields fit (λ other within. shown other (Contains-later field fields other within))
  compared_shown (s.Named line name ∷ pats) (field ∷ fields) fit shown =
      compared_shown pats fields (and_parts (fits_one start (s.Named line name) field) (fits start pats fields) fit).1
      (λ other within. shown other (Contains-later field fields other within))
  compared_shown (Equal line to ∷ pats) (field ∷ fields) fit shown =
      let parts = and_parts (fits_one start (Equal line to) field) (fits start pats fields) fit in
      let is : field ≡ bytes_for start to = equal field (bytes_for start to) parts.0 in
      let own = subst (λ (v : Term). IsShown T (label_of T v)) is (shown field (Contains-first field fields)) in
      let lo = shown_by_flow below setting.decls T (known_of_name setting.decls T choice start k h to).opens_lo own in
      let rest = compared_shown pats fields parts.1 (λ other within. shown other (Contains-later field fields other within)) in
      record { is_open_now = and_from _ _ lo.is_open_now rest.is_open_now }

  module _ (usage : UseText) (tag : Quote) (pats : List Pattern) (message : Term) (fields : List Term)
      (opening : IsOpened setting T choice start usage tag.text pats message fields) where
    abbrev names_then : Names
    names_then = write start (written_by pats fields)

    abbrev own_use : StaticUse
    own_use = use_in (name_number setting) usage

    abbrev own_usage : Usage
    own_usage = usage_chosen setting.decls choice own_use

    pub tuple_here : IsTuple tag.text (length pats) message fields
    tuple_here = is_tuple equal tag.text (length pats) message fields opening.fields_are

    pub count : length fields ≡ length opening.case.fields
    count = tuple_here.count_is ∙ opening.as_many

    -- of a key whose usage is this one, and a case that holds
    pub sealed_by : (key : Term) → usage_of setting.decls T key ≡ Some own_usage → CaseHolds setting.decls T key message
        → IsSealed setting.decls T (case_words setting.decls own_usage.owners opening.case fields) opening.case fields
    sealed_by key has holds =
        sealed_here setting.decls T key own_usage tag.text opening.case fields has opening.is_declared count
        (subst (λ (m : Term). CaseHolds setting.decls T key m) tuple_here.term_is holds)

    opened_fields_shown : IsShown T (label_of T message) → (field : Term) → Contains fields field → IsShown T (label_of T field)
    opened_fields_shown shown =
        fields_are_shown setting.decls T tag.text fields (subst (λ (m : Term). IsShown T (label_of T m)) tuple_here.term_is shown)

    pub opened_fields_readable : (from : Label) → Flows T from (label_of T message) → (field : Term) → Contains fields field → Flows T from (label_of T field)
    opened_fields_readable from reads =
        fields_are_readable setting.decls T tag.text fields from (subst (λ (m : Term). Flows T from (label_of T m)) tuple_here.term_is reads)

    through : (first second third : Label) → Flows T first second → Flows T second third → Flows T first third
    through first second third one other = record { opens = λ C over opened. other.opens C over (one.opens C over opened) }

    -- What is known of the fields holds where all are shown, and so is the guard.
    all_shown : (key : Known) (guard : StaticLabel) → IsShown T (label_of T message) → IsShown T (meaning_of choice guard)
        → Holds setting.decls T choice names_then
        (match_case setting k (opened_with key guard) guard usage tag.text pats)
    all_shown key guard shown open_ =
        forged_holds equal setting T choice (opened_with key guard) start k h guard usage tag.text pats opening.case opening.is_declared fields opening.are_written opening.fit open_ count
        (λ field value within here. forged_is_known setting.decls T choice value below _ key.hi guard (opened_fields_shown shown value here) open_)

    -- Or they were sealed by the rules, and who has the key may know them.
    all_sealed : (key : Known) (guard : StaticLabel) → Flows T (meaning_of choice key.hi) (label_of T message)
        → IsSealed setting.decls T (case_words setting.decls own_usage.owners opening.case fields) opening.case fields
        → Holds setting.decls T choice names_then
        (match_case setting k (opened_with key guard) guard usage tag.text pats)
    all_sealed key guard reads sealed =
        sealed_holds equal setting T choice (opened_with key guard) start k h guard usage tag.text pats opening.case opening.is_declared fields opening.are_written opening.fit
        (case_scope setting.decls opening.case) _ opening.matches opening.types_are_in_scope opening.atoms_are_in_scope sealed
        (λ type value here has. typed_is_known setting.decls T choice value type key.hi guard (opened_fields_readable _ reads value here) has)

    pub popen_holds : (key : Id) → HasUse setting.decls T (bytes_at start key.word) own_usage
        → IsEncrypted setting.decls T (Pk (bytes_at start key.word)) message
        → Holds setting.decls T choice names_then
        (match_case setting k (opened_with (known_of k (Named key)) (guard_of_compared k pats)) (guard_of_compared k pats) usage tag.text pats)
    popen_holds key (inr shown) encrypted =
        let open_ = message_shown below setting.decls T (bytes_at start key.word) message encrypted shown in
        all_shown (known_of k (Named key)) (guard_of_compared k pats) open_ (compared_shown pats fields opening.fit (opened_fields_shown open_))
    popen_holds key (inl has) (inr open_) =
        all_shown (known_of k (Named key)) (guard_of_compared k pats) open_ (compared_shown pats fields opening.fit (opened_fields_shown open_))
    popen_holds key (inl has) (inl by_rules) =
        let same : by_rules.key ≡ bytes_at start key.word = let is = by_rules.to_is in cc in
        all_sealed (known_of k (Named key)) (guard_of_compared k pats)
        (through _ _ _ (known_of_name setting.decls T choice start k h (Named key)).is_open_by_hi
        (subst (λ (v : Term). Flows T (label_of T v) (label_of T message)) same by_rules.readers_may_know))
        (sealed_by (bytes_at start key.word) has (subst (λ (v : Term). CaseHolds setting.decls T v message) same by_rules.case_holds))

    pub open_holds : (key : Id) → HasUse setting.decls T (bytes_at start key.word) own_usage
        → Flows T (label_of T (bytes_at start key.word)) (label_of T message) → IsUnder setting.decls T (bytes_at start key.word) message
        → Holds setting.decls T choice names_then
        (match_case setting k (opened_with (known_of k (Named key)) (Meet (known_of k (Named key)).lo (guard_of_compared k pats)))
        (Meet (known_of k (Named key)).lo (guard_of_compared k pats)) usage tag.text pats)
    open_holds key has reads under =
        let known = known_of_name setting.decls T choice start k h (Named key) in
        let guard = Meet (known_of k (Named key)).lo (guard_of_compared k pats) in
        let forged : IsShown T (label_of T (bytes_at start key.word)) → Holds setting.decls T choice names_then
        (match_case setting k (opened_with (known_of k (Named key)) guard) guard usage tag.text pats) = λ shown.
        let open_ = shown_by_flow below setting.decls T reads shown in
        let lo = shown_by_flow below setting.decls T known.opens_lo shown in
        let rest = compared_shown pats fields opening.fit (opened_fields_shown open_) in
        all_shown (known_of k (Named key)) guard open_ (record { is_open_now = and_from _ _ lo.is_open_now rest.is_open_now }) in
        elim has [
          | inr shown ↦ forged shown
          | inl own ↦ elim under [
            | inr shown ↦ forged shown
            | inl holds ↦ all_sealed (known_of k (Named key)) guard (through _ _ _ known.is_open_by_hi reads) (sealed_by (bytes_at start key.word) own holds)
          ]
        ]
