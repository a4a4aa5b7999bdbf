-- What is known after a case is opened holds: its content is shown, or it was sealed by the rules.
use Rattle.std.proofs.Common.{◌≡◌, ℕ, suc, true, List, [], ◌∷◌, map, length, Contains, Option, Some, None, ◌⊎◌, inl, inr, refl, sym, ap, subst, ◌∙◌, arith}
use Rattle.std.specs.Option.{option_map_or}
use Rattle.dy_term.specs.Terms.{Term}
use Rattle.dy_term.specs.Tuples.{tagged_tuple}
use Rattle.dy_label.specs.Words.{StaticLabel, Choice, meaning_of}
use Rattle.dy_label.specs.declared.usages.Usage.{Usage}
use Rattle.dy_types.specs.Claims.{Known}
use Rattle.dy_types.specs.FieldTypes.{Declared}
use Rattle.dy_syntax.specs.Names.{Nm, UseText, AtomText}
use Rattle.dy_syntax.specs.Declarations.{Field, CaseDecl}
use Rattle.dy_syntax.specs.Statements.{Pattern}
use Rattle.dy_syntax.specs.Files.{Decl}
use Rattle.dy_syntax.specs.LookUps.{case_named}
use Rattle.dy_syntax.specs.Scopes.{Scope}
use Rattle.dy_typing.specs.Names.{Setting, Stands, stands_number, case_stands, patterns_names, atom_names}
use Rattle.dy_typing.specs.Knowledge.{Knowledge}
use Rattle.dy_typing.specs.Instances.{type_in}
use Rattle.dy_typing.specs.Effects.{match_fields, types_in, open_case, match_case}
use Rattle.dy_entry.specs.Entries.{Entry}
use Rattle.dy_eval.specs.Names.{Names, write, bytes_for}
use Rattle.dy_eval.specs.Patterns.{fits, written_by}
use Rattle.dy_sound.specs.Usages.{usage_of}
use Rattle.dy_sound.specs.Flows.{IsShown}
use Rattle.dy_sound.specs.Words.{Words, case_words}
use Rattle.dy_sound.specs.Events.{HasHappened, HasHappenedFor}
use Rattle.dy_sound.specs.Fields.{Meets, AllMeet}
use Rattle.dy_sound.specs.Cases.{CaseHolds}
use Rattle.dy_sound.specs.Knowledge.{KnownHolds, Holds}
use Rattle.dy_sound.specs.InScope.{TypeIsInScope, AtomIsInScope}
use Rattle.dy_sound.specs.Matches.{Matches}
use Rattle.dy_sound.proofs.Lists.{Contains-first, Contains-later}
use Rattle.dy_sound.proofs.Tuples.{SameAreEqual, same_tag, same_fields}
use Rattle.dy_sound.proofs.TypesHold.{HasType, has_type}
use Rattle.dy_sound.proofs.PatternsHold.{AllKnownHold, AreWritten, match_fields_hold}
use Rattle.dy_sound.proofs.GuardedHolds.{case_events_hold}
use Rattle.dy_sound.proofs.WordsMeant.{args_mean}
use Rattle.dy_sound.proofs.SameStatement.{write_nothing}

-- The fields were sealed by the rules of the case, where its words stand for these.
pub record IsSealed (decls : List Decl) (T : List Entry) (words : Words) (case : CaseDecl) (fields : List Term) : Type 0 where
  pub fields_meet : AllMeet decls T words case.fields fields
  pub events_stand : (atom : AtomText) → Contains case.requires_ atom → HasHappenedFor T words atom

-- So they were where the key has this usage and the case holds of a tuple of them.
module _ (decls : List Decl) (T : List Entry) (key : Term) (usage : Usage) (tag : List ℕ) (case : CaseDecl) (fields : List Term) where
  met_as_many : (words : Words) (declared : List Field) (values : List Term) → AllMeet decls T words declared values → length values ≡ length declared
  met_as_many words [] [] h = refl
  met_as_many words [] (value ∷ values) h = absurd h
  met_as_many words (field ∷ declared) [] h = absurd h
  met_as_many words (field ∷ declared) (value ∷ values) h = ap suc (met_as_many words declared values h.1)

  abbrev SealedAs : Usage → CaseDecl → List Term → Type 0
  SealedAs owner sealed values = IsSealed decls T (case_words decls owner.owners sealed values) sealed values

  pub sealed_here : usage_of decls T key ≡ Some usage → case_named decls usage.name tag ≡ Some case → length fields ≡ length case.fields
      → CaseHolds decls T key (tagged_tuple tag fields) → IsSealed decls T (case_words decls usage.owners case fields) case fields
  sealed_here has declared count holds =
      let usage_is : holds.usage ≡ usage = let other = holds.has_usage in cc in
      let tag_is : holds.tag ≡ tag = same_tag holds.tag tag holds.fields fields (sym holds.message_is) in
      let case_is : holds.case ≡ case =
      let found : case_named decls usage.name tag ≡ Some holds.case =
      ap (λ (u : Usage). case_named decls u.name tag) (sym usage_is) ∙ ap (case_named decls holds.usage.name) (sym tag_is) ∙ holds.is_declared in
      cc in
      let many : length holds.fields ≡ length fields =
      met_as_many (case_words decls holds.usage.owners holds.case holds.fields) holds.case.fields holds.fields holds.fields_meet
      ∙ ap (λ (c : CaseDecl). length c.fields) case_is ∙ sym count in
      let fields_are : holds.fields ≡ fields = same_fields holds.tag tag holds.fields fields many (sym holds.message_is) in
      let sealed : SealedAs holds.usage holds.case holds.fields = record { fields_meet = holds.fields_meet; events_stand = holds.events_stand } in
      subst (λ (values : List Term). SealedAs usage case values) fields_are
      (subst (λ (c : CaseDecl). SealedAs usage c holds.fields) case_is
      (subst (λ (u : Usage). SealedAs u holds.case holds.fields) usage_is sealed))

module _ (equal : SameAreEqual) (setting : Setting) (T : List Entry) (choice : Choice) (knowing : Declared → Known) where
  -- what is known of each field, where of every value it may be known
  all_forged : (stands : Stands) (fields : List Field) (values : List Term) → length values ≡ length fields
      → ((field : Field) (value : Term) → Contains fields field → Contains values value
      → KnownHolds setting.decls T choice value (knowing (type_in (stands_number setting stands) None field.kind)))
      → AllKnownHold setting.decls T choice values (map knowing (types_in setting stands None fields))
  all_forged stands [] [] count each = tt
  all_forged stands [] (value ∷ values) count each = absurd (omega (arith, count))
  all_forged stands (field ∷ fields) [] count each = absurd (omega (arith, count))
  all_forged stands (field ∷ fields) (value ∷ values) count each = (
    each field value (Contains-first field fields) (Contains-first value values),
    all_forged stands fields values (omega (arith, count))
        (λ other one within here. each other one (Contains-later field fields other within) (Contains-later value values one here)),
  )

  -- where each has its type
  all_typed : (stands : Stands) (words : Words) (fields : List Field) (values : List Term) → AllMeet setting.decls T words fields values
      → ((field : Field) (value : Term) → Contains fields field → Contains values value → Meets setting.decls T words value field.kind
      → KnownHolds setting.decls T choice value (knowing (type_in (stands_number setting stands) None field.kind)))
      → AllKnownHold setting.decls T choice values (map knowing (types_in setting stands None fields))
  all_typed stands words [] [] meet each = tt
  all_typed stands words [] (value ∷ values) meet each = absurd meet
  all_typed stands words (field ∷ fields) [] meet each = absurd meet
  all_typed stands words (field ∷ fields) (value ∷ values) meet each = (
    each field value (Contains-first field fields) (Contains-first value values) meet.0,
    all_typed stands words fields values meet.1
        (λ other one within here. each other one (Contains-later field fields other within) (Contains-later value values one here)),
  )

  module _ (start : Names) (k : Knowledge) (h : Holds setting.decls T choice start k) (guard : StaticLabel) (usage : UseText) (tag : List ℕ)
      (pats : List Pattern) (case : CaseDecl) (declared : case_named setting.decls usage.usage.word tag ≡ Some case) (fields : List Term)
      (written : AreWritten start pats) (fit : fits start pats fields ≡ true) where
    abbrev stands_here : Stands
    stands_here = case_stands setting.decls usage.args case (patterns_names pats)

    abbrev names_then : Names
    names_then = write start (written_by pats fields)

    case_opened : AllKnownHold setting.decls T choice fields (map knowing (types_in setting stands_here None case.fields))
        → ((atom : AtomText) → Contains case.requires_ atom → (given : List Nm) → atom_names stands_here atom ≡ Some given
        → HasHappened T atom.event.word (map (bytes_for names_then) given) ⊎ IsShown T (meaning_of choice guard))
        → Holds setting.decls T choice names_then (match_case setting k knowing guard usage tag pats)
    case_opened known events =
        subst (λ (c : Option CaseDecl). Holds setting.decls T choice names_then (option_map_or (open_case setting k knowing guard usage.args pats) c k)) (sym declared)
        (case_events_hold setting.decls T choice names_then
        (match_fields k pats (map knowing (types_in setting stands_here None case.fields))) stands_here guard case
        (match_fields_hold equal setting.decls T choice start pats fields (map knowing (types_in setting stands_here None case.fields)) [] k written fit known
        (subst (λ (n : Names). Holds setting.decls T choice n k) (sym (write_nothing start)) h))
        events)

    -- The guard is open, and what is known of a field may be known of every value.
    pub forged_holds : IsShown T (meaning_of choice guard) → length fields ≡ length case.fields
        → ((field : Field) (value : Term) → Contains case.fields field → Contains fields value
        → KnownHolds setting.decls T choice value (knowing (type_in (stands_number setting stands_here) None field.kind)))
        → Holds setting.decls T choice names_then (match_case setting k knowing guard usage tag pats)
    forged_holds shown count each =
        case_opened (all_forged stands_here case.fields fields count each) (λ atom within given is. inr shown)

    -- It was sealed by the rules, and of a value of its type this is known.
    pub sealed_holds : (scope : Scope) (words : Words) → Matches setting choice names_then scope stands_here None words
        → ((field : Field) → Contains case.fields field → TypeIsInScope scope field.kind)
        → ((atom : AtomText) → Contains case.requires_ atom → AtomIsInScope scope atom)
        → IsSealed setting.decls T words case fields
        → ((type : Declared) (value : Term) → Contains fields value → HasType setting.decls T choice value type → KnownHolds setting.decls T choice value (knowing type))
        → Holds setting.decls T choice names_then (match_case setting k knowing guard usage tag pats)
    sealed_holds scope words matches in_scope atoms_in_scope sealed each =
        case_opened
        (all_typed stands_here words case.fields fields sealed.fields_meet
        (λ field value within here meets. each _ value here (has_type setting T choice names_then scope stands_here None words matches value field.kind (in_scope field within) meets)))
        (λ atom within given is.
        let event = sealed.events_stand atom within in
        let args_are : event.args ≡ map (bytes_for names_then) given =
        let meant = args_mean setting choice names_then scope stands_here None words matches atom given (atoms_in_scope atom within) is in
        let other = event.args_are in cc in
        inl (subst (λ (args : List Term). HasHappened T atom.event.word args) args_are event.has_happened))
