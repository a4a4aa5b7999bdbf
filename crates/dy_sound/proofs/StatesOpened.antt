-- What is known after a state is opened holds: its fields have their types, and what it knows has happened.
use Rattle.std.proofs.Common.{◌≡◌, ℕ, true, List, [], ◌∷◌, map, length, Contains, Option, Some, inl, inr, refl, sym, ap, subst, arith}
use Rattle.std.specs.Option.{option_map}
use Rattle.std.proofs.lemmas.Bool.{and_parts}
use Rattle.std.proofs.lemmas.List.Elements.{Contains-append_cases}
use Rattle.dy_term.specs.Terms.{Term}
use Rattle.dy_label.specs.Labels.{Label, Nobody, Session, Version}
use Rattle.dy_label.specs.Words.{Atom, ThisSession, Choice, place_of}
use Rattle.dy_types.specs.FieldTypes.{Declared, narrow_by}
use Rattle.dy_syntax.specs.Names.{Id}
use Rattle.dy_syntax.specs.Declarations.{Field, Partner}
use Rattle.dy_syntax.specs.Statements as statements
use Rattle.dy_syntax.specs.Statements.{Pattern, Bind, Named, Equal}
use Rattle.dy_syntax.specs.Files.{State, File}
use Rattle.dy_syntax.specs.Scopes.{Scope, handler_scope, state_scope}
use Rattle.dy_syntax.specs.Rules.Lines.{lines_of_pairs}
use Rattle.dy_syntax.specs.Rules.Names.{lines_of_field_pattern}
use Rattle.dy_syntax.specs.Rules.Words.{has_session, has_here}
use Rattle.dy_typing.specs.Names.{Setting, Stands, setting_of, stands_number, state_stands, patterns_names, atom_names}
use Rattle.dy_typing.specs.Instances.{label_in, type_in}
use Rattle.dy_typing.specs.Knowledge.{Knowledge}
use Rattle.dy_typing.specs.Effects.{Guarded, state_events, types_in, match_fields, open_state}
use Rattle.dy_entry.specs.Entries.{Entry}
use Rattle.dy_entry.specs.LookUps.{newest}
use Rattle.dy_eval.specs.declared.written.Written.{Written}
use Rattle.dy_eval.specs.Names.{Names, write, bytes_for}
use Rattle.dy_eval.specs.Patterns.{fits_one, fits, written_by_one, written_by}
use Rattle.dy_sound.specs.Flows.{IsShown}
use Rattle.dy_sound.specs.Words.{Words, state_words}
use Rattle.dy_sound.specs.Events.{HasHappened}
use Rattle.dy_sound.specs.Fields.{AllMeet}
use Rattle.dy_sound.specs.Knowledge.{Holds}
use Rattle.dy_sound.specs.InScope.{TypeIsInScope}
use Rattle.dy_sound.specs.Matches.{Matches}
use Rattle.dy_sound.specs.Good.{IsGoodState}
use Rattle.dy_sound.specs.StatementsAreSound.{IsRunning, Knows, HoldsWritten}
use Rattle.dy_sound.proofs.Lists.{Contains-none, Contains-first, Contains-later, Contains-cases}
use Rattle.dy_sound.proofs.Elements.{map-from}
use Rattle.dy_sound.proofs.WordsMeant.{label_means, args_mean}
use Rattle.dy_sound.proofs.Tuples.{SameAreEqual}
use Rattle.dy_sound.proofs.DeclarationWords.{state_matches}
use Rattle.dy_sound.proofs.DeclaredScopes.{state_words_distinct, state_type_in_scope, state_partner_in_scope}
use Rattle.dy_sound.proofs.TypesHold.{has_type, typed_is_known}
use Rattle.dy_sound.proofs.PatternsHold.{AllKnownHold, match_fields_hold}
use Rattle.dy_sound.proofs.GuardedHolds.{GuardedHolds, added_hold}
use Rattle.dy_sound.proofs.GivenPatterns.{patterns_give}
use Rattle.dy_sound.proofs.PatternsAt.{AreMatchedIn, matches_then, are_written, are_placed}
use Rattle.dy_sound.proofs.SameStatement.{write_nothing}

written_is_field : (pat : Pattern) (field : Term) (w : Written) → Contains (written_by_one pat field) w → w.bytes ≡ field
written_is_field (Bind name) field w has = elim (Contains-cases _ [] w has) [
  | inl same ↦ sym (ap (λ (one : Written). one.bytes) same)
  | inr none ↦ absurd (Contains-none w none)
]
written_is_field (Named line name) field w has = elim (Contains-cases _ [] w has) [
  | inl same ↦ sym (ap (λ (one : Written). one.bytes) same)
  | inr none ↦ absurd (Contains-none w none)
]
written_is_field (Equal line to) field w has = absurd (Contains-none w has)

-- What patterns write are fields.
pub written_are_fields : (pats : List Pattern) (fields : List Term) (w : Written) → Contains (written_by pats fields) w → Contains fields w.bytes
written_are_fields [] fields w has = absurd (Contains-none w has)
written_are_fields (pat ∷ pats) [] w has = absurd (Contains-none w has)
written_are_fields (pat ∷ pats) (field ∷ fields) w has = elim (Contains-append_cases (written_by_one pat field) (written_by pats fields) w has) [
  | inl own ↦ subst (λ (t : Term). Contains (field ∷ fields) t) (sym (written_is_field pat field w own)) (Contains-first field fields)
  | inr later ↦ Contains-later field fields w.bytes (written_are_fields pats fields w later)
]

-- what patterns that fit are as many as
pub fit_counts : (names : Names) (pats : List Pattern) (fields : List Term) → fits names pats fields ≡ true → length pats ≡ length fields
fit_counts names [] [] fit = refl
fit_counts names [] (field ∷ fields) fit = absurd cc
fit_counts names (pat ∷ pats) [] fit = absurd cc
fit_counts names (pat ∷ pats) (field ∷ fields) fit =
    let rest = fit_counts names pats fields (and_parts (fits_one names pat field) (fits names pats fields) fit).1 in
    omega (arith, rest)

module _ (setting : Setting) (T : List Entry) (choice : Choice) (names : Names) (scope : Scope) (stands : Stands) (here : Option Atom) (words : Words)
    (matches : Matches setting choice names scope stands here words) where
  -- What is known of each field of a state by its type holds.
  fields_known : (fields : List Field) (values : List Term) → ((field : Field) → Contains fields field → TypeIsInScope scope field.kind)
      → AllMeet setting.decls T words fields values
      → AllKnownHold setting.decls T choice values (map (λ type. narrow_by type Nobody Nobody) (types_in setting stands here fields))
  fields_known [] [] read meet = tt
  fields_known [] (value ∷ values) read meet = absurd meet
  fields_known (field ∷ fields) [] read meet = absurd meet
  fields_known (field ∷ fields) (value ∷ values) read meet = (
    typed_is_known setting.decls T choice value (type_in (stands_number setting stands) here field.kind) Nobody Nobody
        (record { opens = λ C over opened. absurd cc })
        (has_type setting T choice names scope stands here words matches value field.kind (read field (Contains-first field fields)) meet.0),
    fields_known fields values (λ other has. read other (Contains-later field fields other has)) meet.1,
  )

module _ (equal : SameAreEqual) (file : File) (T X : List Entry) (handler : statements.Handler) (bound : List Id) (names : Names) (running : IsRunning file T X handler bound names)
    (pats : List Pattern) (values : List Term) (fit : fits names pats values ≡ true) (matched : AreMatchedIn handler bound pats)
    (session version : ℕ) (tag : List ℕ) (good : IsGoodState file.decls T names.principal session version tag values)
    (is_declared : Contains file.decls (State good.state)) (here : Option Atom) (choice : Choice) (k : Knowledge)
    (knows : Knows file.decls T X handler choice names (write names (written_by pats values)) k)
    (session_is : has_session (state_scope good.state).place ≡ true → Session names.principal session ≡ place_of choice ThisSession)
    (here_is : has_here (state_scope good.state).place ≡ true → Some (Version names.principal session version) ≡ option_map (place_of choice) here)
    (count : length pats ≡ length good.state.fields)
    (rule : lines_of_pairs (lines_of_field_pattern (handler_scope handler bound)) good.state.fields pats ≡ []) where
  abbrev setting : Setting
  setting = setting_of file.decls handler

  abbrev then : Names
  then = write names (written_by pats values)

  abbrev stands : Stands
  stands = state_stands good.state (patterns_names pats)

  abbrev words : Words
  words = state_words good.state names.principal session version values

  words_match : Matches setting choice then (state_scope good.state) stands here words
  words_match =
      let matches = matches_then file T X handler bound names running pats values fit matched choice knows.agrees in
      state_matches setting choice then good.state here names.principal session version (patterns_names pats) values
      (state_words_distinct file running.well_formed good.state is_declared)
      (patterns_give equal setting choice (newest X names.principal names.session) names then matches (handler_scope handler bound) good.state.fields pats values count
      (are_placed file T X handler bound names running pats values fit matched equal choice matches) rule fit)
      refl matches.agrees.self session_is here_is

  -- Each event that the state knows has happened with the values of its arguments, or its label is open.
  event_holds : (partner : Partner) → Contains good.state.knows partner
      → GuardedHolds T choice then (record { event = partner.atom.event.word; args = atom_names stands partner.atom; guard = label_in (stands_number setting stands) here partner.unless })
  event_holds partner has given is =
      let read = state_partner_in_scope file running.well_formed good.state is_declared partner has in
      elim (good.events_stand partner has) [
        | inl stood ↦
            let meant = args_mean setting choice then (state_scope good.state) stands here words words_match partner.atom given read.0 is in
            let same : stood.args ≡ map (bytes_for then) given = let own = stood.args_are in cc in
            inl (subst (λ (args : List Term). HasHappened T partner.atom.event.word args) same stood.has_happened)
        | inr shown ↦ inr (subst (λ (l : Label). IsShown T l) (sym (label_means setting choice then (state_scope good.state) stands here words words_match partner.unless read.1)) shown)
      ]

  -- After a state is opened what is known holds.
  pub open_state_holds : HoldsWritten file.decls T choice names (written_by pats values) (open_state setting k here pats good.state)
  open_state_holds =
      let known = fields_known setting T choice then (state_scope good.state) stands here words words_match good.state.fields values
      (state_type_in_scope file running.well_formed good.state is_declared) good.fields_meet in
      let knowns = map (λ (type : Declared). narrow_by type Nobody Nobody) (types_in setting stands here good.state.fields) in
      let first = match_fields_hold equal file.decls T choice names pats values knowns [] k (are_written file T X handler bound names running pats values fit matched) fit known
      (subst (λ (n : Names). Holds file.decls T choice n k) (sym (write_nothing names)) knows.holds) in
      record {
        values_are_valid = λ written has. good.are_valid written.bytes (written_are_fields pats values written has);
        holds = added_hold file.decls T choice then (match_fields k pats knowns) (state_events setting stands here good.state) first
            (λ event has.
            let made : Partner → Guarded = λ partner. record { event = partner.atom.event.word; args = atom_names stands partner.atom; guard = label_in (stands_number setting stands) here partner.unless } in
            let found = map-from made good.state.knows event has in
            subst (GuardedHolds T choice then) found.2 (event_holds found.0 found.1));
      }
