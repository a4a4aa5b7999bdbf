-- What a case or a state adds of its events holds.
use Rattle.std.proofs.Common.{◌≡◌, ℕ, suc, ◌<◌, List, [], ◌∷◌, map, length, Contains, Option, Some, None, ◌⊎◌, inl, inr, refl, sym, ap, subst, ◌∙◌, arith}
use Rattle.std.specs.Prelude.{fold}
use Rattle.std.specs.Option.{option_map_or}
use Rattle.dy_term.specs.Terms.{Term}
use Rattle.dy_label.specs.Words.{StaticLabel, Choice, meaning_of}
use Rattle.dy_syntax.specs.Names.{Nm, AtomText}
use Rattle.dy_syntax.specs.Declarations.{CaseDecl}
use Rattle.dy_syntax.specs.Files.{Decl}
use Rattle.dy_typing.specs.Names.{Stands, number_in, each_or_none, atom_names}
use Rattle.dy_typing.specs.Knowledge.{Knowledge, add_fact, add_event}
use Rattle.dy_typing.specs.Effects.{Guarded, add_guarded, case_events}
use Rattle.dy_entry.specs.Entries.{Entry}
use Rattle.dy_eval.specs.Names.{Names, bytes_for}
use Rattle.dy_sound.specs.Flows.{IsShown}
use Rattle.dy_sound.specs.Events.{HasHappened}
use Rattle.dy_sound.specs.Names.{value_numbered}
use Rattle.dy_sound.specs.Knowledge.{Holds}
use Rattle.dy_sound.specs.Matches.{words_written}
use Rattle.dy_sound.proofs.Lists.{Contains-none, Contains-first, Contains-later, Contains-cases}
use Rattle.dy_sound.proofs.Elements.{map-from}
use Rattle.dy_sound.proofs.WordsMeant.{each_parts}
use Rattle.dy_sound.proofs.WrittenWords.{name_numbered}
use Rattle.dy_sound.proofs.OneValue.{add_fact_holds}
use Rattle.dy_sound.proofs.SameStatement.{number_within}

-- The event has happened with the values of its arguments, where they are names or variables, or its guard is open.
abbrev pub GuardedHolds : List Entry → Choice → Names → Guarded → Type 0
GuardedHolds T choice names event =
    (given : List Nm) → event.args ≡ Some given
    → HasHappened T event.event (map (bytes_for names) given) ⊎ IsShown T (meaning_of choice event.guard)

module _ (names : Names) where
  -- Numbers of names have the values of the names.
  values_of_names : (given : List Nm) (numbers : List ℕ) → each_or_none (number_in (words_written names)) given ≡ Some numbers
      → map (bytes_for names) given ≡ map (value_numbered names) numbers
  values_of_names [] [] is = refl
  values_of_names [] (number ∷ numbers) is = absurd cc
  values_of_names (name ∷ given) numbers is =
      let parts = each_parts (number_in (words_written names) name) (each_or_none (number_in (words_written names)) given) numbers is in
      ap (λ (v : Term). v ∷ map (bytes_for names) given) (sym (name_numbered names name parts.0 parts.2))
      ∙ ap (λ (vs : List Term). value_numbered names parts.0 ∷ vs) (values_of_names given parts.1 parts.3)
      ∙ ap (map (value_numbered names)) parts.4

  numbers_are_bound : (given : List Nm) (numbers : List ℕ) → each_or_none (number_in (words_written names)) given ≡ Some numbers
      → (number : ℕ) → Contains numbers number → number < suc (length (words_written names))
  numbers_are_bound [] [] is number stands = absurd (Contains-none number stands)
  numbers_are_bound [] (one ∷ numbers) is number stands = absurd cc
  numbers_are_bound (name ∷ given) numbers is number stands =
      let parts = each_parts (number_in (words_written names) name) (each_or_none (number_in (words_written names)) given) numbers is in
      elim (Contains-cases parts.0 parts.1 number (subst (λ (ns : List ℕ). Contains ns number) (sym parts.4) stands)) [
        | inl first ↦ subst (λ (n : ℕ). n < suc (length (words_written names))) first (number_within (words_written names) name parts.0 parts.2)
        | inr later ↦ numbers_are_bound given parts.1 parts.3 number later
      ]

module _ (decls : List Decl) (T : List Entry) (choice : Choice) (names : Names) where
  -- One more event that is guarded.
  one_added : (k : Knowledge) (event : Guarded) → Holds decls T choice names k → GuardedHolds T choice names event → Holds decls T choice names (add_guarded k event)
  one_added k event h holds = with_args event.args refl where
    with_args : (args : Option (List Nm)) → event.args ≡ args → Holds decls T choice names (add_event k event.event args event.guard)
    with_args None is = h
    with_args (Some given) is = with_numbers (each_or_none (number_in k.words) given) refl where
      with_numbers : (numbers : Option (List ℕ)) → each_or_none (number_in k.words) given ≡ numbers
          → Holds decls T choice names (option_map_or (λ args. add_fact k (record { event = event.event; args = args; guard = event.guard })) numbers k)
      with_numbers None found = h
      with_numbers (Some numbers) found =
          let written : each_or_none (number_in (words_written names)) given ≡ Some numbers =
          ap (λ (words : List (List ℕ)). each_or_none (number_in words) given) h.variables ∙ found in
          add_fact_holds decls T choice names k h (record { event = event.event; args = numbers; guard = event.guard })
          (λ arg stands.
          let count = h.is_numbered.firsts_count in
          let same = ap length h.variables in
          let bound = numbers_are_bound names given numbers written arg stands in
          omega (arith, count, same, bound))
          (elim (holds given is) [
            | inl happened ↦ inl (subst (λ (args : List Term). HasHappened T event.event args) (values_of_names names given numbers written) happened)
            | inr shown ↦ inr shown
          ])

  -- All that are added hold.
  pub added_hold : (k : Knowledge) (events : List Guarded) → Holds decls T choice names k
      → ((event : Guarded) → Contains events event → GuardedHolds T choice names event) → Holds decls T choice names (fold add_guarded k events)
  added_hold k [] h each = h
  added_hold k (event ∷ events) h each =
      added_hold (add_guarded k event) events (one_added k event h (each event (Contains-first event events)))
      (λ other stands. each other (Contains-later event events other stands))

  -- the events of a case, with one guard
  pub case_events_hold : (k : Knowledge) (stands : Stands) (guard : StaticLabel) (case : CaseDecl) → Holds decls T choice names k
      → ((atom : AtomText) → Contains case.requires_ atom → (given : List Nm) → atom_names stands atom ≡ Some given
      → HasHappened T atom.event.word (map (bytes_for names) given) ⊎ IsShown T (meaning_of choice guard))
      → Holds decls T choice names (fold add_guarded k (case_events stands guard case))
  case_events_hold k stands guard case h each =
      added_hold k (case_events stands guard case) h (λ event within.
      let found = map-from (λ (atom : AtomText). let one : Guarded = record { event = atom.event.word; args = atom_names stands atom; guard = guard } in one) case.requires_ event within in
      subst (GuardedHolds T choice names) found.2 (each found.0 found.1))
