-- What a handler knows of the values of names and variables, and of events with their values.
use Rattle.std.proofs.Common.{◌≡◌, ℕ, List, [], ◌∷◌, map, Contains, Option, Some, None, unwrap_or, ◌⊎◌, inl, inr, refl, sym, ap, subst, ◌∙◌}
use Rattle.std.specs.Prelude.{find}
use Rattle.std.specs.Option.{option_map, option_map_or}
use Rattle.std.specs.Str.{bytes_eq}
use Rattle.dy_term.specs.Terms as trees
use Rattle.dy_term.specs.Terms.{Term}
use Rattle.dy_label.specs.Words.{StaticLabel, Choice, meaning_of}
use Rattle.dy_types.specs.Claims.{unknown}
use Rattle.dy_types.specs.Facts.{first_of, guard_of, guards_of}
use Rattle.dy_syntax.specs.Names.{Nm, Named, Me}
use Rattle.dy_syntax.specs.Files.{Decl}
use Rattle.dy_typing.specs.Names.{number_in}
use Rattle.dy_typing.specs.Knowledge.{Knowledge, known_at, known_of, value_of, values_of, HappenedWith, Happened}
use Rattle.dy_entry.specs.Entries.{Entry}
use Rattle.dy_eval.specs.declared.written.Written.{Written}
use Rattle.dy_eval.specs.Names.{Names, bytes_for}
use Rattle.dy_sound.specs.Flows.{IsShown}
use Rattle.dy_sound.specs.Events.{HasHappened}
use Rattle.dy_sound.specs.Valid.{IsValid}
use Rattle.dy_sound.specs.Names.{value_numbered}
use Rattle.dy_sound.specs.Knowledge.{KnownHolds, Holds}
use Rattle.dy_sound.specs.Matches.{words_written}
use Rattle.dy_sound.specs.LawsBelow.{LawsBelow}
use Rattle.dy_sound.proofs.Elements.{Contains-at, filter_map-from}
use Rattle.dy_sound.proofs.Meets.{one_or_all_shown, shown_by_meet}
use Rattle.dy_sound.proofs.Weaker.{fact_with, first_values}
use Rattle.dy_sound.proofs.Bound.{unknown_holds}
use Rattle.dy_sound.proofs.WordsMeant.{each_parts}
use Rattle.dy_sound.proofs.WrittenWords.{place_in, found_at, name_numbered}

-- The bytes in the place of each name are valid, where all that is written is.
pub name_is_valid : (decls : List Decl) (T : List Entry) (names : Names) → ((written : Written) → Contains names.written written → IsValid decls T written.bytes)
    → (name : Nm) → IsValid decls T (bytes_for names name)
name_is_valid decls T names valid (Me line) = tt
name_is_valid decls T names valid (Named id) = by_found (find (λ w. bytes_eq w.word id.word) names.written) refl where
  by_found : (found : Option Written) → find (λ w. bytes_eq w.word id.word) names.written ≡ found
      → IsValid decls T (unwrap_or (option_map (λ w. w.bytes) found) (trees.Name names.principal))
  by_found None is = tt
  by_found (Some w) is = valid w (Contains-at names.written (place_in (words_written names) id.word) w (sym (found_at names id.word) ∙ is))

module _ (decls : List Decl) (T : List Entry) (choice : Choice) (names : Names) (k : Knowledge) (h : Holds decls T choice names k) where
  -- A name that has a number has the value of this number.
  bound_value : (name : Nm) (number : ℕ) → number_in k.words name ≡ Some number → value_numbered names number ≡ bytes_for names name
  bound_value name number is = name_numbered names name number (ap (λ (words : List (List ℕ)). number_in words name) h.variables ∙ is)

  -- What is known of a name or a variable holds of the bytes in its place.
  pub known_of_name : (name : Nm) → KnownHolds decls T choice (bytes_for names name) (known_of k name)
  known_of_name name = by_number (number_in k.words name) refl where
    by_number : (number : Option ℕ) → number_in k.words name ≡ number
        → KnownHolds decls T choice (bytes_for names name) (option_map_or (known_at k) (option_map (first_of k.first) number) unknown)
    by_number None is = unknown_holds decls T choice (bytes_for names name)
    by_number (Some number) is =
        subst (λ (value : Term). KnownHolds decls T choice value (known_at k (first_of k.first number)))
        (h.same number ∙ bound_value name number is) (h.values_hold (first_of k.first number))

  -- A first variable that is one with a name has the name's value.
  pub first_value : (name : Nm) (first : ℕ) → value_of k name ≡ Some first → value_numbered names first ≡ bytes_for names name
  first_value name first = by_number (number_in k.words name) refl where
    by_number : (number : Option ℕ) → number_in k.words name ≡ number → option_map (first_of k.first) number ≡ Some first
        → value_numbered names first ≡ bytes_for names name
    by_number None is of = absurd cc
    by_number (Some number) is of =
        let same : first_of k.first number ≡ first = cc in
        ap (value_numbered names) (sym same) ∙ h.same number ∙ bound_value name number is

  first_values_of : (given : List Nm) (values : List ℕ) → values_of k given ≡ Some values → map (value_numbered names) values ≡ map (bytes_for names) given
  first_values_of [] values is = let none : [] ≡ values = cc in ap (map (value_numbered names)) (sym none)
  first_values_of (name ∷ given) values is =
      let parts = each_parts (value_of k name) (values_of k given) values is in
      ap (map (value_numbered names)) (sym parts.4)
      ∙ ap (λ (value : Term). value ∷ map (value_numbered names) parts.1) (first_value name parts.0 parts.2)
      ∙ ap (λ (rest : List Term). bytes_for names name ∷ rest) (first_values_of given parts.1 parts.3)

  module _ (below : LawsBelow) (event : List ℕ) (label : StaticLabel) where
    fact_stands : (values : List ℕ) (guard : StaticLabel) → Contains (guards_of k.first k.facts event values) guard
        → HasHappened T event (map (value_numbered names) values) ⊎ IsShown T (meaning_of choice guard)
    fact_stands values guard has =
        let found = filter_map-from (guard_of k.first event values) k.facts guard has in
        let fact = fact_with k.first event values guard found.0 found.2 in
        let same : map (value_numbered names) found.0.args ≡ map (value_numbered names) values =
        first_values names k.first h.same found.0.args ∙ ap (map (value_numbered names)) fact.are_values in
        elim (h.facts_hold found.0 found.1) [
          | inl happened ↦
              inl (subst (λ (args : List Term). HasHappened T event args) same
              (subst (λ (name : List ℕ). HasHappened T name (map (value_numbered names) found.0.args)) fact.is_event happened))
          | inr shown ↦ inr (subst (λ (l : StaticLabel). IsShown T (meaning_of choice l)) fact.is_guard shown)
        ]

    happened_with : (given : List Nm) (values : Option (List ℕ)) → values_of k given ≡ values → HappenedWith k event values label
        → HasHappened T event (map (bytes_for names) given) ⊎ IsShown T (meaning_of choice label)
    happened_with given None is known = absurd known
    happened_with given (Some values) is known =
        elim (one_or_all_shown below decls T choice (λ guard. HasHappened T event (map (value_numbered names) values)) (guards_of k.first k.facts event values) (fact_stands values)) [
          | inl found ↦ inl (subst (λ (args : List Term). HasHappened T event args) (first_values_of given values is) found.1)
          | inr all ↦ inr (shown_by_meet below decls T choice (guards_of k.first k.facts event values) label known all)
        ]

    -- An event that is known to have happened has happened with the bytes in the places of its arguments, or the label
    -- is open.
    pub happened_or_shown : (given : Option (List Nm)) → Happened k event given label
        → ((args : List Nm) × (given ≡ Some args) × HasHappened T event (map (bytes_for names) args)) ⊎ IsShown T (meaning_of choice label)
    happened_or_shown None known = absurd known
    happened_or_shown (Some args) known = elim (happened_with args (values_of k args) refl known) [
      | inl happened ↦ inl (args, refl, happened)
      | inr shown ↦ inr shown
    ]
