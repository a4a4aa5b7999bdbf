-- The words of a case, a state or an event's declaration stand for the same in a trace as in a handler.
use Rattle.std.proofs.Common.{◌≡◌, ℕ, true, List, ◌++◌, map, zip, length, Option, Some, None, refl, sym, ap, subst, ◌∙◌}
use Rattle.std.specs.Prelude.{find, filter}
use Rattle.std.specs.Option.{option_map, option_and_then}
use Rattle.std.specs.Str.{bytes_eq}
use Rattle.std.proofs.lemmas.List.{length-map}
use Rattle.dy_term.specs.Terms.{Term, Name}
use Rattle.dy_label.specs.Labels.{Session, Version}
use Rattle.dy_label.specs.Words.{Atom, ThisSession, Choice, place_of}
use Rattle.dy_syntax.specs.Names.{Id, Nm, Named, Me}
use Rattle.dy_syntax.specs.Declarations.{CaseDecl, EventDecl, StateDecl}
use Rattle.dy_syntax.specs.Scopes.{is_among, is_bound, params_named, case_scope, state_scope, event_scope}
use Rattle.dy_syntax.specs.Rules.Words.{has_session, has_here}
use Rattle.dy_typing.specs.Names.{Setting, Stands, case_stands, state_stands, event_stands, stands_for, stands_number, name_number}
use Rattle.dy_eval.specs.Names.{Names, bytes_for, principal_in}
use Rattle.dy_sound.specs.Words.{case_words, state_words, event_words, value_meant, principal_meant}
use Rattle.dy_sound.specs.InScope.{IsNamed}
use Rattle.dy_sound.specs.Matches.{IsPrincipalOf, Matches}
use Rattle.dy_sound.specs.Givens.{Slot, usage_slots, field_slots, event_slots, case_slots, words_in, AreDistinct, AreGiven}
use Rattle.dy_sound.proofs.GivenSlots.{value_found, name_found, first_is_name, field_name_words, param_name_words, case_name_words, field_words, param_words, zipped_on, given_on, given_counts}

-- What is found under a word in the handler and in the trace is one principal.
abbrev FoundAlike : Setting → Choice → List ℕ → Stands → List (List ℕ × Term) → Type 0
FoundAlike setting choice word stands values =
    IsPrincipalOf choice (option_and_then (name_number setting) (option_and_then (λ pair. pair.1) (find (λ pair. bytes_eq word pair.0) stands)))
    (option_and_then principal_in (option_map (λ pair. pair.1) (find (λ pair. bytes_eq word pair.0) values)))

-- What is found under a word in the handler has the value that is found in the trace.
abbrev ValueAlike : Names → List ℕ → Stands → List (List ℕ × Term) → Type 0
ValueAlike names word stands values =
    (given : Nm) → option_and_then (λ pair. pair.1) (find (λ pair. bytes_eq word pair.0) stands) ≡ Some given
    → option_map (λ pair. pair.1) (find (λ pair. bytes_eq word pair.0) values) ≡ Some (bytes_for names given)

module _ (setting : Setting) (choice : Choice) (names : Names) (slots : List Slot) (stands : List (Option Nm)) (values : List Term)
    (given : AreGiven setting choice names slots stands values) (all_stands : Stands) (all_values : List (List ℕ × Term))
    (stands_are : all_stands ≡ zip (words_in slots) stands) (values_are : all_values ≡ zip (words_in slots) values) where
  principal_alike : AreDistinct (words_in slots) → (word : List ℕ) (named : List (List ℕ))
      → named ≡ words_in (filter (λ slot. slot.is_name) slots) → is_among word named ≡ true → FoundAlike setting choice word all_stands all_values
  principal_alike distinct word named is among =
      let first = first_is_name word slots distinct (subst (λ (words : List (List ℕ)). is_among word words ≡ true) is among) in
      let found : FoundAlike setting choice word (zip (words_in slots) stands) (zip (words_in slots) values) =
      name_found setting choice names word slots stands values given first.0 first.1 first.2 in
      subst (λ (pairs : Stands). FoundAlike setting choice word pairs all_values) (sym stands_are)
      (subst (λ (pairs : List (List ℕ × Term)). FoundAlike setting choice word (zip (words_in slots) stands) pairs) (sym values_are) found)

  value_alike : (word : List ℕ) → ValueAlike names word all_stands all_values
  value_alike word =
      let found : ValueAlike names word (zip (words_in slots) stands) (zip (words_in slots) values) =
      value_found setting choice names word slots stands values given in
      subst (λ (pairs : Stands). ValueAlike names word pairs all_values) (sym stands_are)
      (subst (λ (pairs : List (List ℕ × Term)). ValueAlike names word (zip (words_in slots) stands) pairs) (sym values_are) found)

module _ (setting : Setting) (choice : Choice) (names : Names) (case : CaseDecl) (args : List Nm) (owners : List (List ℕ)) (stands : List (Option Nm)) (fields : List Term)
    (distinct : AreDistinct (words_in (case_slots setting.decls case)))
    (owners_given : AreGiven setting choice names (usage_slots (params_named setting.decls case.usage.word)) (map Some args) (map Name owners))
    (fields_given : AreGiven setting choice names (field_slots case.fields) stands fields) where
  abbrev params_here : List Id
  params_here = params_named setting.decls case.usage.word

  all_given : AreGiven setting choice names (case_slots setting.decls case) (map Some args ++ stands) (map Name owners ++ fields)
  all_given = given_on setting choice names _ _ _ _ _ _ owners_given fields_given

  counts : (length (map Some args) ≡ length params_here) × (length (map Name owners) ≡ length params_here)
  counts =
      let slots = given_counts setting choice names _ _ _ owners_given in
      let same = length-map params_here (λ (param : Id). record { word = param.word; is_name = true }) in
      (slots.0 ∙ same, slots.1 ∙ same)

  stands_are : case_stands setting.decls args case stands ≡ zip (words_in (case_slots setting.decls case)) (map Some args ++ stands)
  stands_are = zipped_on params_here case.fields (map Some args) stands counts.0

  values_are : (case_words setting.decls owners case fields).values ≡ zip (words_in (case_slots setting.decls case)) (map Name owners ++ fields)
  values_are = zipped_on params_here case.fields (map Name owners) fields counts.1

  case_principal : (name : Nm) → IsNamed (case_scope setting.decls case) name
      → IsPrincipalOf choice (stands_number setting (case_stands setting.decls args case stands) name) (principal_meant (case_words setting.decls owners case fields) name)
  case_principal (Me line) named = let none = named.stands in absurd cc
  case_principal (Named id) named =
      principal_alike setting choice names (case_slots setting.decls case) (map Some args ++ stands) (map Name owners ++ fields) all_given _ _ stands_are values_are
      distinct id.word _ (case_name_words params_here case.fields) named.stands

  case_value : (name given : Nm) → is_bound (case_scope setting.decls case) name ≡ true → stands_for (case_stands setting.decls args case stands) name ≡ Some given
      → value_meant (case_words setting.decls owners case fields) name ≡ Some (bytes_for names given)
  case_value (Me line) given binds stand = absurd cc
  case_value (Named id) given binds stand =
      value_alike setting choice names (case_slots setting.decls case) (map Some args ++ stands) (map Name owners ++ fields) all_given _ _ stands_are values_are id.word given stand

  -- So it is in a case.
  pub case_matches : Matches setting choice names (case_scope setting.decls case) (case_stands setting.decls args case stands) None (case_words setting.decls owners case fields)
  case_matches = record {
    principals_match = case_principal;
    session_matches = λ has. absurd cc;
    here_matches = λ has. absurd cc;
    has_no_versions = refl;
    values_match = case_value;
  }

module _ (setting : Setting) (choice : Choice) (names : Names) (state : StateDecl) (here : Option Atom) (principal : List ℕ) (session version : ℕ) (stands : List (Option Nm))
    (fields : List Term) (distinct : AreDistinct (words_in (field_slots state.fields))) (fields_given : AreGiven setting choice names (field_slots state.fields) stands fields)
    (is_own : names.principal ≡ principal) (self : choice.principals 0 ≡ names.principal)
    (session_is : has_session (state_scope state).place ≡ true → Session principal session ≡ place_of choice ThisSession)
    (here_is : has_here (state_scope state).place ≡ true → Some (Version principal session version) ≡ option_map (place_of choice) here) where
  state_stands_are : state_stands state stands ≡ zip (words_in (field_slots state.fields)) stands
  state_stands_are = ap (λ (words : List (List ℕ)). zip words stands) (field_words state.fields)

  state_values_are : (state_words state principal session version fields).values ≡ zip (words_in (field_slots state.fields)) fields
  state_values_are = ap (λ (words : List (List ℕ)). zip words fields) (field_words state.fields)

  state_principal : (name : Nm) → IsNamed (state_scope state) name
      → IsPrincipalOf choice (stands_number setting (state_stands state stands) name) (principal_meant (state_words state principal session version fields) name)
  state_principal (Me line) named = record { of_name = 0; number_is = refl; principal_is = ap Some (sym (self ∙ is_own)) }
  state_principal (Named id) named =
      principal_alike setting choice names (field_slots state.fields) stands fields fields_given _ _ state_stands_are state_values_are
      distinct id.word _ (field_name_words state.fields) named.stands

  state_value : (name given : Nm) → is_bound (state_scope state) name ≡ true → stands_for (state_stands state stands) name ≡ Some given
      → value_meant (state_words state principal session version fields) name ≡ Some (bytes_for names given)
  state_value (Me line) given binds stand =
      let same : Me line ≡ given = cc in
      ap (λ (p : List ℕ). Some (Name p)) (sym is_own) ∙ ap (λ (one : Nm). Some (bytes_for names one)) same
  state_value (Named id) given binds stand =
      value_alike setting choice names (field_slots state.fields) stands fields fields_given _ _ state_stands_are state_values_are id.word given stand

  -- So it is in a state that is this version of this session.
  pub state_matches : Matches setting choice names (state_scope state) (state_stands state stands) here (state_words state principal session version fields)
  state_matches = record {
    principals_match = state_principal;
    session_matches = λ has. ap Some (session_is has);
    here_matches = here_is;
    has_no_versions = refl;
    values_match = state_value;
  }

module _ (setting : Setting) (choice : Choice) (names : Names) (event : EventDecl) (args : List Nm) (values : List Term) (distinct : AreDistinct (words_in (event_slots event.params)))
    (given : AreGiven setting choice names (event_slots event.params) (map Some args) values) where
  event_stands_are : event_stands event args ≡ zip (words_in (event_slots event.params)) (map Some args)
  event_stands_are = ap (λ (words : List (List ℕ)). zip words (map Some args)) (param_words event.params)

  event_values_are : (event_words event values).values ≡ zip (words_in (event_slots event.params)) values
  event_values_are = ap (λ (words : List (List ℕ)). zip words values) (param_words event.params)

  event_principal : (name : Nm) → IsNamed (event_scope event) name
      → IsPrincipalOf choice (stands_number setting (event_stands event args) name) (principal_meant (event_words event values) name)
  event_principal (Me line) named = let none = named.stands in absurd cc
  event_principal (Named id) named =
      principal_alike setting choice names (event_slots event.params) (map Some args) values given _ _ event_stands_are event_values_are
      distinct id.word _ (param_name_words event.params) named.stands

  event_value : (name one : Nm) → is_bound (event_scope event) name ≡ true → stands_for (event_stands event args) name ≡ Some one
      → value_meant (event_words event values) name ≡ Some (bytes_for names one)
  event_value (Me line) one binds stand = absurd cc
  event_value (Named id) one binds stand =
      value_alike setting choice names (event_slots event.params) (map Some args) values given _ _ event_stands_are event_values_are id.word one stand

  -- So it is in an event's declaration.
  pub event_matches : Matches setting choice names (event_scope event) (event_stands event args) None (event_words event values)
  event_matches = record {
    principals_match = event_principal;
    session_matches = λ has. absurd cc;
    here_matches = λ has. absurd cc;
    has_no_versions = refl;
    values_match = event_value;
  }
