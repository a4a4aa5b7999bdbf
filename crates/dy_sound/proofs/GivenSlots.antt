-- What is given for the parameters and fields of a declaration is found by their words, in the handler and in the trace.
use Rattle.std.proofs.Common.{◌≡◌, ℕ, suc, Bool, true, false, cond, ◌||◌, List, [], ◌∷◌, ◌++◌, zip, filter, length, Option, Some, refl, ap, subst, ◌∙◌}
use Rattle.std.specs.Prelude.{find}
use Rattle.std.specs.Option.{option_map, option_and_then}
use Rattle.std.specs.Str.{bytes_eq}
use Rattle.std.proofs.lemmas.Slice.Eq.{bytes_eq-Decides}
use Rattle.dy_term.specs.Terms.{Term}
use Rattle.dy_label.specs.Words.{Choice}
use Rattle.dy_syntax.specs.Names.{Id, Nm}
use Rattle.dy_syntax.specs.Declarations.{Field, Param}
use Rattle.dy_syntax.specs.Scopes.{is_among, is_name_type, words_of, field_names, name_fields, param_names, name_params}
use Rattle.dy_typing.specs.Names.{Setting, name_number}
use Rattle.dy_eval.specs.Names.{Names, bytes_for, principal_in}
use Rattle.dy_sound.specs.Matches.{IsPrincipalOf}
use Rattle.dy_sound.specs.Givens.{Slot, usage_slots, field_slots, event_slots, words_in, AreDistinct, AreGiven}

-- what stands first under this word
abbrev pub first_with : {A : Type 0} → List ℕ → List (List ℕ × A) → Option (List ℕ × A)
first_with word pairs = find (λ pair. bytes_eq word pair.0) pairs

-- the first parameter or field of this word
abbrev pub slot_with : List ℕ → List Slot → Option Slot
slot_with word slots = find (λ slot. bytes_eq word slot.word) slots

module _ (setting : Setting) (choice : Choice) (names : Names) (word : List ℕ) where
  abbrev StandsWith : Option (List ℕ × Option Nm) → Option (List ℕ × Term) → Type 0
  StandsWith stand value =
      (given : Nm) → option_and_then (λ pair. pair.1) stand ≡ Some given → option_map (λ pair. pair.1) value ≡ Some (bytes_for names given)

  -- What the handler has in the place of a word has the value of the word.
  pub value_found : (slots : List Slot) (stands : List (Option Nm)) (values : List Term) → AreGiven setting choice names slots stands values
      → StandsWith (first_with word (zip (words_in slots) stands)) (first_with word (zip (words_in slots) values))
  value_found [] [] [] given = λ one h. absurd cc
  value_found [] [] (value ∷ values) given = absurd given
  value_found [] (stand ∷ stands) values given = absurd given
  value_found (slot ∷ slots) [] values given = absurd given
  value_found (slot ∷ slots) (stand ∷ stands) [] given = absurd given
  value_found (slot ∷ slots) (stand ∷ stands) (value ∷ values) given =
      by_test (bytes_eq word slot.word) (value_found slots stands values given.1) where
        by_test : (b : Bool) → StandsWith (first_with word (zip (words_in slots) stands)) (first_with word (zip (words_in slots) values))
            → StandsWith (cond b (Some (slot.word, stand)) (first_with word (zip (words_in slots) stands)))
            (cond b (Some (slot.word, value)) (first_with word (zip (words_in slots) values)))
        by_test true later one h = ap Some (given.0.value_is one h)
        by_test false later one h = later one h

  abbrev IsNameWith : Option Slot → Option (List ℕ × Option Nm) → Option (List ℕ × Term) → Type 0
  IsNameWith slot stand value =
      (found : Slot) → slot ≡ Some found → found.is_name ≡ true
      → IsPrincipalOf choice (option_and_then (name_number setting) (option_and_then (λ pair. pair.1) stand))
      (option_and_then principal_in (option_map (λ pair. pair.1) value))

  -- Where a name alone may stand, the principal is that of the handler's name.
  pub name_found : (slots : List Slot) (stands : List (Option Nm)) (values : List Term) → AreGiven setting choice names slots stands values
      → IsNameWith (slot_with word slots) (first_with word (zip (words_in slots) stands)) (first_with word (zip (words_in slots) values))
  name_found [] [] [] given = λ found h is_name. absurd cc
  name_found [] [] (value ∷ values) given = absurd given
  name_found [] (stand ∷ stands) values given = absurd given
  name_found (slot ∷ slots) [] values given = absurd given
  name_found (slot ∷ slots) (stand ∷ stands) [] given = absurd given
  name_found (slot ∷ slots) (stand ∷ stands) (value ∷ values) given =
      by_test (bytes_eq word slot.word) (name_found slots stands values given.1) where
        by_test : (b : Bool) → IsNameWith (slot_with word slots) (first_with word (zip (words_in slots) stands)) (first_with word (zip (words_in slots) values))
            → IsNameWith (cond b (Some slot) (slot_with word slots)) (cond b (Some (slot.word, stand)) (first_with word (zip (words_in slots) stands)))
            (cond b (Some (slot.word, value)) (first_with word (zip (words_in slots) values)))
        by_test true later found h is_name =
            let same : slot ≡ found = cc in
            let name = given.0.name_is (ap (λ (s : Slot). s.is_name) same ∙ is_name) in
            record {
              of_name = name.2.of_name;
              number_is = ap (option_and_then (name_number setting)) name.1 ∙ name.2.number_is;
              principal_is = name.2.principal_is;
            }
        by_test false later found h is_name = later found h is_name

-- the words of the parameters and fields that take names alone
abbrev pub name_words : List Slot → List (List ℕ)
name_words slots = words_in (filter (λ slot. slot.is_name) slots)

among_all : (word : List ℕ) (slots : List Slot) → is_among word (name_words slots) ≡ true → is_among word (words_in slots) ≡ true
among_all word [] among = among
among_all word (slot ∷ slots) among = by_flag slot.is_name among (among_all word slots) where
  by_flag : (b : Bool) → is_among word (words_in (cond b (slot ∷ filter (λ one. one.is_name) slots) (filter (λ one. one.is_name) slots))) ≡ true
      → (is_among word (name_words slots) ≡ true → is_among word (words_in slots) ≡ true) → (bytes_eq word slot.word || is_among word (words_in slots)) ≡ true
  by_flag true h rest = here (bytes_eq word slot.word) h where
    here : (c : Bool) → (c || is_among word (name_words slots)) ≡ true → (c || is_among word (words_in slots)) ≡ true
    here true is = refl
    here false is = rest is
  by_flag false h rest = later (bytes_eq word slot.word) where
    later : (c : Bool) → (c || is_among word (words_in slots)) ≡ true
    later true = refl
    later false = rest h

-- The first parameter or field of a word that is a name's takes names alone, where no word stands twice.
pub first_is_name : (word : List ℕ) (slots : List Slot) → AreDistinct (words_in slots) → is_among word (name_words slots) ≡ true
    → (slot : Slot) × (slot_with word slots ≡ Some slot) × (slot.is_name ≡ true)
first_is_name word [] distinct among = absurd cc
first_is_name word (slot ∷ slots) distinct among = by_test (bytes_eq word slot.word) refl slot.is_name refl (first_is_name word slots distinct.1) among where
  by_test : (b : Bool) → bytes_eq word slot.word ≡ b → (c : Bool) → slot.is_name ≡ c
      → (is_among word (name_words slots) ≡ true → (found : Slot) × (slot_with word slots ≡ Some found) × (found.is_name ≡ true))
      → is_among word (words_in (cond c (slot ∷ filter (λ one. one.is_name) slots) (filter (λ one. one.is_name) slots))) ≡ true
      → (found : Slot) × (cond b (Some slot) (slot_with word slots) ≡ Some found) × (found.is_name ≡ true)
  by_test true is true flag later h = (slot, refl, flag)
  by_test true is false flag later h =
      let again : is_among slot.word (words_in slots) ≡ true =
      subst (λ (w : List ℕ). is_among w (words_in slots) ≡ true) ((bytes_eq-Decides word slot.word).0 is) (among_all word slots h) in
      let once : is_among slot.word (words_in slots) ≡ false = distinct.0 in
      absurd cc
  by_test false is true flag later h = later (subst (λ (b : Bool). (b || is_among word (name_words slots)) ≡ true) is h)
  by_test false is false flag later h = later h

-- The names of fields are those of the `name` fields.
pub field_name_words : (fields : List Field) → words_of (name_fields fields) ≡ name_words (field_slots fields)
field_name_words [] = refl
field_name_words (field ∷ fields) = by_flag (is_name_type field.kind) (field_name_words fields) where
  by_flag : (b : Bool) → words_of (name_fields fields) ≡ name_words (field_slots fields)
      → words_of (field_names (cond b (field ∷ filter (λ one. is_name_type one.kind) fields) (filter (λ one. is_name_type one.kind) fields)))
      ≡ words_in (cond b (record { word = field.name.word; is_name = is_name_type field.kind } ∷ filter (λ one. one.is_name) (field_slots fields)) (filter (λ one. one.is_name) (field_slots fields)))
  by_flag true rest = ap (λ (words : List (List ℕ)). field.name.word ∷ words) rest
  by_flag false rest = rest

-- The names of an event's declaration are those of its `name` parameters.
pub param_name_words : (params : List Param) → words_of (name_params params) ≡ name_words (event_slots params)
param_name_words [] = refl
param_name_words (param ∷ params) = by_flag param.is_name (param_name_words params) where
  by_flag : (b : Bool) → words_of (name_params params) ≡ name_words (event_slots params)
      → words_of (param_names (cond b (param ∷ filter (λ one. one.is_name) params) (filter (λ one. one.is_name) params)))
      ≡ words_in (cond b (record { word = param.name.word; is_name = param.is_name } ∷ filter (λ one. one.is_name) (event_slots params)) (filter (λ one. one.is_name) (event_slots params)))
  by_flag true rest = ap (λ (words : List (List ℕ)). param.name.word ∷ words) rest
  by_flag false rest = rest

-- The names of a case are those of its usage's parameters and of its `name` fields.
pub case_name_words : (params : List Id) (fields : List Field) → words_of (params ++ name_fields fields) ≡ name_words (usage_slots params ++ field_slots fields)
case_name_words [] fields = field_name_words fields
case_name_words (param ∷ params) fields = ap (λ (words : List (List ℕ)). param.word ∷ words) (case_name_words params fields)

pub field_words : (fields : List Field) → words_of (field_names fields) ≡ words_in (field_slots fields)
field_words [] = refl
field_words (field ∷ fields) = ap (λ (words : List (List ℕ)). field.name.word ∷ words) (field_words fields)

pub param_words : (params : List Param) → words_of (param_names params) ≡ words_in (event_slots params)
param_words [] = refl
param_words (param ∷ params) = ap (λ (words : List (List ℕ)). param.name.word ∷ words) (param_words params)

-- What stands for a case's parameters and then for its fields, in one list.
pub zipped_on : {A : Type 0} (params : List Id) (fields : List Field) (first second : List A) → length first ≡ length params
    → zip (words_of params) first ++ zip (words_of (field_names fields)) second ≡ zip (words_in (usage_slots params ++ field_slots fields)) (first ++ second)
zipped_on [] fields [] second count = ap (λ (words : List (List ℕ)). zip words second) (field_words fields)
zipped_on [] fields (x ∷ first) second count = absurd cc
zipped_on (param ∷ params) fields [] second count = absurd cc
zipped_on {A = A} (param ∷ params) fields (x ∷ first) second count =
    ap (λ (pairs : List (List ℕ × A)). (param.word, x) ∷ pairs) (zipped_on params fields first second cc)

module _ (setting : Setting) (choice : Choice) (names : Names) where
  -- What is given for some and for others is given for all.
  pub given_on : (slots others : List Slot) (stands other_stands : List (Option Nm)) (values other_values : List Term)
      → AreGiven setting choice names slots stands values → AreGiven setting choice names others other_stands other_values
      → AreGiven setting choice names (slots ++ others) (stands ++ other_stands) (values ++ other_values)
  given_on [] others [] other_stands [] other_values given other = other
  given_on [] others [] other_stands (value ∷ values) other_values given other = absurd given
  given_on [] others (stand ∷ stands) other_stands values other_values given other = absurd given
  given_on (slot ∷ slots) others [] other_stands values other_values given other = absurd given
  given_on (slot ∷ slots) others (stand ∷ stands) other_stands [] other_values given other = absurd given
  given_on (slot ∷ slots) others (stand ∷ stands) other_stands (value ∷ values) other_values given other =
      (given.0, given_on slots others stands other_stands values other_values given.1 other)

  -- As many are given as there are parameters and fields.
  pub given_counts : (slots : List Slot) (stands : List (Option Nm)) (values : List Term) → AreGiven setting choice names slots stands values
      → (length stands ≡ length slots) × (length values ≡ length slots)
  given_counts [] [] [] given = (refl, refl)
  given_counts [] [] (value ∷ values) given = absurd given
  given_counts [] (stand ∷ stands) values given = absurd given
  given_counts (slot ∷ slots) [] values given = absurd given
  given_counts (slot ∷ slots) (stand ∷ stands) [] given = absurd given
  given_counts (slot ∷ slots) (stand ∷ stands) (value ∷ values) given =
      let rest = given_counts slots stands values given.1 in
      (ap suc rest.0, ap suc rest.1)
