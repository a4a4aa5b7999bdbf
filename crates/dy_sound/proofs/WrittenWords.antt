-- What is written in the place of a handler's words in an instance, and what its own labels and usages mean there.
use Rattle.std.proofs.Common.{◌≡◌, ℕ, zero, suc, ◌+◌, ◌<◌, Bool, true, false, not, cond, ◌||◌, List, [], ◌∷◌, map, length, Option, Some, None, refl, sym, ap, subst, ◌∙◌, arith}
use Rattle.std.specs.Prelude.{nat_lt, slice_get, unwrap_or, find}
use Rattle.std.specs.Option.{option_map, option_and_then}
use Rattle.std.specs.List.{list_any, position_or_len}
use Rattle.std.specs.Str.{bytes_eq}
use Rattle.std.proofs.lemmas.Bool.{lt-ltb}
use Rattle.std.proofs.lemmas.List.{length-map}
use Rattle.std.proofs.lemmas.List.Folds.{find_at}
use Rattle.std.proofs.lemmas.Slice.Eq.{bytes_eq-Decides}
use Rattle.dy_term.specs.Terms as trees
use Rattle.dy_term.specs.Terms.{Term}
use Rattle.dy_label.specs.Labels.{Session, Version, One}
use Rattle.dy_label.specs.Words.{Choice, meaning_of}
use Rattle.dy_syntax.specs.Names.{Id, Nm, Named, Me, UseText}
use Rattle.dy_syntax.specs.Labels as text
use Rattle.dy_syntax.specs.Labels.{LabelText}
use Rattle.dy_syntax.specs.Scopes.{is_among}
use Rattle.dy_syntax.specs.Files.{Decl}
use Rattle.dy_typing.specs.Names.{number_in}
use Rattle.dy_typing.specs.Instances.{label_in, use_in}
use Rattle.dy_eval.specs.declared.written.Written.{Written}
use Rattle.dy_eval.specs.Lines.{kind_of_usage}
use Rattle.dy_eval.specs.Names.{Names, bytes_at, bytes_for, principal_in, principal_for}
use Rattle.dy_eval.specs.Readers.{label_for, usage_for}
use Rattle.dy_sound.specs.Usages.{usage_with}
use Rattle.dy_sound.specs.Names.{value_numbered}
use Rattle.dy_sound.specs.Knowledge.{usage_chosen}
use Rattle.dy_sound.specs.InScope.{IsNamed, LabelIsInScope, UseIsInScope}
use Rattle.dy_sound.specs.Matches.{words_written, scope_in, HandlerMatches, IsPrincipalOf}
use Rattle.dy_sound.proofs.WordsMeant.{name_meant, same_join, same_meet, owners_meant}

-- The words are the same in either order.
pub same_either_way : (word other : List ℕ) → bytes_eq word other ≡ bytes_eq other word
same_either_way word other = by_tests (bytes_eq word other) (bytes_eq other word) refl refl where
  by_tests : (b c : Bool) → bytes_eq word other ≡ b → bytes_eq other word ≡ c → bytes_eq word other ≡ bytes_eq other word
  by_tests true c is other_is = is ∙ sym ((bytes_eq-Decides other word).1 (sym ((bytes_eq-Decides word other).0 is)))
  by_tests false true is other_is = (bytes_eq-Decides word other).1 (sym ((bytes_eq-Decides other word).0 other_is)) ∙ sym other_is
  by_tests false false is other_is = is ∙ sym other_is

-- the place of the first of these words
abbrev pub place_in : List (List ℕ) → List ℕ → ℕ
place_in words word = position_or_len (bytes_eq word) words

first_or_later : (p : List ℕ → Bool) (first : List ℕ) (words : List (List ℕ)) (b : Bool) → p first ≡ b → (b || list_any p words) ≡ true
    → (list_any p words ≡ true → position_or_len p words < length words) → position_or_len p (first ∷ words) < length (first ∷ words)
first_or_later p first words true is among later =
    subst (λ (b : Bool). cond (not b) (1 + position_or_len p words) 0 < length (first ∷ words)) (sym is) (omega arith)
first_or_later p first words false is among later =
    let rest = later among in
    subst (λ (b : Bool). cond (not b) (1 + position_or_len p words) 0 < length (first ∷ words)) (sym is) (omega (arith, rest))

among_is_before : (p : List ℕ → Bool) (words : List (List ℕ)) → list_any p words ≡ true → position_or_len p words < length words
among_is_before p [] among = absurd cc
among_is_before p (first ∷ words) among = first_or_later p first words (p first) refl among (among_is_before p words)

-- a word that is among these has a number
pub among_has_number : (words : List (List ℕ)) (id : Id) → is_among id.word words ≡ true → number_in words (Named id) ≡ Some (suc (place_in words id.word))
among_has_number words id among =
    ap (λ (b : Bool). option_map suc (cond b (Some (place_in words id.word)) None)) (lt-ltb (place_in words id.word) (length words) (among_is_before (bytes_eq id.word) words among))

-- the number of a word, where it has one
number_is_place : (words : List (List ℕ)) (id : Id) (number : ℕ) → number_in words (Named id) ≡ Some number → suc (place_in words id.word) ≡ number
number_is_place words id number h = by_test (nat_lt (place_in words id.word) (length words)) h where
  by_test : (b : Bool) → option_map suc (cond b (Some (place_in words id.word)) None) ≡ Some number → suc (place_in words id.word) ≡ number
  by_test true is = cc
  by_test false is = absurd cc

-- the first word that is this one, among those that are written
place_written : (word : List ℕ) (written : List Written) → position_or_len (λ w. bytes_eq w.word word) written ≡ place_in (map (λ w. w.word) written) word
place_written word [] = refl
place_written word (w ∷ written) =
    ap (λ (b : Bool). cond (not b) (1 + position_or_len (λ w. bytes_eq w.word word) written) 0) (same_either_way w.word word)
    ∙ ap (λ (n : ℕ). cond (not (bytes_eq word w.word)) (1 + n) 0) (place_written word written)

session_is : (principal other : List ℕ) (session other_session : ℕ) → principal ≡ other → session ≡ other_session
    → One (Session principal session) ≡ One (Session other other_session)
session_is principal other session other_session same same_session = cc

version_is : (principal other : List ℕ) (session other_session version other_version : ℕ) → principal ≡ other → session ≡ other_session
    → version ≡ other_version → One (Version principal session version) ≡ One (Version other other_session other_version)
version_is principal other session other_session version other_version same same_session same_version = cc

module _ (names : Names) where
  pub found_at : (word : List ℕ) → find (λ w. bytes_eq w.word word) names.written ≡ slice_get names.written (place_in (words_written names) word)
  found_at word = find_at (λ w. bytes_eq w.word word) names.written ∙ ap (slice_get names.written) (place_written word names.written)

  -- What is written in the place of a word is the value of its number.
  pub word_numbered : (word : List ℕ) → value_numbered names (suc (place_in (words_written names) word)) ≡ bytes_at names word
  word_numbered word = sym (ap (λ (w : Option Written). unwrap_or (option_map (λ one. one.bytes) w) (trees.Name names.principal)) (found_at word))

  -- The bytes in the place of a name are the value of its number.
  pub name_numbered : (name : Nm) (number : ℕ) → number_in (words_written names) name ≡ Some number → value_numbered names number ≡ bytes_for names name
  name_numbered (Me line) number h = let zero_is : 0 ≡ number = cc in sym (ap (value_numbered names) zero_is)
  name_numbered (Named id) number h = sym (ap (value_numbered names) (number_is_place (words_written names) id number h)) ∙ word_numbered id.word

  -- A word in whose place something is written is found there.
  pub word_found : (word : List ℕ) → is_among word (words_written names) ≡ true
      → (w : Written) × (find (λ w. bytes_eq w.word word) names.written ≡ Some w)
  word_found word among =
      let before = among_is_before (bytes_eq word) (words_written names) among in
      at_place names.written (place_in (words_written names) word) (found_at word) (subst (λ (n : ℕ). place_in (words_written names) word < n) (length-map names.written (λ (w : Written). w.word)) before)
    where
      at_place : (written : List Written) (place : ℕ) → find (λ w. bytes_eq w.word word) names.written ≡ slice_get written place → place < length written
          → (w : Written) × (find (λ w. bytes_eq w.word word) names.written ≡ Some w)
      at_place [] place found before = absurd (omega arith)
      at_place (w ∷ written) zero found before = (w, found)
      at_place (w ∷ written) (suc place) found before = at_place written place found (omega (arith, before))

module _ (decls : List Decl) (handler_words : List (List ℕ)) (newest : ℕ) (names : Names) (choice : Choice)
    (matches : HandlerMatches handler_words newest names choice) where
  -- A handler's name that is bound has a number, which stands for the principal that is written in its place.
  pub name_stands : (name : Nm) → IsNamed (scope_in handler_words names) name
      → IsPrincipalOf choice (number_in handler_words name) (principal_for names name)
  name_stands (Me line) named = record { of_name = 0; number_is = refl; principal_is = ap Some (sym matches.agrees.self) }
  name_stands (Named id) named =
      let number_is = among_has_number handler_words id named.stands in
      let is_name = matches.are_names id named.stands (named.binds refl) in
      let found = word_found names id.word (named.binds refl) in
      let written : bytes_at names id.word ≡ found.0.bytes =
      ap (λ (w : Option Written). unwrap_or (option_map (λ one. one.bytes) w) (trees.Name names.principal)) found.1 in
      let principal : principal_in found.0.bytes ≡ Some is_name.0 = ap principal_in (sym written ∙ is_name.1) in
      let chosen = matches.agrees.named id _ is_name.0 number_is (ap (λ (w : Option Written). option_and_then (λ one. principal_in one.bytes) w) found.1 ∙ principal) in
      record { of_name = suc (place_in handler_words id.word); number_is = number_is; principal_is = ap principal_in is_name.1 ∙ ap Some (sym chosen) }

  -- A handler's own label means in the typing rules what it means in the instance.
  pub own_label_means : (label : LabelText) → LabelIsInScope (scope_in handler_words names) label
      → meaning_of choice (label_in (number_in handler_words) None label) ≡ label_for names newest label
  own_label_means (text.Public line) read = refl
  own_label_means (text.Nobody line) read = refl
  own_label_means (text.Session line) read = session_is _ _ _ _ matches.agrees.self matches.agrees.session
  own_label_means (text.Next line) read = version_is _ _ _ _ _ _ matches.agrees.self matches.agrees.session matches.agrees.next
  own_label_means (text.Prior line) read = version_is _ _ _ _ _ _ matches.agrees.self matches.agrees.session matches.agrees.prior
  own_label_means (text.Here line) read = refl
  own_label_means (text.One name) read = name_meant choice (number_in handler_words name) (principal_for names name) (name_stands name read)
  own_label_means (text.Join line left right) read = same_join _ _ _ _ (own_label_means left read.0) (own_label_means right read.1)
  own_label_means (text.Meet line left right) read = same_meet _ _ _ _ (own_label_means left read.0) (own_label_means right read.1)

  -- So does a handler's own usage, of the kind that is declared.
  pub own_usage_means : (usage : UseText) → UseIsInScope (scope_in handler_words names) usage
      → usage_chosen decls choice (use_in (number_in handler_words) usage) ≡ usage_for names (kind_of_usage decls usage.usage.word) usage
  own_usage_means usage read =
      ap (usage_with decls usage.usage.word)
      (owners_meant choice (number_in handler_words) (principal_for names) usage.args (λ name stands. name_stands name (read name stands)))
