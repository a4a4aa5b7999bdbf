-- What a recipe gives over a trace is derived from it.
use Rattle.std.proofs.Common.{◌≡◌, ℕ, zero, suc, ◌-◌, ◌<◌, ◌≤◌, nat_le, Bool, true, false, ◌==◌, List, [], ◌∷◌, ◌++◌, length, Option, Some, None, if◌then◌else◌, inl, inr, refl, sym, subst, arith}
use Rattle.std.specs.Option.{option_map, option_and_then, option_map_or}
use Rattle.std.specs.List.{slice_get, slice_index_or, Contains}
use Rattle.std.proofs.lemmas.Bool.{leb-true}
use Rattle.dy_term.specs.Terms as terms
use Rattle.dy_term.specs.Terms.{Term, size}
use Rattle.dy_term.specs.Sameness.{is_same}
use Rattle.dy_term.specs.declared.limits.TheConstants.{MAX_NODES}
use Rattle.dy_flat.specs.Parts as parts
use Rattle.dy_flat.specs.Openings.{penc_message, aead_message, signed_message}
use Rattle.dy_entry.specs.Entries as entries
use Rattle.dy_entry.specs.Entries.{Entry}
use Rattle.dy_entry.specs.LookUps.{is_covered}
use Rattle.dy_entry.specs.Attacker as by
use Rattle.dy_entry.specs.Attacker.{Derives}
use Rattle.dy_recipe.specs.Moves as m
use Rattle.dy_recipe.specs.Moves.{Move}
use Rattle.dy_recipe.specs.Values.{value_at, of_two, of_three, made_by, if_small, move_value, move_values, last_of, recipe_value}
use Rattle.dy_eval.specs.Past.{key_certified}
use Rattle.dy_eval.specs.Starts.{message_in}
use Rattle.dy_traces.specs.Given.{field_given, is_forge_entry, given_by}
use Rattle.dy_traces.proofs.Prefixes.{in_more}

inside : {A : Type 0} (a b : A) → Some a ≡ Some b → a ≡ b
inside a b same = cc

contains_at : (xs : List Term) (k : ℕ) (x : Term) → slice_get xs k ≡ Some x → Contains xs x
contains_at xs k x at = (k, below xs k at, is xs k at) where
  below : (ys : List Term) (n : ℕ) → slice_get ys n ≡ Some x → n < length ys
  below [] n at = absurd cc
  below (y ∷ ys) zero at = omega arith
  below (y ∷ ys) (suc n) at = let rest = below ys n at in omega (arith, rest)

  is : (ys : List Term) (n : ℕ) → slice_get ys n ≡ Some x → slice_index_or ys n x ≡ x
  is [] n at = absurd cc
  is (y ∷ ys) zero at = inside y x at
  is (y ∷ ys) (suc n) at = is ys n at

module _ (same_is : (a b : Term) → is_same a b ≡ true → a ≡ b) (T : List Entry) where
  -- what is derived, if something is there
  abbrev HasDerived : Option Term → Type 0
  HasDerived None = Unit {0}
  HasDerived (Some value) = Derives T value

  abbrev AllDerived : List Term → Type 0
  AllDerived values = (k : ℕ) (value : Term) → slice_get values k ≡ Some value → Derives T value

  of_message : (index : ℕ) (o : Option Entry) → slice_get T index ≡ o → HasDerived (option_and_then message_in o)
  of_message index None at = tt
  of_message index (Some (entries.Message instance value)) at = by.sent index instance value at
  of_message index (Some (entries.Inject step value)) at = by.injected index step value at
  of_message index (Some e) at = tt

  of_cert : (index : ℕ) (o : Option Entry) → slice_get T index ≡ o → HasDerived (option_and_then key_certified o)
  of_cert index None at = tt
  of_cert index (Some (entries.Cert instance principal usage key)) at = by.certified index instance principal usage key at
  of_cert index (Some e) at = tt

  of_forge : (index : ℕ) (o : Option Entry) → slice_get T index ≡ o → HasDerived (if option_map_or is_forge_entry o false then Some (terms.Nonce index) else None)
  of_forge index None at = tt
  of_forge index (Some (entries.Forge step)) at = by.forged index step at
  of_forge index (Some e) at = tt

  at_number : (values : List Term) → AllDerived values → (number : ℕ) → HasDerived (value_at values number)
  at_number values all number = one (number == 0) where
    found : (o : Option Term) → slice_get values (number - 1) ≡ o → HasDerived o
    found None at = tt
    found (Some value) at = all (number - 1) value at

    one : (b : Bool) → HasDerived (if b then None else slice_get values (number - 1))
    one true = tt
    one false = found (slice_get values (number - 1)) refl

  if_covered : (b : Bool) (o : Option Term) → (b ≡ true → HasDerived o) → HasDerived (if b then o else None)
  if_covered true o had = had refl
  if_covered false o had = tt

  of_field : (index field : ℕ) (o : Option Entry) → slice_get T index ≡ o → HasDerived (option_and_then (field_given T field) o)
  of_field index field None at = tt
  of_field index field (Some (entries.State instance p s v tag fields)) at =
      if_covered (is_covered T p s v) (value_at fields field) (λ covered.
      at_number fields (λ k value found. by.corrupted index instance p s v tag fields value at covered (contains_at fields k value found)) field)
  of_field index field (Some e) at = tt

  one_of : (operation : Term → Term) → ((a : Term) → Derives T a → Derives T (operation a)) → (o : Option Term) → HasDerived o → HasDerived (option_map operation o)
  one_of operation built None had = tt
  one_of operation built (Some a) had = built a had

  open_of : (operation : Term → Option Term) → ((a : Term) → Derives T a → HasDerived (operation a)) → (o : Option Term) → HasDerived o → HasDerived (option_and_then operation o)
  open_of operation opened None had = tt
  open_of operation opened (Some a) had = opened a had

  two_of : (operation : Term → Term → Option Term) → ((a b : Term) → Derives T a → Derives T b → HasDerived (operation a b)) → (o r : Option Term) → HasDerived o → HasDerived r → HasDerived (of_two operation o r)
  two_of operation built None r had other = tt
  two_of operation built (Some a) None had other = tt
  two_of operation built (Some a) (Some b) had other = built a b had other

  three_of : (operation : Term → Term → Term → Option Term) → ((a b c : Term) → Derives T a → Derives T b → Derives T c → HasDerived (operation a b c))
      → (o r q : Option Term) → HasDerived o → HasDerived r → HasDerived q → HasDerived (of_three operation o r q)
  three_of operation built None r q one two three = tt
  three_of operation built (Some a) None q one two three = tt
  three_of operation built (Some a) (Some b) None one two three = tt
  three_of operation built (Some a) (Some b) (Some c) one two three = built a b c one two three

  first_of_pair : (a : Term) → Derives T a → HasDerived (parts.first a)
  first_of_pair (terms.Pair x y) had = by.fst x y had
  first_of_pair a had = tt

  second_of_pair : (a : Term) → Derives T a → HasDerived (parts.second a)
  second_of_pair (terms.Pair x y) had = by.snd x y had
  second_of_pair a had = tt

  associated_of : (a : Term) → Derives T a → HasDerived (parts.data_part a)
  associated_of (terms.Aead k n x) had = by.ad k n x had
  associated_of a had = tt

  body_of : (a : Term) → Derives T a → HasDerived (signed_message a)
  body_of (terms.Sign k n) had = by.body k n had
  body_of a had = tt

  with_key : (b : Bool) (own key message : Term) → is_same own key ≡ b → Derives T key → (Derives T own → Derives T message) → HasDerived (if b then Some message else None)
  with_key true own key message same had opened = opened (subst (λ (k : Term). Derives T k) (sym (same_is own key same)) had)
  with_key false own key message same had opened = tt

  penc_opened : (a key : Term) → Derives T a → Derives T key → HasDerived (penc_message a key)
  penc_opened (terms.Penc (terms.Pk own) message) key had other = with_key (is_same own key) own key message refl other (λ k. by.pdec own message had k)
  penc_opened a key had other = tt

  aead_opened : (a key : Term) → Derives T a → Derives T key → HasDerived (aead_message a key)
  aead_opened (terms.Aead own message associated) key had other = with_key (is_same own key) own key message refl other (λ k. by.adec own message associated had k)
  aead_opened a key had other = tt

  module _ (values : List Term) (all : AllDerived values) where
    has : (number : ℕ) → HasDerived (value_at values number)
    has number = at_number values all number

    made : (move : Move) → HasDerived (made_by (given_by T) values move)
    made (m.Message index) = of_message index (slice_get T index) refl
    made (m.Cert index) = of_cert index (slice_get T index) refl
    made (m.Forge index) = of_forge index (slice_get T index) refl
    made (m.State index field) = of_field index field (slice_get T index) refl
    made (m.Lit text) = by.literal text
    made (m.Name principal) = by.name principal
    made (m.Pair a b) = two_of (λ x y. Some (terms.Pair x y)) by.pair (value_at values a) (value_at values b) (has a) (has b)
    made (m.Pk a) = one_of terms.Pk by.pk (value_at values a) (has a)
    made (m.Vk a) = one_of terms.Vk by.vk (value_at values a) (has a)
    made (m.Penc a b) = two_of (λ x y. Some (terms.Penc x y)) by.penc (value_at values a) (value_at values b) (has a) (has b)
    made (m.Aead a b c) = three_of (λ x y z. Some (terms.Aead x y z)) by.aead (value_at values a) (value_at values b) (value_at values c) (has a) (has b) (has c)
    made (m.Sign a b) = two_of (λ x y. Some (terms.Sign x y)) by.sign (value_at values a) (value_at values b) (has a) (has b)
    made (m.Mac a b) = two_of (λ x y. Some (terms.Mac x y)) by.mac (value_at values a) (value_at values b) (has a) (has b)
    made (m.Kdf a context b) = two_of (λ x y. Some (terms.Kdf x context y)) (λ x y. by.kdf x context y) (value_at values a) (value_at values b) (has a) (has b)
    made (m.Hash a) = one_of terms.Hash by.hash (value_at values a) (has a)
    made (m.Fst a) = open_of parts.first first_of_pair (value_at values a) (has a)
    made (m.Snd a) = open_of parts.second second_of_pair (value_at values a) (has a)
    made (m.Pdec a key) = two_of penc_message penc_opened (value_at values a) (value_at values key) (has a) (has key)
    made (m.Adec a key) = two_of aead_message aead_opened (value_at values a) (value_at values key) (has a) (has key)
    made (m.Ad a) = open_of parts.data_part associated_of (value_at values a) (has a)
    made (m.Body a) = open_of signed_message body_of (value_at values a) (has a)

  -- a value that is derived and small
  abbrev pub IsFine : Term → Type 0
  IsFine value = Derives T value × (size value ≤ MAX_NODES)

  small : (b : Bool) (term value : Term) → nat_le (size term) MAX_NODES ≡ b → (if b then Some term else None) ≡ Some value → (term ≡ value) × (size value ≤ MAX_NODES)
  small true term value low same = let is = inside term value same in (is, subst (λ (t : Term). size t ≤ MAX_NODES) is (leb-true (size term) MAX_NODES low))
  small false term value low same = absurd cc

  fine_small : (o : Option Term) → HasDerived o → (value : Term) → option_and_then if_small o ≡ Some value → IsFine value
  fine_small None had value same = absurd cc
  fine_small (Some term) had value same =
      let is = small (nat_le (size term) MAX_NODES) term value refl same in
      (subst (λ (t : Term). Derives T t) is.0 had, is.1)

  abbrev AllFine : List Term → Type 0
  AllFine values = (k : ℕ) (value : Term) → slice_get values k ≡ Some value → IsFine value

  more_fine : (values : List Term) → AllFine values → (value : Term) → IsFine value → AllFine (values ++ value ∷ [])
  more_fine values all value fine k other at = elim (in_more values value k other at) [
    | inl old ↦ all k other old
    | inr new ↦ subst (λ (t : Term). IsFine t) (sym new.1) fine
  ]

  then_fine : (o : Option Term) (follows : Term → Option (List Term)) (found : List Term) → option_and_then follows o ≡ Some found → (value : Term) × (o ≡ Some value) × (follows value ≡ Some found)
  then_fine None follows found same = absurd cc
  then_fine (Some value) follows found same = (value, refl, same)

  all_fine : (moves : List Move) (values found : List Term) → AllFine values → move_values (given_by T) values moves ≡ Some found → AllFine found
  all_fine [] values found all same = subst (λ (vs : List Term). AllFine vs) (inside values found same) all
  all_fine (move ∷ more) values found all same =
      let step = then_fine (move_value (given_by T) values move) (λ value. move_values (given_by T) (values ++ value ∷ []) more) found same in
      let fine = fine_small (made_by (given_by T) values move) (made values (λ k value at. (all k value at).0) move) step.0 step.1 in
      all_fine more (values ++ step.0 ∷ []) found (more_fine values all step.0 fine) step.2

  last_fine : (values : List Term) → AllFine values → (value : Term) → last_of values ≡ Some value → IsFine value
  last_fine [] all value same = absurd cc
  last_fine (first ∷ []) all value same = all 0 value same
  last_fine (first ∷ next ∷ more) all value same = last_fine (next ∷ more) (λ k other at. all (suc k) other at) value same

  ended_fine : (o : Option (List Term)) → ((found : List Term) → o ≡ Some found → AllFine found) → (value : Term) → option_and_then last_of o ≡ Some value → IsFine value
  ended_fine None all value same = absurd cc
  ended_fine (Some found) all value same = last_fine found (all found refl) value same

  pub recipe_fine : (moves : List Move) (value : Term) → recipe_value (given_by T) moves ≡ Some value → IsFine value
  recipe_fine moves value same = ended_fine (move_values (given_by T) [] moves) (λ found is. all_fine moves [] found (λ k other at. absurd cc) is) value same
