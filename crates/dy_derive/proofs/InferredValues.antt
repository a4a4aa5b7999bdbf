-- The move of an inference has as its value the term that is concluded, where the premises have their values. The term
-- is derived, where theirs are.
use Rattle.std.proofs.Common.{◌≡◌, ℕ, zero, suc, ◌+◌, ◌-◌, ◌==◌, ◌&&◌, ◌++◌, Bool, true, false, List, [], ◌∷◌, Option, Some, None, if◌then◌else◌, inl, inr, refl, sym, subst, arith, length, ap, ◌∙◌}
use Rattle.std.specs.Option.{option_map, option_and_then, option_map_or}
use Rattle.std.proofs.lemmas.List.{length-append, append_assoc}
use Rattle.std.specs.List.{slice_get, Contains, All, cons_option}
use Rattle.std.specs.Str.{bytes_eq}
use Rattle.std.proofs.lemmas.List.Elements.{All-nil, All-cons}
use Rattle.std.proofs.lemmas.Bool.{and_from, eq-eqb, ne_eqb}
use Rattle.std.proofs.lemmas.Option.{get_or_from_slice_get, slice_get_within}
use Rattle.std.proofs.lemmas.Slice.Eq.{bytes_eq-Decides}
use Rattle.std.proofs.lemmas.List.Elements.{Contains-append_right}
use Rattle.std.proofs.lemmas.List.Folds.{list_any-from_Any}
use Rattle.dy_term.specs.Terms as terms
use Rattle.dy_term.specs.Terms.{Term}
use Rattle.dy_term.specs.Sameness.{is_same}
use Rattle.dy_term.proofs.Samenesses.{is_same-refl}
use Rattle.dy_flat.specs.Parts as parts
use Rattle.dy_flat.specs.Openings.{penc_message, aead_message, signed_message}
use Rattle.dy_label.specs.Labels.{Place, Principal, Session, Version, covers}
use Rattle.dy_entry.specs.Attacker as by
use Rattle.dy_entry.specs.Attacker.{Derives}
use Rattle.dy_entry.specs.Entries as entries
use Rattle.dy_entry.specs.Entries.{Entry}
use Rattle.dy_entry.specs.LookUps.{corruption_of, corruptions, is_covered}
use Rattle.dy_recipe.specs.Values.{value_at, of_two, of_three, made_by}
use Rattle.dy_eval.specs.Past.{key_certified}
use Rattle.dy_eval.specs.Starts.{message_in}
use Rattle.dy_traces.specs.Given.{field_given, is_forge_entry, given_by}
use Rattle.dy_derive.specs.declared.reasons.Reason.TheVariants as reasons
use Rattle.dy_derive.specs.Facts.{Fact, Derived, Corrupted, Inference, inferences_of_term, inferences_of_fact, inferences_of_fields, inferences_of_entry, decryptions, given_with}
use Rattle.dy_derive.specs.Nodes.{term_in}
use Rattle.dy_derive.specs.Rules.{IsInferenceOf}
use Rattle.dy_derive.specs.MirrorRecipes.{move_for}

-- ---- what operations make of values that are there

pub one_of : (operation : Term → Term) (o : Option Term) (x : Term) → o ≡ Some x → option_map operation o ≡ Some (operation x)
one_of operation o x is = ap (option_map operation) is

opens_of : (operation : Term → Option Term) (o : Option Term) (x : Term) → o ≡ Some x → option_and_then operation o ≡ operation x
opens_of operation o x is = ap (option_and_then operation) is

pub two_of : (operation : Term → Term → Option Term) (o r : Option Term) (x y : Term) → o ≡ Some x → r ≡ Some y → of_two operation o r ≡ operation x y
two_of operation o r x y is other = ap (λ v. of_two operation v r) is ∙ ap (λ v. of_two operation (Some x) v) other

pub three_of : (operation : Term → Term → Term → Option Term) (o r q : Option Term) (x y z : Term) → o ≡ Some x → r ≡ Some y → q ≡ Some z
    → of_three operation o r q ≡ operation x y z
three_of operation o r q x y z is other third =
    ap (λ v. of_three operation v r q) is ∙ ap (λ v. of_three operation (Some x) v q) other ∙ ap (λ v. of_three operation (Some x) (Some y) v) third

if_true : (b : Bool) (value : Term) → b ≡ true → (if b then Some value else None) ≡ Some value
if_true true value is = refl
if_true false value is = absurd cc

penc_opened : (key message : Term) → penc_message (terms.Penc (terms.Pk key) message) key ≡ Some message
penc_opened key message = if_true (is_same key key) message (is_same-refl key)

aead_opened : (key message associated : Term) → aead_message (terms.Aead key message associated) key ≡ Some message
aead_opened key message associated = if_true (is_same key key) message (is_same-refl key)

tested : (b : Bool) (o : Option Term) → b ≡ false → (if b then None else o) ≡ o
tested true o is = absurd cc
tested false o is = refl

-- the value of a number one above a place
pub value_after : (values : List Term) (place : ℕ) (x : Term) → slice_get values place ≡ Some x → value_at values (place + 1) ≡ Some x
value_after values place x at =
    tested ((place + 1) == 0) (slice_get values ((place + 1) - 1)) (ne_eqb (place + 1) 0 (λ same. omega arith))
    ∙ ap (slice_get values) (omega arith) ∙ at

get_after : (done : List Term) (field : Term) (fields : List Term) → slice_get (done ++ field ∷ fields) (length done) ≡ Some field
get_after [] field fields = refl
get_after (x ∷ done) field fields = get_after done field fields

all_at : {A : Type 0} (P : A → Type 0) (xs : List A) (k : ℕ) (x : A) → All P xs → slice_get xs k ≡ Some x → P x
all_at P xs k x all at = subst P (get_or_from_slice_get xs k x x at) (all k x (slice_get_within xs k x at))

-- ---- each inference

-- the numbers name the values of these facts, one by one
abbrev pub NamesValues : List Term → List ℕ → List Fact → Type 0
NamesValues values numbers [] = Unit {0}
NamesValues values [] (fact ∷ facts) = ⊥
NamesValues values (number ∷ numbers) (fact ∷ facts) = (value_at values number ≡ Some (term_in fact)) × NamesValues values numbers facts

-- what is said to be derived is, and a place that is said to be corrupted
abbrev pub IsSo : List Entry → Fact → Type 0
IsSo T (Derived term) = Derives T term
IsSo T (Corrupted place) = Contains (corruptions T) place

abbrev pub AreSo : List Entry → List Fact → Type 0
AreSo T [] = Unit {0}
AreSo T (fact ∷ facts) = IsSo T fact × AreSo T facts

module _ (T : List Entry) where
  -- What an inference concludes is so, and its move has it as its value.
  abbrev pub IsFine : Inference → Type 0
  IsFine inference =
      (values : List Term) (a b c : ℕ) → NamesValues values (a ∷ b ∷ c ∷ []) inference.premises → AreSo T inference.premises
      → (made_by (given_by T) values (move_for inference.reason inference.conclusion a b c) ≡ Some (term_in inference.conclusion)) × IsSo T inference.conclusion

  one_fine : (x : Inference) → IsFine x → All IsFine (x ∷ [])
  one_fine x fine = All-cons IsFine x [] fine (All-nil IsFine)

  two_fine : (x y : Inference) → IsFine x → IsFine y → All IsFine (x ∷ y ∷ [])
  two_fine x y fine other = All-cons IsFine x (y ∷ []) fine (one_fine y other)

  three_fine : (x y z : Inference) → IsFine x → IsFine y → IsFine z → All IsFine (x ∷ y ∷ z ∷ [])
  three_fine x y z fine other third = All-cons IsFine x (y ∷ z ∷ []) fine (two_fine y z other third)

  decryptions_fine : (to message : Term) → All IsFine (decryptions to message)
  decryptions_fine (terms.Pk key) message = one_fine _ (λ values a b c named so.
      (two_of penc_message (value_at values a) (value_at values b) (terms.Penc (terms.Pk key) message) key named.0 named.1.0 ∙ penc_opened key message, by.pdec key message so.0 so.1.0))
  decryptions_fine to message = All-nil IsFine

  term_fine : (term : Term) → All IsFine (inferences_of_term term)
  term_fine (terms.Lit text) = one_fine _ (λ values a b c named so. (refl, by.literal text))
  term_fine (terms.Name principal) = one_fine _ (λ values a b c named so. (refl, by.name principal))
  term_fine (terms.Nonce index) = All-nil IsFine
  term_fine (terms.Pair x y) = three_fine _ _ _
      (λ values a b c named so. (two_of (λ v w. Some (terms.Pair v w)) (value_at values a) (value_at values b) x y named.0 named.1.0, by.pair x y so.0 so.1.0))
      (λ values a b c named so. (opens_of parts.first (value_at values a) (terms.Pair x y) named.0, by.fst x y so.0))
      (λ values a b c named so. (opens_of parts.second (value_at values a) (terms.Pair x y) named.0, by.snd x y so.0))
  term_fine (terms.Pk k) = one_fine _ (λ values a b c named so. (one_of terms.Pk (value_at values a) k named.0, by.pk k so.0))
  term_fine (terms.Vk k) = one_fine _ (λ values a b c named so. (one_of terms.Vk (value_at values a) k named.0, by.vk k so.0))
  term_fine (terms.Penc p m) = All-cons IsFine _ (decryptions p m)
      (λ values a b c named so. (two_of (λ v w. Some (terms.Penc v w)) (value_at values a) (value_at values b) p m named.0 named.1.0, by.penc p m so.0 so.1.0))
      (decryptions_fine p m)
  term_fine (terms.Aead k m x) = three_fine _ _ _
      (λ values a b c named so. (three_of (λ u v w. Some (terms.Aead u v w)) (value_at values a) (value_at values b) (value_at values c) k m x named.0 named.1.0 named.1.1.0, by.aead k m x so.0 so.1.0 so.1.1.0))
      (λ values a b c named so. (two_of aead_message (value_at values a) (value_at values b) (terms.Aead k m x) k named.0 named.1.0 ∙ aead_opened k m x, by.adec k m x so.0 so.1.0))
      (λ values a b c named so. (opens_of parts.data_part (value_at values a) (terms.Aead k m x) named.0, by.ad k m x so.0))
  term_fine (terms.Sign k m) = two_fine _ _
      (λ values a b c named so. (two_of (λ v w. Some (terms.Sign v w)) (value_at values a) (value_at values b) k m named.0 named.1.0, by.sign k m so.0 so.1.0))
      (λ values a b c named so. (opens_of signed_message (value_at values a) (terms.Sign k m) named.0, by.body k m so.0))
  term_fine (terms.Mac k m) = one_fine _ (λ values a b c named so. (two_of (λ v w. Some (terms.Mac v w)) (value_at values a) (value_at values b) k m named.0 named.1.0, by.mac k m so.0 so.1.0))
  term_fine (terms.Kdf k context x) = one_fine _ (λ values a b c named so. (two_of (λ v w. Some (terms.Kdf v context w)) (value_at values a) (value_at values b) k x named.0 named.1.0, by.kdf k context x so.0 so.1.0))
  term_fine (terms.Hash m) = one_fine _ (λ values a b c named so. (one_of terms.Hash (value_at values a) m named.0, by.hash m so.0))

  fact_fine : (fact : Fact) → All IsFine (inferences_of_fact fact)
  fact_fine (Derived term) = term_fine term
  fact_fine (Corrupted place) = All-nil IsFine

  -- ---- entries

  -- a corruption of the trace is one of its corruptions
  corruption_stands : (U : List Entry) (index step : ℕ) (place : Place) → slice_get U index ≡ Some (entries.Corrupt step place) → Contains (corruptions U) place
  corruption_stands [] index step place at = absurd cc
  corruption_stands (e ∷ U) zero step place at =
      let is : e ≡ entries.Corrupt step place = cc in
      subst (λ (x : Entry). Contains (corruptions (x ∷ U)) place) (sym is) (0, omega arith, refl)
  corruption_stands (e ∷ U) (suc index) step place at = elim (corruption_of e) as (λ o. Contains (cons_option o (corruptions U)) place) [
    | None ↦ corruption_stands U index step place at
    | Some other ↦ Contains-append_right (other ∷ []) (corruptions U) place (corruption_stands U index step place at)
  ]

  bytes_same : (p : List ℕ) → bytes_eq p p ≡ true
  bytes_same p = (bytes_eq-Decides p p).1 refl

  -- a version is covered where a place that covers it is corrupted
  covered_by : (place : Place) (principal : List ℕ) (session version : ℕ) → covers place (Version principal session version) ≡ true
      → Contains (corruptions T) place → is_covered T principal session version ≡ true
  covered_by place principal session version covering stands =
      list_any-from_Any (λ corruption. covers corruption (Version principal session version)) (corruptions T) (stands.0, place, stands.1, stands.2, covering)

  by_principal : (p : List ℕ) (s v : ℕ) → covers (Principal p) (Version p s v) ≡ true
  by_principal p s v = bytes_same p

  by_session : (p : List ℕ) (s v : ℕ) → covers (Session p s) (Version p s v) ≡ true
  by_session p s v = and_from (bytes_eq p p) (s == s) (bytes_same p) (eq-eqb s s refl)

  by_version : (p : List ℕ) (s v : ℕ) → covers (Version p s v) (Version p s v) ≡ true
  by_version p s v = and_from (bytes_eq p p && (s == s)) (v == v) (by_session p s v) (eq-eqb v v refl)

  given_field : (b : Bool) (o : Option Term) → b ≡ true → (if b then o else None) ≡ o
  given_field true o is = refl
  given_field false o is = absurd cc

  module _ (index instance : ℕ) (p : List ℕ) (s v : ℕ) (tag : List ℕ) (all : List Term) (at : slice_get T index ≡ Some (entries.State instance p s v tag all)) where
    field_fine : (place : Place) (number : ℕ) (field : Term) → covers place (Version p s v) ≡ true → value_at all number ≡ Some field
        → Contains all field → IsFine (given_with place field (reasons.Field index number))
    field_fine place number field covering found within values a b c named so =
        let covered = covered_by place p s v covering so.0 in (
          ap (option_and_then (field_given T number)) at ∙ given_field (is_covered T p s v) (value_at all number) covered ∙ found,
          by.corrupted index instance p s v tag all field at covered within,
        )

    fields_fine : (done fields : List Term) (number : ℕ) → number ≡ length done + 1 → all ≡ done ++ fields → All IsFine (inferences_of_fields index p s v number fields)
    fields_fine done [] number is split = All-nil IsFine
    fields_fine done (field ∷ fields) number is split =
        let there : slice_get all (length done) ≡ Some field = ap (λ xs. slice_get xs (length done)) split ∙ get_after done field fields in
        let within : Contains all field = (length done, slice_get_within all (length done) field there, get_or_from_slice_get all (length done) field field there) in
        let found : value_at all number ≡ Some field = subst (λ (n : ℕ). value_at all n ≡ Some field) (sym is) (value_after all (length done) field there) in
        let rest : List Inference = inferences_of_fields index p s v (number + 1) fields in
        let of_principal : Inference = given_with (Principal p) field (reasons.Field index number) in
        let of_session : Inference = given_with (Session p s) field (reasons.Field index number) in
        let of_version : Inference = given_with (Version p s v) field (reasons.Field index number) in
        All-cons IsFine of_principal (of_session ∷ of_version ∷ rest) (field_fine (Principal p) number field (by_principal p s v) found within)
        (All-cons IsFine of_session (of_version ∷ rest) (field_fine (Session p s) number field (by_session p s v) found within)
        (All-cons IsFine of_version rest (field_fine (Version p s v) number field (by_version p s v) found within)
        (fields_fine (done ++ field ∷ []) fields (number + 1)
        (ap (λ n. n + 1) is ∙ ap (λ n. n + 1) (sym (length-append done (field ∷ [])))) (split ∙ sym (append_assoc done (field ∷ []) fields)))))

  entry_fine : (index : ℕ) (entry : Entry) → slice_get T index ≡ Some entry → All IsFine (inferences_of_entry index entry)
  entry_fine index (entries.Message instance value) at =
      one_fine _ (λ values a b c named so. (ap (option_and_then message_in) at, by.sent index instance value at))
  entry_fine index (entries.Inject step value) at =
      one_fine _ (λ values a b c named so. (ap (option_and_then message_in) at, by.injected index step value at))
  entry_fine index (entries.Cert instance principal usage key) at =
      one_fine _ (λ values a b c named so. (ap (option_and_then key_certified) at, by.certified index instance principal usage key at))
  entry_fine index (entries.Forge step) at =
      one_fine _ (λ values a b c named so. (if_true _ (terms.Nonce index) (ap (λ o. option_map_or is_forge_entry o false) at), by.forged index step at))
  entry_fine index (entries.Corrupt step place) at = one_fine _ (λ values a b c named so. (refl, corruption_stands T index step place at))
  entry_fine index (entries.State instance p s v tag fields) at = fields_fine index instance p s v tag fields at [] fields 1 refl refl
  entry_fine index (entries.Setup input) at = All-nil IsFine
  entry_fine index (entries.Start step handler principal session args message) at = All-nil IsFine
  entry_fine index (entries.Fresh instance label usage) at = All-nil IsFine
  entry_fine index (entries.Event instance principal name args) at = All-nil IsFine
  entry_fine index (entries.End instance outcome) at = All-nil IsFine
  entry_fine index (entries.Skip step) at = All-nil IsFine

  -- What an inference of the facts and the trace concludes is so, and its move has it as its value.
  pub inference_fine : (facts : List Fact) (inference : Inference) → IsInferenceOf facts T inference → IsFine inference
  inference_fine facts inference is = elim is [
    | inl of ↦ all_at IsFine (inferences_of_fact of.2) of.1 inference (fact_fine of.2) of.4
    | inr of ↦ all_at IsFine (inferences_of_entry of.0 of.2) of.1 inference (entry_fine of.0 of.2 of.3) of.4
  ]
