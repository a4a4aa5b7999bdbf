-- What is looked up by classes.
use Rattle.std.proofs.Common.{◌≡◌, ◌≢◌, ℕ, zero, suc, ◌+◌, ◌-◌, ◌<◌, ◌≤◌, ◌⊎◌, inl, inr, Bool, false, Option, Some, None, List, [], ◌∷◌, ◌++◌, length, take, drop, get_or, refl, sym, ◌∙◌, ap, arith}
use Rattle.std.specs.Prelude.{slice_get, IfNone}
use Rattle.std.specs.List.{list_any}
use Rattle.std.specs.Str.{bytes_eq}
use Rattle.std.proofs.lemmas.Bool.{cases_Bool, or_parts}
use Rattle.std.proofs.lemmas.List.{length-append, get_or-set_other, get_or-set_same}
use Rattle.std.proofs.lemmas.Slice.Eq.{bytes_eq-Decides}
use Rattle.std.proofs.Math.ListN.{set, get_or-append}
use Rattle.std.proofs.Math.Seq.{get_or-append_seam}
use Rattle.dy_flat.specs.declared.indexing.TheConstants.{CLASSES}
use Rattle.dy_flat.specs.Extending.{Extends}
use Rattle.dy_flat.specs.MirrorIndexes.{class_of, Skips, Covers}

-- From this place up to another none is the wanted one. The one before is of its class, if there is one.
pub record Passed {A : Type 0} (bytes : A → List ℕ) (kept : List A) (wanted : A) (at to : ℕ) : Type 0 where
  pub order : at ≤ to
  pub none : (place : ℕ) (one : A) → at ≤ place → place < to → slice_get kept place ≡ Some one → bytes_eq (bytes one) (bytes wanted) ≡ false
  pub before : (place : ℕ) (one : A) → place + 1 ≡ at → slice_get kept place ≡ Some one → class_of (bytes one) ≡ class_of (bytes wanted)

place_cases : (i n : ℕ) → (i < n) ⊎ ((i ≡ n) ⊎ (n < i))
place_cases zero zero = inr (inl refl)
place_cases zero (suc n) = inl (omega arith)
place_cases (suc i) zero = inr (inr (omega arith))
place_cases (suc i) (suc n) =
    elim (place_cases i n) [
      | inl less ↦ inl (omega (arith, less))
      | inr rest ↦ elim rest [ inl same ↦ inr (inl (ap suc same)) | inr more ↦ inr (inr (omega (arith, more))) ]
    ]

same_or_not : (m n : ℕ) → (m ≡ n) ⊎ (m ≢ n)
same_or_not m n =
    elim (place_cases m n) [
      | inl less ↦ inr (λ is. omega (arith, is, less))
      | inr rest ↦ elim rest [ inl same ↦ inl same | inr more ↦ inr (λ is. omega (arith, is, more)) ]
    ]

differs : (a b : List ℕ) → (class_of a ≡ class_of b → ⊥) → bytes_eq a b ≡ false
differs a b other =
    elim (cases_Bool (bytes_eq a b)) [
      | inl same ↦ absurd (other (ap class_of ((bytes_eq-Decides a b).0 same)))
      | inr other_bytes ↦ other_bytes
    ]

pub passed_first : {A : Type 0} (bytes : A → List ℕ) (kept : List A) (wanted : A) (at to : ℕ) → Skips bytes kept (class_of (bytes wanted)) at to → Passed bytes kept wanted at to
passed_first bytes kept wanted at to skips = record {
  order = skips.order;
  none = λ place one from less is. differs (bytes one) (bytes wanted) (skips.none place one from less is);
  before = skips.before;
}

pub passed_next : {A : Type 0} (bytes : A → List ℕ) (kept : List A) (wanted x : A) (at next to : ℕ) → 0 < at → Passed bytes kept wanted at to → slice_get kept (at - 1) ≡ Some x
    → bytes_eq (bytes x) (bytes wanted) ≡ false → Skips bytes kept (class_of (bytes x)) next (at - 1) → Passed bytes kept wanted next to
passed_next bytes kept wanted x at next to some passed here other skips =
    let class : class_of (bytes x) ≡ class_of (bytes wanted) = passed.before (at - 1) x (omega (arith, some)) here in
    record {
      order = omega (arith, skips.order, passed.order);
      none = λ place one from less is. elim (place_cases place (at - 1)) [
        | inl lower ↦ differs (bytes one) (bytes wanted) (λ same. skips.none place one from lower is (same ∙ sym class))
        | inr rest ↦ elim rest [
          | inl this ↦
              let both : Some x ≡ Some one = sym here ∙ ap (slice_get kept) (sym this) ∙ is in
              let one_is : x ≡ one = cc in
              ap (λ y. bytes_eq (bytes y) (bytes wanted)) (sym one_is) ∙ other
          | inr higher ↦ passed.none place one (omega (arith, higher, some)) less is
        ]
      ];
      before = λ place one is at_is. skips.before place one is at_is ∙ class;
    }

any_take : {A : Type 0} (p : A → Bool) (n : ℕ) (xs : List A) → ((place : ℕ) (one : A) → place < n → slice_get xs place ≡ Some one → p one ≡ false) → list_any p (take n xs) ≡ false
any_take p zero xs none = refl
any_take p (suc n) [] none = refl
any_take p (suc n) (x ∷ xs) none =
    rw (none 0 x (omega arith) refl, any_take p n xs (λ place one less is. none (suc place) one (omega (arith, less)) is)) refl

pub passed_all : {A : Type 0} (bytes : A → List ℕ) (kept : List A) (wanted : A) (at to : ℕ) → at ≡ 0 → Passed bytes kept wanted at to
    → list_any (λ other. bytes_eq (bytes other) (bytes wanted)) (take to kept) ≡ false
passed_all bytes kept wanted at to none passed =
    any_take (λ other. bytes_eq (bytes other) (bytes wanted)) to kept (λ place one less is. passed.none place one (omega (arith, none)) less is)

-- nothing is taken in
pub covers_none : {A : Type 0} (bytes : A → List ℕ) (kept : List A) (lasts links : List ℕ) → ((class : ℕ) → get_or lasts class 0 ≡ 0) → links ≡ [] → Covers bytes kept lasts links
covers_none bytes kept lasts links zeros none =
    let len : length links ≡ 0 = ap length none in
    record {
      within = omega (arith, len);
      last = λ class less. record {
        order = omega (arith, zeros class);
        none = λ place one from below. absurd (omega (arith, below, len));
        before = λ place one is. absurd (omega (arith, is, zeros class));
      };
      link = λ place one less. absurd (omega (arith, less, len));
    }

in_prefix : {A : Type 0} (xs ys : List A) (place : ℕ) → place < length xs → slice_get (xs ++ ys) place ≡ slice_get xs place
in_prefix [] ys place less = absurd (omega (arith, less))
in_prefix (x ∷ xs) ys zero less = refl
in_prefix (x ∷ xs) ys (suc place) less = in_prefix xs ys place (omega (arith, less))

skips_more : {A : Type 0} (bytes : A → List ℕ) (kept more : List A) (class from to : ℕ) → ((place : ℕ) → place < to → slice_get more place ≡ slice_get kept place)
    → Skips bytes kept class from to → Skips bytes more class from to
skips_more bytes kept more class from to same skips = record {
  order = skips.order;
  none = λ place one start less is. skips.none place one start less (sym (same place less) ∙ is);
  before = λ place one is at. skips.before place one is (sym (same place (omega (arith, is, skips.order))) ∙ at);
}

-- More is kept, and nothing is taken in.
pub covers_more : {A : Type 0} (bytes : A → List ℕ) (kept more : List A) (lasts links : List ℕ) → Extends kept more → Covers bytes kept lasts links → Covers bytes more lasts links
covers_more bytes kept more lasts links grown covers =
    let same = λ (place : ℕ) (less : place < length links).
    let is : slice_get more place ≡ slice_get kept place = ap (λ xs. slice_get xs place) grown.is ∙ in_prefix kept grown.more place (omega (arith, less, covers.within)) in is in
    record {
      within = omega (arith, covers.within, ap length grown.is, length-append kept grown.more);
      last = λ class less. skips_more bytes kept more class (get_or lasts class 0) (length links) same (covers.last class less);
      link = λ place one less is.
          skips_more bytes kept more (class_of (bytes one)) (get_or links place 0) place (λ p below. same p (omega (arith, below, less))) (covers.link place one less (sym (same place less) ∙ is));
    }

-- the next one is taken in
pub covers_next : {A : Type 0} (bytes : A → List ℕ) (kept : List A) (x : A) (lasts links : List ℕ) (class : ℕ) → slice_get kept (length links) ≡ Some x → length links < length kept
    → length lasts ≡ CLASSES → class < CLASSES → class ≡ class_of (bytes x) → Covers bytes kept lasts links → Covers bytes kept (set lasts class (length links + 1)) (links ++ get_or lasts class 0 ∷ [])
covers_next {A = A} bytes kept x lasts links class here more classes few class_is covers =
    let n = length links in
    let last = get_or lasts class 0 in
    let long : length (links ++ last ∷ []) ≡ n + 1 = omega (arith, length-append links (last ∷ [])) in
    let this = λ (place : ℕ) (one : A) (at : place ≡ n) (is : slice_get kept place ≡ Some one).
    let both : Some x ≡ Some one = sym here ∙ ap (slice_get kept) (sym at) ∙ is in
    let one_is : x ≡ one = cc in one_is in
    record {
      within = omega (arith, long, more);
      last = λ c less. elim (same_or_not c class) [
        | inl same ↦
            let now : get_or (set lasts class (n + 1)) c 0 ≡ n + 1 = ap (λ k. get_or (set lasts class (n + 1)) k 0) same ∙ get_or-set_same lasts class (n + 1) 0 (omega (arith, few, classes)) in
            record {
              order = omega (arith, now, long);
              none = λ place one from below is. absurd (omega (arith, from, below, now, long));
              before = λ place one is at. ap (λ y. class_of (bytes y)) (sym (this place one (omega (arith, is, now)) at)) ∙ sym class_is ∙ sym same;
            }
        | inr other ↦
            let now : get_or (set lasts class (n + 1)) c 0 ≡ get_or lasts c 0 = get_or-set_other lasts class c (n + 1) 0 other in
            let was = covers.last c less in
            record {
              order = omega (arith, now, long, was.order);
              none = λ place one from below is of. elim (place_cases place n) [
                | inl lower ↦ was.none place one (omega (arith, from, now)) lower is of
                | inr rest ↦ elim rest [
                  | inl at ↦ other (sym of ∙ ap (λ y. class_of (bytes y)) (sym (this place one at is)) ∙ sym class_is)
                  | inr higher ↦ omega (arith, higher, below, long)
                ]
              ];
              before = λ place one is at. was.before place one (omega (arith, is, now)) at;
            }
      ];
      link = λ place one less is. elim (place_cases place n) [
        | inl lower ↦
            let now : get_or (links ++ last ∷ []) place 0 ≡ get_or links place 0 = get_or-append links (last ∷ []) 0 place lower in
            let was = covers.link place one lower is in
            record {
              order = omega (arith, now, was.order);
              none = λ p o from below. was.none p o (omega (arith, from, now)) below;
              before = λ p o at. was.before p o (omega (arith, at, now));
            }
        | inr rest ↦ elim rest [
          | inl at ↦
              let now : get_or (links ++ last ∷ []) place 0 ≡ last = ap (λ k. get_or (links ++ last ∷ []) k 0) at ∙ get_or-append_seam links last [] 0 in
              let was = covers.last class few in
              let class_one : class ≡ class_of (bytes one) = class_is ∙ ap (λ y. class_of (bytes y)) (this place one at is) in
              record {
                order = omega (arith, now, at, was.order);
                none = λ p o from below found of. was.none p o (omega (arith, from, now)) (omega (arith, below, at)) found (of ∙ sym class_one);
                before = λ p o before found. was.before p o (omega (arith, before, now)) found ∙ class_one;
              }
          | inr higher ↦ absurd (omega (arith, higher, less, long))
        ]
      ];
    }

other_default : {A : Type 0} (xs : List A) (i : ℕ) (d e : A) → i < length xs → get_or xs i d ≡ get_or xs i e
other_default [] i d e less = absurd (omega (arith, less))
other_default (x ∷ xs) zero d e less = refl
other_default (x ∷ xs) (suc i) d e less = other_default xs i d e (omega (arith, less))

-- One more is compared, and the link is followed.
pub passed_link : {A : Type 0} (bytes : A → List ℕ) (kept : List A) (wanted x : A) (lasts links : List ℕ) (at next : ℕ) → Covers bytes kept lasts links → 0 < at
    → Passed bytes kept wanted at (length links) → slice_get kept (at - 1) ≡ Some x → bytes_eq (bytes x) (bytes wanted) ≡ false → next ≡ get_or links (at - 1) next
    → (next < at) × Passed bytes kept wanted next (length links)
passed_link bytes kept wanted x lasts links at next covers some passed here other is =
    let less : at - 1 < length links = omega (arith, some, passed.order) in
    let now : get_or links (at - 1) 0 ≡ next = other_default links (at - 1) 0 next less ∙ sym is in
    let skips = covers.link (at - 1) x less here in
    let moved : Skips bytes kept (class_of (bytes x)) next (at - 1) = record {
      order = omega (arith, now, skips.order);
      none = λ place one from below found of. skips.none place one (omega (arith, from, now)) below found of;
      before = λ place one one_is found. skips.before place one (omega (arith, one_is, now)) found;
    } in
    (omega (arith, now, skips.order, some), passed_next bytes kept wanted x at next (length links) some passed here other moved)

-- the next one is taken in, as the code does it
pub covers_pushed : {A : Type 0} (bytes : A → List ℕ) (kept : List A) (x : A) (lasts links now : List ℕ) (class place value : ℕ) → place ≡ length links → slice_get kept place ≡ Some x
    → length links < length kept → length lasts ≡ CLASSES → class < CLASSES → class ≡ class_of (bytes x) → value ≡ get_or lasts class value → now ≡ links ++ value ∷ []
    → Covers bytes kept lasts links → Covers bytes kept (set lasts class (place + 1)) now
covers_pushed bytes kept x lasts links now class place value at here more classes few class_is is pushed covers =
    let value_is : get_or lasts class 0 ≡ value = other_default lasts class 0 value (omega (arith, few, classes)) ∙ sym is in
    let here_at : slice_get kept (length links) ≡ Some x = ap (slice_get kept) (sym at) ∙ here in
    rw (pushed, at, ← value_is) (covers_next bytes kept x lasts links class here_at more classes few class_is covers)

pub any_split : {A : Type 0} (p : A → Bool) (n : ℕ) (xs : List A) → list_any p (take n xs) ≡ false → list_any p (drop n xs) ≡ false → list_any p xs ≡ false
any_split p zero xs prefix back = back
any_split p (suc n) [] prefix back = refl
any_split p (suc n) (x ∷ xs) prefix back =
    let parts = or_parts (p x) (list_any p (take n xs)) prefix in
    rw (parts.0, any_split p n xs parts.1 back) refl

pub none_by : {A P Q : Type 0} (found : Option A) → IfNone found P → (P → Q) → IfNone found Q
none_by None holds next = next holds
none_by (Some one) holds next = holds
