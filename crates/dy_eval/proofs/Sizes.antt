-- Sizes of terms, and of terms together.
use Rattle.std.proofs.Common.{◌≡◌, ◌∙◌, ap, sym, ℕ, ◌+◌, ◌-◌, ◌<◌, ◌≤◌, false, nat_le, min, Option, Some, None, List, [], ◌∷◌, map, drop, length, get_or, refl, inl, inr, arith}
use Rattle.std.specs.Prelude.{sum_by}
use Rattle.std.proofs.lemmas.Bool.{cases_Bool, leb-true, leb-false, le-leb}
use Rattle.std.proofs.lemmas.List.Sums.{sum_by-cons}
use Rattle.std.specs.Option.{option_map}
use Rattle.dy_term.specs.Terms.{Term, Lit, size}
use Rattle.dy_term.specs.Tuples.{right_pairs, tagged_tuple}
use Rattle.dy_eval.specs.Values.{if_small, are_small}
use Rattle.dy_eval.specs.MirrorValues.{all_if_small}
use Rattle.dy_eval.proofs.Drops.{drop_next}

too_many : (n s room count : ℕ) → count ≡ min n 1025 → room ≤ 1024 → room < count → nat_le (n + s) room ≡ false
too_many n s room count is few more = elim (cases_Bool (nat_le (n + s) room)) [
  | inl small ↦ let h = leb-true (n + s) room small in absurd (omega (arith, is, h))
  | inr large ↦ large
]

one_fewer : (n s room count : ℕ) → count ≡ min n 1025 → room ≤ 1024 → count ≤ room → nat_le s (room - count) ≡ nat_le (n + s) room
one_fewer n s room count is few within = elim (cases_Bool (nat_le (n + s) room)) [
  | inl small ↦ let h = leb-true (n + s) room small in rw small (le-leb s (room - count) (omega (arith, is, h)))
  | inr large ↦ elim (cases_Bool (nat_le s (room - count))) [
    | inl little ↦ let h = leb-false (n + s) room large in let k = leb-true s (room - count) little in absurd (omega (arith, is, h, k))
    | inr lot ↦ rw (large, lot) refl
  ]
]

sizes_from : {A : Type 0} (f : A → Term) (xs : List A) (i : ℕ) (x : A) → i < length xs → x ≡ get_or xs i x
    → sum_by size (map f (drop i xs)) ≡ size (f x) + sum_by size (map f (drop (i + 1) xs))
sizes_from f xs i x within is = rw (drop_next xs i x within is) (sum_by-cons size (f x) (map f (drop (i + 1) xs)))

pub room_ends : {A : Type 0} (f : A → Term) (xs : List A) (i : ℕ) (x : A) (room count : ℕ) → i < length xs → x ≡ get_or xs i x
    → count ≡ min (size (f x)) 1025 → room ≤ 1024 → room < count → nat_le (sum_by size (map f (drop i xs))) room ≡ false
room_ends f xs i x room count within is count_is few more =
    ap (λ n. nat_le n room) (sizes_from f xs i x within is) ∙ too_many (size (f x)) (sum_by size (map f (drop (i + 1) xs))) room count count_is few more

pub room_falls : {A : Type 0} (f : A → Term) (xs : List A) (i : ℕ) (x : A) (room count : ℕ) → i < length xs → x ≡ get_or xs i x
    → count ≡ min (size (f x)) 1025 → room ≤ 1024 → count ≤ room
    → nat_le (sum_by size (map f (drop (i + 1) xs))) (room - count) ≡ nat_le (sum_by size (map f (drop i xs))) room
room_falls f xs i x room count within is count_is few enough =
    one_fewer (size (f x)) (sum_by size (map f (drop (i + 1) xs))) room count count_is few enough ∙ ap (λ n. nat_le n room) (sym (sizes_from f xs i x within is))

pub not_small : (term : Term) → 1024 < size term → if_small term ≡ None
not_small term large = elim (cases_Bool (nat_le (size term) 1024)) [
  | inl small ↦ let h = leb-true (size term) 1024 small in absurd (omega (arith, h))
  | inr other ↦ rw other refl
]

is_large : (term : Term) → if_small term ≡ None → 1024 < size term
is_large term none = elim (cases_Bool (nat_le (size term) 1024)) [
  | inl small ↦ let h = rw small at none in absurd (grind (arith, h))
  | inr other ↦ leb-false (size term) 1024 other
]

-- what has a part that is too large is too large
pub too_large : (part whole : Term) → size part ≤ size whole → if_small part ≡ None → if_small whole ≡ None
too_large part whole within none = not_small whole (let h = is_large part none in omega (arith, h, within))

kept_more : (term : Term) (found : Option (List Term)) (more terms : List Term) → ((others : List Term) → found ≡ Some others → others ≡ more)
    → option_map (λ others. term ∷ others) found ≡ Some terms → terms ≡ term ∷ more
kept_more term None more terms same is = grind arith
kept_more term (Some others) more terms same is = let e = same others refl in grind (arith, e)

-- terms that are small are all of them
pub all_kept : (terms kept : List Term) → all_if_small terms ≡ Some kept → kept ≡ terms
all_kept [] kept is = grind arith
all_kept (term ∷ terms) kept is = elim (cases_Bool (nat_le (size term) 1024)) [
  | inl small ↦ kept_more term (all_if_small terms) terms kept (all_kept terms) (rw small at is)
  | inr large ↦ let h = rw large at is in absurd (grind (arith, h))
]

none_more : (term : Term) (found : Option (List Term)) → option_map (λ others. term ∷ others) found ≡ None → found ≡ None
none_more term None is = refl
none_more term (Some others) is = grind arith

large_together : (terms : List Term) → all_if_small terms ≡ None → 1024 < sum_by size terms
large_together [] is = grind arith
large_together (term ∷ terms) is = elim (cases_Bool (nat_le (size term) 1024)) [
  | inl small ↦ let h = large_together terms (none_more term (all_if_small terms) (rw small at is)) in omega (arith, h, sum_by-cons size term terms)
  | inr large ↦ let h = leb-false (size term) 1024 large in omega (arith, h, sum_by-cons size term terms)
]

pub not_small_together : (terms : List Term) → all_if_small terms ≡ None → are_small terms ≡ false
not_small_together terms none = elim (cases_Bool (are_small terms)) [
  | inl small ↦ let h = leb-true (sum_by size terms) 1024 small in let k = large_together terms none in absurd (omega (arith, h, k))
  | inr other ↦ other
]

pairs_larger : (term : Term) (terms : List Term) → size term + sum_by size terms ≤ size (right_pairs term terms)
pairs_larger term [] = omega arith
pairs_larger term (next ∷ terms) = let h = pairs_larger next terms in omega (arith, h, sum_by-cons size next terms)

-- a tuple of terms that are not small is not small
pub tuple_not_small : (tag : List ℕ) (terms : List Term) → all_if_small terms ≡ None → if_small (tagged_tuple tag terms) ≡ None
tuple_not_small tag terms none =
    let h = large_together terms none in let k = pairs_larger (Lit tag) terms in not_small (tagged_tuple tag terms) (omega (arith, h, k))
