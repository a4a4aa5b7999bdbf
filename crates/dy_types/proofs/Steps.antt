-- One item more, as in a loop.
use Rattle.std.proofs.Common.{◌≡◌, ◌↔◌, ℕ, ◌+◌, ◌<◌, Bool, true, false, ◌&&◌, ◌==◌, List, [], ◌∷◌, ◌++◌, map, take, drop, length, get_or, Contains, Option, Some, None, refl, sym, ap, subst, ◌∙◌, inl, inr, ◌⊎◌}
use Rattle.std.specs.List.{filter_map, cons_option}
use Rattle.std.specs.Str.{bytes_eq}
use Rattle.std.proofs.lemmas.List.{take_more, drop_more}
use Rattle.std.proofs.lemmas.List.Elements.{filter_map-append}
use Rattle.dy_types.specs.Claims.{StaticUse, ClaimOf, uses_in}
use Rattle.dy_types.proofs.ClaimLaws.{use_in_either, use_in_first, use_in_second}

map-append : {A B : Type 0} (f : A → B) (xs ys : List A) → map f (xs ++ ys) ≡ map f xs ++ map f ys
map-append f [] ys = refl
map-append f (x ∷ xs) ys = ap (λ zs. f x ∷ zs) (map-append f xs ys)

pub map_more : {A B : Type 0} (f : A → B) (xs : List A) (i : ℕ) (x : A) → i < length xs → x ≡ get_or xs i x
    → map f (take (i + 1) xs) ≡ map f (take i xs) ++ f x ∷ []
map_more f xs i x below is = rw (take_more xs i x below, ← is) (map-append f (take i xs) (x ∷ []))

-- what a test picks of one item more
pub filter_map_more : {A B C : Type 0} (pick : B → Option C) (f : A → B) (xs : List A) (i : ℕ) (x : A) → i < length xs → x ≡ get_or xs i x
    → filter_map pick (map f (take (i + 1) xs)) ≡ filter_map pick (map f (take i xs)) ++ cons_option (pick (f x)) []
filter_map_more pick f xs i x below is = ap (filter_map pick) (map_more f xs i x below is) ∙ filter_map-append pick (map f (take i xs)) (f x ∷ [])

-- A usage is claimed from here on where this claim is of it, or a later one is.
pub uses_from : {A L : Type 0} (f : A → ClaimOf L) (xs : List A) (i : ℕ) (x : A) (usage : StaticUse) → i < length xs → x ≡ get_or xs i x
    → Contains (uses_in (map f (drop i xs))) usage ↔ (Contains (uses_in (f x ∷ [])) usage ⊎ Contains (uses_in (map f (drop (i + 1) xs))) usage)
uses_from f xs i x usage below is =
    rw (drop_more xs i x below, ← is) (
      λ h. use_in_either (f x ∷ []) (map f (drop (i + 1) xs)) usage h,
      λ h. elim h [
        | inl here ↦ use_in_first (f x ∷ []) (map f (drop (i + 1) xs)) usage here
        | inr later ↦ use_in_second (f x ∷ []) (map f (drop (i + 1) xs)) usage later
      ],
    )

-- a test of two lists side by side, from one place on
pub bytes_eq_more : (f : ℕ → ℕ) (xs ys : List ℕ) (i : ℕ) → i < length xs → i < length ys
    → bytes_eq (map f (drop i xs)) (drop i ys) ≡ ((f (get_or xs i 0) == get_or ys i 0) && bytes_eq (map f (drop (i + 1) xs)) (drop (i + 1) ys))
bytes_eq_more f xs ys i in_xs in_ys = rw (drop_more xs i 0 in_xs, drop_more ys i 0 in_ys) refl
