-- Two lists side by side, and folds over them, one more at a time, as a loop goes over them.
use Rattle.std.proofs.Common.{◌≡◌, ℕ, zero, suc, ◌+◌, ◌<◌, List, [], ◌∷◌, ◌++◌, map, take, length, get_or, zip, fold, refl, sym, ap, ◌∙◌, arith}
use Rattle.std.proofs.lemmas.List.{map-append, take_more, length-take-le}
use Rattle.std.proofs.lemmas.List.Sums.{fold_push}
use Rattle.std.proofs.lemmas.List.{length-map}

-- one more of a list that is seen by `f`
pub map_more : {A B : Type 0} (f : A → B) (xs : List A) (i : ℕ) (x : A) → i < length xs → x ≡ get_or xs i x
    → map f (take (i + 1) xs) ≡ map f (take i xs) ++ f x ∷ []
map_more f xs i x below is = rw (take_more xs i x below, ← is) (map-append f (take i xs) (x ∷ []))

-- a fold over one more
pub fold_more : {A B S : Type 0} (step : S → B → S) (start : S) (f : A → B) (xs : List A) (i : ℕ) (x : A) → i < length xs → x ≡ get_or xs i x
    → fold step start (map f (take (i + 1) xs)) ≡ step (fold step start (map f (take i xs))) (f x)
fold_more step start f xs i x below is =
    ap (fold step start) (map_more f xs i x below is) ∙ fold_push step start (map f (take i xs)) (f x)

zip_push : {A B : Type 0} (xs : List A) (ys : List B) (x : A) (y : B) → length xs ≡ length ys
    → zip (xs ++ x ∷ []) (ys ++ y ∷ []) ≡ zip xs ys ++ (x, y) ∷ []
zip_push [] [] x y e = refl
zip_push [] (other ∷ ys) x y e = absurd (omega arith)
zip_push (one ∷ xs) [] x y e = absurd (omega arith)
zip_push (one ∷ xs) (other ∷ ys) x y e = ap (λ pairs. (one, other) ∷ pairs) (zip_push xs ys x y (omega arith))

-- a fold over one more of two lists side by side
pub fold_zip_more : {A B C S : Type 0} (step : S → C × B → S) (start : S) (f : A → C) (xs : List A) (ys : List B) (i : ℕ) (x : A) (y : B)
    → i < length xs → i < length ys → x ≡ get_or xs i x → y ≡ get_or ys i y
    → fold step start (zip (map f (take (i + 1) xs)) (take (i + 1) ys)) ≡ step (fold step start (zip (map f (take i xs)) (take i ys))) (f x, y)
fold_zip_more {A} {B} {C} step start f xs ys i x y in_xs in_ys x_is y_is =
    let more : take (i + 1) ys ≡ take i ys ++ y ∷ [] = rw (take_more ys i y in_ys, ← y_is) refl in
    let same : length (map f (take i xs)) ≡ length (take i ys) =
    length-map (take i xs) f ∙ length-take-le i xs (omega arith) ∙ sym (length-take-le i ys (omega arith)) in
    rw (map_more f xs i x in_xs x_is, more, zip_push (map f (take i xs)) (take i ys) (f x) y same)
    (fold_push step start (zip (map f (take i xs)) (take i ys)) (f x, y))

-- the whole of two lists side by side, once one of them has ended
pub zip_whole : {A B C : Type 0} (f : A → C) (xs : List A) (ys : List B) (n : ℕ) → (n < length xs → n < length ys → ⊥)
    → zip (map f (take n xs)) (take n ys) ≡ zip (map f xs) ys
zip_whole f [] ys zero h = refl
zip_whole f [] ys (suc n) h = refl
zip_whole f (x ∷ xs) [] zero h = refl
zip_whole f (x ∷ xs) [] (suc n) h = refl
zip_whole f (x ∷ xs) (y ∷ ys) zero h = absurd (h (omega arith) (omega arith))
zip_whole f (x ∷ xs) (y ∷ ys) (suc n) h =
    ap (λ pairs. (f x, y) ∷ pairs) (zip_whole f xs ys n (λ in_xs in_ys. h (omega arith) (omega arith)))
