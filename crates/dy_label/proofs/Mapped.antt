-- Lists that a function takes to one list.
use Rattle.std.proofs.Common.{◌≡◌, ℕ, ◌+◌, ◌<◌, List, [], ◌∷◌, ◌++◌, length, map, take, get_or, ap, sym, ◌∙◌}
use Rattle.std.proofs.lemmas.List.{get_or-map, map-append, take_more}

module _ {A B : Type 0} (f : A → B) where
  -- it takes the items at one place to the same
  pub same_at : (xs ys : List A) (i : ℕ) (x y : A) → map f xs ≡ map f ys → i < length xs → i < length ys → x ≡ get_or xs i x → y ≡ get_or ys i y → f x ≡ f y
  same_at xs ys i x y e below below' at at' =
      ap f at ∙ sym (get_or-map f xs i x (f x) below) ∙ ap (λ zs. get_or zs i (f x)) e ∙ get_or-map f ys i y (f x) below' ∙ ap f (sym at')

  -- items that it takes to the same make the lists so far longer
  pub same_more : (xs ys : List A) (i : ℕ) (x y : A) → map f (take i xs) ≡ map f (take i ys) → i < length xs → i < length ys → x ≡ get_or xs i x → y ≡ get_or ys i y → f x ≡ f y
      → map f (take (i + 1) xs) ≡ map f (take (i + 1) ys)
  same_more xs ys i x y e below below' at at' same =
      let first : map f (take (i + 1) xs) ≡ map f (take i xs) ++ f x ∷ [] =
      ap (map f) (take_more xs i x below ∙ ap (λ z. take i xs ++ z ∷ []) (sym at)) ∙ map-append f (take i xs) (x ∷ []) in
      let second : map f (take (i + 1) ys) ≡ map f (take i ys) ++ f y ∷ [] =
      ap (map f) (take_more ys i y below' ∙ ap (λ z. take i ys ++ z ∷ []) (sym at')) ∙ map-append f (take i ys) (y ∷ []) in
      cc
