-- Lists from one place on, and up to one.
use Rattle.std.proofs.Common.{◌≡◌, ◌∙◌, ap, sym, ℕ, ◌+◌, ◌<◌, ◌≤◌, ◌⊎◌, inl, inr, List, [], ◌∷◌, ◌++◌, map, take, drop, length, get_or, min, arith, refl}
use Rattle.std.proofs.lemmas.Bool.{cases_lt}
use Rattle.std.proofs.lemmas.List.{drop_more, drop_all, take_more, map-append}
use Rattle.dy_syntax.specs.Names.{Id}
use Rattle.dy_eval.specs.Starts.{names_written}

pub drop_next : {A : Type 0} (xs : List A) (i : ℕ) (x : A) → i < length xs → x ≡ get_or xs i x → drop i xs ≡ x ∷ drop (i + 1) xs
drop_next xs i x within is = drop_more xs i x within ∙ ap (λ y. y ∷ drop (i + 1) xs) (sym is)

pub map_take_next : {A B : Type 0} (f : A → B) (xs : List A) (i : ℕ) (x : A) → i < length xs → x ≡ get_or xs i x
    → map f (take (i + 1) xs) ≡ map f (take i xs) ++ f x ∷ []
map_take_next f xs i x within is =
    ap (map f) (take_more xs i x within ∙ ap (λ y. take i xs ++ y ∷ []) (sym is)) ∙ map-append f (take i xs) (x ∷ [])

-- one of two lists has ended
pub one_ended : (a b i : ℕ) → min a b ≤ i → (a ≤ i) ⊎ (b ≤ i)
one_ended a b i h = elim (cases_lt a b) [ inl less ↦ inl (omega arith) | inr more ↦ inr (omega arith) ]

no_names : (args : List Id) → names_written args [] ≡ []
no_names [] = refl
no_names (arg ∷ args) = refl

-- no name is left where arguments or names have ended
pub names_end : {A : Type 0} (f : A → Id) (args : List A) (names : List (List ℕ)) (i : ℕ)
    → min (length args) (length names) ≤ i → names_written (map f (drop i args)) (drop i names) ≡ []
names_end f args names i h = elim (one_ended (length args) (length names) i h) [
  | inl ended ↦ rw (drop_all i args ended) refl
  | inr ended ↦ rw (drop_all i names ended) (no_names (map f (drop i args)))
]
