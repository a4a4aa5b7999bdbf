-- Lists that have each text once, as one more is added.
use Rattle.std.proofs.Common.{◌≡◌, ℕ, Bool, true, false, not, List, [], ◌∷◌, ◌++◌, refl}
use Rattle.std.specs.Prelude.{if◌then◌else◌}
use Rattle.std.specs.List.{list_any}
use Rattle.std.specs.Str.{bytes_eq}
use Rattle.std.proofs.lemmas.Bool.{and_parts, or_parts, not-true}
use Rattle.dy_flat.specs.Differing.{all_differ}

pub any_push : {A : Type 0} (p : A → Bool) (xs : List A) (y : A) → list_any p xs ≡ false → p y ≡ false → list_any p (xs ++ y ∷ []) ≡ false
any_push p [] y none last = rw last refl
any_push p (x ∷ xs) y none last =
    let parts = or_parts (p x) (list_any p xs) none in
    rw (parts.0, any_push p xs y parts.1 last) refl

differ_push : {A : Type 0} (bytes : A → List ℕ) (xs : List A) (y : A) → all_differ bytes xs ≡ true → list_any (λ kept. bytes_eq (bytes kept) (bytes y)) xs ≡ false → all_differ bytes (xs ++ y ∷ []) ≡ true
differ_push bytes [] y once none = refl
differ_push bytes (x ∷ xs) y once none =
    let known = and_parts (not (list_any (λ other. bytes_eq (bytes x) (bytes other)) xs)) (all_differ bytes xs) once in
    let others = or_parts (bytes_eq (bytes x) (bytes y)) (list_any (λ kept. bytes_eq (bytes kept) (bytes y)) xs) none in
    rw (any_push (λ other. bytes_eq (bytes x) (bytes other)) xs y (not-true (list_any (λ other. bytes_eq (bytes x) (bytes other)) xs) known.0) others.0, differ_push bytes xs y known.1 others.1) refl

-- whether or not it was added
pub differ_added : {A : Type 0} (bytes : A → List ℕ) (xs more : List A) (y : A) (added : Bool) → more ≡ (if added then xs ++ y ∷ [] else xs) → all_differ bytes xs ≡ true → list_any (λ kept. bytes_eq (bytes kept) (bytes y)) xs ≡ false → all_differ bytes more ≡ true
differ_added bytes xs more y true is once none = rw is (differ_push bytes xs y once none)
differ_added bytes xs more y false is once none = rw is once
