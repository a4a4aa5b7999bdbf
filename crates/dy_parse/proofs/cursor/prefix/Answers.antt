use Rattle.std.proofs.Common.{◌≡◌, ℕ, zero, suc, List, [], ◌∷◌, length, take, min, ap, ◌∙◌, arith}
use Rattle.dy_term.specs.declared.limits.TheConstants.{MAX_LENGTH}
use Rattle.dy_parse.proofs.cursor.prefix.Goals as goal

-- as many elements as there are, where there are fewer
take-min : (n : ℕ) (xs : List ℕ) → take (min (length xs) n) xs ≡ take n xs
take-min zero xs = let none : min (length xs) zero ≡ zero = omega arith in ap (λ k. take k xs) none
take-min (suc n) [] = let none : min (length {A = ℕ} []) (suc n) ≡ zero = omega arith in ap (λ k. take {A = ℕ} k []) none
take-min (suc n) (x ∷ xs) =
    let one : min (length (x ∷ xs)) (suc n) ≡ suc (min (length xs) n) = omega arith in
    ap (λ k. take k (x ∷ xs)) one ∙ ap (λ (ys : List ℕ). x ∷ ys) (take-min n xs)

pub returns : goal.returns
returns c = ap (λ k. take k c.args.bytes.now) c.min.ensures ∙ take-min MAX_LENGTH c.args.bytes.now
