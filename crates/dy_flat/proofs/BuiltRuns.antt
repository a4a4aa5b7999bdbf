-- The nodes of a term that is built of its parts.
use Rattle.std.proofs.Common.{◌≡◌, List, [], ◌∷◌, ◌++◌, ◌∙◌, ap}
use Rattle.std.proofs.lemmas.List.{append_assoc}
use Rattle.dy_flat.specs.Runs.{Node}

pub built_two : (p0 p1 p2 p3 : List Node) (n : Node) (A B : List Node) → p0 ≡ [] → p1 ≡ p0 ++ n ∷ [] → p2 ≡ p1 ++ A → p3 ≡ p2 ++ B → p3 ≡ n ∷ (A ++ B)
built_two p0 p1 p2 p3 n A B e0 e1 e2 e3 = e3 ∙ ap (λ p. p ++ B) (e2 ∙ ap (λ p. p ++ A) (e1 ∙ ap (λ p. p ++ n ∷ []) e0))

pub built_three : (p0 p1 p2 p3 p4 : List Node) (n : Node) (A B C : List Node) → p0 ≡ [] → p1 ≡ p0 ++ n ∷ [] → p2 ≡ p1 ++ A → p3 ≡ p2 ++ B → p4 ≡ p3 ++ C → p4 ≡ n ∷ (A ++ (B ++ C))
built_three p0 p1 p2 p3 p4 n A B C e0 e1 e2 e3 e4 =
    e4 ∙ ap (λ p. p ++ C) (built_two p0 p1 p2 p3 n A B e0 e1 e2 e3) ∙ ap (λ back. n ∷ back) (append_assoc A B C)
