use Rattle.std.proofs.Common.{◌≡◌, ℕ, List, [], ◌∷◌, get_or, refl, ap, subst, ◌∙◌}
use Rattle.dy_recipe.specs.Moves.{Move, Message, Cert, Forge, State, Lit, Name, Pair, Pk, Vk, Penc, Aead, Sign, Mac, Kdf, Hash, Fst, Snd, Pdec, Adec, Ad, Body}
use Rattle.dy_recipe.specs.Meaning.{move_of}
use Rattle.dy_recipe.specs.Trimming.{numbers_of}
use Rattle.dy_recipe.specs.MirrorTrimming.{Marks}
use Rattle.dy_recipe.proofs.Marking.{marks_three}
use Rattle.dy_recipe.proofs.trimming.mark_named.Goals as goal

-- the first three of a list
abbrev three : List ℕ → List ℕ
three xs = get_or xs 0 0 ∷ get_or xs 1 0 ∷ get_or xs 2 0 ∷ []

three_numbers : (move : Move) → three (numbers_of move) ≡ numbers_of move
three_numbers (Message a) = refl
three_numbers (Cert a) = refl
three_numbers (Forge a) = refl
three_numbers (State a b) = refl
three_numbers (Lit a) = refl
three_numbers (Name a) = refl
three_numbers (Pair a b) = refl
three_numbers (Pk a) = refl
three_numbers (Vk a) = refl
three_numbers (Penc a b) = refl
three_numbers (Aead a b c) = refl
three_numbers (Sign a b) = refl
three_numbers (Mac a b) = refl
three_numbers (Kdf a b c) = refl
three_numbers (Hash a) = refl
three_numbers (Fst a) = refl
three_numbers (Snd a) = refl
three_numbers (Pdec a b) = refl
three_numbers (Adec a b) = refl
three_numbers (Ad a) = refl
three_numbers (Body a) = refl

pub returns : goal.returns
returns c =
    let Marked : List ℕ → Type 0 = λ numbers. Marks c.args.marks.now.items c.mark-3.new.marks.items c.args.place numbers in
    subst Marked (ap three c.numbers_of.ensures ∙ three_numbers (move_of c.args.step.now)) (marks_three _ _ _ _ _ _ _ _ c.mark.ensures c.mark-2.ensures c.mark-3.ensures)
