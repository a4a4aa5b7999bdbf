use Rattle.std.proofs.Common.{◌≡◌, [], map, drop}
use Rattle.dy_recipe.specs.Meaning.{move_of}
use Rattle.dy_recipe.specs.MirrorTrimming as mirror
use Rattle.dy_recipe.proofs.trimming.kept_moves.Given as goal

-- what is kept of all moves is what was kept, and what is kept of those that were not passed
abbrev pub invariant-loop-place : goal.invariant-loop-place
invariant-loop-place l =
    mirror.kept_moves [] [] (map move_of l.moves) l.marks ≡ mirror.kept_moves l.numbers.items (map move_of l.kept) (map move_of (drop l.place l.moves)) (drop l.place l.marks)
