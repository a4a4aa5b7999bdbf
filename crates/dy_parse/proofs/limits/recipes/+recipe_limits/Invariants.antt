use Rattle.std.proofs.Common.{◌≡◌, map, drop}
use Rattle.std.specs.List.{flat_map}
use Rattle.dy_syntax.specs.Meaning.{recipe_of}
use Rattle.dy_parse.specs.Limits.{recipe_within}
use Rattle.dy_parse.specs.Mirrors.Limits.{first_of, note_all}
use Rattle.dy_parse.proofs.limits.recipes.+recipe_limits.Given as goal

-- those so far are noted
abbrev pub invariant-note_row-loop-recipe : goal.invariant-note_row-loop-recipe
invariant-note_row-loop-recipe l =
    note_all (flat_map (recipe_within l.room) (map recipe_of (drop l.recipe-index l.recipes))) (first_of l.first)
    ≡ note_all (flat_map (recipe_within l.room) (map recipe_of l.recipes)) (first_of l.initial.first)
