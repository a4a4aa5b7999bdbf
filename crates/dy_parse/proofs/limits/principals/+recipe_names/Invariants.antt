use Rattle.std.proofs.Common.{◌≡◌, map, drop}
use Rattle.std.specs.List.{flat_map}
use Rattle.dy_syntax.specs.Meaning.{recipe_of}
use Rattle.dy_parse.specs.Limits.{named_in}
use Rattle.dy_parse.specs.Mirrors.Limits.{meet_all, met_of}
use Rattle.dy_parse.proofs.limits.principals.+recipe_names.Given as goal

-- those so far are met
abbrev pub invariant-meet_recipes-loop-recipe : goal.invariant-meet_recipes-loop-recipe
invariant-meet_recipes-loop-recipe l =
    meet_all (flat_map named_in (map recipe_of (drop l.recipe-index l.recipe-items))) (met_of l.met)
    ≡ meet_all (flat_map named_in (map recipe_of l.recipe-items)) (met_of l.initial.met)
