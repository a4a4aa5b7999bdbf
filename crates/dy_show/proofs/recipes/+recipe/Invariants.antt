use Rattle.std.proofs.Common.{◌≡◌, map, drop}
use Rattle.dy_syntax.specs.Meaning.{recipe_of}
use Rattle.dy_show.specs.Canonical.{recipe, comma_list, right_paren}
use Rattle.dy_show.specs.MirrorPages.{put_all, rest_of}
use Rattle.dy_show.proofs.recipes.+recipe.Given as goal

-- the parts that are left, written on what there is, give all
abbrev pub invariant-parts-loop-part : goal.invariant-parts-loop-part
invariant-parts-loop-part l =
    put_all l.page (rest_of l.is_first right_paren recipe (map recipe_of (drop l.part-index l.part-items)))
    ≡ put_all l.initial.page (comma_list right_paren recipe (map recipe_of l.part-items))
