use Rattle.std.proofs.Common.{sym, ◌∙◌, arith}
use Rattle.dy_syntax.specs.Meaning.{recipe_of}
use Rattle.dy_show.specs.Canonical.{recipe, right_paren}
use Rattle.dy_show.proofs.Rows.{parts_listed}
use Rattle.dy_show.proofs.Writing.{listed_more, listed_done}
use Rattle.dy_show.proofs.recipes.+recipe.Goals as goal

pub parts-loop-part-preserved : goal.parts-loop-part-preserved
parts-loop-part-preserved t c =
    rw (c.in_ok-recipe.ensures, c.in_ok-separate.ensures)
    (sym (listed_more right_paren recipe recipe_of c.loop-part.is_first c.deref-part-items.result.now c.loop-part.part-index c.part-item.result c.loop-part.page (omega arith) c.part-item.is)
    ∙ c.loop-part.invariant)

pub parts-returns : goal.parts-returns
parts-returns t c =
    rw (c.in_ok-mark.ensures, parts_listed c.args.args.now, ← c.deref-part-items.ensures.value)
    (listed_done right_paren recipe recipe_of c.loop-part.is_first c.deref-part-items.result.now c.loop-part.part-index c.loop-part.page _ (omega arith) c.loop-part.invariant)
