use Rattle.std.proofs.Common.{◌∙◌, ap, sym, ◌∷◌, [], ◌++◌}
use Rattle.dy_flat.specs.Views.{tree_of}
use Rattle.dy_eval.proofs.Drops.{map_take_next}
use Rattle.dy_eval.proofs.puts.copies.Goals as goal

pub loop-term-preserved : goal.loop-term-preserved
loop-term-preserved c =
    c.in_ok-push.ensures.ok
    ∙ ap (λ x. c.loop-term.made ++ x ∷ []) c.in_ok-copy_of.ensures
    ∙ ap (λ xs. xs ++ tree_of c.term-item.result ∷ []) c.loop-term.invariant
    ∙ sym (map_take_next tree_of c.args.terms.now c.loop-term.term-index c.term-item.result c.loop-term-test.true c.term-item.is)
