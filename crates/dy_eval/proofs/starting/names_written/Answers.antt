use Rattle.std.proofs.Common.{◌∙◌, ap, sym, ◌++◌, arith}
use Rattle.std.proofs.lemmas.List.{append-nil}
use Rattle.dy_syntax.specs.Meaning.{id_of}
use Rattle.dy_eval.proofs.Drops.{names_end}
use Rattle.dy_eval.proofs.starting.names_written.Goals as goal

pub returns : goal.returns
returns c =
    let ended = names_end id_of c.args.args.now c.args.names.now c.loop-at.at (omega (arith, c.min-count.ensures, c.loop-at-test.false)) in
    sym (append-nil c.loop-at.made.items) ∙ sym (ap (λ more. c.loop-at.made.items ++ more) ended) ∙ c.loop-at.invariant
