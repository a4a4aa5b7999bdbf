use Rattle.std.proofs.Common.{subst}
use Rattle.dy_term.specs.Terms.{Term}
use Rattle.dy_flat.specs.Views.{tree_of}
use Rattle.dy_derive.specs.Facts.{Derived}
use Rattle.dy_derive.specs.Nodes.{IsTermAt}
use Rattle.dy_derive.specs.MirrorKnowledge.{Grows}
use Rattle.dy_derive.proofs.GivenFacts.{outright_gives}
use Rattle.dy_derive.proofs.Refusals.{on_err}
use Rattle.dy_derive.proofs.StepsInterned.{grows_any}
use Rattle.dy_derive.proofs.deductions.Deductions.given_value.Goals as goal

pub returns-clause-ok : goal.returns-clause-ok
returns-clause-ok c =
    let number = c.in_ok-number.number in
    outright_gives c.outright.result c.args.self.now c.intern_term.new.self number (Derived c.args.value.now) c.args.reason c.outright.ensures.rules
    c.outright.ensures.reasons
    (subst (λ (t : Term). Grows c.args.self.now c.intern_term.new.self (λ facts. IsTermAt facts number t)) c.whole.ensures c.in_ok-number.ensures.ok)

pub returns-clause-err : goal.returns-clause-err
returns-clause-err c =
    on_err c.outright.result _
    (grows_any c.args.self.now c.intern_term.new.self (λ facts. IsTermAt facts c.in_ok-number.number (tree_of c.whole.result)) c.in_ok-number.ensures.ok)
