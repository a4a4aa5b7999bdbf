use Rattle.std.proofs.Common.{ℕ, sym, subst}
use Rattle.std.specs.List.{All}
use Rattle.dy_chains.specs.Rules.{IsBelow}
use Rattle.dy_chains.proofs.GrownChains.{tried_none, tried_more, tried_all}
use Rattle.dy_chains.proofs.firing.try_from.Goals as goal

pub try_rule-requires : goal.try_rule-requires
try_rule-requires c = subst (λ (n : ℕ). All (IsBelow n) c.args.rules.now) (sym c.loop-number.invariant.gains.facts) c.requires.below

pub loop-number-init : goal.loop-number-init
loop-number-init c = tried_none c.args.rules.now c.args.log.now c.args.first

pub loop-number-preserved : goal.loop-number-preserved
loop-number-preserved c =
    tried_more c.args.rules.now c.args.log.now c.loop-number.log c.try_rule.new.log c.args.first c.loop-number.number c.loop-number.auto.number
    c.loop-number.invariant c.try_rule.ensures.gains c.try_rule.ensures.tried

pub returns-clause-tried : goal.returns-clause-tried
returns-clause-tried c =
    tried_all c.args.rules.now c.args.log.now c.loop-number.log c.args.first c.loop-number.number c.loop-number-test.false c.loop-number.invariant
