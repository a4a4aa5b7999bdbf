use Rattle.std.proofs.Common.{ℕ, sym, subst, arith}
use Rattle.std.specs.List.{All}
use Rattle.dy_chains.specs.Rules.{IsBelow}
use Rattle.dy_chains.proofs.LoggedFacts.{closed_complete}
use Rattle.dy_chains.proofs.Watching.{done_none, done_more}
use Rattle.dy_chains.proofs.firing.saturate.Goals as goal

pub loop-done-init : goal.loop-done-init
loop-done-init c = done_none c.args.rules.now c.args.log.now c.args.done c.requires.within c.requires.closed

pub try_watchers-requires : goal.try_watchers-requires
try_watchers-requires c = subst (λ (n : ℕ). All (IsBelow n) c.args.rules.now) (sym c.loop-done.invariant.gains.facts) c.requires.below

pub loop-done-preserved : goal.loop-done-preserved
loop-done-preserved c =
    done_more c.args.rules.now c.args.watchers.now c.args.log.now c.loop-done.log c.try_watchers.new.log c.loop-done.done c.fact_at.result
    c.requires.watched c.loop-done.invariant (omega arith) c.fact_at.ensures c.try_watchers.ensures.gains c.try_watchers.ensures.tried

pub loop-done-smaller : goal.loop-done-smaller
loop-done-smaller c = let same = c.try_watchers.ensures.gains.facts in omega (arith, same)

pub returns-clause-complete : goal.returns-clause-complete
returns-clause-complete c = closed_complete c.args.rules.now c.loop-done.log.steps c.loop-done.done (omega arith) c.loop-done.invariant.closed
