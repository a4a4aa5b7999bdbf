use Rattle.std.proofs.Common.{ℕ, sym, subst, arith}
use Rattle.std.specs.List.{All}
use Rattle.dy_chains.specs.Rules.{IsBelow}
use Rattle.dy_chains.specs.MirrorLogs.{IsClosed}
use Rattle.dy_chains.proofs.LoggedFacts.{gains_then, gains_length}
use Rattle.dy_chains.proofs.GrownChains.{closed_again}
use Rattle.dy_chains.proofs.firing.fire_from.Goals as goal

pub saturate-requires-clause-below : goal.saturate-requires-clause-below
saturate-requires-clause-below c = subst (λ (n : ℕ). All (IsBelow n) c.args.rules.now) (sym c.try_from.ensures.gains.facts) c.requires.below

pub saturate-requires-clause-within : goal.saturate-requires-clause-within
saturate-requires-clause-within c =
    let longer = gains_length c.args.rules.now c.args.log.now c.try_from.new.log c.try_from.ensures.gains in
    let done = c.len-done.ensures.value in
    omega (arith, longer, done)

pub saturate-requires-clause-closed : goal.saturate-requires-clause-closed
saturate-requires-clause-closed c =
    subst (IsClosed c.args.rules.now c.try_from.new.log.steps) (sym c.len-done.ensures.value)
    (closed_again c.args.rules.now c.args.log.now c.try_from.new.log c.args.first c.try_from.ensures.gains c.requires.tried c.try_from.ensures.tried)

pub returns-clause-gains : goal.returns-clause-gains
returns-clause-gains c = gains_then c.args.rules.now c.args.log.now c.try_from.new.log c.saturate.new.log c.try_from.ensures.gains c.saturate.ensures.gains
