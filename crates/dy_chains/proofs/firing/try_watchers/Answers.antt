use Rattle.std.proofs.Common.{ℕ, sym, subst}
use Rattle.std.specs.List.{All}
use Rattle.dy_chains.specs.Rules.{IsBelow}
use Rattle.dy_chains.specs.MirrorWatchers.{watcher_of}
use Rattle.dy_chains.proofs.Watching.{walk_begins, walk_goes_on_from, walk_ends_unless, next_within, fewer_left}
use Rattle.dy_chains.proofs.firing.try_watchers.Goals as goal

pub loop-next-init : goal.loop-next-init
loop-next-init c = walk_begins c.args.rules.now c.args.watchers.now c.args.fact c.args.log.now c.newest-next.result c.newest-next.ensures

pub at-watcher-requires : goal.at-watcher-requires
at-watcher-requires c =
    next_within c.args.rules.now c.args.watchers.now c.args.fact c.args.log.now c.loop-next.log c.in-Some.place c.loop-next.next c.loop-next.invariant c.in-Some.is

pub try_rule-requires : goal.try_rule-requires
try_rule-requires c = subst (λ (n : ℕ). All (IsBelow n) c.args.rules.now) (sym c.loop-next.invariant.gains.facts) c.requires

pub loop-next-preserved : goal.loop-next-preserved
loop-next-preserved c =
    walk_goes_on_from c.args.rules.now c.args.watchers.now c.args.fact c.args.log.now c.loop-next.log c.try_rule.new.log c.in-Some.place
    (watcher_of c.at-watcher.result) c.at-watcher.result.before c.loop-next.next c.in-Some.is c.loop-next.invariant
    c.at-watcher.ensures.stands c.at-watcher.ensures.before c.try_rule.ensures.gains c.try_rule.ensures.tried

pub loop-next-smaller : goal.loop-next-smaller
loop-next-smaller c =
    fewer_left c.args.watchers.now c.in-Some.place c.at-watcher.result.fact c.at-watcher.result.before c.loop-next.next c.in-Some.is c.at-watcher.ensures.before

pub returns-clause-tried : goal.returns-clause-tried
returns-clause-tried c =
    walk_ends_unless c.args.rules.now c.args.watchers.now c.args.fact c.args.log.now c.loop-next.log c.loop-next.next c.in_default.not-Some c.loop-next.invariant
