use Rattle.dy_chains.proofs.Watching.{extends_then, watched_none, watched_next_item, watched_all}
use Rattle.dy_chains.proofs.watchers.Watchers.add_rules.Goals as goal

pub loop-place-init : goal.loop-place-init
loop-place-init c = watched_none c.args.first c.args.self.now c.args.rules.now

pub loop-place-preserved : goal.loop-place-preserved
loop-place-preserved c =
    watched_next_item c.loop-place.place c.args.first c.args.self.now c.loop-place.self c.add_rule.new.self c.args.rules.now _ c.loop-place-test.true
    c.loop-place.invariant c.in_ok-add_rule.ensures.extends c.in_ok-add_rule.ensures.ok

pub returns-in_err-add_rule-clause-extends : goal.returns-in_err-add_rule-clause-extends
returns-in_err-add_rule-clause-extends c =
    extends_then c.args.self.now c.loop-place.self c.add_rule.new.self c.loop-place.invariant.extends c.add_rule.ensures.extends

pub returns-clause-ok : goal.returns-clause-ok
returns-clause-ok c = watched_all c.loop-place.place c.args.first c.args.self.now c.loop-place.self c.args.rules.now c.loop-place-test.false c.loop-place.invariant
