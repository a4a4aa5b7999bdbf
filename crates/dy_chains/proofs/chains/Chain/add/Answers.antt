use Rattle.std.proofs.Common.{◌≡◌, ◌+◌, ◌++◌, List, ℕ, length, ap, sym, subst, ◌∙◌, arith, length-append}
use Rattle.std.specs.List.{All}
use Rattle.dy_chains.specs.declared.rules.Rule.{Rule}
use Rattle.dy_chains.specs.Rules.{IsBelow}
use Rattle.dy_chains.specs.Logs.{IsComplete}
use Rattle.dy_chains.specs.Chains.{Chain}
use Rattle.dy_chains.specs.MirrorLogs.{Log, Gains}
use Rattle.dy_chains.specs.MirrorWatchers.{AreWatchedFrom}
use Rattle.dy_chains.specs.MirrorChains.{HoldsChain}
use Rattle.dy_chains.proofs.GrownChains.{chain_grown, with_facts}
use Rattle.dy_chains.proofs.chains.Chain.add.Goals as goal

pub invariant_of-self-2 : goal.invariant_of-self-2
invariant_of-self-2 c =
    let log = c.self.inside.log in
    let rules = c.self.inside.rules.items in
    let added = c.args.rules.now in
    let new = c.fire_from.new.log in
    let watchers = c.add_rules.new.self in
    let rules_are : c.extend_within.new.rules.items ≡ rules ++ added =
    c.extend_within.ensures ∙ ap (λ (all : List Rule). all ++ added) c.make_room.ensures.items in
    let all_are : c.deref.result.now ≡ rules ++ added = c.deref.ensures.value ∙ rules_are in
    let below : All (IsBelow (log.facts + c.args.facts)) added =
    subst (λ (chain : Chain). All (IsBelow (chain.facts + c.args.facts)) added) (sym c.self.view_is) c.requires in
    let gains : Gains (rules ++ added) (with_facts c.args.facts rules added log new below) new =
    subst (λ (all : List Rule). Gains all (with_facts c.args.facts rules added log new below) new) all_are
    (subst (λ (l : Log). Gains c.deref.result.now l new) c.in_ok-grow.ensures.ok c.fire_from.ensures.gains) in
    let complete : IsComplete (rules ++ added) new.steps = subst (λ (all : List Rule). IsComplete all new.steps) all_are c.fire_from.ensures.complete in
    let from : AreWatchedFrom (length rules) watchers added =
    subst (λ (n : ℕ). AreWatchedFrom n watchers added) (c.len-first.ensures ∙ c.self.inside.rules.ok.0) c.in_ok-add_rules.ensures.ok in
    let room = c.in_ok-make_room.ensures.few in
    let long : length (rules ++ added) ≡ length rules + length added = length-append rules added in
    subst (λ (all : List Rule). HoldsChain new all watchers) (sym rules_are)
    (chain_grown c.args.facts rules added log new below c.self.inside.watchers watchers c.self.invariant c.add_rules.ensures.extends from
    (omega (arith, room, long)) gains complete)
