use Rattle.std.proofs.Common.{◌≡◌, ◌∷◌, [], ◌++◌, List, ℕ, Some, None, length, sym, subst, ◌∙◌}
use Rattle.std.proofs.Math.ListN.{set}
use Rattle.dy_chains.specs.declared.watchers.Watcher.{Watcher}
use Rattle.dy_chains.specs.MirrorWatchers.{AreLinked}
use Rattle.dy_chains.proofs.Watching.{linked_still, linked_more, at_default}
use Rattle.dy_chains.proofs.watchers.Watchers.add.Goals as goal

pub invariant_of-self : goal.invariant_of-self
invariant_of-self c =
    subst (AreLinked c.self.inside.watchers.items) (sym c.make_place.ensures.none.1)
    (linked_still c.self.inside.watchers.items c.self.inside.newest.items c.make_place.ensures.none.0 c.self.invariant)

pub invariant_of-self-in_err-push : goal.invariant_of-self-in_err-push
invariant_of-self-in_err-push c =
    subst (λ (watchers : List Watcher). AreLinked watchers c.make_place.new.newest.items) (sym c.in_err-push.ensures.items)
    (subst (AreLinked c.self.inside.watchers.items) (sym c.make_place.ensures.none.1)
    (linked_still c.self.inside.watchers.items c.self.inside.newest.items c.make_place.ensures.none.0 c.self.invariant))

pub invariant_of-self-2 : goal.invariant_of-self-2
invariant_of-self-2 c =
    let watchers = c.self.inside.watchers.items in
    let newest = c.make_place.new.newest.items in
    let added : Watcher = record { fact = c.args.fact; rule = c.args.rule; before = c.index-before.result.now } in
    let linked : AreLinked watchers newest =
    subst (AreLinked watchers) (sym c.make_place.ensures.none.1) (linked_still watchers c.self.inside.newest.items c.make_place.ensures.none.0 c.self.invariant) in
    let place : c.in_ok-place.place ≡ length watchers = c.in_ok-place.ensures ∙ c.len.ensures ∙ c.self.inside.watchers.ok.0 in
    let within = c.in_ok-make_place.ensures.place in
    subst (λ (all : List Watcher). AreLinked all (set newest c.args.fact (Some c.in_ok-place.place))) (sym c.in_ok-push.ensures.items)
    (subst (λ (n : ℕ). AreLinked (watchers ++ added ∷ []) (set newest c.args.fact (Some n))) (sym place)
    (linked_more watchers newest added linked within (at_default newest c.args.fact c.index-before.result.now None within c.index-before.ensures)))
