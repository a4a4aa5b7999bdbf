use Rattle.std.proofs.Common.{◌≤◌, Option, ℕ, List, None, length, subst}
use Rattle.std.proofs.lemmas.List.{get_or_past}
use Rattle.dy_chains.specs.MirrorWatchers.{Watcher, IsLastBefore}
use Rattle.dy_chains.proofs.Watching.{newest_is}
use Rattle.dy_chains.proofs.watchers.Watchers.newest.Goals as goal

pub returns-in-None : goal.returns-in-None
returns-in-None c =
    subst (λ (watchers : List Watcher). IsLastBefore watchers (length watchers) c.args.fact None) c.self.view_is
    (newest_is c.self.inside.watchers.items c.self.inside.newest.items c.args.fact None c.self.invariant
    (get_or_past c.self.inside.newest.items c.args.fact None
    (subst (λ (newest : List (Option ℕ)). length newest ≤ c.args.fact) c.deref.ensures.value c.in-None.ensures.lookup.3)))
