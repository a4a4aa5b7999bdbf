use Rattle.std.proofs.Common.{◌≡◌, ◌<◌, ◌∷◌, [], ◌++◌, Option, ℕ, List, length, vec_len, Some, None, ap, subst, sym, ◌∙◌, arith}
use Rattle.std.proofs.Math.ListN.{set, length-set}
use Rattle.dy_chains.specs.declared.logs.Step.{Step}
use Rattle.dy_chains.specs.Logs.{place_of}
use Rattle.dy_chains.specs.MirrorLogs.{Log, HasPlaces}
use Rattle.dy_chains.proofs.Places.{places_of_more, room_for}
use Rattle.dy_chains.proofs.logs.Log.push.Goals as goal

pub push_reserved-requires : goal.push_reserved-requires
push_reserved-requires c =
    let steps = c.self.inside.steps.items in
    let places = c.self.inside.places.items in
    let facts : c.args.self.now.facts ≡ length places = sym (ap (λ (l : Log). l.facts) c.self.view_is) in
    let asked = c.requires.below in
    let within : c.args.step.fact < length places = omega (arith, asked, facts) in
    let none : place_of steps c.args.step.fact ≡ None = ap (λ (l : Log). place_of l.steps c.args.step.fact) c.self.view_is ∙ c.requires.missing in
    let free : length steps < length places = room_for steps places c.args.step.fact within none c.self.invariant.0 in
    let room = c.self.invariant.1 in
    let filled : vec_len c.self.inside.steps ≡ length steps = c.self.inside.steps.ok.0 in
    omega (arith, free, room, filled)

pub invariant_of-self : goal.invariant_of-self
invariant_of-self c =
    let steps = c.self.inside.steps.items in
    let places = c.self.inside.places.items in
    let fact = c.args.step.fact in
    let facts : c.args.self.now.facts ≡ length places = sym (ap (λ (l : Log). l.facts) c.self.view_is) in
    let asked = c.requires.below in
    let within : fact < length places = omega (arith, asked, facts) in
    let none : place_of steps fact ≡ None = ap (λ (l : Log). place_of l.steps fact) c.self.view_is ∙ c.requires.missing in
    let place : c.len-place.result ≡ length steps = c.len-place.ensures.value ∙ sym (ap (λ (l : Log). length l.steps) c.self.view_is) in
    let long : length (set places fact (Some c.len-place.result)) ≡ length places = length-set {A = Option ℕ} places fact (Some c.len-place.result) in
    let room = c.self.invariant.1 in
    let few = c.self.invariant.2 in
    let same = c.push_reserved.ensures.capacity in (
      subst (λ (log : List Step). HasPlaces log (set places fact (Some c.len-place.result))) (sym c.push_reserved.ensures.items)
          (subst (λ (n : ℕ). HasPlaces (steps ++ c.args.step ∷ []) (set places fact (Some n))) (sym place) (places_of_more steps places c.args.step within none c.self.invariant.0)),
      omega (arith, long, room, same),
      omega (arith, long, few),
    )
