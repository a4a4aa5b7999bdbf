use Rattle.std.proofs.Common.{◌≡◌, ◌-◌, ◌+◌, ◌++◌, ◌≤◌, Option, ℕ, List, replicate, length, vec_len, None, ap, subst, sym, ◌∙◌, arith}
use Rattle.std.proofs.lemmas.List.{take_all}
use Rattle.dy_chains.specs.declared.logs.Step.{Step}
use Rattle.dy_chains.specs.MirrorLogs.{Log, HasPlaces}
use Rattle.dy_chains.proofs.Places.{places_of_facts}
use Rattle.dy_chains.proofs.logs.Log.grow.Goals as goal

pub invariant_of-self-2 : goal.invariant_of-self-2
invariant_of-self-2 c =
    let steps = c.self.inside.steps.items in
    let places = c.self.inside.places.items in
    let count = c.in-Some.count in
    let more = count - vec_len c.self.inside.places in
    let facts : c.facts.result ≡ length places = c.facts.ensures ∙ sym (ap (λ (l : Log). l.facts) c.self.view_is) in
    let count_is : count ≡ c.facts.result + c.args.facts = c.in-Some.ensures.1 in
    let within : length places ≤ count = omega (arith, facts, count_is) in
    let items : c.resize.new.self.items ≡ places ++ replicate more None =
    c.in_ok-resize.ensures.items ∙ ap (λ (all : List (Option ℕ)). all ++ replicate more None) (take_all count places within) in
    let long : length c.resize.new.self.items ≡ count = sym c.resize.new.self.ok.0 ∙ c.in_ok-resize.ensures.len in
    let room = c.in_ok-reserve.ensures.ok in
    let same = c.reserve.ensures.len in
    let used = c.len.ensures in (
      subst (λ (log : List Step). HasPlaces log c.resize.new.self.items) (sym c.reserve.ensures.items)
          (subst (HasPlaces steps) (sym items) (places_of_facts steps places more c.self.invariant.0)),
      omega (arith, long, room, same, used),
      omega (arith, long),
    )
