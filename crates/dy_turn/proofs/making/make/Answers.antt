use Rattle.std.proofs.Common.{rules, ap, sym, ◌∙◌, arith, ◌∷◌, [], ◌≡◌, length}
use Rattle.std.specs.Prelude.{Some}
use Rattle.dy_turn.specs.declared.known.Origin.{Origin}
use Rattle.dy_turn.proofs.MakingKept.{begins}
use Rattle.dy_turn.proofs.making.make.Goals as goal

pub new-requires : goal.new-requires
new-requires g c =
    let origin : Origin g.row.T.Denot = record { first = c.of.result; start = c.count-start.result; seats = c.args.seats } in
    let first : c.of.result.value ≡ c.args.value = search rules in
    let slots : c.in_ok-slots.slots.items ≡ Some origin.first.value ∷ [] = c.in_ok-slots.ensures ∙ ap (λ (v : g.row.T.Denot). Some v ∷ []) (sym first) in
    let start : origin.start ≡ length (g.T.Counted.history origin.first.value) = c.count-start.ensures ∙ ap (λ v. length (g.T.Counted.history v)) (sym first) in
    rw slots (begins g.T.Counted.history g.T.Counted.same_base origin start (omega arith) (omega arith) (g.met.T.Counted.same_base_as_itself origin.first.value))
