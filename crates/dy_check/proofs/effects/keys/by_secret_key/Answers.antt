use Rattle.std.proofs.Common.{map}
use Rattle.dy_syntax.specs.Names.{Named}
use Rattle.dy_syntax.specs.Meaning.{id_of, pattern_of}
use Rattle.dy_typing.specs.Knowledge.{known_of}
use Rattle.dy_typing.specs.Effects.{guard_of_compared}
use Rattle.dy_check.proofs.LabelTables.{HasTable-Meet}
use Rattle.dy_check.proofs.effects.keys.by_secret_key.Goals as goal

pub returns : goal.returns
returns c = λ k h.
    let key = known_of k (Named (id_of c.args.key.now)) in
    let others = guard_of_compared k (map pattern_of c.args.pats.now) in
    let has = c.in_ok-key.ensures k h in
    c.opening_by.ensures _ _ has.hi
    (HasTable-Meet key.lo others c.in_ok-key.key.lo c.in_ok-guard.guard c.meet-guard.result has.lo (c.in_ok-guard.ensures k h)
    (c.meet-guard.ensures.labels key.lo others))
