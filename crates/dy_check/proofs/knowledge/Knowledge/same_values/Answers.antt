use Rattle.std.proofs.lemmas.Bool.{ne_eqb}
use Rattle.dy_types.specs.Claims.{identify_with}
use Rattle.dy_typing.specs.Knowledge.{known_at, unite}
use Rattle.dy_check.proofs.knowledge.Knowledge.same_values.Goals as goal

pub returns : goal.returns
returns c = λ k h.
    let value = c.args.value in
    let other = c.args.other in
    let one = identify_with (known_at k value) (known_at k other) in
    let identified = c.in_ok-identify.ensures (known_at k value) (known_at k other) (c.in_ok-first.ensures k h) (c.in_ok-second.ensures k h) in
    let after = c.set_value.ensures (unite k value other) one (c.in_ok-unite.ensures k h) identified in
    rw (ne_eqb value other c.if-value-other.false) (rw c.min.ensures at after)
