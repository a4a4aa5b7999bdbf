use Rattle.dy_types.specs.Meaning.{use_of}
use Rattle.dy_types.proofs.knowns.Known.has_use.Goals as goal

pub returns : goal.returns
returns c = λ known h.
    let uses = h.claims.uses (use_of c.args.usage.now) in
    let found = rw c.as_slice.ensures at c.has_use.ensures in
    (λ p. uses.1 (found.0 p), λ p. found.1 (uses.0 p))
