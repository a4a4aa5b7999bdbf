use Rattle.std.proofs.Common.{◌≡◌, Err, ap}
use Rattle.dy_term.proofs.TermEnds.{bad_after}
use Rattle.dy_term.specs.Meaning.{tree_of}
use Rattle.dy_term.proofs.term_reading.read_term.Goals as goal

pub returns-in-Ok-2-clause-bad : goal.returns-in-Ok-2-clause-bad
returns-in-Ok-2-clause-bad c = λ at bad.
    let same : c.in-Ok.field-0.end ≡ at = cc in
    rw (← same) (bad_after c.args.bytes.now (tree_of c.in-Ok.field-0.term) c.in-Ok.field-0.end (λ all. absurd (c.if-end-bytes.false all)) c.in-Ok.ensures.term)

pub returns-in-Err-TooLarge-2-clause-bad : goal.returns-in-Err-TooLarge-2-clause-bad
returns-in-Err-TooLarge-2-clause-bad c = λ at bad.
    let same : c.in-Err-TooLarge.end ≡ at = cc in
    let large = c.in-Err-TooLarge.ensures.large c.in-Err-TooLarge.nodes c.in-Err-TooLarge.end (ap Err c.in-Err-TooLarge.field-0-is) in
    rw (← same) (bad_after c.args.bytes.now large.0 c.in-Err-TooLarge.end (λ all. absurd (c.if-end-bytes-2.false all)) large.1)
