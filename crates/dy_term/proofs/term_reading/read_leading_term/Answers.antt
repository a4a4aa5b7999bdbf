use Rattle.std.proofs.Common.{◌≡◌, get_or, Some, None, false, option_map, sym, ap, ◌∙◌, arith}
use Rattle.dy_term.specs.MirrorSteps.{step, ends_before}
use Rattle.dy_term.specs.MirrorReader.{state_of}
use Rattle.dy_term.proofs.ReadTerms.{run_more}
use Rattle.dy_term.proofs.TermEnds.{stops_before, stops_at_end, bad_here}
use Rattle.dy_term.proofs.term_reading.read_leading_term.Goals as goal

pub returns-then-ends_before-clause-term : goal.returns-then-ends_before-clause-term
returns-then-ends_before-clause-term c =
    c.answer.ensures.term c.args.bytes.now (stops_before 1024 c.args.bytes.now c.loop-at.at (state_of c.loop-at.reader) c.loop-at-test.true c.loop-at.invariant.1 (sym c.ends_before.ensures ∙ c.if-ends_before.true))

pub returns-then-ends_before-clause-small : goal.returns-then-ends_before-clause-small
returns-then-ends_before-clause-small c =
    c.answer.ensures.small c.args.bytes.now (stops_before 1024 c.args.bytes.now c.loop-at.at (state_of c.loop-at.reader) c.loop-at-test.true c.loop-at.invariant.1 (sym c.ends_before.ensures ∙ c.if-ends_before.true))

pub returns-then-ends_before-clause-bad : goal.returns-then-ends_before-clause-bad
returns-then-ends_before-clause-bad c =
    c.answer.ensures.bad c.args.bytes.now (stops_before 1024 c.args.bytes.now c.loop-at.at (state_of c.loop-at.reader) c.loop-at-test.true c.loop-at.invariant.1 (sym c.ends_before.ensures ∙ c.if-ends_before.true))

pub returns-then-ends_before-clause-large : goal.returns-then-ends_before-clause-large
returns-then-ends_before-clause-large c =
    c.answer.ensures.large c.args.bytes.now (stops_before 1024 c.args.bytes.now c.loop-at.at (state_of c.loop-at.reader) c.loop-at-test.true c.loop-at.invariant.1 (sym c.ends_before.ensures ∙ c.if-ends_before.true))

pub returns-in_default-clause-bad : goal.returns-in_default-clause-bad
returns-in_default-clause-bad c = λ at bad.
    let bytes = c.args.bytes.now in
    let dead : step 1024 (state_of c.loop-at.reader) (get_or bytes c.loop-at.at 0) ≡ None = sym c.in_ok-next.ensures.next ∙ ap (option_map state_of) c.in_default.is in
    let goes : ends_before (state_of c.loop-at.reader) (get_or bytes c.loop-at.at 0) ≡ false = sym c.ends_before.ensures ∙ c.if-ends_before.false in
    let same : c.loop-at.at ≡ at = cc in
    rw (← same) (bad_here 1024 bytes c.loop-at.at (state_of c.loop-at.reader) c.loop-at-test.true c.loop-at.invariant.1 goes dead)

pub loop-at-preserved : goal.loop-at-preserved
loop-at-preserved c =
    let bytes = c.args.bytes.now in
    let ensures = c.in_ok-next.ensures in
    let next : step 1024 (state_of c.loop-at.reader) (get_or bytes c.loop-at.at 0) ≡ Some (state_of c.in-Some.next) = sym ensures.next ∙ ap (option_map state_of) c.in-Some.is in
    let grows = rw c.in-Some.is at ensures.nodes in
    (omega (arith, grows, c.loop-at.invariant.0), run_more 1024 bytes c.loop-at.at (state_of c.loop-at.reader) (state_of c.in-Some.next) c.loop-at-test.true c.loop-at.invariant.1 next)

pub returns-clause-term : goal.returns-clause-term
returns-clause-term c = c.answer-2.ensures.term c.args.bytes.now (stops_at_end 1024 c.args.bytes.now c.loop-at.at (state_of c.loop-at.reader) c.loop-at-test.false c.loop-at.invariant.1)

pub returns-clause-small : goal.returns-clause-small
returns-clause-small c = c.answer-2.ensures.small c.args.bytes.now (stops_at_end 1024 c.args.bytes.now c.loop-at.at (state_of c.loop-at.reader) c.loop-at-test.false c.loop-at.invariant.1)

pub returns-clause-bad : goal.returns-clause-bad
returns-clause-bad c = c.answer-2.ensures.bad c.args.bytes.now (stops_at_end 1024 c.args.bytes.now c.loop-at.at (state_of c.loop-at.reader) c.loop-at-test.false c.loop-at.invariant.1)

pub returns-clause-large : goal.returns-clause-large
returns-clause-large c = c.answer-2.ensures.large c.args.bytes.now (stops_at_end 1024 c.args.bytes.now c.loop-at.at (state_of c.loop-at.reader) c.loop-at-test.false c.loop-at.invariant.1)
