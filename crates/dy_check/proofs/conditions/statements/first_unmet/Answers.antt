use Rattle.dy_check.proofs.FirstUnmet.{found_here, found_later}
use Rattle.dy_check.proofs.conditions.statements.first_unmet.Goals as goal

pub returns-in-Some : goal.returns-in-Some
returns-in-Some c =
    let sent = rw c.in-Some.is at c.in_ok-unmet.ensures in
    found_here _ (found_here _ sent)

pub returns-in-Some-2 : goal.returns-in-Some-2
returns-in-Some-2 c =
    let sent = rw c.in_default.is at c.in_ok-unmet.ensures in
    let operation = rw (c.in-Some-2.is, c.as_slice.ensures, c.in_ok-operations.ensures) at c.in_ok-unmet-2.ensures in
    found_here _ (found_later sent operation)

pub returns : goal.returns
returns c =
    let sent = rw c.in_default.is at c.in_ok-unmet.ensures in
    let operation = rw (c.in_default-2.is, c.as_slice.ensures, c.in_ok-operations.ensures) at c.in_ok-unmet-2.ensures in
    found_later (found_later sent operation) c.in_ok-other.ensures
