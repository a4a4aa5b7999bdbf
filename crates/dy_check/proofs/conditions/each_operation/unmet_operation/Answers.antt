use Rattle.dy_check.proofs.FirstUnmet.{found_here, found_later}
use Rattle.dy_check.proofs.conditions.each_operation.unmet_operation.Goals as goal

pub returns-in-Some : goal.returns-in-Some
returns-in-Some c =
    let keys = rw c.in-Some.is at c.in_ok-unmet.ensures in
    found_here _ (found_here _ (found_here _ keys))

pub returns-in-Some-2 : goal.returns-in-Some-2
returns-in-Some-2 c =
    let keys = rw c.in_default.is at c.in_ok-unmet.ensures in
    let readers = rw c.in-Some-2.is at c.in_ok-unmet-2.ensures in
    found_here _ (found_here _ (found_later keys readers))

pub returns-in-Some-3 : goal.returns-in-Some-3
returns-in-Some-3 c =
    let keys = rw c.in_default.is at c.in_ok-unmet.ensures in
    let readers = rw c.in_default-2.is at c.in_ok-unmet-2.ensures in
    let fields = rw c.in-Some-3.is at c.in_ok-unmet-3.ensures in
    found_here _ (found_later (found_later keys readers) fields)

pub returns : goal.returns
returns c =
    let keys = rw c.in_default.is at c.in_ok-unmet.ensures in
    let readers = rw c.in_default-2.is at c.in_ok-unmet-2.ensures in
    let fields = rw c.in_default-3.is at c.in_ok-unmet-3.ensures in
    found_later (found_later (found_later keys readers) fields) c.in_ok-events.ensures
