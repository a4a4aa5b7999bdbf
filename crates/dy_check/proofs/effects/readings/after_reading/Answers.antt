use Rattle.std.proofs.lemmas.Result.{on_ok_weaker}
use Rattle.dy_syntax.specs.Meaning.{id_of, expr_of}
use Rattle.dy_check.proofs.effects.readings.after_reading.Goals as goal

pub returns-in-Check : goal.returns-in-Check
returns-in-Check c = on_ok_weaker c.check_case.result (λ h k t.
    rw c.in-Check.is (rw c.as_slice.ensures at (h k t))) c.check_case.ensures

pub returns-in-Opened : goal.returns-in-Opened
returns-in-Opened c = on_ok_weaker c.after_open.result (λ h k t.
    rw c.in-Opened.is (rw c.as_slice-in-Opened.ensures at (h k (id_of c.in-Opened.value) (expr_of c.in-Opened.ad) t))) c.after_open.ensures

pub returns-in-Popened : goal.returns-in-Popened
returns-in-Popened c = on_ok_weaker c.after_popen.result (λ h k t.
    rw c.in-Popened.is (rw c.as_slice-in-Popened.ensures at (h k (id_of c.in-Popened.value) t))) c.after_popen.ensures

pub returns-in-Verify : goal.returns-in-Verify
returns-in-Verify c = on_ok_weaker c.after_verify.result (λ h k t.
    rw c.in-Verify.is (rw c.as_slice-in-Verify.ensures at (h k t))) c.after_verify.ensures
