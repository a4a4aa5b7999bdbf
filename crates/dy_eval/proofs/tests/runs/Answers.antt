use Rattle.std.proofs.Common.{◌∙◌, ap, sym, Some}
use Rattle.dy_eval.specs.Meaning.{standing_of}
use Rattle.dy_eval.proofs.AskingAgain.{asked_once_put}
use Rattle.dy_eval.proofs.tests.runs.Goals as goal

pub next-requires-2-clause-asked : goal.next-requires-2-clause-asked
next-requires-2-clause-asked c =
    asked_once_put c.next.result _ (standing_of c.next.new.self) c.in-Put-Message.field-0 2
    c.next.ensures.emit c.next.ensures.stands (sym (ap Some c.in-Put-Message.is) ∙ c.in_ok-message.ensures.value)
