use Rattle.dy_sound.proofs.NewStatement.{new_is_sound}
use Rattle.dy_sound.proofs.LetStatement.{let_is_sound}
use Rattle.dy_sound.proofs.SendStatement.{send_is_sound}
use Rattle.dy_sound.proofs.EventStatement.{event_is_sound}
use Rattle.dy_sound.proofs.StoreStatement.{store_is_sound}
use Rattle.dy_sound.proofs.CertifyStatement.{certify_is_sound}
use Rattle.dy_sound.proofs.FindStatement.{find_is_sound}
use Rattle.dy_sound.proofs.RecallStatement.{recall_is_sound}
use Rattle.dy_sound.proofs.SameStatement.{same_is_sound}
use Rattle.dy_sound.proofs.OnStatement.{on_is_sound}
use Rattle.dy_sound.proofs.laws_of_statements.statements_keep_what_is_known.Goals as goal

pub returns-clause-new : goal.returns-clause-new
returns-clause-new c = new_is_sound c.laws_below.ensures

pub returns-clause-let_ : goal.returns-clause-let_
returns-clause-let_ c = let_is_sound c.laws_below.ensures

pub returns-clause-event : goal.returns-clause-event
returns-clause-event c = event_is_sound c.laws_below.ensures

pub returns-clause-send : goal.returns-clause-send
returns-clause-send c = send_is_sound c.laws_below.ensures

pub returns-clause-store : goal.returns-clause-store
returns-clause-store c = store_is_sound c.laws_below.ensures

pub returns-clause-certify : goal.returns-clause-certify
returns-clause-certify c = certify_is_sound c.laws_below.ensures

pub returns-clause-find : goal.returns-clause-find
returns-clause-find c = find_is_sound c.laws_below.ensures

pub returns-clause-recall : goal.returns-clause-recall
returns-clause-recall c = recall_is_sound c.sameness_is_equality.ensures.equal

pub returns-clause-same : goal.returns-clause-same
returns-clause-same c = same_is_sound c.sameness_is_equality.ensures.equal

pub returns-clause-on : goal.returns-clause-on
returns-clause-on c = on_is_sound c.sameness_is_equality.ensures.equal
