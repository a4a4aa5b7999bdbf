-- Each statement, and the `on` part, keeps what is known.
use Rattle.dy_sound.specs.LawsBelow.{LawsBelow}
use Rattle.dy_sound.specs.StatementsAreSound.{StatementsAreSound}
use Rattle.dy_sound.proofs.Tuples.{SameAreEqual}
use Rattle.dy_sound.proofs.NewStatement.{new_is_sound}
use Rattle.dy_sound.proofs.LetStatement.{let_is_sound}
use Rattle.dy_sound.proofs.EventStatement.{event_is_sound}
use Rattle.dy_sound.proofs.SendStatement.{send_is_sound}
use Rattle.dy_sound.proofs.StoreStatement.{store_is_sound}
use Rattle.dy_sound.proofs.CertifyStatement.{certify_is_sound}
use Rattle.dy_sound.proofs.FindStatement.{find_is_sound}
use Rattle.dy_sound.proofs.RecallStatement.{recall_is_sound}
use Rattle.dy_sound.proofs.OpeningStatements.{split_is_sound, open_is_sound, popen_is_sound, verify_is_sound}
use Rattle.dy_sound.proofs.CheckStatement.{check_is_sound}
use Rattle.dy_sound.proofs.SameStatement.{same_is_sound}
use Rattle.dy_sound.proofs.OnStatement.{on_is_sound}

pub statements_are_sound : LawsBelow → SameAreEqual → StatementsAreSound
statements_are_sound below equal = record {
  of_let = let_is_sound below;
  of_find = find_is_sound below;
  of_use = recall_is_sound equal;
  of_split = split_is_sound below equal;
  of_open = open_is_sound below equal;
  of_popen = popen_is_sound below equal;
  of_verify = verify_is_sound below equal;
  of_check = check_is_sound below equal;
  of_same = same_is_sound equal;
  of_new = new_is_sound below;
  of_event = event_is_sound below;
  of_send = send_is_sound below;
  of_store = store_is_sound below;
  of_certify = certify_is_sound below;
  of_on = on_is_sound equal;
}
