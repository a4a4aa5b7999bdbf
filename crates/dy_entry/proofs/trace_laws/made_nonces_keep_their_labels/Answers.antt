use Rattle.dy_entry.proofs.MadeNonces.{nonce_keeps_label, value_keeps_label, nonces_are_made_still}
use Rattle.dy_entry.proofs.trace_laws.made_nonces_keep_their_labels.Goals as goal

pub returns-clause-nonce : goal.returns-clause-nonce
returns-clause-nonce c = nonce_keeps_label

pub returns-clause-value : goal.returns-clause-value
returns-clause-value c = value_keeps_label

pub returns-clause-still_made : goal.returns-clause-still_made
returns-clause-still_made c = nonces_are_made_still
