use Rattle.std.proofs.Common.{take}
use Rattle.dy_types.specs.Meaning.{use_of, claims_of}
use Rattle.dy_types.specs.MirrorMeets.{key_labels, MeetIn}
use Rattle.dy_types.proofs.claims.key_table.Given as goal

abbrev pub invariant-loop-claim : goal.invariant-loop-claim
invariant-loop-claim l = MeetIn (key_labels l.side (claims_of (take l.claim-index l.claims)) (use_of l.usage)) l.met
