use Rattle.dy_types.specs.Claims.{vk_labels}
use Rattle.dy_types.specs.Meaning.{use_of, claims_of}
use Rattle.dy_types.proofs.MeetLaws.{IsTableOfMeet-from_met}
use Rattle.dy_types.proofs.knowns.Known.vk_table.Goals as goal

pub returns : goal.returns
returns c = λ known h.
    let usage = use_of c.args.usage.now in
    IsTableOfMeet-from_met (vk_labels known.claims usage) (vk_labels (claims_of c.args.self.now.claims) usage) c.key_table.result
    (h.claims.vks usage) (rw c.as_slice.ensures at c.key_table.ensures)
