use Rattle.dy_tool.proofs.ReadBack.{ShowingLaws, reads_back}
use Rattle.dy_tool.proofs.laws.shown_reads_back.Goals as goal

pub returns : goal.returns
returns c =
    let laws : ShowingLaws = record {
      shallow = c.trees_are_shallow.ensures;
      same_limits = c.same_limits.ensures;
      reads_again = c.reads_again.ensures;
    } in
    λ bytes file reads few. reads_back laws bytes file reads few
