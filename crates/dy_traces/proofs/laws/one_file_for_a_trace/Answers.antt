use Rattle.std.proofs.Common.{◌≡◌, ℕ, List, Some, ◌∙◌, sym, subst}
use Rattle.dy_parse.specs.Reading.{Reads}
use Rattle.dy_entry.specs.Entries.{Setup}
use Rattle.dy_traces.proofs.laws.one_file_for_a_trace.Goals as goal

same_bytes : (bytes other : List ℕ) → Some (Setup bytes) ≡ Some (Setup other) → bytes ≡ other
same_bytes bytes other same = cc

pub returns : goal.returns
returns c = λ bytes other_bytes file other T one two.
    let same : bytes ≡ other_bytes = same_bytes bytes other_bytes (sym one.opens ∙ two.opens) in
    (same, c.one_file.ensures other_bytes file other (subst (λ (b : List ℕ). Reads b file) same one.reads) two.reads)
