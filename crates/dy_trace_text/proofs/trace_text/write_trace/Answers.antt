use Rattle.std.proofs.Common.{◌++◌, ◌∙◌, ap, codes, map, arith}
use Rattle.dy_entry.specs.Meaning.{entry_of, counts_of}
use Rattle.dy_trace_text.specs.CountsText.{counts_text}
use Rattle.dy_trace_text.specs.TraceText.{lines_from}
use Rattle.dy_trace_text.proofs.Lines.{lines_done}
use Rattle.dy_trace_text.proofs.trace_text.write_trace.Goals as goal

pub returns : goal.returns
returns c =
    let lines = lines_from 0 (map entry_of c.args.entries.now) in
    c.into_bytes.ensures ∙ c.in_ok-put_counts.ensures
    ∙ ap (λ page. page ++ counts_text (codes "total") (counts_of c.counts.result))
    (lines_done c.args.entries.now c.loop-index.index c.loop-index.page lines (omega arith) c.loop-index.invariant)
    ∙ ap (λ counts. lines ++ counts_text (codes "total") counts) c.counts.ensures
