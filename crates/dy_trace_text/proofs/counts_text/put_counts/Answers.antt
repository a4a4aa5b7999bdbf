use Rattle.std.proofs.Common.{◌++◌, ◌∙◌, ap, codes}
use Rattle.std.proofs.lemmas.Result.{IfOk-weaker}
use Rattle.dy_entry.specs.Meaning.{counts_of}
use Rattle.dy_trace_text.specs.CountsText.{count_parts}
use Rattle.dy_trace_text.specs.MirrorPages.{put_parts}
use Rattle.dy_trace_text.proofs.Lines.{line_is}
use Rattle.dy_trace_text.proofs.counts_text.put_counts.Goals as goal

pub returns : goal.returns
returns c =
    let parts = count_parts (counts_of c.args.counts.now) in
    IfOk-weaker c.put-2.result _ _
    (λ _ written.
    written
    ∙ ap (λ page. page ++ codes "\n") (c.in_ok-put_count_parts.ensures ∙ ap (λ page. put_parts page parts) c.in_ok-put.ensures)
    ∙ line_is c.args.page.now c.args.word.now parts)
    c.put-2.ensures
