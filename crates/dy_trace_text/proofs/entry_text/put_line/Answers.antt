use Rattle.std.proofs.Common.{◌++◌, ◌∙◌, ap, codes}
use Rattle.std.proofs.lemmas.Result.{IfOk-weaker}
use Rattle.std.specs.Fmt.{decimal}
use Rattle.dy_entry.specs.Meaning.{entry_of}
use Rattle.dy_trace_text.specs.EntryText.{entry_parts}
use Rattle.dy_trace_text.specs.MirrorPages.{put_parts}
use Rattle.dy_trace_text.proofs.Lines.{line_is}
use Rattle.dy_trace_text.proofs.entry_text.put_line.Goals as goal

pub returns : goal.returns
returns c =
    let parts = entry_parts (entry_of c.args.entry.now) in
    IfOk-weaker c.put.result _ _
    (λ _ written.
    written
    ∙ ap (λ page. page ++ codes "\n") (c.in_ok-put_entry.ensures ∙ ap (λ page. put_parts page parts) c.in_ok-put_number.ensures)
    ∙ line_is c.args.page.now (decimal c.args.index) parts)
    c.put.ensures
