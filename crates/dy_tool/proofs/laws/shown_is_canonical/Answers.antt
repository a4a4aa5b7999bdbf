use Rattle.std.proofs.Common.{sym, ap, ◌∙◌}
use Rattle.dy_show.specs.Canonical.{canon}
use Rattle.dy_tool.proofs.laws.shown_is_canonical.Goals as goal

pub returns : goal.returns
returns c = λ bytes file again reads reads_shown.
    let back = c.shown_reads_back.ensures bytes file reads reads_shown.few in
    let same = c.one_file.ensures (canon file) again back.again reads_shown back.reads in
    ap canon same ∙ sym (c.one_text.ensures file back.again back.same)
