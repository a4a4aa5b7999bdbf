use Rattle.std.proofs.Common.{◌≡◌, ◌++◌, List, Contains, refl, sym, subst, ap, ◌∙◌}
use Rattle.dy_syntax.specs.Meaning.{file_of}
use Rattle.dy_entry.specs.Entries.{Entry}
use Rattle.dy_entry.specs.Meaning.{entry_of, entries_of}
use Rattle.dy_typing.proofs.Elements.{Contains-map}
use Rattle.dy_core.specs.BookMeaning.{trace_of}
use Rattle.dy_trace_text.specs.TraceText.{trace_text, HasText}
use Rattle.dy_know.specs.Conditions.{MakesNoncesFirst}
use Rattle.dy_know.specs.Reports.{IsReport}
use Rattle.dy_know.specs.ReportMeaning.{report_of}
use Rattle.dy_know.specs.AuditText.{audit_text}
use Rattle.dy_tool.proofs.playing.print_play.Goals as goal

pub write_trace-requires : goal.write_trace-requires
write_trace-requires c =
    let text : HasText (trace_of c.in_ok-book.book) = c.an_interleaving_has_a_text.ensures c.args.bytes.now (file_of c.args.file.now) (trace_of c.in_ok-book.book) c.in_ok-book.ensures.interleaves c.is_interleaving.ensures.few in
    subst (λ (U : List Entry). HasText U) (sym c.entries-entries.ensures) text

pub audit-requires-clause-small : goal.audit-requires-clause-small
audit-requires-clause-small c = λ e among.
    let there : Contains (trace_of c.in_ok-book.book) (entry_of e) = subst (λ (U : List Entry). Contains U (entry_of e)) c.entries-entries.ensures (Contains-map entry_of c.entries-entries.result.now e among) in
    c.interleavings_give_small_values.ensures c.args.bytes.now (file_of c.args.file.now) (trace_of c.in_ok-book.book) c.in_ok-book.ensures.interleaves (entry_of e) there

pub audit-requires-clause-first : goal.audit-requires-clause-first
audit-requires-clause-first c =
    let first : MakesNoncesFirst (trace_of c.in_ok-book.book) = c.interleavings_make_nonces_first.ensures c.args.bytes.now (file_of c.args.file.now) (trace_of c.in_ok-book.book) c.in_ok-book.ensures.interleaves in
    subst (λ (U : List Entry). MakesNoncesFirst U) (sym c.entries-entries.ensures) first

pub returns : goal.returns
returns c =
    let file = file_of c.args.file.now in
    let T = trace_of c.in_ok-book.book in
    let report = report_of c.in_ok-report.report in
    let is_report : IsReport file.decls T report = subst (λ (U : List Entry). IsReport file.decls U report) c.entries-entries.ensures c.in_ok-report.ensures in
    let trace : c.in_ok-text.text.items ≡ trace_text T = c.in_ok-text.ensures ∙ ap trace_text c.entries-entries.ensures in
    let found : c.as_slice.result.now ≡ audit_text report = c.as_slice.ensures.value ∙ c.in_ok-found.ensures in
    let both : c.extend_from_slice.new.self.items ≡ trace_text T ++ audit_text report =
    c.in_ok-extend_from_slice.ensures.items ∙ ap (λ t. c.in_ok-text.text.items ++ t) found ∙ ap (λ t. t ++ audit_text report) trace in
    (refl, (file, T, report, c.in_ok-book.ensures, is_report, both))
