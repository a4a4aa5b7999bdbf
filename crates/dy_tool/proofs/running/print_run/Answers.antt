use Rattle.std.proofs.Common.{◌≡◌, List, refl, sym, subst}
use Rattle.dy_syntax.specs.declared.files.File as declared
use Rattle.dy_syntax.specs.Meaning.{file_of}
use Rattle.dy_entry.specs.Entries.{Entry}
use Rattle.dy_core.specs.BookMeaning.{trace_of}
use Rattle.dy_trace_text.specs.TraceText.{trace_text, HasText}
use Rattle.dy_tool.specs.Protocols.{IsProtocol}
use Rattle.dy_tool.specs.Due.{IsSerialRun}
use Rattle.dy_tool.proofs.running.print_run.Goals as goal

pub run_plan-requires-clause-protocol : goal.run_plan-requires-clause-protocol
run_plan-requires-clause-protocol c =
    let bytes = c.args.bytes.now in
    let protocol : IsProtocol bytes (file_of c.args.accepted.now.file) = record { reads = c.requires.typed.reads; well_formed = c.requires.typed.typed.0 } in
    subst (λ (f : declared.File). IsProtocol bytes (file_of f)) (sym c.file.ensures) protocol

pub write_trace-requires : goal.write_trace-requires
write_trace-requires c =
    let bytes = c.args.bytes.now in
    let file = file_of c.file.result.now in
    let T = trace_of c.in_ok-book.book in
    let traces = c.in_ok-book.ensures.interleaves in
    let text : HasText T = c.an_interleaving_has_a_text.ensures bytes file T traces c.is_interleaving.ensures.few in
    subst (λ (U : List Entry). HasText U) (sym c.entries.ensures) text

pub returns : goal.returns
returns c =
    let bytes = c.args.bytes.now in
    let file = file_of c.args.accepted.now.file in
    let T = trace_of c.in_ok-book.book in
    let run : IsSerialRun bytes file T = subst (λ (f : declared.File). IsSerialRun bytes (file_of f) T) c.file.ensures c.in_ok-book.ensures in
    let items = c.in_ok-text.text.items in
    let text : items ≡ trace_text T = subst (λ (U : List Entry). items ≡ trace_text U) c.entries.ensures c.in_ok-text.ensures in
    (refl, (file, T, c.requires.typed.typed, run, text))
