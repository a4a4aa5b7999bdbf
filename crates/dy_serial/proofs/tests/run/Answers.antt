use Rattle.std.proofs.Common.{ℕ, List, sym, ap, subst}
use Rattle.dy_syntax.specs.Files.{File}
use Rattle.dy_syntax.specs.Meaning.{file_of}
use Rattle.dy_parse.specs.Reading.{Reads}
use Rattle.dy_entry.specs.Entries.{Entry}
use Rattle.dy_core.specs.BookMeaning.{trace_of, file_in}
use Rattle.dy_trace_text.specs.TraceText.{HasText}
use Rattle.dy_serial.proofs.tests.run.Goals as goal

pub run_serially-requires-clause-plan : goal.run_serially-requires-clause-plan
run_serially-requires-clause-plan c =
    let input = c.extend_from_slice.new.self.items in
    let file = file_of c.in-Ok.file in
    let reads : Reads input file = subst (λ (bytes : List ℕ). Reads bytes file) c.as_slice.ensures.value c.in-Ok.ensures.file in
    let same = c.one_file.ensures input file (file_in c.in-Ok-open.book) reads c.in-Ok-open.ensures.file.reads in
    ap (λ (f : File). f.plan) same

pub write_trace-requires : goal.write_trace-requires
write_trace-requires c =
    let input = c.extend_from_slice.new.self.items in
    let book = c.run_serially.new.book in
    let traces = c.run_serially.ensures.interleaves input c.in-Ok-open.ensures.interleaves in
    let text = c.an_interleaving_has_a_text.ensures input (file_in book) (trace_of book) traces c.is_interleaving.ensures.few in
    subst (λ (T : List Entry). HasText T) (sym c.entries.ensures) text
