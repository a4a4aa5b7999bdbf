use Rattle.std.proofs.Common.{◌≡◌, sym, ap, subst, ◌∙◌}
use Rattle.dy_syntax.specs.Files.{File}
use Rattle.dy_syntax.specs.Meaning.{file_of}
use Rattle.dy_traces.specs.Interleavings.{Interleaves}
use Rattle.dy_core.specs.BookMeaning.{trace_of, file_in}
use Rattle.dy_tool.proofs.running.run_plan.Goals as goal

pub run_serially-requires-clause-plan : goal.run_serially-requires-clause-plan
run_serially-requires-clause-plan c = ap (λ (f : File). f.plan) (sym c.in_ok-book.ensures.file)

pub returns : goal.returns
returns c =
    let bytes = c.args.bytes.now in
    let book = c.run_serially.new.book in
    let same : file_in book ≡ file_of c.args.file.now = c.run_serially.ensures.file ∙ c.in_ok-book.ensures.file in
    let traces = c.run_serially.ensures.interleaves bytes c.in_ok-book.ensures.interleaves in
    record {
      interleaves = subst (λ (f : File). Interleaves bytes f (trace_of book)) same traces;
      serial = c.in_ok-run_serially.ensures.serial;
    }
