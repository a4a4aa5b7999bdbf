use Rattle.std.proofs.Common.{sym, subst}
use Rattle.dy_syntax.specs.Meaning.{file_of}
use Rattle.dy_syntax.specs.declared.files.File as declared
use Rattle.dy_traces.specs.Interleavings.{Interleaves}
use Rattle.dy_core.specs.BookMeaning.{trace_of}
use Rattle.dy_core.specs.StepMeaning.{step_of}
use Rattle.dy_core.proofs.Interleaved.{started_keeps}
use Rattle.dy_core.proofs.books.Book.start.Goals as goal

pub returns-in-None-clause-interleaves : goal.returns-in-None-clause-interleaves
returns-in-None-clause-interleaves c = λ bytes is_one.
    subst (λ (f : declared.File). Interleaves bytes (file_of f) (trace_of c.begin.new.self)) (sym c.begin.ensures.file)
    (started_keeps c.a_longer_interleaving.ensures.longer (file_of c.args.self.now.file) (trace_of c.args.self.now) (trace_of c.begin.new.self) bytes is_one
    (step_of c.args.step) c.requires c.begin.result c.begin.ensures.answer)
