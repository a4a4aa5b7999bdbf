use Rattle.std.proofs.Common.{◌≡◌, ◌==◌, List, Some, None, refl, sym, subst}
use Rattle.std.proofs.Math.Logic.{∥∥₁_elim}
use Rattle.std.specs.Coded.{Coded-set, coded_option, coded_ℕ}
use Rattle.std.specs.List.{position}
use Rattle.dy_syntax.specs.Meaning.{file_of}
use Rattle.dy_syntax.specs.declared.files.File as files
use Rattle.dy_traces.specs.Interleavings.{Interleaves}
use Rattle.dy_entry.specs.declared.entries.Entry as declared
use Rattle.dy_entry.specs.Meaning.{entries_of}
use Rattle.dy_traces.specs.Instances.{end_of}
use Rattle.dy_core.specs.declared.running.Running.{Running}
use Rattle.dy_core.specs.Answers.{IsInstance}
use Rattle.dy_core.specs.BookMeaning.{trace_of}
use Rattle.dy_core.proofs.Stepping.{none_two}
use Rattle.dy_core.proofs.Interleaved.{advanced_keeps}
use Rattle.dy_core.proofs.Turning.{no_place, place_goes_on}
use Rattle.dy_core.proofs.books.Book.advance.Goals as goal

pub take_step-requires-clause-goes_on : goal.take_step-requires-clause-goes_on
take_step-requires-clause-goes_on c =
    let instance = c.args.instance in
    let found : position (λ (kept : Running). kept.start == instance) c.args.self.now.running.items ≡ Some c.in-Some.at =
    subst (λ (rs : List Running). position (λ (kept : Running). kept.start == instance) rs ≡ Some c.in-Some.at) c.as_slice-2.ensures.value (sym c.in-Some.ensures.first) in
    ∥∥₁_elim c.args.self.now.holds (Coded-set (coded_option coded_ℕ) _ _)
    (λ book. place_goes_on (file_of c.args.self.now.file) (entries_of c.args.self.now.entries.items) c.args.self.now.running.items instance c.in-Some.at found book)

pub unreachable-requires : goal.unreachable-requires
unreachable-requires c =
    let instance = c.args.instance in
    let stands : IsInstance (entries_of c.args.self.now.entries.items) instance =
    subst (λ (es : List declared.Entry). IsInstance (entries_of es) instance) c.as_slice.ensures.value (c.if-not-is_instance.ensures.yes refl) in
    let none : position (λ (kept : Running). kept.start == instance) c.args.self.now.running.items ≡ None =
    subst (λ (rs : List Running). position (λ (kept : Running). kept.start == instance) rs ≡ None) c.as_slice-2.ensures.value (sym c.in_default.ensures.first) in
    let goes_on : end_of (entries_of c.args.self.now.entries.items) instance ≡ None =
    subst (λ (es : List declared.Entry). end_of (entries_of es) instance ≡ None) c.as_slice-3.ensures.value (sym c.in-None.ensures) in
    ∥∥₁_elim c.args.self.now.holds none_two
    (λ book. no_place (file_of c.args.self.now.file) (entries_of c.args.self.now.entries.items) c.args.self.now.running.items instance stands goes_on none book)

pub returns-in-Some-clause-interleaves : goal.returns-in-Some-clause-interleaves
returns-in-Some-clause-interleaves c = λ bytes is_one.
    subst (λ (f : files.File). Interleaves bytes (file_of f) (trace_of c.take_step.new.self)) (sym c.take_step.ensures.file)
    (advanced_keeps c.a_longer_interleaving.ensures.longer (file_of c.args.self.now.file) (trace_of c.args.self.now) (trace_of c.take_step.new.self) bytes is_one
    c.args.instance c.take_step.result c.take_step.ensures.answer)
