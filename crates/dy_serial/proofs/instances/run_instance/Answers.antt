use Rattle.std.proofs.Common.{inl, inr, sym, subst}
use Rattle.dy_core.specs.BookMeaning.{trace_of, file_in}
use Rattle.dy_core.specs.StepMeaning.{step_of, start_of}
use Rattle.dy_serial.proofs.Asked.{none_ended}
use Rattle.dy_serial.proofs.Books.{grows_by_one, grows_then}
use Rattle.dy_serial.proofs.Going.{instance_goes_on, IsRefusal, not_refused}
use Rattle.dy_serial.proofs.instances.run_instance.Goals as goal

pub run_to_end-requires-clause-goes_on : goal.run_to_end-requires-clause-goes_on
run_to_end-requires-clause-goes_on c =
    let T = trace_of c.args.book.now in
    instance_goes_on (step_of c.args.step) c.in-Ok.index T (trace_of c.start.new.self) c.in-Ok.ensures.answer.4
    (none_ended (file_in c.args.book.now) T c.is_interleaving.ensures.interleaves)

pub unreachable-requires : goal.unreachable-requires
unreachable-requires c =
    let refused : IsRefusal c.start.result = elim c.in-Already.is [
      | inl already ↦ subst IsRefusal (sym already.1) tt
      | inr (inl no_session) ↦ subst IsRefusal (sym no_session) tt
      | inr (inr (inl busy)) ↦ subst IsRefusal (sym busy.1) tt
      | inr (inr (inr no_message)) ↦ subst IsRefusal (sym no_message) tt
    ] in
    not_refused (trace_of c.args.book.now) (trace_of c.start.new.self) (step_of c.args.step) c.start.result c.requires.may c.start.ensures.answer refused

pub returns-in-Ok-clause-grows : goal.returns-in-Ok-clause-grows
returns-in-Ok-clause-grows c =
    grows_then c.args.book.now c.start.new.self c.run_to_end.new.book
    (grows_by_one c.args.book.now c.start.new.self c.in-Ok.ensures.file c.in-Ok.ensures.interleaves (start_of (step_of c.args.step) (trace_of c.args.book.now)) c.in-Ok.ensures.answer.4.trace)
    c.run_to_end.ensures.grows
