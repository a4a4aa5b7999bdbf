use Rattle.dy_serial.proofs.Books.{grows_by_none, grows_then}
use Rattle.dy_serial.proofs.Going.{goes_from, goes_more, grows_to_end}
use Rattle.dy_serial.proofs.instances.run_to_end.Goals as goal

pub loop-init : goal.loop-init
loop-init c = goes_from c.args.instance c.args.book.now c.requires.stands c.requires.goes_on

pub loop-preserved : goal.loop-preserved
loop-preserved c =
    goes_more c.args.instance c.in-Put.index c.args.book.now c.loop.book c.advance.new.self c.loop.invariant c.in-Put.ensures.file c.in-Put.ensures.interleaves c.in-Put.ensures.answer

pub returns-in-Finished-clause-grows : goal.returns-in-Finished-clause-grows
returns-in-Finished-clause-grows c =
    grows_to_end c.args.instance c.in-Finished.index c.args.book.now c.loop.book c.advance.new.self c.loop.invariant c.in-Finished.ensures.file c.in-Finished.ensures.interleaves c.in-Finished.ensures.answer

pub returns-in-Memory-clause-grows : goal.returns-in-Memory-clause-grows
returns-in-Memory-clause-grows c =
    grows_then c.args.book.now c.loop.book c.advance.new.self c.loop.invariant.grows
    (grows_by_none c.loop.book c.advance.new.self c.in-Memory.ensures.file c.in-Memory.ensures.interleaves c.in-Memory.ensures.answer)
