use Rattle.std.proofs.Common.{[]}
use Rattle.dy_sound.proofs.AttackerSteps.{good_without_entries, good_with_setup}
use Rattle.dy_sound.proofs.laws.the_opening_trace_is_good.Goals as goal

pub returns : goal.returns
returns c = λ decls input. good_with_setup c.laws_below.ensures decls [] (good_without_entries decls) input
