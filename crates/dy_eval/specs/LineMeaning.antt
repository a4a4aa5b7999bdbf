-- What lines of the code stand for.
use Rattle.dy_syntax.specs.Meaning.{on_part_of, act_of}
use Rattle.dy_eval.specs.declared.lines.Line as line
use Rattle.dy_eval.specs.declared.lines.Line.TheVariants as lines
use Rattle.dy_eval.specs.Lines.{Line, GoesOn, Does}

abbrev pub line_of : line.Line → Line
line_of (lines.GoesOn on) = GoesOn (on_part_of on)
line_of (lines.Does kind act) = Does kind (act_of act)
