use Rattle.std.proofs.Common.{◌≡◌, map, take}
use Rattle.dy_syntax.specs.Meaning.{param_of}
use Rattle.dy_know.proofs.copying.params_copy.Given as goal

-- those so far are copied
abbrev pub invariant-loop-param : goal.invariant-loop-param
invariant-loop-param l = map param_of l.made ≡ map param_of (take l.param-index l.params)
