-- What the rules that an entry gives stand for.
use Rattle.std.specs.Prelude.{List}
use Rattle.dy_derive.specs.declared.given.Given.{Given}
use Rattle.dy_derive.specs.Facts.{Fact, Inference}
use Rattle.dy_derive.specs.MirrorRules.{StandForAll}

-- The rules, which are not added yet, stand for these inferences.
abbrev pub Gives : Given → List Inference → List Fact → Type 0
Gives given inferences facts = StandForAll facts given.rules.items given.reasons.items inferences
