-- What an effect of the code stands for.
use Rattle.dy_eval.specs.declared.effects.Effect as effect
use Rattle.dy_eval.specs.declared.effects.Effect.TheVariants as code
use Rattle.dy_eval.specs.Doings.{Effect, Puts, Writes, Fails}

abbrev pub as_effect : effect.Effect → Effect
as_effect (code.Puts item binds) = Puts item binds
as_effect (code.Writes written) = Writes written.items
as_effect code.Fails = Fails
