use Rattle.std.proofs.Common.{◌≡◌, map, drop}
use Rattle.dy_syntax.specs.Meaning.{step_of}
use Rattle.dy_syntax.specs.Rules.Plans.{step_in}
use Rattle.dy_syntax.proofs.rules.plans.step_in.Given as goal

-- the first one is not among the steps so far
abbrev pub invariant-loop-step : goal.invariant-loop-step
invariant-loop-step l = step_in (map step_of (drop l.step-index l.steps)) l.name ≡ step_in (map step_of l.steps) l.name
