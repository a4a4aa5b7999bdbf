use Rattle.std.proofs.Common.{◌≡◌, map, drop}
use Rattle.dy_syntax.specs.Meaning.{round_of}
use Rattle.dy_syntax.specs.Rules.Plans.{step_named}
use Rattle.dy_syntax.proofs.rules.plans.step_named.Given as goal

-- the first one is not of the rounds so far
abbrev pub invariant-loop-i : goal.invariant-loop-i
invariant-loop-i l = step_named l.i (map round_of (drop l.i l.rounds)) l.name ≡ step_named 0 (map round_of l.rounds) l.name
