use Rattle.std.proofs.Common.{◌≡◌, ◌++◌, map, drop}
use Rattle.dy_syntax.specs.Meaning.{step_of}
use Rattle.dy_syntax.specs.MirrorMeaning.{sessions_of}
use Rattle.dy_syntax.specs.Rules.Plans as rule
use Rattle.dy_syntax.proofs.rules.sessions.all_sessions.Given as goal

-- those so far and those of the rest are all
abbrev pub invariant-loop-step : goal.invariant-loop-step
invariant-loop-step l =
    map sessions_of l.all ++ map (λ s. rule.sessions_of s.action) (map step_of (drop l.step-index l.steps))
    ≡ map (λ s. rule.sessions_of s.action) (map step_of l.steps)
