use Rattle.std.proofs.Common.{inl, inr, ap, ◌∙◌, sym}
use Rattle.dy_traces.specs.Steps.{has_step}
use Rattle.dy_traces.proofs.Prefixes.{in_more}
use Rattle.dy_traces.proofs.laws.a_longer_short_trace.Goals as goal

pub returns : goal.returns
returns c = λ T last short low i step e at has. elim (in_more T last i e at) [
  | inl old ↦ short i step e old has
  | inr new ↦ low step (ap (has_step step) (sym new.1) ∙ has)
]
