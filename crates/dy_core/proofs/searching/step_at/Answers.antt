use Rattle.std.proofs.Common.{◌∙◌, sym}
use Rattle.dy_entry.specs.Meaning.{entry_of}
use Rattle.dy_traces.specs.Steps.{has_step}
use Rattle.dy_core.proofs.Mapped.{position-map}
use Rattle.dy_core.proofs.searching.step_at.Goals as goal

pub returns-in_err-index : goal.returns-in_err-index
returns-in_err-index c = c.from_residual.ensures ∙ sym c.in_err-index.was ∙ c.first_of_step.ensures.first ∙ sym (position-map entry_of (has_step c.args.step) c.args.entries.now)

pub returns : goal.returns
returns c = sym c.in_ok-index.was ∙ c.first_of_step.ensures.first ∙ sym (position-map entry_of (has_step c.args.step) c.args.entries.now)
