use Rattle.std.proofs.Common.{◌∙◌, sym}
use Rattle.dy_entry.specs.Meaning.{entry_of}
use Rattle.dy_traces.specs.Instances.{is_end_of}
use Rattle.dy_core.proofs.Mapped.{position-map}
use Rattle.dy_core.proofs.searching.end_of.Goals as goal

pub returns-in_err-index : goal.returns-in_err-index
returns-in_err-index c = c.from_residual.ensures ∙ sym c.in_err-index.was ∙ c.first_end.ensures.first ∙ sym (position-map entry_of (is_end_of c.args.instance) c.args.entries.now)

pub returns : goal.returns
returns c = sym c.in_ok-index.was ∙ c.first_end.ensures.first ∙ sym (position-map entry_of (is_end_of c.args.instance) c.args.entries.now)
