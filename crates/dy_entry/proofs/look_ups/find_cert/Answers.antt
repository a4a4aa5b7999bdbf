use Rattle.std.proofs.Common.{◌∙◌, sym}
use Rattle.dy_entry.specs.LookUps.{is_cert_for}
use Rattle.dy_entry.specs.Meaning.{entry_of}
use Rattle.dy_entry.proofs.Traces.{position-map}
use Rattle.dy_entry.proofs.look_ups.find_cert.Goals as goal

pub returns-in_err-index : goal.returns-in_err-index
returns-in_err-index c = c.from_residual.ensures ∙ sym c.in_err-index.was ∙ c.first_cert.ensures.first ∙ sym (position-map entry_of (is_cert_for c.args.principal.now c.args.usage.now) c.args.entries.now)

pub returns : goal.returns
returns c = sym c.in_ok-index.was ∙ c.first_cert.ensures.first ∙ sym (position-map entry_of (is_cert_for c.args.principal.now c.args.usage.now) c.args.entries.now)
