use Rattle.std.proofs.Common.{◌∙◌, sym}
use Rattle.dy_entry.proofs.Covered.{covered_in_code}
use Rattle.dy_entry.proofs.look_ups.is_covered.Goals as goal

pub returns : goal.returns
returns c = c.is_covered_by_some.ensures ∙ sym (covered_in_code c.args.principal.now c.args.session c.args.version c.args.entries.now)
