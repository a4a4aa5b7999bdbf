use Rattle.std.proofs.Common.{ap, sym, ◌∙◌}
use Rattle.std.specs.Option.{option_map, option_and_then}
use Rattle.dy_plan.specs.Naming.{found_at}
use Rattle.dy_plan.specs.MirrorNames.{found_in, trace_in}
use Rattle.dy_plan.proofs.names.Names.entry_named.Goals as goal

pub returns-in_err-index : goal.returns-in_err-index
returns-in_err-index c =
    ap (option_map found_in) c.from_residual.ensures
    ∙ ap (option_and_then (found_at (trace_in c.args.self.now))) (sym c.in_err-index.was ∙ c.index_named.ensures)

pub returns : goal.returns
returns c =
    c.entry_at.ensures ∙ ap (option_and_then (found_at (trace_in c.args.self.now))) (sym c.in_ok-index.was ∙ c.index_named.ensures)
