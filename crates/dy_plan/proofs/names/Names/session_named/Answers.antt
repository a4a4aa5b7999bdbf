use Rattle.std.proofs.Common.{ap, ◌∙◌}
use Rattle.std.specs.Option.{option_map}
use Rattle.dy_plan.specs.Naming.{session_opened}
use Rattle.dy_plan.specs.MirrorNames.{found_in, session_in}
use Rattle.dy_plan.proofs.LookUps.{next_of_some, next_of_none}
use Rattle.dy_plan.proofs.names.Names.session_named.Goals as goal

pub returns-in_err-found : goal.returns-in_err-found
returns-in_err-found c =
    ap (option_map session_in) c.from_residual.ensures
    ∙ next_of_none found_in (λ found. session_opened found.0 found.1) c.entry_named.result _ c.entry_named.ensures c.in_err-found.was

pub returns : goal.returns
returns c =
    c.session_opened.ensures
    ∙ next_of_some found_in (λ found. session_opened found.0 found.1) c.entry_named.result _ c.entry_named.ensures _ c.in_ok-found.was
