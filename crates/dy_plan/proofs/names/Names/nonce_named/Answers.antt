use Rattle.std.proofs.Common.{◌∙◌}
use Rattle.dy_plan.specs.Naming.{nonce_of_step}
use Rattle.dy_plan.specs.MirrorNames.{found_in}
use Rattle.dy_plan.proofs.LookUps.{next_of_some, next_of_none}
use Rattle.dy_plan.proofs.names.Names.nonce_named.Goals as goal

pub returns-in_err-found : goal.returns-in_err-found
returns-in_err-found c =
    c.from_residual.ensures
    ∙ next_of_none found_in (λ found. nonce_of_step found.0 found.1) c.entry_named.result _ c.entry_named.ensures c.in_err-found.was

pub returns : goal.returns
returns c =
    c.nonce_of_step.ensures
    ∙ next_of_some found_in (λ found. nonce_of_step found.0 found.1) c.entry_named.result _ c.entry_named.ensures _ c.in_ok-found.was
