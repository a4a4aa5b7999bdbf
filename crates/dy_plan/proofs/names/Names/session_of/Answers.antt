use Rattle.std.proofs.Common.{◌∙◌}
use Rattle.dy_plan.specs.Naming.{number_for}
use Rattle.dy_plan.specs.MirrorNames.{session_in}
use Rattle.dy_plan.proofs.LookUps.{next_of_some, next_of_none}
use Rattle.dy_plan.proofs.names.Names.session_of.Goals as goal

pub returns-in_err-session : goal.returns-in_err-session
returns-in_err-session c =
    c.from_residual.ensures
    ∙ next_of_none session_in (number_for c.args.principal.now.word) c.session_named.result _ c.session_named.ensures c.in_err-session.was

pub returns : goal.returns
returns c =
    c.number_for.ensures
    ∙ next_of_some session_in (number_for c.args.principal.now.word) c.session_named.result _ c.session_named.ensures _ c.in_ok-session.was
