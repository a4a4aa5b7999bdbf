use Rattle.std.proofs.Common.{◌∙◌}
use Rattle.dy_entry.specs.LookUps.{state_at}
use Rattle.dy_plan.specs.MirrorNames.{session_in, trace_in}
use Rattle.dy_plan.proofs.LookUps.{next_of_some, next_of_none}
use Rattle.dy_plan.proofs.names.Names.state_named.Goals as goal

pub returns-in_err-session : goal.returns-in_err-session
returns-in_err-session c =
    c.from_residual.ensures
    ∙ next_of_none session_in (λ session. state_at (trace_in c.args.self.now) session.principal session.number c.args.version) c.session_named.result _ c.session_named.ensures c.in_err-session.was

pub returns : goal.returns
returns c =
    c.state_at.ensures
    ∙ next_of_some session_in (λ session. state_at (trace_in c.args.self.now) session.principal session.number c.args.version) c.session_named.result _ c.session_named.ensures _ c.in_ok-session.was
