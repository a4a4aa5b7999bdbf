use Rattle.std.proofs.Common.{◌≡◌, Some, map, subst, ap, ◌∙◌}
use Rattle.std.proofs.lemmas.Result.{on_ok_weaker}
use Rattle.dy_syntax.specs.Meaning.{nm_of, case_of}
use Rattle.dy_typing.specs.Names.{case_stands}
use Rattle.dy_typing.specs.Knowledge.{Knowledge}
use Rattle.dy_check.specs.Meaning.{knowledge_of, setting_of, stands_of, places_of}
use Rattle.dy_check.specs.Tables.{KnowledgeHasTables}
use Rattle.dy_check.proofs.Openings.{check_fields-stands}
use Rattle.dy_check.proofs.effects.checks.check_fields.Goals as goal

pub returns : goal.returns
returns c = on_ok_weaker c.add_case_events.result (λ h k label t g.
    let setting = setting_of c.args.setting.now in
    let usage_args = map nm_of c.args.usage_args.now in
    let args = map nm_of c.args.args.now in
    let case = case_of c.args.case.now in
    let stands = stands_of c.as_slice-stands.result.now in
    let stands_are : stands ≡ case_stands setting.decls usage_args case (map Some args) =
    ap stands_of c.as_slice-stands.ensures ∙ c.in_ok-stands.ensures
    ∙ ap (case_stands setting.decls usage_args case) (ap places_of c.as_slice.ensures ∙ c.in_ok-places.ensures) in
    let claimed = (rw c.as_slice-2.ensures at c.in_ok-claim_fields.ensures) k label t g in
    subst (λ (known : Knowledge). KnowledgeHasTables known (knowledge_of c.add_case_events.new.known))
    (check_fields-stands setting k label usage_args args case stands stands_are)
    ((rw c.as_slice-3.ensures at h) _ label claimed g)) c.add_case_events.ensures
