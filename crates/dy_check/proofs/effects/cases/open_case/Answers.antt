use Rattle.std.proofs.Common.{◌≡◌, map, subst, ap, ◌∙◌}
use Rattle.std.proofs.lemmas.Result.{on_ok_weaker}
use Rattle.dy_syntax.specs.Meaning.{nm_of, pattern_of, case_of}
use Rattle.dy_typing.specs.Names.{case_stands, patterns_names}
use Rattle.dy_typing.specs.Knowledge.{Knowledge}
use Rattle.dy_check.specs.Meaning.{knowledge_of, setting_of, stands_of, places_of}
use Rattle.dy_check.specs.MirrorOpenings.{known_by}
use Rattle.dy_check.specs.Tables.{KnowledgeHasTables}
use Rattle.dy_check.proofs.Openings.{open_case-stands}
use Rattle.dy_check.proofs.effects.cases.open_case.Goals as goal

pub returns : goal.returns
returns c = on_ok_weaker c.add_case_events.result (λ h k way hi guard t o.
    let setting = setting_of c.args.setting.now in
    let args = map nm_of c.args.args.now in
    let pats = map pattern_of c.args.pats.now in
    let case = case_of c.args.case.now in
    let stands = stands_of c.as_slice-stands.result.now in
    let stands_are : stands ≡ case_stands setting.decls args case (patterns_names pats) =
    ap stands_of c.as_slice-stands.ensures ∙ c.in_ok-stands.ensures
    ∙ ap (case_stands setting.decls args case) (ap places_of c.as_slice.ensures ∙ c.in_ok-places.ensures) in
    let fields = rw c.as_slice-2.ensures at (c.in_ok-fields.ensures way hi guard o) in
    let matched = (rw c.as_slice-3.ensures at c.in_ok-match_fields.ensures) k _ t fields in
    subst (λ (known : Knowledge). KnowledgeHasTables known (knowledge_of c.add_case_events.new.known))
    (open_case-stands setting k (known_by way hi guard) guard args pats case stands stands_are)
    ((rw c.as_slice-4.ensures at h) _ guard matched o.guard_table)) c.add_case_events.ensures
