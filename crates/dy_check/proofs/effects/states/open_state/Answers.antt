use Rattle.std.proofs.Common.{◌≡◌, map, subst, ap, ◌∙◌}
use Rattle.std.proofs.lemmas.Result.{on_ok_weaker}
use Rattle.dy_syntax.specs.Meaning.{pattern_of, state_of}
use Rattle.dy_typing.specs.Names.{state_stands, patterns_names}
use Rattle.dy_typing.specs.Knowledge.{Knowledge}
use Rattle.dy_check.specs.Meaning.{knowledge_of, setting_of, stands_of, places_of, here_of}
use Rattle.dy_check.specs.Tables.{KnowledgeHasTables}
use Rattle.dy_check.proofs.Openings.{open_state-stands}
use Rattle.dy_check.proofs.effects.states.open_state.Goals as goal

pub returns : goal.returns
returns c = on_ok_weaker c.add_state_events.result (λ h k t.
    let pats = map pattern_of c.args.pats.now in
    let state = state_of c.args.state.now in
    let stands = stands_of c.as_slice-stands.result.now in
    let stands_are : stands ≡ state_stands state (patterns_names pats) =
    ap stands_of c.as_slice-stands.ensures ∙ c.in_ok-stands.ensures
    ∙ ap (state_stands state) (ap places_of c.as_slice.ensures ∙ c.in_ok-places.ensures) in
    let fields = rw c.as_slice-2.ensures at (c.in_ok-fields.ensures _ _ _ c.from_state.ensures) in
    let matched = (rw c.as_slice-3.ensures at c.in_ok-match_fields.ensures) k _ t fields in
    subst (λ (known : Knowledge). KnowledgeHasTables known (knowledge_of c.add_state_events.new.known))
    (open_state-stands (setting_of c.args.setting.now) k (here_of c.args.here) pats state stands stands_are)
    ((rw c.as_slice-4.ensures at h) _ matched)) c.add_state_events.ensures
