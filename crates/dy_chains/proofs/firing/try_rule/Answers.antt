use Rattle.std.proofs.Common.{◌≡◌, length, slice_get, Some, None, ap, sym, subst, ◌∙◌}
use Rattle.std.proofs.lemmas.Bool.{iff_false}
use Rattle.std.proofs.lemmas.Option.{slice_get-get_or, same_Some}
use Rattle.dy_chains.specs.declared.rules.Rule.{Rule}
use Rattle.dy_chains.specs.Logs.{IsLogged, place_of}
use Rattle.dy_chains.specs.MirrorLogs.{Log, Gains}
use Rattle.dy_chains.proofs.Places.{no_place_if, at_last}
use Rattle.dy_chains.proofs.LoggedFacts.{gains_step}
use Rattle.dy_chains.proofs.firing.try_rule.Goals as goal

pub push-requires-clause-missing : goal.push-requires-clause-missing
push-requires-clause-missing c =
    no_place_if c.args.log.now.steps c.in-Some.rule.now.conclusion (λ place at. iff_false c.has.ensures c.if-has.false (place, at))

pub returns-clause-gains : goal.returns-clause-gains
returns-clause-gains c =
    let rules = c.args.rules.now in
    let rule = c.in-Some.rule.now in
    let stands : slice_get rules c.args.number ≡ Some rule =
    slice_get-get_or rules c.args.number rule c.in-Some.ensures.lookup.3.0 ∙ ap Some (sym (c.in-Some.ensures.lookup.3.1 rule)) in
    let none : place_of c.args.log.now.steps rule.conclusion ≡ None =
    no_place_if c.args.log.now.steps rule.conclusion (λ place at. iff_false c.has.ensures c.if-has.false (place, at)) in
    subst (Gains rules c.args.log.now) (sym c.push.ensures)
    (gains_step rules c.args.log.now.facts c.args.log.now.steps c.args.number rule stands (c.has_premises.ensures.0 c.if-not-has_premises.false) none)

pub returns-clause-tried : goal.returns-clause-tried
returns-clause-tried c other other_stands premises =
    let rules = c.args.rules.now in
    let rule = c.in-Some.rule.now in
    let stands : slice_get rules c.args.number ≡ Some rule =
    slice_get-get_or rules c.args.number rule c.in-Some.ensures.lookup.3.0 ∙ ap Some (sym (c.in-Some.ensures.lookup.3.1 rule)) in
    let same : rule ≡ other = same_Some rule other (sym stands ∙ other_stands) in
    subst (λ (r : Rule). IsLogged c.push.new.self.steps r.conclusion) same
    (subst (λ (log : Log). IsLogged log.steps rule.conclusion) (sym c.push.ensures)
    (length c.args.log.now.steps, at_last c.args.log.now.steps (record { fact = rule.conclusion; rule = c.args.number })))
