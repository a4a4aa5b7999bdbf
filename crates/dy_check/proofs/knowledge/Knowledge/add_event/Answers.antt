use Rattle.std.proofs.Common.{◌≡◌, ℕ, ◌++◌, ◌∷◌, [], List, Some, map, refl, sym, ap, subst, ◌∙◌}
use Rattle.std.proofs.lemmas.List.{map-append}
use Rattle.dy_types.specs.Facts.{FactOf}
use Rattle.dy_types.specs.Meaning.{fact_of, facts_of}
use Rattle.dy_types.specs.Tables.{Table, FactsHaveTables}
use Rattle.dy_typing.specs.Names.{number_in, each_or_none}
use Rattle.dy_check.specs.Meaning.{knowledge_of, nm_ref_of}
use Rattle.dy_check.proofs.KnowledgeTables.{same_numbers, add_fact-tables}
use Rattle.dy_check.proofs.knowledge.Knowledge.add_event.Goals as goal

pub returns : goal.returns
returns c = λ k label h t.
    let kept = knowledge_of c.args.self.now in
    let names = map nm_ref_of c.in-Some.names.now in
    let args = c.in-Some-2.args in
    let numbers : each_or_none (number_in k.words) names ≡ Some args = same_numbers k kept h names ∙ sym c.in_ok-args.ensures ∙ c.in-Some-2.is in
    let after = add_fact-tables k kept h (record { event = c.args.event.now; args = args; guard = label })
    (record { event = c.args.event.now; args = args; guard = c.args.guard.now }) (record { event = refl; args = refl; guard = t }) in
    let pushed : facts_of c.push.new.self ≡ facts_of c.args.self.now.facts ++ record { event = c.args.event.now; args = args; guard = c.args.guard.now } ∷ [] =
    ap facts_of c.in_ok-push.ensures.ok ∙ map-append fact_of c.args.self.now.facts (record { event = c.copy.result; args = args; guard = c.args.guard.now } ∷ [])
    ∙ ap (λ (event : List ℕ). facts_of c.args.self.now.facts ++ record { event = event; args = args; guard = c.args.guard.now } ∷ []) c.copy.ensures in
    rw (c.in-Some.is, numbers) (record {
      words = after.words;
      first = after.first;
      values = after.values;
      facts = subst (λ (facts : List (FactOf Table)). FactsHaveTables (k.facts ++ record { event = c.args.event.now; args = args; guard = label } ∷ []) facts) (sym pushed) after.facts;
    })
