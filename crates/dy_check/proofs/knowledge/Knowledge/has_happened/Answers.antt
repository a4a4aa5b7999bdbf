use Rattle.std.proofs.Common.{map, sym, ◌∙◌}
use Rattle.std.proofs.lemmas.Bool.{true≢false}
use Rattle.dy_check.specs.Meaning.{knowledge_of, nm_ref_of}
use Rattle.dy_check.proofs.KnowledgeTables.{same_given_values}
use Rattle.dy_check.proofs.knowledge.Knowledge.has_happened.Goals as goal

pub returns-in_default-2 : goal.returns-in_default-2
returns-in_default-2 c = λ k label h t.
    let names = map nm_ref_of c.in-Some.names.now in
    let values = same_given_values k (knowledge_of c.args.self.now) h names ∙ sym c.in_ok-values.ensures in
    rw (c.in-Some.is, values ∙ c.in_default-2.is) (λ p. absurd (true≢false (sym p)), λ p. absurd p)

pub returns : goal.returns
returns c = λ k label h t.
    let names = map nm_ref_of c.in-Some.names.now in
    let values = same_given_values k (knowledge_of c.args.self.now) h names ∙ sym c.in_ok-values.ensures in
    let has = rw (c.as_slice.ensures, c.as_slice-2.ensures, c.as_slice-3.ensures, h.first) at c.has_fact.ensures in
    rw (c.in-Some.is, values ∙ c.in-Some-2.is) (has k.facts label h.facts t)
