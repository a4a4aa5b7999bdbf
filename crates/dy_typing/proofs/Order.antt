-- Weaker knowledge of a handler is ordered.
use Rattle.std.proofs.Common.{ℕ, List, map, refl, ◌∙◌, subst}
use Rattle.dy_types.specs.Facts.{first_of, HasFact}
use Rattle.dy_typing.specs.Knowledge.{Knowledge, known_at, IsWeakerKnowledge}
use Rattle.dy_typing.proofs.ValueLaws.{Laws}
use Rattle.dy_typing.proofs.Known.{HasFact-itself, HasFact-stronger, first_of-weaker}

-- Knowledge is no weaker than itself.
pub IsWeakerKnowledge-itself : Laws → (k : Knowledge) → IsWeakerKnowledge k k
IsWeakerKnowledge-itself laws k = record {
  words = refl;
  first = refl;
  count = refl;
  values = λ number. laws.itself (known_at k number);
  facts = HasFact-itself laws k.first k.facts;
}

-- What is weaker than weaker knowledge is weaker.
pub IsWeakerKnowledge-onward : Laws → (first second third : Knowledge)
    → IsWeakerKnowledge first second → IsWeakerKnowledge second third → IsWeakerKnowledge first third
IsWeakerKnowledge-onward laws first second third h k = record {
  words = k.words ∙ h.words;
  first = k.first ∙ h.first;
  count = k.count ∙ h.count;
  values = λ number. laws.onward (known_at first number) (known_at second number) (known_at third number)
      (h.values number) (k.values number);
  facts = λ fact has.
      HasFact-stronger laws first second h fact.event (map (first_of first.first) fact.args) fact.guard
      (subst (λ (args : List ℕ). HasFact second.first second.facts fact.event args fact.guard)
      (first_of-weaker first second h fact.args) (k.facts fact has));
}
