use Rattle.std.proofs.Common.{◌↔◌, sym, ◌∙◌}
use Rattle.std.specs.Bool.{IsTrue}
use Rattle.std.proofs.lemmas.Bool.{true≢false}
use Rattle.dy_types.specs.FieldTypes.{Declared, Fits}
use Rattle.dy_types.specs.Meaning.{use_of}
use Rattle.dy_types.proofs.TypeCases.{at_upto, at_secret, at_key, at_pk, at_vk}
use Rattle.dy_types.proofs.field_types.fits.Goals as goal

pub returns-in-Upto : goal.returns-in-Upto
returns-in-Upto c = λ value type h k.
    at_upto (λ (t : Declared). IsTrue c.within.result ↔ Fits value t) type c.in-Upto.label (rw c.in-Upto.is at k)
    (λ label has. c.within.ensures.labels label value.hi has.names h.hi.names has.rows h.hi.rows)

pub returns-in-Secret : goal.returns-in-Secret
returns-in-Secret c = λ value type h k.
    at_secret (λ (t : Declared). IsTrue c.is_secret.result ↔ Fits value t) type c.in-Secret.label (rw c.in-Secret.is at k)
    (λ label has. c.is_secret.ensures value label h has)

pub returns-then-is_secret : goal.returns-then-is_secret
returns-then-is_secret c = λ value type h k.
    at_key (λ (t : Declared). IsTrue c.has_use.result ↔ Fits value t) type c.in-Key.label (use_of c.in-Key.usage) (rw c.in-Key.is at k)
    (λ label has.
    let secret = (c.is_secret-in-Key.ensures value label h has).0 c.if-is_secret.true in
    let uses = c.has_use.ensures value h in
    (λ p. (secret.0, secret.1, uses.0 p), λ f. uses.1 f.2))

pub returns-else-is_secret : goal.returns-else-is_secret
returns-else-is_secret c = λ value type h k.
    at_key (λ (t : Declared). IsTrue c.is_secret-in-Key.result ↔ Fits value t) type c.in-Key.label (use_of c.in-Key.usage) (rw c.in-Key.is at k)
    (λ label has.
    (λ p. absurd (true≢false (sym p ∙ c.if-is_secret.false)), λ f. (c.is_secret-in-Key.ensures value label h has).1 (f.0, f.1)))

pub returns-in-Pk : goal.returns-in-Pk
returns-in-Pk c = λ value type h k.
    at_pk (λ (t : Declared). IsTrue c.has_pk.result ↔ Fits value t) type c.in-Pk.label (use_of c.in-Pk.usage) (rw c.in-Pk.is at k)
    (λ label has. c.has_pk.ensures value label h has)

pub returns-in-Vk : goal.returns-in-Vk
returns-in-Vk c = λ value type h k.
    at_vk (λ (t : Declared). IsTrue c.has_vk.result ↔ Fits value t) type c.in-Vk.label (use_of c.in-Vk.usage) (rw c.in-Vk.is at k)
    (λ label has. c.has_vk.ensures value label h has)
