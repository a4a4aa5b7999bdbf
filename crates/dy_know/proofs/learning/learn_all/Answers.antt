use Rattle.std.proofs.Common.{ℕ, ◌++◌, List, length, ◌<◌, subst, arith}
use Rattle.std.proofs.lemmas.List.{take_all}
use Rattle.std.proofs.lemmas.Grind.{common_steps}
use Rattle.dy_label.specs.LabelsMeaning.{places_of}
use Rattle.dy_know.specs.MirrorAuditors.{KeepsSecrets}
use Rattle.dy_know.proofs.InTurn.{keeps_learned_next}
use Rattle.dy_know.proofs.learning.learn_all.Goals as goal

pub loop-nonce-preserved : goal.loop-nonce-preserved
loop-nonce-preserved c =
    let inside : c.loop-nonce.nonce-index < length c.args.nonces.now = omega arith in
    record {
      secrets = λ known T is places before derived keeps.
          keeps_learned_next known c.args.nonces.now T (places_of c.args.corruptions.now) c.loop-nonce.nonce-index c.args.last c.loop-nonce.secrets c.learn.new.secrets
          inside is places before derived c.learn.ensures.changes (c.loop-nonce.invariant.secrets known T is places before derived keeps);
      count = grind (arith, common_steps);
      few = grind (arith, common_steps);
    }

pub returns-clause-secrets : goal.returns-clause-secrets
returns-clause-secrets c = λ known T is places before derived keeps.
    subst (λ (n : List ℕ). KeepsSecrets (known ++ n) n T c.loop-nonce.secrets) (take_all c.loop-nonce.nonce-index c.args.nonces.now (omega arith))
    (c.loop-nonce.invariant.secrets known T is places before derived keeps)
