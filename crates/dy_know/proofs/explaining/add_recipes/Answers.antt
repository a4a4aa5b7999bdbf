use Rattle.std.proofs.Common.{ℕ, ◌<◌, List, length, ◌∙◌, subst, arith}
use Rattle.std.proofs.Math.ListN.{drop_of_length-le}
use Rattle.dy_know.specs.MirrorAuditors.{KeepsSecrets}
use Rattle.dy_know.proofs.InTurn.{keeps_explained_next, keeps_from_drop}
use Rattle.dy_know.proofs.Pushed.{on_err}
use Rattle.dy_know.proofs.explaining.add_recipes.Goals as goal

pub returns-in_err-add_recipe-clause-err : goal.returns-in_err-add_recipe-clause-err
returns-in_err-add_recipe-clause-err c = on_err c.from_residual.result (λ T known stood derived keeps.
    rw c.in_err-add_recipe.ensures.err
    (keeps_from_drop known c.args.nonces.now T c.loop-nonce.nonce-index c.loop-nonce.secrets (c.loop-nonce.invariant.secrets T known stood derived keeps)))

pub loop-nonce-preserved : goal.loop-nonce-preserved
loop-nonce-preserved c =
    let inside : c.loop-nonce.nonce-index < length c.args.nonces.now = omega arith in
    record {
      secrets = λ T known stood derived keeps.
          keeps_explained_next known c.args.nonces.now T c.loop-nonce.nonce-index c.loop-nonce.secrets c.add_recipe.new.secrets
          inside (λ by. c.in_ok-add_recipe.ensures.ok T stood by) derived (c.loop-nonce.invariant.secrets T known stood derived keeps);
      count = c.add_recipe.ensures.count ∙ c.loop-nonce.invariant.count;
    }

pub returns-clause-ok : goal.returns-clause-ok
returns-clause-ok c = λ T known stood derived keeps.
    subst (λ (m : List ℕ). KeepsSecrets known m T c.loop-nonce.secrets) (drop_of_length-le c.args.nonces.now {i = c.loop-nonce.nonce-index} (omega arith))
    (c.loop-nonce.invariant.secrets T known stood derived keeps)
