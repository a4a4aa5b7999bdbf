use Rattle.std.proofs.Common.{◌≡◌, ◌<◌, length, get_or, Option, Some, None, refl, ap, sym, ◌∙◌, subst, arith}
use Rattle.std.specs.List.{slice_get}
use Rattle.std.proofs.lemmas.Option.{slice_get-get_or}
use Rattle.std.proofs.lemmas.Result.{on_ok_weaker}
use Rattle.dy_know.specs.declared.secrets.Secret.{Secret}
use Rattle.dy_know.specs.MirrorAuditors.{ExplainsSecret}
use Rattle.dy_know.proofs.Changes.{explains_set}
use Rattle.dy_know.proofs.explaining.add_recipe.Goals as goal

pub returns-in-Some-clause-ok : goal.returns-in-Some-clause-ok
returns-in-Some-clause-ok c =
    let secrets = c.args.secrets.now in
    let nonce = c.args.nonce in
    let within : nonce < length secrets = omega arith in
    let stands : slice_get secrets nonce ≡ Some (Some c.in-Some.secret) =
    slice_get-get_or secrets nonce c.index-secrets-place.result within ∙ ap Some c.in-Some.is in
    on_ok_weaker c.explain.result
    (λ explains T stood derived. explains_set T secrets nonce _ (Some c.in-Some.secret) within stands (refl, explains T stood derived))
    c.explain.ensures.ok

pub returns-in-None-clause-ok : goal.returns-in-None-clause-ok
returns-in-None-clause-ok c = λ T stood derived.
    let secrets = c.args.secrets.now in
    let nonce = c.args.nonce in
    let kept = get_or secrets nonce c.index-secrets-place.result in
    let within : nonce < length secrets = omega arith in
    let none : kept ≡ None = c.in-None.is in
    explains_set T secrets nonce kept kept within (slice_get-get_or secrets nonce c.index-secrets-place.result within)
    (subst (λ (s : Option Secret). ExplainsSecret T nonce s s) (sym none) refl)
