use Rattle.std.proofs.Common.{◌≡◌, subst}
use Rattle.dy_recipe.specs.declared.moves.Recipe.{Recipe}
use Rattle.dy_recipe.specs.Meaning.{recipe_of}
use Rattle.dy_know.specs.Breaches.{GivesNonce}
use Rattle.dy_know.proofs.ReportLists.{breach_known, breach_found}
use Rattle.dy_know.proofs.auditors.Auditor.nonce_breach.Goals as goal

pub returns-in_default-2 : goal.returns-in_default-2
returns-in_default-2 c = λ T known missing label stands kept.
    let due = breach_known known missing T c.args.nonce c.in-Breach.from label c.args.secret.now c.in-Some.secret c.in-Breach.recipe c.in-Some.is c.in-Breach.is kept in
    let made = c.in_ok-recipe.ensures T missing c.in-Breach.from stands due.0 due.1 in
    absurd (cc (made.1, c.in_default-2.is))

pub returns : goal.returns
returns c = λ T known missing label stands kept.
    let due = breach_known known missing T c.args.nonce c.in-Breach.from label c.args.secret.now c.in-Some.secret c.in-Breach.recipe c.in-Some.is c.in-Breach.is kept in
    let made = c.in_ok-recipe.ensures T missing c.in-Breach.from stands due.0 due.1 in
    let same : made.0 ≡ c.in-Some-2.recipe = cc (made.1, c.in-Some-2.is) in
    breach_found T c.args.nonce c.in-Breach.from c.args.secret.now c.in-Some.secret c.in-Breach.recipe (recipe_of c.in-Some-2.recipe) c.in-Some.is c.in-Breach.is
    (subst (λ (r : Recipe). GivesNonce T c.args.nonce c.in-Breach.from (recipe_of r)) same made.2)
