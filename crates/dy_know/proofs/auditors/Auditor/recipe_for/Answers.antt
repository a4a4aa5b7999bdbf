use Rattle.std.proofs.Common.{Option, Result, Ok, Err, IfOk, subst}
use Rattle.dy_recipe.specs.declared.moves.Recipe.{Recipe}
use Rattle.dy_know.specs.MirrorAuditors.{HasRecipe}
use Rattle.dy_know.proofs.ReportLists.{recipe_made}
use Rattle.dy_know.proofs.auditors.Auditor.recipe_for.Goals as goal

of_both : {X Y : Type 0} (r : Result X Y) (P Q R : X → Type 0) → ((x : X) → P x → Q x → R x) → IfOk r P → IfOk r Q → IfOk r R
of_both (Ok x) P Q R gives p q = gives x p q
of_both (Err y) P Q R gives p q = tt

pub returns-in-None : goal.returns-in-None
returns-in-None c =
    of_both c.recipe_of_nonce.result _ _ _
    (λ made decided needed. λ T missing from stands known has.
    recipe_made missing T c.args.nonce from made (decided T stands) needed known (subst (λ (r : Option Recipe). HasRecipe missing T c.args.nonce from r) c.in-None.is has))
    c.recipe_of_nonce.ensures.decided c.recipe_of_nonce.ensures.needed
