use Rattle.std.proofs.Common.{◌≡◌, ℕ, List, Option, Some, None, IfSome, refl, ap, sym, ◌∙◌, subst}
use Rattle.dy_term.specs.Terms.{Nonce}
use Rattle.dy_entry.specs.Entries.{Entry}
use Rattle.dy_entry.specs.Attacker.{Derives}
use Rattle.dy_recipe.specs.declared.moves.Recipe.{Recipe}
use Rattle.dy_recipe.specs.Meaning.{recipe_of}
use Rattle.dy_recipe.specs.Trimming.{EachIsNeeded}
use Rattle.dy_derive.specs.Derivable.{DecidesDerivable}
use Rattle.dy_know.specs.declared.secrets.Knowing.{Knowing}
use Rattle.dy_know.specs.declared.secrets.Knowing.TheVariants.{Breach}
use Rattle.dy_know.specs.MirrorAuditors.{ExplainsKnowing}
use Rattle.dy_know.proofs.secrets.Knowing.explain.Goals as goal

explained : (T : List Entry) (nonce from : ℕ) (old : Knowing) (recipe found : Option Recipe) → old ≡ Breach from recipe → recipe ≡ None → Derives T (Nonce nonce)
    → DecidesDerivable T (Nonce nonce) found → IfSome found (λ (r : Recipe). EachIsNeeded (recipe_of r)) → ExplainsKnowing T nonce old (Breach from found)
explained T nonce from old recipe None is none derived decided needed = absurd (decided derived)
explained T nonce from old recipe (Some r) is none derived decided needed =
    subst (λ (k : Knowing). ExplainsKnowing T nonce k (Breach from (Some r))) (sym (is ∙ ap (Breach from) none)) (r, refl, decided, needed)

pub returns-in_ok-recipe-clause-ok : goal.returns-in_ok-recipe-clause-ok
returns-in_ok-recipe-clause-ok c = λ T stands derived.
    explained T c.args.nonce c.in-Breach-default-None.from c.args.self.now c.in-Breach-default-None.recipe c.in_ok-recipe.recipe
    c.in-Breach-default-None.is c.in-Breach-default-None.recipe-is derived (c.in_ok-recipe.ensures.decided T stands) c.in_ok-recipe.ensures.needed
