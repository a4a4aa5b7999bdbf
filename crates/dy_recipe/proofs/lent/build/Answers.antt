use Rattle.std.proofs.Common.{◌≡◌, subst, sym, IfOk}
use Rattle.dy_recipe.specs.declared.lent.Lent.{Lent}
use Rattle.dy_recipe.specs.LentMeaning.{term_of_lent}
use Rattle.dy_recipe.proofs.lent.build.Goals as goal

pub returns-in-Aead : goal.returns-in-Aead
returns-in-Aead c = let P : Lent → Type 0 = λ lent. IfOk c.aead.result (λ made. made ≡ term_of_lent lent) in subst P (sym c.in-Aead.is) c.aead.ensures
