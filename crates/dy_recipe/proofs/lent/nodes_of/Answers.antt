use Rattle.std.proofs.Common.{◌≡◌, ℕ, nat_le, subst, sym}
use Rattle.dy_term.specs.Terms.{size}
use Rattle.dy_recipe.specs.declared.lent.Lent.{Lent}
use Rattle.dy_recipe.specs.LentMeaning.{term_of_lent}
use Rattle.dy_recipe.proofs.lent.nodes_of.Goals as goal

-- the number is that of this term, as far as 1,024
abbrev Counts : ℕ → Lent → Type 0
Counts number lent = nat_le number 1024 ≡ nat_le (size (term_of_lent lent)) 1024

pub returns-in-Pair : goal.returns-in-Pair
returns-in-Pair c = subst (Counts c.nodes_of_two.result) (sym c.in-Pair.is) c.nodes_of_two.ensures

pub returns-in-Penc : goal.returns-in-Penc
returns-in-Penc c = subst (Counts c.nodes_of_two-in-Penc.result) (sym c.in-Penc.is) c.nodes_of_two-in-Penc.ensures

pub returns-in-Sign : goal.returns-in-Sign
returns-in-Sign c = subst (Counts c.nodes_of_two-in-Sign.result) (sym c.in-Sign.is) c.nodes_of_two-in-Sign.ensures

pub returns-in-Mac : goal.returns-in-Mac
returns-in-Mac c = subst (Counts c.nodes_of_two-in-Mac.result) (sym c.in-Mac.is) c.nodes_of_two-in-Mac.ensures

pub returns-in-Kdf : goal.returns-in-Kdf
returns-in-Kdf c = subst (Counts c.nodes_of_two-in-Kdf.result) (sym c.in-Kdf.is) c.nodes_of_two-in-Kdf.ensures

pub returns-in-Aead : goal.returns-in-Aead
returns-in-Aead c = subst (Counts c.nodes_of_three.result) (sym c.in-Aead.is) c.nodes_of_three.ensures
