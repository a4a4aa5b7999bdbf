-- What lent terms are made into.
use Rattle.dy_term.specs.Terms as trees
use Rattle.dy_flat.specs.Views.{tree_of}
use Rattle.dy_recipe.specs.declared.lent.Lent.{Lent}
use Rattle.dy_recipe.specs.declared.lent.Lent.TheVariants as code

abbrev pub term_of_lent : Lent → trees.Term
term_of_lent (code.Whole term) = term.now
term_of_lent (code.Part part) = tree_of part
term_of_lent (code.Lit text) = trees.Lit text.now
term_of_lent (code.Name principal) = trees.Name principal.now
term_of_lent (code.Nonce index) = trees.Nonce index
term_of_lent (code.Pair a b) = trees.Pair (tree_of a) (tree_of b)
term_of_lent (code.Pk a) = trees.Pk (tree_of a)
term_of_lent (code.Vk a) = trees.Vk (tree_of a)
term_of_lent (code.Penc a b) = trees.Penc (tree_of a) (tree_of b)
term_of_lent (code.Aead a b c) = trees.Aead (tree_of a) (tree_of b) (tree_of c)
term_of_lent (code.Sign a b) = trees.Sign (tree_of a) (tree_of b)
term_of_lent (code.Mac a b) = trees.Mac (tree_of a) (tree_of b)
term_of_lent (code.Kdf a context b) = trees.Kdf (tree_of a) context.now (tree_of b)
term_of_lent (code.Hash a) = trees.Hash (tree_of a)
