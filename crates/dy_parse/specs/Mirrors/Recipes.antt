-- What the code's operations of recipes make.
use Rattle.std.specs.Prelude.{ℕ}
use Rattle.dy_syntax.specs.Recipes as r
use Rattle.dy_syntax.specs.Recipes.{RecipeText}
use Rattle.dy_parse.specs.declared.recipes.Unary.{Unary}
use Rattle.dy_parse.specs.declared.recipes.Unary.TheVariants as unary
use Rattle.dy_parse.specs.declared.recipes.Binary.{Binary}
use Rattle.dy_parse.specs.declared.recipes.Binary.TheVariants as binary

abbrev pub unary_of : Unary → ℕ → RecipeText → RecipeText
unary_of unary.Pk = r.Pk
unary_of unary.Vk = r.Vk
unary_of unary.Hash = r.Hash
unary_of unary.Fst = r.Fst
unary_of unary.Snd = r.Snd
unary_of unary.Ad = r.Ad
unary_of unary.Body = r.Body

abbrev pub binary_of : Binary → ℕ → RecipeText → RecipeText → RecipeText
binary_of binary.Pair = r.Pair
binary_of binary.Penc = r.Penc
binary_of binary.Sign = r.Sign
binary_of binary.Mac = r.Mac
binary_of binary.Pdec = r.Pdec
binary_of binary.Adec = r.Adec
