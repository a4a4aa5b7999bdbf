-- What moves and recipes of the code stand for, and what is answered where a leaf is asked.
use Rattle.std.specs.Prelude.{Option, None, List, map}
use Rattle.dy_term.specs.Terms.{Term}
use Rattle.dy_recipe.specs.declared.moves.Move.{Move}
use Rattle.dy_recipe.specs.declared.moves.Move.TheVariants as code
use Rattle.dy_recipe.specs.declared.moves.Recipe.{Recipe}
use Rattle.dy_recipe.specs.Moves as moves

abbrev pub move_of : Move → moves.Move
move_of (code.Message index) = moves.Message index
move_of (code.Cert index) = moves.Cert index
move_of (code.Forge index) = moves.Forge index
move_of (code.State index field) = moves.State index field
move_of (code.Lit text) = moves.Lit text
move_of (code.Name principal) = moves.Name principal
move_of (code.Pair a b) = moves.Pair a b
move_of (code.Pk a) = moves.Pk a
move_of (code.Vk a) = moves.Vk a
move_of (code.Penc a b) = moves.Penc a b
move_of (code.Aead a b c) = moves.Aead a b c
move_of (code.Sign a b) = moves.Sign a b
move_of (code.Mac a b) = moves.Mac a b
move_of (code.Kdf a context b) = moves.Kdf a context b
move_of (code.Hash a) = moves.Hash a
move_of (code.Fst a) = moves.Fst a
move_of (code.Snd a) = moves.Snd a
move_of (code.Pdec a key) = moves.Pdec a key
move_of (code.Adec a key) = moves.Adec a key
move_of (code.Ad a) = moves.Ad a
move_of (code.Body a) = moves.Body a

abbrev pub recipe_of : Recipe → List moves.Move
recipe_of recipe = map move_of recipe.moves

-- What is given at a message, a certificate or a field of a state. Of another move nothing is.
abbrev pub given_at : moves.Leaves → moves.Move → Option Term
given_at leaves (moves.Message index) = leaves.value (moves.MessageAt index)
given_at leaves (moves.Cert index) = leaves.value (moves.CertAt index)
given_at leaves (moves.State index field) = leaves.value (moves.FieldAt index field)
given_at leaves _ = None
