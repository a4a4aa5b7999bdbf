-- The text of a move and of a recipe.
use Rattle.std.specs.Prelude.{ℕ, List, ◌++◌, codes}
use Rattle.std.specs.List.{join_by}
use Rattle.std.specs.Fmt.{decimal}
use Rattle.dy_term.specs.Characters.{in_quotes}
use Rattle.dy_recipe.specs.Moves.{Move, Message, Cert, Forge, State, Lit, Name}
use Rattle.dy_recipe.specs.Moves.{Pair, Pk, Vk, Penc, Aead, Sign, Mac, Kdf, Hash, Fst, Snd, Pdec, Adec, Ad, Body}

-- an operation over one earlier move
abbrev pub of_one : List ℕ → ℕ → List ℕ
of_one name a = name ++ codes "(" ++ decimal a ++ codes ")"

abbrev pub of_two : List ℕ → ℕ → ℕ → List ℕ
of_two name a b = name ++ codes "(" ++ decimal a ++ codes ", " ++ decimal b ++ codes ")"

-- An operation is written as that of a term, over the numbers of earlier moves.
abbrev pub move_text : Move → List ℕ
move_text (Message index) = codes "m" ++ decimal index
move_text (Cert index) = codes "c" ++ decimal index
move_text (Forge index) = codes "f" ++ decimal index
move_text (State index field) = codes "s" ++ decimal index ++ codes "." ++ decimal field
move_text (Lit text) = in_quotes text
move_text (Name principal) = codes "@" ++ principal
move_text (Pair first second) = of_two (codes "pair") first second
move_text (Pk key) = of_one (codes "pk") key
move_text (Vk key) = of_one (codes "vk") key
move_text (Penc to message) = of_two (codes "penc") to message
move_text (Aead key message associated) =
    codes "aead(" ++ decimal key ++ codes ", " ++ decimal message ++ codes ", " ++ decimal associated ++ codes ")"
move_text (Sign key message) = of_two (codes "sign") key message
move_text (Mac key message) = of_two (codes "mac") key message
move_text (Kdf key context input) =
    codes "kdf(" ++ decimal key ++ codes ", " ++ in_quotes context ++ codes ", " ++ decimal input ++ codes ")"
move_text (Hash message) = of_one (codes "hash") message
move_text (Fst pair) = of_one (codes "fst") pair
move_text (Snd pair) = of_one (codes "snd") pair
move_text (Pdec sealed key) = of_two (codes "pdec") sealed key
move_text (Adec sealed key) = of_two (codes "adec") sealed key
move_text (Ad sealed) = of_one (codes "ad") sealed
move_text (Body signed) = of_one (codes "body") signed

-- the moves, with a separator between
abbrev pub moves_text : List Move → List ℕ
moves_text moves = join_by move_text (codes "; ") moves
