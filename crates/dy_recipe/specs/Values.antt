-- The value of a move, and of a recipe, which is a list of moves.
use Rattle.std.specs.Prelude.{ℕ, ◌-◌, ◌==◌, nat_le, Option, Some, None, List, [], ◌∷◌, ◌++◌, slice_get, if◌then◌else◌}
use Rattle.std.specs.Option.{option_map, option_and_then}
use Rattle.dy_term.specs.Terms as trees
use Rattle.dy_term.specs.Terms.{Term, size}
use Rattle.dy_flat.specs.Parts as parts
use Rattle.dy_recipe.specs.Moves.{Move, Message, Cert, Forge, State, Lit, Name, Leaves, MessageAt, CertAt, FieldAt}
use Rattle.dy_recipe.specs.Moves.{Pair, Pk, Vk, Penc, Aead, Sign, Mac, Kdf, Hash, Fst, Snd, Pdec, Adec, Ad, Body}
use Rattle.dy_term.specs.declared.limits.TheConstants.{MAX_NODES}
use Rattle.dy_flat.specs.Openings.{penc_message, aead_message, signed_message}

-- the value that a number names among those of the earlier moves, counted from 1
abbrev pub value_at : List Term → ℕ → Option Term
value_at values number = if number == 0 then None else slice_get values (number - 1)

-- what an operation makes of values, where each of them is there
abbrev pub of_two : (Term → Term → Option Term) → Option Term → Option Term → Option Term
of_two operation (Some a) (Some b) = operation a b
of_two operation _ _ = None

abbrev pub of_three : (Term → Term → Term → Option Term)
    → Option Term → Option Term → Option Term → Option Term
of_three operation (Some a) (Some b) (Some c) = operation a b c
of_three operation _ _ _ = None

-- what a move gives over the values of the earlier moves, of any size
abbrev pub made_by : Leaves → List Term → Move → Option Term
made_by leaves values (Message index) = leaves.value (MessageAt index)
made_by leaves values (Cert index) = leaves.value (CertAt index)
made_by leaves values (Forge index) = if leaves.is_forge index then Some (trees.Nonce index) else None
made_by leaves values (State index field) = leaves.value (FieldAt index field)
made_by leaves values (Lit text) = Some (trees.Lit text)
made_by leaves values (Name principal) = Some (trees.Name principal)
made_by leaves values (Pair a b) = of_two (λ x y. Some (trees.Pair x y)) (value_at values a) (value_at values b)
made_by leaves values (Pk a) = option_map trees.Pk (value_at values a)
made_by leaves values (Vk a) = option_map trees.Vk (value_at values a)
made_by leaves values (Penc a b) = of_two (λ x y. Some (trees.Penc x y)) (value_at values a) (value_at values b)
made_by leaves values (Aead a b c) =
    of_three (λ x y z. Some (trees.Aead x y z)) (value_at values a) (value_at values b) (value_at values c)
made_by leaves values (Sign a b) = of_two (λ x y. Some (trees.Sign x y)) (value_at values a) (value_at values b)
made_by leaves values (Mac a b) = of_two (λ x y. Some (trees.Mac x y)) (value_at values a) (value_at values b)
made_by leaves values (Kdf a context b) =
    of_two (λ x y. Some (trees.Kdf x context y)) (value_at values a) (value_at values b)
made_by leaves values (Hash a) = option_map trees.Hash (value_at values a)
made_by leaves values (Fst a) = option_and_then parts.first (value_at values a)
made_by leaves values (Snd a) = option_and_then parts.second (value_at values a)
made_by leaves values (Pdec a key) = of_two penc_message (value_at values a) (value_at values key)
made_by leaves values (Adec a key) = of_two aead_message (value_at values a) (value_at values key)
made_by leaves values (Ad a) = option_and_then parts.data_part (value_at values a)
made_by leaves values (Body a) = option_and_then signed_message (value_at values a)

-- a term of at most 1,024 nodes
abbrev pub if_small : Term → Option Term
if_small term = if nat_le (size term) MAX_NODES then Some term else None

-- the value of a move over the values of the earlier moves
abbrev pub move_value : Leaves → List Term → Move → Option Term
move_value leaves values move = option_and_then if_small (made_by leaves values move)

-- The values of moves after earlier ones, each over the values of all before it. There are none where a move has none.
abbrev pub move_values : Leaves → List Term → List Move → Option (List Term)
move_values leaves earlier [] = Some earlier
move_values leaves earlier (move ∷ more) =
    option_and_then (λ value. move_values leaves (earlier ++ value ∷ []) more) (move_value leaves earlier move)

-- the last of some values
abbrev pub last_of : List Term → Option Term
last_of [] = None
last_of (value ∷ []) = Some value
last_of (value ∷ next ∷ more) = last_of (next ∷ more)

-- the value of a recipe: that of its last move
abbrev pub recipe_value : Leaves → List Move → Option Term
recipe_value leaves moves = option_and_then last_of (move_values leaves [] moves)
