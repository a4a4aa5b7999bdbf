-- A recipe of a plan as moves over a trace. They are the moves of its parts, from left to right, and then the move
-- that puts them together. There are none where a step that it names has not the entry that is asked of it.
use Rattle.std.specs.Prelude.{ℕ, List, [], ◌∷◌, ◌++◌, length, Option, Some}
use Rattle.std.specs.Option.{option_map, option_and_then}
use Rattle.dy_entry.specs.Entries.{Entry}
use Rattle.dy_recipe.specs.Moves as moves
use Rattle.dy_recipe.specs.Moves.{Move}
use Rattle.dy_syntax.specs.Plans.{Plan}
use Rattle.dy_syntax.specs.Recipes.{RecipeText, Recipes, Nil, Cons, Lit, Tuple, Name, Msg, Cert, Nonce, Field, Pair}
use Rattle.dy_syntax.specs.Recipes.{Pk, Vk, Penc, Aead, Sign, Mac, Kdf, Hash, Fst, Snd, Pdec, Adec, Ad, Body}
use Rattle.dy_plan.specs.Naming.{message_named, cert_named, nonce_named, state_named}

-- what adds moves to those before, where what it names is there
abbrev pub AddsMoves : Type 0
AddsMoves = List Move → Option (List Move)

-- one more move after others
abbrev pub with_move : List Move → Move → List Move
with_move before move = before ++ move ∷ []

-- a leaf, which is always there
abbrev pub add_move : Move → AddsMoves
add_move move before = Some (with_move before move)

-- a leaf by the index of an entry, if there is one
abbrev pub add_leaf : (ℕ → Move) → Option ℕ → AddsMoves
add_leaf leaf index before = option_map (λ i. with_move before (leaf i)) index

-- An operation over what stands before it. Moves count from 1, so the last of some moves has their number.
abbrev pub with_one : (ℕ → Move) → List Move → List Move
with_one operation key = with_move key (operation (length key))

abbrev pub with_two : (ℕ → ℕ → Move) → List Move → List Move → List Move
with_two operation first second = with_move second (operation (length first) (length second))

abbrev pub with_three : (ℕ → ℕ → ℕ → Move) → List Move → List Move → List Move → List Move
with_three operation first second third = with_move third (operation (length first) (length second) (length third))

-- the moves of one, two or three parts, and an operation over their last ones
abbrev pub over_one : (ℕ → Move) → AddsMoves → AddsMoves
over_one operation key before = option_map (with_one operation) (key before)

abbrev pub over_two : (ℕ → ℕ → Move) → AddsMoves → AddsMoves → AddsMoves
over_two operation first second before =
    option_and_then (λ one. option_map (with_two operation one) (second one)) (first before)

abbrev pub over_three : (ℕ → ℕ → ℕ → Move) → AddsMoves → AddsMoves → AddsMoves → AddsMoves
over_three operation first second third before =
    option_and_then (λ one. option_and_then (λ two. option_map (with_three operation one two) (third two)) (second one))
    (first before)

abbrev mutual
  -- the moves of a recipe, which end with that of its value
  pub add_recipe : Plan → List Entry → RecipeText → AddsMoves
  add_recipe plan T (Lit quote) = add_move (moves.Lit quote.text)
  add_recipe plan T (Name line principal) = add_move (moves.Name principal.word)
  add_recipe plan T (Msg msg) = add_leaf moves.Message (message_named plan T msg.step.word msg.number)
  add_recipe plan T (Cert cert) = add_leaf moves.Cert (cert_named plan T cert.step.word cert.number)
  add_recipe plan T (Nonce line step) = add_leaf moves.Forge (nonce_named plan T step.word)
  add_recipe plan T (Field line step version number) =
      add_leaf (λ index. moves.State index number) (state_named plan T step.word version)
  add_recipe plan T (Tuple tag args) = λ before. add_pairs plan T args (with_move before (moves.Lit tag.text))
  add_recipe plan T (Pair line first second) =
      over_two moves.Pair (add_recipe plan T first) (add_recipe plan T second)
  add_recipe plan T (Pk line key) = over_one moves.Pk (add_recipe plan T key)
  add_recipe plan T (Vk line key) = over_one moves.Vk (add_recipe plan T key)
  add_recipe plan T (Penc line key message) =
      over_two moves.Penc (add_recipe plan T key) (add_recipe plan T message)
  add_recipe plan T (Aead line key message ad) =
      over_three moves.Aead (add_recipe plan T key) (add_recipe plan T message) (add_recipe plan T ad)
  add_recipe plan T (Sign line key message) =
      over_two moves.Sign (add_recipe plan T key) (add_recipe plan T message)
  add_recipe plan T (Mac line key message) =
      over_two moves.Mac (add_recipe plan T key) (add_recipe plan T message)
  add_recipe plan T (Kdf line key context input) =
      over_two (λ k x. moves.Kdf k context.text x) (add_recipe plan T key) (add_recipe plan T input)
  add_recipe plan T (Hash line message) = over_one moves.Hash (add_recipe plan T message)
  add_recipe plan T (Fst line value) = over_one moves.Fst (add_recipe plan T value)
  add_recipe plan T (Snd line value) = over_one moves.Snd (add_recipe plan T value)
  add_recipe plan T (Pdec line value key) =
      over_two moves.Pdec (add_recipe plan T value) (add_recipe plan T key)
  add_recipe plan T (Adec line value key) =
      over_two moves.Adec (add_recipe plan T value) (add_recipe plan T key)
  add_recipe plan T (Ad line value) = over_one moves.Ad (add_recipe plan T value)
  add_recipe plan T (Body line value) = over_one moves.Body (add_recipe plan T value)

  -- The last value before, paired with the values of these recipes: pairs are nested to the right.
  pub add_pairs : Plan → List Entry → Recipes → AddsMoves
  add_pairs plan T Nil = Some
  add_pairs plan T (Cons first rest) = λ before.
      option_map (with_two moves.Pair before) (option_and_then (add_pairs plan T rest) (add_recipe plan T first before))

-- the moves of a recipe
abbrev pub moves_of : Plan → List Entry → RecipeText → Option (List Move)
moves_of plan T recipe = add_recipe plan T recipe []
