-- A recipe without the moves that its last one does not need.
use Rattle.std.specs.Prelude.{◌≡◌, ℕ, zero, suc, ◌+◌, ◌-◌, ◌<◌, ◌≤◌, Some}
use Rattle.std.specs.Prelude.{List, [], ◌∷◌, length, take, slice_get, slice_index}
use Rattle.dy_term.specs.Terms.{Term}
use Rattle.dy_recipe.specs.Moves.{Move, Message, Cert, Forge, State, Lit, Name, Leaves}
use Rattle.dy_recipe.specs.Moves.{Pair, Pk, Vk, Penc, Aead, Sign, Mac, Kdf, Hash, Fst, Snd, Pdec, Adec, Ad, Body}
use Rattle.dy_recipe.specs.Values.{recipe_value}

-- The numbers by which a move names earlier ones. Of the three, those that it does not have are 0, which names none.
abbrev pub numbers_of : Move → List ℕ
numbers_of (Message index) = 0 ∷ 0 ∷ 0 ∷ []
numbers_of (Cert index) = 0 ∷ 0 ∷ 0 ∷ []
numbers_of (Forge index) = 0 ∷ 0 ∷ 0 ∷ []
numbers_of (State index field) = 0 ∷ 0 ∷ 0 ∷ []
numbers_of (Lit text) = 0 ∷ 0 ∷ 0 ∷ []
numbers_of (Name principal) = 0 ∷ 0 ∷ 0 ∷ []
numbers_of (Pair a b) = a ∷ b ∷ 0 ∷ []
numbers_of (Pk a) = a ∷ 0 ∷ 0 ∷ []
numbers_of (Vk a) = a ∷ 0 ∷ 0 ∷ []
numbers_of (Penc a b) = a ∷ b ∷ 0 ∷ []
numbers_of (Aead a b c) = a ∷ b ∷ c ∷ []
numbers_of (Sign a b) = a ∷ b ∷ 0 ∷ []
numbers_of (Mac a b) = a ∷ b ∷ 0 ∷ []
numbers_of (Kdf a context b) = a ∷ b ∷ 0 ∷ []
numbers_of (Hash a) = a ∷ 0 ∷ 0 ∷ []
numbers_of (Fst a) = a ∷ 0 ∷ 0 ∷ []
numbers_of (Snd a) = a ∷ 0 ∷ 0 ∷ []
numbers_of (Pdec a b) = a ∷ b ∷ 0 ∷ []
numbers_of (Adec a b) = a ∷ b ∷ 0 ∷ []
numbers_of (Ad a) = a ∷ 0 ∷ 0 ∷ []
numbers_of (Body a) = a ∷ 0 ∷ 0 ∷ []

-- A later move names the one at this place. Places count from 0, and numbers from 1.
pub record IsNeeded (moves : List Move) (place : ℕ) : Type 0 where
  pub later : ℕ
  pub move : Move
  pub after : place < later
  pub stands : slice_get moves later ≡ Some move
  pub names : (k : ℕ) × (slice_get (numbers_of move) k ≡ Some (place + 1))

-- each move but the last is needed by a later one
abbrev pub EachIsNeeded : List Move → Type 0
EachIsNeeded moves = (place : ℕ) → place + 1 < length moves → IsNeeded moves place

-- Where the one recipe has a value the other has it too.
abbrev pub KeepsValue : List Move → List Move → Type 0
KeepsValue whole trimmed =
    (leaves : Leaves) (value : Term)
    → recipe_value leaves whole ≡ Some value → recipe_value leaves trimmed ≡ Some value

-- The last move of a recipe is kept, and so is each that a later kept one names.
pub data IsKept (moves : List Move) : ℕ → Type 0 where
  last : (place : ℕ) → place + 1 ≡ length moves → IsKept moves place
  named : (place later : ℕ) (move : Move) (k : ℕ) → IsKept moves later → place < later
      → slice_get moves later ≡ Some move → slice_get (numbers_of move) k ≡ Some (place + 1) → IsKept moves place

-- what a number becomes, where moves have these new numbers: 0 if it is of none of them
abbrev pub new_number : List ℕ → ℕ → ℕ
new_number numbers zero = 0
new_number numbers (suc place) = slice_index numbers place

-- a move with other numbers
abbrev pub renumber : (ℕ → ℕ) → Move → Move
renumber new (Message index) = Message index
renumber new (Cert index) = Cert index
renumber new (Forge index) = Forge index
renumber new (State index field) = State index field
renumber new (Lit text) = Lit text
renumber new (Name principal) = Name principal
renumber new (Pair a b) = Pair (new a) (new b)
renumber new (Pk a) = Pk (new a)
renumber new (Vk a) = Vk (new a)
renumber new (Penc a b) = Penc (new a) (new b)
renumber new (Aead a b c) = Aead (new a) (new b) (new c)
renumber new (Sign a b) = Sign (new a) (new b)
renumber new (Mac a b) = Mac (new a) (new b)
renumber new (Kdf a context b) = Kdf (new a) context (new b)
renumber new (Hash a) = Hash (new a)
renumber new (Fst a) = Fst (new a)
renumber new (Snd a) = Snd (new a)
renumber new (Pdec a b) = Pdec (new a) (new b)
renumber new (Adec a b) = Adec (new a) (new b)
renumber new (Ad a) = Ad (new a)
renumber new (Body a) = Body (new a)

-- One recipe has the kept moves of the other, in the same order and no others. Each names what it named, by the new
-- numbers; a number that was of no earlier move is 0. Of each move of the other `numbers` has the new number, counted
-- from 1, or 0 where the move is left out.
pub record IsTrimmed (whole trimmed : List Move) : Type 0 where
  pub numbers : List ℕ
  pub each : length numbers ≡ length whole
  pub kept : (place : ℕ) → IsKept whole place → 0 < slice_index numbers place
  pub only : (place : ℕ) → 0 < slice_index numbers place → IsKept whole place
  pub order : (place later : ℕ) → place < later → IsKept whole place → IsKept whole later
      → slice_index numbers place < slice_index numbers later
  pub all : (number : ℕ) → 0 < number → number ≤ length trimmed
      → (place : ℕ) × (IsKept whole place × (slice_index numbers place ≡ number))
  pub moves : (place : ℕ) (move : Move) → IsKept whole place → slice_get whole place ≡ Some move
      → slice_get trimmed (slice_index numbers place - 1)
      ≡ Some (renumber (new_number (take place numbers)) move)
