-- A walk over the parts of a term, each after its own parts, and then over the term itself.
use Rattle.std.specs.Prelude.{ℕ, ◌+◌, ◌-◌, Option, Some, None, List, [], ◌∷◌, ◌++◌, slice_get}
use Rattle.std.specs.Option.{option_map, option_and_then}
use Rattle.dy_term.specs.Terms as trees
use Rattle.dy_term.specs.Terms.{size}

-- A constructor with its content, and in the place of each part the number of an earlier step. Steps count from 0.
pub data Step : Type 0 where
  Lit : (text : List ℕ) → Step
  Name : (principal : List ℕ) → Step
  Nonce : (index : ℕ) → Step
  Pair : (first second : ℕ) → Step
  Pk : (key : ℕ) → Step
  Vk : (key : ℕ) → Step
  Penc : (to message : ℕ) → Step
  Aead : (key message associated : ℕ) → Step
  Sign : (key message : ℕ) → Step
  Mac : (key message : ℕ) → Step
  Kdf : (key : ℕ) (context : List ℕ) (input : ℕ) → Step
  Hash : (message : ℕ) → Step

-- the number of the step of a term itself, where the first of its steps has this number
abbrev pub last_number : ℕ → trees.Term → ℕ
last_number first term = (first + size term) - 1

-- The steps of a term, where the first of them has this number: those of the last part, and so on to the first part.
abbrev pub steps_from : ℕ → trees.Term → List Step
steps_from n (trees.Lit text) = Lit text ∷ []
steps_from n (trees.Name principal) = Name principal ∷ []
steps_from n (trees.Nonce index) = Nonce index ∷ []
steps_from n (trees.Pair a b) =
    steps_from n b ++ (steps_from (n + size b) a ++ Pair (last_number (n + size b) a) (last_number n b) ∷ [])
steps_from n (trees.Pk k) = steps_from n k ++ Pk (last_number n k) ∷ []
steps_from n (trees.Vk k) = steps_from n k ++ Vk (last_number n k) ∷ []
steps_from n (trees.Penc p m) =
    steps_from n m ++ (steps_from (n + size m) p ++ Penc (last_number (n + size m) p) (last_number n m) ∷ [])
steps_from n (trees.Aead k m a) =
    steps_from n a ++ (steps_from (n + size a) m ++ (steps_from ((n + size a) + size m) k
    ++ Aead (last_number ((n + size a) + size m) k) (last_number (n + size a) m) (last_number n a) ∷ []))
steps_from n (trees.Sign k m) =
    steps_from n m ++ (steps_from (n + size m) k ++ Sign (last_number (n + size m) k) (last_number n m) ∷ [])
steps_from n (trees.Mac k m) =
    steps_from n m ++ (steps_from (n + size m) k ++ Mac (last_number (n + size m) k) (last_number n m) ∷ [])
steps_from n (trees.Kdf k context x) =
    steps_from n x ++ (steps_from (n + size x) k ++ Kdf (last_number (n + size x) k) context (last_number n x) ∷ [])
steps_from n (trees.Hash m) = steps_from n m ++ Hash (last_number n m) ∷ []

abbrev pub steps_of : trees.Term → List Step
steps_of term = steps_from 0 term

-- the terms of these steps: the parts of a term, each after its own parts, and then the term
abbrev pub walk_of : trees.Term → List trees.Term
walk_of (trees.Lit text) = trees.Lit text ∷ []
walk_of (trees.Name principal) = trees.Name principal ∷ []
walk_of (trees.Nonce index) = trees.Nonce index ∷ []
walk_of (trees.Pair a b) = walk_of b ++ (walk_of a ++ trees.Pair a b ∷ [])
walk_of (trees.Pk k) = walk_of k ++ trees.Pk k ∷ []
walk_of (trees.Vk k) = walk_of k ++ trees.Vk k ∷ []
walk_of (trees.Penc p m) = walk_of m ++ (walk_of p ++ trees.Penc p m ∷ [])
walk_of (trees.Aead k m a) = walk_of a ++ (walk_of m ++ (walk_of k ++ trees.Aead k m a ∷ []))
walk_of (trees.Sign k m) = walk_of m ++ (walk_of k ++ trees.Sign k m ∷ [])
walk_of (trees.Mac k m) = walk_of m ++ (walk_of k ++ trees.Mac k m ∷ [])
walk_of (trees.Kdf k context x) = walk_of x ++ (walk_of k ++ trees.Kdf k context x ∷ [])
walk_of (trees.Hash m) = walk_of m ++ trees.Hash m ∷ []

-- what a constructor makes of two terms, where both are there
abbrev pub of_two : (trees.Term → trees.Term → trees.Term)
    → Option trees.Term → Option trees.Term → Option trees.Term
of_two make (Some a) (Some b) = Some (make a b)
of_two make _ _ = None

-- the same of three
abbrev pub of_three : (trees.Term → trees.Term → trees.Term → trees.Term)
    → Option trees.Term → Option trees.Term → Option trees.Term → Option trees.Term
of_three make (Some a) (Some b) (Some c) = Some (make a b c)
of_three make _ _ _ = None

-- the term of a step over the terms of the earlier steps
abbrev pub term_of_step : List trees.Term → Step → Option trees.Term
term_of_step earlier (Lit text) = Some (trees.Lit text)
term_of_step earlier (Name principal) = Some (trees.Name principal)
term_of_step earlier (Nonce index) = Some (trees.Nonce index)
term_of_step earlier (Pair a b) = of_two trees.Pair (slice_get earlier a) (slice_get earlier b)
term_of_step earlier (Pk k) = option_map trees.Pk (slice_get earlier k)
term_of_step earlier (Vk k) = option_map trees.Vk (slice_get earlier k)
term_of_step earlier (Penc p m) = of_two trees.Penc (slice_get earlier p) (slice_get earlier m)
term_of_step earlier (Aead k m a) =
    of_three trees.Aead (slice_get earlier k) (slice_get earlier m) (slice_get earlier a)
term_of_step earlier (Sign k m) = of_two trees.Sign (slice_get earlier k) (slice_get earlier m)
term_of_step earlier (Mac k m) = of_two trees.Mac (slice_get earlier k) (slice_get earlier m)
term_of_step earlier (Kdf k context x) =
    of_two (λ key input. trees.Kdf key context input) (slice_get earlier k) (slice_get earlier x)
term_of_step earlier (Hash m) = option_map trees.Hash (slice_get earlier m)

-- Earlier terms and then those of steps, each over all before it. There are none where a step has no term.
abbrev pub terms_by_steps : List trees.Term → List Step → Option (List trees.Term)
terms_by_steps earlier [] = Some earlier
terms_by_steps earlier (step ∷ more) =
    option_and_then (λ term. terms_by_steps (earlier ++ term ∷ []) more) (term_of_step earlier step)
