-- How a term is looked for, part by part, and built of what follows. It mirrors the code.
use Rattle.std.specs.Prelude.{◌≡◌, ℕ, ◌+◌, ◌≤◌, List, [], ◌∷◌, ◌++◌, Option, Some, None, length}
use Rattle.std.specs.Option.{option_map}
use Rattle.dy_term.specs.Terms as terms
use Rattle.dy_term.specs.Terms.{Term, size}
use Rattle.dy_term.specs.declared.limits.TheConstants.{MAX_NODES}
use Rattle.dy_flat.specs.Parts.{parts_of}
use Rattle.dy_entry.specs.Entries.{Entry}
use Rattle.dy_recipe.specs.Moves as moves
use Rattle.dy_recipe.specs.Moves.{Move, Leaves}
use Rattle.dy_recipe.specs.Values.{value_at}
use Rattle.dy_traces.specs.Given.{given_by}
use Rattle.dy_chains.specs.declared.logs.Step.{Step}
use Rattle.dy_chains.specs.Logs.{place_of}
use Rattle.dy_chains.specs.Chains.{IsChain}
use Rattle.dy_derive.specs.declared.nodes.Node.{Node}
use Rattle.dy_derive.specs.declared.nodes.Node.TheVariants as code
use Rattle.dy_derive.specs.declared.deductions.Deductions.{Deductions}
use Rattle.dy_derive.specs.declared.term_moves.Found.{Found}
use Rattle.dy_derive.specs.Facts.{Fact}
use Rattle.dy_derive.specs.Nodes.{IsTermAt}
use Rattle.dy_derive.specs.Saturation.{Built, IsPart, IsHad}
use Rattle.dy_derive.specs.MirrorKnowledge.{IsDeduced}
use Rattle.dy_derive.specs.MirrorRecipes.{HaveValues, log_values}

-- what is made of two numbers, where both are there
abbrev pub of_two : {A : Type 0} → (ℕ → ℕ → A) → Option ℕ → Option ℕ → Option A
of_two make (Some a) (Some b) = Some (make a b)
of_two make (Some a) None = None
of_two make None b = None

-- the same of three
abbrev pub of_three : {A : Type 0} → (ℕ → ℕ → ℕ → A) → Option ℕ → Option ℕ → Option ℕ → Option A
of_three make (Some a) (Some b) (Some c) = Some (make a b c)
of_three make (Some a) (Some b) None = None
of_three make (Some a) None c = None
of_three make None b c = None

-- the node of a term over the numbers of its parts
abbrev pub node_over : Term → Option ℕ → Option ℕ → Option ℕ → Option Node
node_over (terms.Lit text) a b c = Some (code.Lit text)
node_over (terms.Name principal) a b c = Some (code.Name principal)
node_over (terms.Nonce index) a b c = Some (code.Nonce index)
node_over (terms.Pair first second) a b c = of_two code.Pair a b
node_over (terms.Pk key) a b c = option_map code.Pk a
node_over (terms.Vk key) a b c = option_map code.Vk a
node_over (terms.Penc to message) a b c = of_two code.Penc a b
node_over (terms.Aead key message associated) a b c = of_three code.Aead a b c
node_over (terms.Sign key message) a b c = of_two code.Sign a b
node_over (terms.Mac key message) a b c = of_two code.Mac a b
node_over (terms.Kdf key context input) a b c = of_two (λ k x. code.Kdf k context x) a b
node_over (terms.Hash message) a b c = option_map code.Hash a

-- the move that builds a term of its parts, by their numbers
abbrev pub move_over : Term → Option ℕ → Option ℕ → Option ℕ → Option Move
move_over (terms.Lit text) a b c = Some (moves.Lit text)
move_over (terms.Name principal) a b c = Some (moves.Name principal)
move_over (terms.Nonce index) a b c = None
move_over (terms.Pair first second) a b c = of_two moves.Pair a b
move_over (terms.Pk key) a b c = option_map moves.Pk a
move_over (terms.Vk key) a b c = option_map moves.Vk a
move_over (terms.Penc to message) a b c = of_two moves.Penc a b
move_over (terms.Aead key message associated) a b c = of_three moves.Aead a b c
move_over (terms.Sign key message) a b c = of_two moves.Sign a b
move_over (terms.Mac key message) a b c = of_two moves.Mac a b
move_over (terms.Kdf key context input) a b c = of_two (λ k x. moves.Kdf k context x) a b
move_over (terms.Hash message) a b c = option_map moves.Hash a

-- This is the number of the term, if it is a part of what was given.
abbrev pub HasNumber : List Fact → Term → Option ℕ → Type 0
HasNumber facts term None = IsPart facts term → ⊥
HasNumber facts term (Some number) = IsTermAt facts number term

-- This is the number of a move that gives the term, if it can be built.
abbrev pub HasMove : List Fact → List Step → List Term → Term → Option ℕ → Type 0
HasMove facts log values term None = Built (IsHad facts log) term → ⊥
HasMove facts log values term (Some number) = value_at values number ≡ Some term

-- the number of the move of what follows
abbrev pub log_number : List Step → Option ℕ → Option ℕ
log_number log None = None
log_number log (Some fact) = option_map (λ place. place + 1) (place_of log fact)

-- The move, if there is one, was added, and has this number.
abbrev pub IsAdded : List Move → List Move → Option Move → Option ℕ → Type 0
IsAdded old new None number = (number ≡ None) × (new ≡ old)
IsAdded old new (Some move) number = (number ≡ Some (length old + 1)) × (new ≡ old ++ move ∷ [])

-- These are the numbers of the terms, one by one.
abbrev pub HaveNumbers : List Fact → List Term → List (Option ℕ) → Type 0
HaveNumbers facts [] numbers = Unit {0}
HaveNumbers facts (term ∷ more) [] = ⊥
HaveNumbers facts (term ∷ more) (number ∷ numbers) = HasNumber facts term number × HaveNumbers facts more numbers

-- These are the numbers of moves that give the terms, one by one.
abbrev pub HaveMoves : List Fact → List Step → List Term → List Term → List (Option ℕ) → Type 0
HaveMoves facts log values [] numbers = Unit {0}
HaveMoves facts log values (term ∷ more) [] = ⊥
HaveMoves facts log values (term ∷ more) (number ∷ numbers) =
    HasMove facts log values term number × HaveMoves facts log values more numbers

-- What is found of a term.
pub record IsFound (facts : List Fact) (log : List Step) (values : List Term) (term : Term) (found : Found) : Type 0 where
  pub node : HasNumber facts term found.node
  pub number : HasMove facts log values term found.number

-- What is found of the parts of a term, one by one.
pub record AreFound (facts : List Fact) (log : List Step) (values : List Term) (term : Term) (a b c : Found) : Type 0 where
  pub nodes : HaveNumbers facts (parts_of term) (a.node ∷ b.node ∷ c.node ∷ [])
  pub numbers : HaveMoves facts log values (parts_of term) (a.number ∷ b.number ∷ c.number ∷ [])

-- The moves have these values, of which the first are those of the log.
pub record HaveLogValues (T : List Entry) (facts : List Fact) (log : List Step) (moves : List Move) (values : List Term)
    : Type 0 where
  pub have : HaveValues (given_by T) moves values
  pub extra : List Term
  pub begins : values ≡ log_values facts log ++ extra

-- With these moves more values are there, and the term is found.
pub record IsBuilt (T : List Entry) (facts : List Fact) (log : List Step) (new : List Move) (values : List Term)
    (term : Term) (found : Found) : Type 0 where
  pub more : List Term
  pub moves : HaveLogValues T facts log new (values ++ more)
  pub found_there : IsFound facts log (values ++ more) term found

-- Moves are added that build a small term, where it can be.
abbrev pub Builds : Deductions → List Move → List Move → Term → Found → Type 0
Builds d old new term found =
    (T : List Entry) (facts : List Fact) (values : List Term) → IsChain d.chain.chain → IsDeduced d facts T → size term ≤ MAX_NODES
    → HaveLogValues T facts d.chain.chain.log old values → IsBuilt T facts d.chain.chain.log new values term found

-- The same, where its parts were found.
abbrev pub Joins : Deductions → List Move → List Move → Term → Found → Found → Found → Found → Type 0
Joins d old new term a b c found =
    (T : List Entry) (facts : List Fact) (values : List Term) → IsChain d.chain.chain → IsDeduced d facts T → size term ≤ MAX_NODES
    → AreFound facts d.chain.chain.log values term a b c
    → HaveLogValues T facts d.chain.chain.log old values → IsBuilt T facts d.chain.chain.log new values term found
