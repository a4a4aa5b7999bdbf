-- How moves are made of a log: each step becomes one move, in the order of the log. It mirrors the code: what a recipe
-- gives is its value.
use Rattle.std.specs.Prelude.{◌≡◌, ℕ, ◌+◌, List, [], Some, length, take, map, slice_get, slice_index}
use Rattle.std.specs.Option.{option_map_or}
use Rattle.dy_term.specs.Terms as terms
use Rattle.dy_term.specs.Terms.{Term}
use Rattle.dy_recipe.specs.Moves.{Move, Leaves, Message, Cert, Forge, State, Lit, Name}
use Rattle.dy_recipe.specs.Moves.{Pair, Pk, Vk, Penc, Aead, Sign, Mac, Kdf, Hash, Fst, Snd, Pdec, Adec, Ad, Body}
use Rattle.dy_recipe.specs.Values.{move_value}
use Rattle.dy_chains.specs.declared.rules.Rule.{Rule}
use Rattle.dy_chains.specs.declared.logs.Step.{Step}
use Rattle.dy_chains.specs.Rules.{premises_of}
use Rattle.dy_chains.specs.Logs.{place_of}
use Rattle.dy_derive.specs.declared.nodes.Node.{Node}
use Rattle.dy_derive.specs.declared.reasons.Reason.{Reason}
use Rattle.dy_derive.specs.declared.reasons.Reason.TheVariants as reasons
use Rattle.dy_derive.specs.Facts.{Fact}
use Rattle.dy_derive.specs.Nodes.{term_in, term_at, fact_of}

-- A corruption is no move. A literal stands in its place, so that each step has a move, and no move names it.
abbrev pub no_move : Move
no_move = Lit []

-- the move that builds a term of its parts, by their numbers
abbrev pub built_move : Term → ℕ → ℕ → ℕ → Move
built_move (terms.Lit text) a b c = Lit text
built_move (terms.Name principal) a b c = Name principal
built_move (terms.Nonce index) a b c = no_move
built_move (terms.Pair first second) a b c = Pair a b
built_move (terms.Pk key) a b c = Pk a
built_move (terms.Vk key) a b c = Vk a
built_move (terms.Penc to message) a b c = Penc a b
built_move (terms.Aead key message associated) a b c = Aead a b c
built_move (terms.Sign key message) a b c = Sign a b
built_move (terms.Mac key message) a b c = Mac a b
built_move (terms.Kdf key context input) a b c = Kdf a context b
built_move (terms.Hash message) a b c = Hash a

-- the move by which a fact follows for this reason, where its premises have these numbers
abbrev pub move_for : Reason → Fact → ℕ → ℕ → ℕ → Move
move_for reasons.Built fact a b c = built_move (term_in fact) a b c
move_for reasons.First fact a b c = Fst a
move_for reasons.Second fact a b c = Snd a
move_for reasons.Decrypted fact a b c = Pdec a b
move_for reasons.Opened fact a b c = Adec a b
move_for reasons.Associated fact a b c = Ad a
move_for reasons.Signed fact a b c = Body a
move_for (reasons.Message index) fact a b c = Message index
move_for (reasons.Cert index) fact a b c = Cert index
move_for (reasons.Forge index) fact a b c = Forge index
move_for (reasons.Field index field) fact a b c = State index field
move_for (reasons.Corrupt index) fact a b c = no_move

-- the number of the move of a fact, counted from 1, or 0 where the fact does not follow
abbrev pub number_in : List Step → ℕ → ℕ
number_in log fact = option_map_or (λ place. place + 1) (place_of log fact) 0

-- the number of a premise of a rule, or 0 where it has no such premise
abbrev pub premise_number : List Step → Rule → ℕ → ℕ
premise_number log rule k = slice_index (map (number_in log) (premises_of rule.premises)) k

-- the move of a step, by which its fact follows
abbrev pub step_move : List Step → Rule → Reason → Fact → Move
step_move log rule reason fact =
    move_for reason fact (premise_number log rule 0) (premise_number log rule 1) (premise_number log rule 2)

-- The move is that of the step, where its rule, the reason and its node are there.
abbrev pub IsStepMove : List Node → List Rule → List Reason → List Step → Step → Move → Type 0
IsStepMove nodes rules reasons log step move =
    (rule : Rule) (reason : Reason) (node : Node) (facts : List Fact)
    → slice_get rules step.rule ≡ Some rule → slice_get reasons step.rule ≡ Some reason
    → slice_get nodes step.fact ≡ Some node → move ≡ step_move log rule reason (fact_of facts node)

-- These are the moves of the first steps of the log, so many.
pub record AreLogMoves (nodes : List Node) (rules : List Rule) (reasons : List Reason) (log : List Step)
    (count : ℕ) (moves : List Move) : Type 0 where
  pub each : length moves ≡ count
  pub at : (place : ℕ) (step : Step) (move : Move) → slice_get log place ≡ Some step
      → slice_get moves place ≡ Some move → IsStepMove nodes rules reasons log step move

-- Each move has this value over the values of the moves before it.
pub record HaveValues (leaves : Leaves) (moves : List Move) (values : List Term) : Type 0 where
  pub each : length values ≡ length moves
  pub over : (i : ℕ) (move : Move) → slice_get moves i ≡ Some move
      → slice_get values i ≡ move_value leaves (take i values) move

-- the terms of the facts of a log, in its order
abbrev pub log_values : List Fact → List Step → List Term
log_values facts log = map (λ step. term_at facts step.fact) log
