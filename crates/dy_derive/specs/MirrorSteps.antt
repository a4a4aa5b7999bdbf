-- The nodes of the steps of a walk. It mirrors the code: `dy_flat` says what a walk gives.
use Rattle.std.specs.Prelude.{◌≡◌, ℕ, ◌<◌, ◌≤◌, List, [], ◌∷◌, ◌++◌, Some, length, slice_get, slice_index}
use Rattle.dy_term.specs.Terms.{Term, size}
use Rattle.dy_term.specs.declared.limits.TheConstants.{MAX_NODES}
use Rattle.dy_flat.specs.Walks as walks
use Rattle.dy_flat.specs.Walks.{Step, term_of_step}
use Rattle.dy_derive.specs.declared.nodes.Node.{Node}
use Rattle.dy_derive.specs.declared.nodes.Node.TheVariants as code
use Rattle.dy_derive.specs.declared.deductions.Deductions.{Deductions}
use Rattle.dy_derive.specs.MirrorKnowledge.{Grows, AreTermsAt, AreAny}

-- the numbers of the parts of a step
abbrev pub parts_of_step : Step → List ℕ
parts_of_step (walks.Lit text) = []
parts_of_step (walks.Name principal) = []
parts_of_step (walks.Nonce index) = []
parts_of_step (walks.Pair a b) = a ∷ b ∷ []
parts_of_step (walks.Pk a) = a ∷ []
parts_of_step (walks.Vk a) = a ∷ []
parts_of_step (walks.Penc a b) = a ∷ b ∷ []
parts_of_step (walks.Aead a b c) = a ∷ b ∷ c ∷ []
parts_of_step (walks.Sign a b) = a ∷ b ∷ []
parts_of_step (walks.Mac a b) = a ∷ b ∷ []
parts_of_step (walks.Kdf a context b) = a ∷ b ∷ []
parts_of_step (walks.Hash a) = a ∷ []

-- The parts are among so many earlier steps.
abbrev pub AreEarlier : ℕ → Step → Type 0
AreEarlier count step = (k part : ℕ) → slice_get (parts_of_step step) k ≡ Some part → part < count

-- the node of a step, where the nodes of earlier steps have these numbers
abbrev pub node_of_step : List ℕ → Step → Node
node_of_step numbers (walks.Lit text) = code.Lit text
node_of_step numbers (walks.Name principal) = code.Name principal
node_of_step numbers (walks.Nonce index) = code.Nonce index
node_of_step numbers (walks.Pair a b) = code.Pair (slice_index numbers a) (slice_index numbers b)
node_of_step numbers (walks.Pk a) = code.Pk (slice_index numbers a)
node_of_step numbers (walks.Vk a) = code.Vk (slice_index numbers a)
node_of_step numbers (walks.Penc a b) = code.Penc (slice_index numbers a) (slice_index numbers b)
node_of_step numbers (walks.Aead a b c) =
    code.Aead (slice_index numbers a) (slice_index numbers b) (slice_index numbers c)
node_of_step numbers (walks.Sign a b) = code.Sign (slice_index numbers a) (slice_index numbers b)
node_of_step numbers (walks.Mac a b) = code.Mac (slice_index numbers a) (slice_index numbers b)
node_of_step numbers (walks.Kdf a context b) =
    code.Kdf (slice_index numbers a) context (slice_index numbers b)
node_of_step numbers (walks.Hash a) = code.Hash (slice_index numbers a)

-- The numbers are those of these terms, since a start, and this term is that of the step over them.
pub record IsNext (start old : Deductions) (numbers : List ℕ) (terms : List Term) (step : Step) (term : Term)
    : Type 0 where
  pub is : term_of_step terms step ≡ Some term
  pub small : size term ≤ MAX_NODES
  pub each : length terms ≡ length numbers
  pub grown : Grows start old (AreTermsAt numbers terms)

-- Whatever the start was, one number more is that of the term of this step.
abbrev pub AddsTerm : Deductions → Deductions → List ℕ → List ℕ → Step → Type 0
AddsTerm old new numbers more step =
    (start : Deductions) (terms : List Term) (term : Term) → IsNext start old numbers terms step term
    → Grows start new (AreTermsAt more (terms ++ term ∷ []))

-- Whatever the start was, no fact is lost.
abbrev pub KeepsTerms : Deductions → Deductions → List ℕ → Step → Type 0
KeepsTerms old new numbers step =
    (start : Deductions) (terms : List Term) (term : Term) → IsNext start old numbers terms step term
    → Grows start new AreAny
