-- What the nodes of a table stand for. A node is named by its number, and its parts are earlier nodes.
use Rattle.std.specs.Prelude.{◌≡◌, ℕ, ◌<◌, ◌≤◌, List, [], ◌∷◌, Some, length, slice_get, slice_index_or}
use Rattle.dy_term.specs.Terms as terms
use Rattle.dy_term.specs.Terms.{Term, size}
use Rattle.dy_term.specs.declared.limits.TheConstants.{MAX_NODES}
use Rattle.dy_label.specs.Labels as places
use Rattle.dy_derive.specs.declared.nodes.Node.{Node}
use Rattle.dy_derive.specs.declared.nodes.Node.TheVariants as code
use Rattle.dy_derive.specs.Facts.{Fact, Derived, Corrupted}

-- the numbers of the parts of a node
abbrev pub numbers_of : Node → List ℕ
numbers_of (code.Lit text) = []
numbers_of (code.Name principal) = []
numbers_of (code.Nonce index) = []
numbers_of (code.Pair first second) = first ∷ second ∷ []
numbers_of (code.Pk key) = key ∷ []
numbers_of (code.Vk key) = key ∷ []
numbers_of (code.Penc to message) = to ∷ message ∷ []
numbers_of (code.Aead key message associated) = key ∷ message ∷ associated ∷ []
numbers_of (code.Sign key message) = key ∷ message ∷ []
numbers_of (code.Mac key message) = key ∷ message ∷ []
numbers_of (code.Kdf key context input) = key ∷ input ∷ []
numbers_of (code.Hash message) = message ∷ []
numbers_of (code.Principal principal) = []
numbers_of (code.Session principal session) = []
numbers_of (code.Version principal session version) = []

-- the term that is said to be derived, where one is
abbrev pub term_in : Fact → Term
term_in (Derived term) = term
term_in (Corrupted place) = terms.Lit []

-- the term of a number
abbrev pub term_at : List Fact → ℕ → Term
term_at facts number = term_in (slice_index_or facts number (Derived (terms.Lit [])))

-- What a node says, over what the earlier nodes say.
abbrev pub fact_of : List Fact → Node → Fact
fact_of facts (code.Lit text) = Derived (terms.Lit text)
fact_of facts (code.Name principal) = Derived (terms.Name principal)
fact_of facts (code.Nonce index) = Derived (terms.Nonce index)
fact_of facts (code.Pair first second) = Derived (terms.Pair (term_at facts first) (term_at facts second))
fact_of facts (code.Pk key) = Derived (terms.Pk (term_at facts key))
fact_of facts (code.Vk key) = Derived (terms.Vk (term_at facts key))
fact_of facts (code.Penc to message) = Derived (terms.Penc (term_at facts to) (term_at facts message))
fact_of facts (code.Aead key message associated) =
    Derived (terms.Aead (term_at facts key) (term_at facts message) (term_at facts associated))
fact_of facts (code.Sign key message) = Derived (terms.Sign (term_at facts key) (term_at facts message))
fact_of facts (code.Mac key message) = Derived (terms.Mac (term_at facts key) (term_at facts message))
fact_of facts (code.Kdf key context input) =
    Derived (terms.Kdf (term_at facts key) context (term_at facts input))
fact_of facts (code.Hash message) = Derived (terms.Hash (term_at facts message))
fact_of facts (code.Principal principal) = Corrupted (places.Principal principal)
fact_of facts (code.Session principal session) = Corrupted (places.Session principal session)
fact_of facts (code.Version principal session version) = Corrupted (places.Version principal session version)

-- The term that is said to be derived, where one is, has at most 1,024 nodes.
abbrev pub IsSmall : Fact → Type 0
IsSmall fact = size (term_in fact) ≤ MAX_NODES

-- The number is that of the term.
abbrev pub IsTermAt : List Fact → ℕ → Term → Type 0
IsTermAt facts number term = slice_get facts number ≡ Some (Derived term)

-- The parts of a node are terms of earlier numbers.
abbrev pub HasParts : List Fact → ℕ → Node → Type 0
HasParts facts number node =
    (k part : ℕ) → slice_get (numbers_of node) k ≡ Some part
    → (part < number) × ((term : Term) × IsTermAt facts part term)

-- The parts of a node have numbers below this one.
abbrev pub AreBelow : ℕ → Node → Type 0
AreBelow count node = (k part : ℕ) → slice_get (numbers_of node) k ≡ Some part → part < count

-- The parts of each node are earlier nodes.
abbrev pub AreOrdered : List Node → Type 0
AreOrdered nodes = (number : ℕ) (node : Node) → slice_get nodes number ≡ Some node → AreBelow number node

-- These are the facts that the nodes say: each once, and each term with all its parts.
pub record IsTable (nodes : List Node) (facts : List Fact) : Type 0 where
  pub each : length facts ≡ length nodes
  pub says : (number : ℕ) (node : Node) → slice_get nodes number ≡ Some node
      → slice_get facts number ≡ Some (fact_of facts node)
  pub parts : (number : ℕ) (node : Node) → slice_get nodes number ≡ Some node → HasParts facts number node
  pub once : (number other : ℕ) (fact : Fact)
      → slice_get facts number ≡ Some fact → slice_get facts other ≡ Some fact → number ≡ other
  pub small : (number : ℕ) (fact : Fact) → slice_get facts number ≡ Some fact → IsSmall fact
