-- The run of a term: its nodes in preorder, each without its parts.
use Rattle.std.specs.Prelude.{◌≡◌, ℕ, List, [], ◌∷◌, ◌++◌, length}
use Rattle.dy_term.specs.Terms as trees

-- A node with two or three parts that are lent tells how many nodes stand before the last of them.
pub data Node : Type 0 where
  Lit : (text : List ℕ) → Node
  Name : (principal : List ℕ) → Node
  Nonce : (index : ℕ) → Node
  Pair : (before : ℕ) → Node
  Pk : Node
  Vk : Node
  Penc : (before : ℕ) → Node
  Aead : (before : ℕ) → Node
  Sign : (before : ℕ) → Node
  Mac : (before : ℕ) → Node
  Kdf : (context : List ℕ) → Node
  Hash : Node

abbrev pub run_of : trees.Term → List Node
run_of (trees.Lit text) = Lit text ∷ []
run_of (trees.Name principal) = Name principal ∷ []
run_of (trees.Nonce index) = Nonce index ∷ []
run_of (trees.Pair first second) = Pair (length (run_of first)) ∷ (run_of first ++ run_of second)
run_of (trees.Pk key) = Pk ∷ run_of key
run_of (trees.Vk key) = Vk ∷ run_of key
run_of (trees.Penc to message) = Penc (length (run_of to)) ∷ (run_of to ++ run_of message)
run_of (trees.Aead key message associated) =
    Aead (length (run_of key ++ run_of message)) ∷ (run_of key ++ (run_of message ++ run_of associated))
run_of (trees.Sign key message) = Sign (length (run_of key)) ∷ (run_of key ++ run_of message)
run_of (trees.Mac key message) = Mac (length (run_of key)) ∷ (run_of key ++ run_of message)
run_of (trees.Kdf key context input) = Kdf context ∷ (run_of key ++ run_of input)
run_of (trees.Hash message) = Hash ∷ run_of message

-- The terms that a node makes of the terms after it, of which it takes as many as it has parts.
abbrev pub over : Node → List trees.Term → List trees.Term
over (Lit text) terms = trees.Lit text ∷ terms
over (Name principal) terms = trees.Name principal ∷ terms
over (Nonce index) terms = trees.Nonce index ∷ terms
over (Pair _) (first ∷ second ∷ terms) = trees.Pair first second ∷ terms
over Pk (key ∷ terms) = trees.Pk key ∷ terms
over Vk (key ∷ terms) = trees.Vk key ∷ terms
over (Penc _) (to ∷ message ∷ terms) = trees.Penc to message ∷ terms
over (Aead _) (key ∷ message ∷ associated ∷ terms) = trees.Aead key message associated ∷ terms
over (Sign _) (key ∷ message ∷ terms) = trees.Sign key message ∷ terms
over (Mac _) (key ∷ message ∷ terms) = trees.Mac key message ∷ terms
over (Kdf context) (key ∷ input ∷ terms) = trees.Kdf key context input ∷ terms
over Hash (message ∷ terms) = trees.Hash message ∷ terms
over _ _ = []

abbrev pub terms_of : List Node → List trees.Term
terms_of [] = []
terms_of (node ∷ nodes) = over node (terms_of nodes)

-- the first of some terms
abbrev pub first_of : List trees.Term → trees.Term
first_of [] = trees.Nonce 0
first_of (term ∷ _) = term

-- the one term whose run the nodes are, where they are the run of one
abbrev pub term_of : List Node → trees.Term
term_of nodes = first_of (terms_of nodes)

-- The nodes are the run of one whole term.
abbrev pub IsRun : List Node → Type 0
IsRun nodes = nodes ≡ run_of (term_of nodes)

-- the term that a node makes of its parts
abbrev pub made_of : Node → List trees.Term → trees.Term
made_of node parts = first_of (over node parts)
