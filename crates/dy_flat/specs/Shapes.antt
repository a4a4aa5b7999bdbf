-- The constructor of a term, with its content and without its parts.
use Rattle.std.specs.Prelude.{ℕ, List}
use Rattle.dy_term.specs.Terms as trees

pub data Shape : Type 0 where
  Lit : (text : List ℕ) → Shape
  Name : (principal : List ℕ) → Shape
  Nonce : (index : ℕ) → Shape
  Pair : Shape
  Pk : Shape
  Vk : Shape
  Penc : Shape
  Aead : Shape
  Sign : Shape
  Mac : Shape
  Kdf : (context : List ℕ) → Shape
  Hash : Shape

abbrev pub shape : trees.Term → Shape
shape (trees.Lit text) = Lit text
shape (trees.Name principal) = Name principal
shape (trees.Nonce index) = Nonce index
shape (trees.Pair first second) = Pair
shape (trees.Pk key) = Pk
shape (trees.Vk key) = Vk
shape (trees.Penc to message) = Penc
shape (trees.Aead key message associated) = Aead
shape (trees.Sign key message) = Sign
shape (trees.Mac key message) = Mac
shape (trees.Kdf key context input) = Kdf context
shape (trees.Hash message) = Hash
