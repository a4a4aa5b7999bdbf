-- Bytes that protocols work on, as trees. Texts and the names of principals are lists of characters.
use Rattle.std.specs.Prelude.{ℕ, ◌+◌, List}

pub data Term : Type 0 where
  Lit : (text : List ℕ) → Term
  Name : (principal : List ℕ) → Term
  Nonce : (index : ℕ) → Term
  Pair : (first second : Term) → Term
  Pk : (key : Term) → Term
  Vk : (key : Term) → Term
  Penc : (to message : Term) → Term
  Aead : (key message associated : Term) → Term
  Sign : (key message : Term) → Term
  Mac : (key message : Term) → Term
  Kdf : (key : Term) (context : List ℕ) (input : Term) → Term
  Hash : (message : Term) → Term

-- the number of constructors
abbrev pub size : Term → ℕ
size (Lit text) = 1
size (Name principal) = 1
size (Nonce index) = 1
size (Pair first second) = 1 + size first + size second
size (Pk key) = 1 + size key
size (Vk key) = 1 + size key
size (Penc to message) = 1 + size to + size message
size (Aead key message associated) = 1 + size key + size message + size associated
size (Sign key message) = 1 + size key + size message
size (Mac key message) = 1 + size key + size message
size (Kdf key context input) = 1 + size key + size input
size (Hash message) = 1 + size message
