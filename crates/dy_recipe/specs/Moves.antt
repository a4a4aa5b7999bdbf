-- The moves by which an attacker makes a value: leaves, which are given, and operations over earlier moves.
use Rattle.std.specs.Prelude.{ℕ, Bool, List, Option}
use Rattle.dy_term.specs.Terms.{Term}

-- Of the leaves, an index is that of an entry. The numbers of an operation name earlier moves, counted from 1.
pub data Move : Type 0 where
  Message : (index : ℕ) → Move
  Cert : (index : ℕ) → Move
  Forge : (index : ℕ) → Move
  State : (index field : ℕ) → Move
  Lit : (text : List ℕ) → Move
  Name : (principal : List ℕ) → Move
  Pair : (first second : ℕ) → Move
  Pk : (key : ℕ) → Move
  Vk : (key : ℕ) → Move
  Penc : (to message : ℕ) → Move
  Aead : (key message associated : ℕ) → Move
  Sign : (key message : ℕ) → Move
  Mac : (key message : ℕ) → Move
  Kdf : (key : ℕ) (context : List ℕ) (input : ℕ) → Move
  Hash : (message : ℕ) → Move
  Fst : (pair : ℕ) → Move
  Snd : (pair : ℕ) → Move
  Pdec : (sealed key : ℕ) → Move
  Adec : (sealed key : ℕ) → Move
  Ad : (sealed : ℕ) → Move
  Body : (signed : ℕ) → Move

-- What may be given: the message of an entry, the certificate of one, or a field of the state of one.
pub data Leaf : Type 0 where
  MessageAt : (index : ℕ) → Leaf
  CertAt : (index : ℕ) → Leaf
  FieldAt : (index field : ℕ) → Leaf

-- what is given: the values of leaves, and which entries forged a nonce
pub record Leaves : Type 0 where
  pub value : Leaf → Option Term
  pub is_forge : ℕ → Bool
