-- Names, texts, usages and events as plain data. A word or a text is the list of its bytes, of any length.
use Rattle.std.specs.Prelude.{ℕ, List}

-- a word that stands for a name, and its line
pub record Id : Type 0 where
  pub word : List ℕ
  pub line : ℕ

-- a text, and its line
pub record Quote : Type 0 where
  pub text : List ℕ
  pub line : ℕ

-- a name, where `self` may stand too
pub data Nm : Type 0 where
  Named : (id : Id) → Nm
  Me : (line : ℕ) → Nm

abbrev pub line_of : Nm → ℕ
line_of (Named id) = id.line
line_of (Me line) = line

-- the kind of a usage
pub data KindText : Type 0 where
  Nonce Pke Sig Aead Mac Kdf : KindText

-- a usage and its arguments
pub record UseText : Type 0 where
  pub usage : Id
  pub args : List Nm

-- an event and its arguments
pub record AtomText : Type 0 where
  pub event : Id
  pub args : List Nm
