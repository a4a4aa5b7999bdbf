-- Labels as plain data. Each word of a label has its line.
use Rattle.std.specs.Prelude.{ℕ}
use Rattle.dy_syntax.specs.Names.{Nm}

pub data LabelText : Type 0 where
  Public : (line : ℕ) → LabelText
  Nobody : (line : ℕ) → LabelText
  Session : (line : ℕ) → LabelText
  Next : (line : ℕ) → LabelText
  Prior : (line : ℕ) → LabelText
  Here : (line : ℕ) → LabelText
  One : (name : Nm) → LabelText
  Join : (line : ℕ) (left right : LabelText) → LabelText
  Meet : (line : ℕ) (left right : LabelText) → LabelText
