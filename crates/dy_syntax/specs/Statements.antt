-- Statements and handlers as plain data.
use Rattle.std.specs.Prelude.{ℕ, List, Option}
use Rattle.dy_syntax.specs.Names.{Id, Quote, Nm, UseText, AtomText}
use Rattle.dy_syntax.specs.Labels.{LabelText}
use Rattle.dy_syntax.specs.Expressions.{Expr}

-- what a field is matched against: it binds a variable, binds a name or compares
pub data Pattern : Type 0 where
  Bind : (name : Id) → Pattern
  Named : (line : ℕ) (name : Id) → Pattern
  Equal : (line : ℕ) (to : Nm) → Pattern

-- the state that a handler goes on from
pub record OnPart : Type 0 where
  pub line : ℕ
  pub state : Id
  pub pats : List Pattern

-- what a statement does; Recall, Opened and Popened are `use`, `open` and `popen`
pub data Act : Type 0 where
  New : (name : Id) (usage : UseText) (label : LabelText) → Act
  Let : (name : Id) (value : Expr) → Act
  Event : (atom : AtomText) → Act
  Send : (value : Expr) → Act
  Store : (state : Id) (fields : List Expr) → Act
  Certify : (key usage : Id) → Act
  Find : (usage : Id) (owner : Nm) (name : Id) → Act
  Recall : (state : Id) (pats : List Pattern) → Act
  Split : (value : Id) (tag : Quote) (pats : List Pattern) → Act
  Opened : (value key : Id) (usage : UseText) (tag : Quote) (pats : List Pattern) (ad : Expr) → Act
  Popened : (value key : Id) (usage : UseText) (tag : Quote) (pats : List Pattern) → Act
  Verify : (value key : Id) (usage : UseText) (tag : Quote) (pats : List Pattern) → Act
  Check : (value key : Id) (usage : UseText) (tag : Quote) (args : List Nm) → Act
  Same : (left right : Nm) → Act

-- a statement, and the line of its first token
pub record Statement : Type 0 where
  pub line : ℕ
  pub act : Act

-- a handler: the state that it goes on from, its arguments, the message that it receives, and its statements
pub record Handler : Type 0 where
  pub line : ℕ
  pub name : Id
  pub on : Option OnPart
  pub args : List Id
  pub recv : Option Id
  pub body : List Statement
