-- Expressions as plain data. A line that stands first is that of the first word.
use Rattle.std.specs.Prelude.{ℕ, List, [], ◌∷◌}
use Rattle.dy_syntax.specs.Names as names
use Rattle.dy_syntax.specs.Names.{Quote, UseText}

-- Expr: an expression, a tuple being a tag with the expressions of its fields. Exprs: some in a row.
mutual
  pub data Expr : Type 0 where
    Nm : (name : names.Nm) → Expr
    Lit : (quote : Quote) → Expr
    Tuple : (tag : Quote) (args : Exprs) → Expr
    Pair : (line : ℕ) (first second : Expr) → Expr
    Pk : (line : ℕ) (key : names.Nm) → Expr
    Vk : (line : ℕ) (key : names.Nm) → Expr
    Penc : (line : ℕ) (key : names.Nm) (usage : UseText) (tag : Quote) (args : Exprs) → Expr
    Aead : (line : ℕ) (key : names.Nm) (usage : UseText) (tag : Quote) (args : Exprs) (ad : Expr) → Expr
    Sign : (line : ℕ) (key : names.Nm) (usage : UseText) (tag : Quote) (args : Exprs) → Expr
    Mac : (line : ℕ) (key : names.Nm) (usage : UseText) (tag : Quote) (args : Exprs) → Expr
    Kdf : (line : ℕ) (key : names.Nm) (context : Quote) (input : Expr) → Expr
    Hash : (line : ℕ) (message : Expr) → Expr

  pub data Exprs : Type 0 where
    Nil : Exprs
    Cons : (first : Expr) (rest : Exprs) → Exprs

-- as a list
abbrev pub list_of : Exprs → List Expr
list_of Nil = []
list_of (Cons first rest) = first ∷ list_of rest

-- these expressions in a row
abbrev pub row_of : List Expr → Exprs
row_of [] = Nil
row_of (first ∷ rest) = Cons first (row_of rest)

-- the line of the first token
abbrev pub line_of : Expr → ℕ
line_of (Nm name) = names.line_of name
line_of (Lit quote) = quote.line
line_of (Tuple tag args) = tag.line
line_of (Pair line first second) = line
line_of (Pk line key) = line
line_of (Vk line key) = line
line_of (Penc line key usage tag args) = line
line_of (Aead line key usage tag args ad) = line
line_of (Sign line key usage tag args) = line
line_of (Mac line key usage tag args) = line
line_of (Kdf line key context input) = line
line_of (Hash line message) = line
