-- When the values of expressions are valid, and what is known of them holds.
use Rattle.std.specs.Prelude.{List, [], ◌∷◌}
use Rattle.dy_label.specs.Words.{Choice}
use Rattle.dy_syntax.specs.Expressions.{Expr}
use Rattle.dy_syntax.specs.Files.{Decl}
use Rattle.dy_typing.specs.Knowledge.{Knowledge}
use Rattle.dy_typing.specs.Expressions.{known_of_expr}
use Rattle.dy_entry.specs.Entries.{Entry}
use Rattle.dy_eval.specs.Names.{Names}
use Rattle.dy_eval.specs.Values.{value}
use Rattle.dy_sound.specs.Valid.{IsValid}
use Rattle.dy_sound.specs.Knowledge.{KnownHolds}

-- The value of the expression in an instance is valid, and what is known of it holds.
pub record ExprHolds (decls : List Decl) (T : List Entry) (choice : Choice) (names : Names) (k : Knowledge)
    (expr : Expr) : Type 0 where
  pub is_valid : IsValid decls T (value names expr)
  pub known_holds : KnownHolds decls T choice (value names expr) (known_of_expr decls k expr)

-- So it is with each of the expressions.
abbrev pub ExprsHold : List Decl → List Entry → Choice → Names → Knowledge → List Expr → Type 0
ExprsHold decls T choice names k [] = Unit {0}
ExprsHold decls T choice names k (expr ∷ exprs) =
    ExprHolds decls T choice names k expr × ExprsHold decls T choice names k exprs
