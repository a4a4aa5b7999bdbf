-- Protocol files as plain data.
use Rattle.std.specs.Prelude.{ℕ, List}
use Rattle.dy_syntax.specs.Declarations as declarations
use Rattle.dy_syntax.specs.Statements as statements
use Rattle.dy_syntax.specs.Plans.{Plan}

pub data Decl : Type 0 where
  Usage : (usage : declarations.UsageDecl) → Decl
  Case : (case : declarations.CaseDecl) → Decl
  Event : (event : declarations.EventDecl) → Decl
  State : (state : declarations.StateDecl) → Decl
  Handler : (handler : statements.Handler) → Decl

-- a file: its declarations in order, and its plan; the version is 1
pub record File : Type 0 where
  pub version : ℕ
  pub decls : List Decl
  pub plan : Plan
