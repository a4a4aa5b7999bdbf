-- What tables of derived keys are made of.
use Rattle.std.specs.Prelude.{◌≡◌, ℕ, List, Some}
use Rattle.dy_label.specs.declared.usages.Kind.TheVariants as kinds
use Rattle.dy_syntax.specs.Declarations.{Row}
use Rattle.dy_syntax.specs.Files.{Decl}
use Rattle.dy_cases.specs.DeclaredParts.{row_named}
use Rattle.dy_cases.specs.Derived.{kind_named}
use Rattle.dy_eval.specs.Lines.{kind_of_usage}

-- A table belongs to a usage of kind kdf, and each of its rows says the kind of the usage that it names.
pub record TablesFit (decls : List Decl) : Type 0 where
  pub are_of_kdf : (usage text : List ℕ) (row : Row) → row_named decls usage text ≡ Some row
      → kind_of_usage decls usage ≡ kinds.Kdf
  pub rows_say_kinds : (usage text : List ℕ) (row : Row) → row_named decls usage text ≡ Some row
      → kind_named row.kind ≡ kind_of_usage decls row.usage.word
