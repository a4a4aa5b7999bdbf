-- What the code says of a handler: all its demands are met, or this is the first place where one is not.
use Rattle.std.specs.Prelude.{List, Option, Some, None}
use Rattle.dy_syntax.specs.Statements.{Handler}
use Rattle.dy_syntax.specs.Files.{Decl}
use Rattle.dy_typing.specs.Names.{setting_of}
use Rattle.dy_typing.specs.Effects.{start_of}
use Rattle.dy_typing.specs.Strongest.{AllMet, IsUnmetAt}
use Rattle.dy_check.specs.declared.handlers.Refusal.{Refusal}

abbrev pub IsFirstRefusal : List Decl → Handler → Option Refusal → Type 0
IsFirstRefusal decls handler None = AllMet (setting_of decls handler) (start_of decls handler) handler.body
IsFirstRefusal decls handler (Some refusal) =
    IsUnmetAt (setting_of decls handler) (start_of decls handler) handler.body refusal.line refusal.condition
    refusal.field
