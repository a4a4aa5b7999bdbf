-- What stands in the tables of these declarations.
use Rattle.std.specs.Prelude.{◌≡◌, List, map}
use Rattle.dy_syntax.specs.Meaning.{handler_of}
use Rattle.dy_syntax.specs.Files.{Decl}
use Rattle.dy_cases.specs.declared.tables.Tables.{Tables}
use Rattle.dy_cases.specs.DeclaredParts.{handlers_in}
use Rattle.dy_cases.specs.MirrorTables.{HasUsages, HasCases, HasEvents, HasStates}

pub record HasDeclared (tables : Tables) (decls : List Decl) : Type 0 where
  pub usages : HasUsages tables.usages.entries decls
  pub cases : HasCases tables.cases.entries decls
  pub events : HasEvents tables.events.entries decls
  pub states : HasStates tables.states.entries decls
  pub handlers : map (λ handler. handler_of handler.now) tables.handlers ≡ handlers_in decls
