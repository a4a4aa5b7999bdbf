-- The texts of the errors.
use Rattle.std.specs.Prelude.{ℕ, List, ◌++◌, codes}
use Rattle.std.specs.Fmt.{decimal}
use Rattle.dy_parse.specs.declared.errors.LimitName.{LimitName}
use Rattle.dy_parse.specs.declared.errors.LimitName.TheVariants.{Word, Text, Nesting, Usages, Cases, Events, States, Handlers, Statements, Names, Fields, Leaves, Partners, Rows, Rounds, Steps, Principals}
use Rattle.dy_parse.specs.declared.errors.ParseError.{ParseError}
use Rattle.dy_parse.specs.declared.errors.ParseError.TheVariants.{BadLine, Limit, Memory}

abbrev pub limit_name : LimitName → List ℕ
limit_name Word = codes "word"
limit_name Text = codes "text"
limit_name Nesting = codes "nesting"
limit_name Usages = codes "usages"
limit_name Cases = codes "cases"
limit_name Events = codes "events"
limit_name States = codes "states"
limit_name Handlers = codes "handlers"
limit_name Statements = codes "statements"
limit_name Names = codes "names"
limit_name Fields = codes "fields"
limit_name Leaves = codes "leaves"
limit_name Partners = codes "partners"
limit_name Rows = codes "rows"
limit_name Rounds = codes "rounds"
limit_name Steps = codes "steps"
limit_name Principals = codes "principals"

abbrev pub parse_message : ParseError → List ℕ
parse_message (BadLine line) = codes "line " ++ decimal line ++ codes ": no file of the language goes on like this"
parse_message (Limit line which) = codes "line " ++ decimal line ++ codes ": over the limit " ++ limit_name which
parse_message Memory = codes "out of memory"
