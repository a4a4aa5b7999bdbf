-- What a reader of the code returns.
use Rattle.std.specs.Prelude.{◌≡◌, List, Result, Ok, Err}
use Rattle.dy_lex.specs.Tokens.{Piece}
use Rattle.dy_grammar.specs.Mirrors.Machine.{Reads}
use Rattle.dy_parse.specs.declared.cursor.Fault.{Fault}
use Rattle.dy_parse.specs.declared.cursor.Fault.TheVariants as faults

-- Reading fails where the code says so.
abbrev pub Fails : {X : Type 0} → Fault → Reads X → Type 0
Fails (faults.At left) read = read ≡ Err left
Fails faults.Memory read = Unit {0}

-- What the code returned, seen by view, is what the machine reads, unless memory ran out.
abbrev pub Gives : {Y X : Type 0} → (Y → X × List Piece) → Result Y Fault → Reads X → Type 0
Gives view (Ok y) read = read ≡ Ok (view y)
Gives view (Err fault) read = Fails fault read
