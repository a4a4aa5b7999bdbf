-- How the code finds the first fault: it keeps the least one so far.
use Rattle.std.specs.Prelude.{ℕ, Bool, ◌&&◌, ◌||◌, ◌==◌, nat_lt, List, [], ◌∷◌, Option, Some, None, if◌then◌else◌}
use Rattle.dy_syntax.specs.Files.{File}
use Rattle.dy_syntax.specs.Scopes.{Scope}
use Rattle.dy_syntax.specs.Parts.{Part}
use Rattle.dy_syntax.specs.Places.{Place}
use Rattle.dy_syntax.specs.Rules.{Fault}
use Rattle.dy_syntax.specs.Rules.Doubles.{w1, w5}
use Rattle.dy_syntax.specs.Rules.Declared.{w2}
use Rattle.dy_syntax.specs.Rules.Lengths.{w3}
use Rattle.dy_syntax.specs.Rules.Kinds.{w4, w8}
use Rattle.dy_syntax.specs.Rules.Names.{w6}
use Rattle.dy_syntax.specs.Rules.Words.{w7, w9, w10}
use Rattle.dy_syntax.specs.Rules.Plans.{w11}

-- by line, and on one line by rule
abbrev pub is_before : Fault → Fault → Bool
is_before a b = nat_lt a.line b.line || (a.line == b.line && nat_lt a.rule b.rule)

-- the least one, with one more
abbrev pub note : Fault → Option Fault → Option Fault
note fault None = Some fault
note fault (Some least) = if is_before fault least then Some fault else Some least

-- with all of these lines for a rule
abbrev pub note_lines : ℕ → List ℕ → Option Fault → Option Fault
note_lines rule [] least = least
note_lines rule (line ∷ lines) least = note_lines rule lines (note (record { line = line; rule = rule }) least)

-- with the faults of one part
unfoldable pub note_part : File → Scope → Part → Option Fault → Option Fault
note_part file scope part least =
    note_lines 11 (w11 file part)
    (note_lines 10 (w10 part)
    (note_lines 9 (w9 file.decls scope part)
    (note_lines 8 (w8 file.decls part)
    (note_lines 7 (w7 scope part)
    (note_lines 6 (w6 file.decls scope part)
    (note_lines 5 (w5 file.decls part)
    (note_lines 4 (w4 file.decls part)
    (note_lines 3 (w3 file.decls part)
    (note_lines 2 (w2 file.decls scope part)
    (note_lines 1 (w1 part) least))))))))))

-- with those of parts in one scope
abbrev pub note_parts : File → Scope → List Part → Option Fault → Option Fault
note_parts file scope [] least = least
note_parts file scope (part ∷ parts) least = note_parts file scope parts (note_part file scope part least)

-- with those of places
abbrev pub note_places : File → List Place → Option Fault → Option Fault
note_places file [] least = least
note_places file (place ∷ places) least = note_places file places (note_part file place.scope place.part least)
