use Rattle.std.proofs.Common.{[], map, take}
use Rattle.dy_syntax.specs.Meaning.{pattern_of}
use Rattle.dy_types.specs.Claims.{Known}
use Rattle.dy_types.specs.Meaning.{known_of}
use Rattle.dy_types.specs.Tables.{KnownHasTables}
use Rattle.dy_typing.specs.Effects.{shown_by}
use Rattle.dy_check.specs.Tables.{ValuesHaveTables}
use Rattle.dy_check.proofs.effects.statements.parts_of.Given as goal

-- a part for each pattern so far
abbrev pub invariant-loop-pat : goal.invariant-loop-pat
invariant-loop-pat l =
    (whole : Known) → KnownHasTables whole (known_of l.value)
    → ValuesHaveTables (map (λ pat. shown_by whole []) (map pattern_of (take l._pat-index l.pats))) (map known_of l.parts)
