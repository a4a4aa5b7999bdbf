use Rattle.std.proofs.Common.{map, drop}
use Rattle.dy_syntax.specs.Meaning.{pattern_of}
use Rattle.dy_types.specs.Tables.{HasTable}
use Rattle.dy_typing.specs.Knowledge.{Knowledge}
use Rattle.dy_typing.specs.Effects.{guard_of_compared}
use Rattle.dy_check.specs.Meaning.{knowledge_of}
use Rattle.dy_check.specs.Tables.{KnowledgeHasTables}
use Rattle.dy_check.proofs.effects.fields.guard_of_compared.Given as goal

-- the table of what the patterns from here on are compared with
abbrev pub invariant-loop-i : goal.invariant-loop-i
invariant-loop-i l =
    (k : Knowledge) → KnowledgeHasTables k (knowledge_of l.known) → HasTable (guard_of_compared k (map pattern_of (drop l.i l.pats))) l.table
