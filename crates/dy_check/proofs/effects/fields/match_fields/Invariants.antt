use Rattle.std.proofs.Common.{map, take, List}
use Rattle.dy_syntax.specs.Meaning.{pattern_of}
use Rattle.dy_types.specs.Claims.{Known}
use Rattle.dy_types.specs.Meaning.{known_of}
use Rattle.dy_typing.specs.Knowledge.{Knowledge}
use Rattle.dy_typing.specs.Effects.{match_fields}
use Rattle.dy_check.specs.Meaning.{knowledge_of}
use Rattle.dy_check.specs.Tables.{KnowledgeHasTables, ValuesHaveTables}
use Rattle.dy_check.proofs.effects.fields.match_fields.Given as goal

-- the fields so far are matched
abbrev pub invariant-loop-i : goal.invariant-loop-i
invariant-loop-i l =
    (k : Knowledge) (values : List Known) → KnowledgeHasTables k (knowledge_of l.initial.known)
    → ValuesHaveTables values (map known_of l.fields)
    → KnowledgeHasTables (match_fields k (map pattern_of (take l.i l.pats)) (take l.i values)) (knowledge_of l.known)
