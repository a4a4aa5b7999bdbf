use Rattle.std.proofs.Common.{fold, map, take}
use Rattle.dy_syntax.specs.Meaning.{id_of}
use Rattle.dy_typing.specs.Knowledge as typing
use Rattle.dy_typing.specs.Effects.{bind_plain}
use Rattle.dy_check.specs.Meaning.{knowledge_of}
use Rattle.dy_check.specs.Tables.{KnowledgeHasTables}
use Rattle.dy_check.proofs.effects.starts.bind_all.Given as goal

-- Those so far are bound.
abbrev pub invariant-loop-name : goal.invariant-loop-name
invariant-loop-name l =
    (k : typing.Knowledge) → KnowledgeHasTables k (knowledge_of l.initial.known)
    → KnowledgeHasTables (fold bind_plain k (map id_of (take l.name-index l.names))) (knowledge_of l.known)
