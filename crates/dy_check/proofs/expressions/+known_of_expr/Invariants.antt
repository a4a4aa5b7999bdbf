use Rattle.std.proofs.Common.{map, take}
use Rattle.dy_syntax.specs.Meaning.{decl_of, expr_of}
use Rattle.dy_types.specs.Meaning.{known_of}
use Rattle.dy_types.specs.Tables.{KnownHasTables}
use Rattle.dy_typing.specs.Expressions.{known_of_expr, known_together}
use Rattle.dy_typing.specs.Knowledge.{Knowledge}
use Rattle.dy_check.specs.Meaning.{knowledge_of}
use Rattle.dy_check.specs.Tables.{KnowledgeHasTables}
use Rattle.dy_check.proofs.expressions.+known_of_expr.Given as goal

-- what is known of those so far
abbrev pub invariant-known_of_tuple-loop-arg : goal.invariant-known_of_tuple-loop-arg
invariant-known_of_tuple-loop-arg l =
    (k : Knowledge) → KnowledgeHasTables k (knowledge_of l.known)
    → KnownHasTables (known_together (map (known_of_expr (map decl_of l.cases) k) (map expr_of (take l.arg-index l.arg-items)))) (known_of l.together)
