use Rattle.std.proofs.Common.{map, take}
use Rattle.dy_syntax.specs.Meaning.{decl_of, expr_of}
use Rattle.dy_types.specs.Meaning.{known_of}
use Rattle.dy_types.specs.Tables.{KnownHasTables}
use Rattle.dy_typing.specs.Expressions.{known_of_expr, known_together}
use Rattle.dy_typing.specs.Knowledge.{Knowledge}
use Rattle.dy_check.specs.Meaning.{knowledge_of}
use Rattle.dy_check.specs.Tables.{KnowledgeHasTables}
use Rattle.dy_check.proofs.expressions.known_together.Given as goal

-- what is known of those so far
abbrev pub invariant-loop-expr : goal.invariant-loop-expr
invariant-loop-expr l =
    (k : Knowledge) → KnowledgeHasTables k (knowledge_of l.known)
    → KnownHasTables (known_together (map (known_of_expr (map decl_of l.cases) k) (map expr_of (take l.expr-index l.exprs)))) (known_of l.together)
