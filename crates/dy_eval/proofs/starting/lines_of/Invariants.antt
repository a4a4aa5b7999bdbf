use Rattle.std.proofs.Common.{◌≡◌, ◌++◌, map, drop}
use Rattle.dy_syntax.specs.Meaning.{decl_of, handler_of, statement_of}
use Rattle.dy_eval.specs.Lines.{Does, kind_in, lines_of}
use Rattle.dy_eval.specs.LineMeaning.{line_of}
use Rattle.dy_eval.proofs.starting.lines_of.Given as goal

-- the lines so far, and then those of the other statements
abbrev pub invariant-loop-statement : goal.invariant-loop-statement
invariant-loop-statement l =
    map line_of l.made ++ map (λ s. Does (kind_in (map decl_of l.decls) s.act) s.act) (map statement_of (drop l.statement-index l.statement-items))
    ≡ lines_of (map decl_of l.decls) (handler_of l.handler)
