use Rattle.std.proofs.Common.{◌≡◌, map, drop}
use Rattle.dy_syntax.specs.Meaning.{decl_of}
use Rattle.dy_syntax.specs.LookUps.{case_named}
use Rattle.dy_syntax.proofs.look_ups.case_named.Given as goal

-- the first one is not among the declarations so far
abbrev pub invariant-loop-decl : goal.invariant-loop-decl
invariant-loop-decl l = case_named (map decl_of (drop l.decl-index l.decls)) l.usage l.tag ≡ case_named (map decl_of l.decls) l.usage l.tag
