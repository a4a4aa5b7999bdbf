use Rattle.std.proofs.Common.{◌≡◌, map, drop}
use Rattle.dy_syntax.specs.Meaning.{decl_of}
use Rattle.dy_syntax.specs.LookUps.{state_named}
use Rattle.dy_syntax.proofs.look_ups.state_named.Given as goal

-- the first one is not among the declarations so far
abbrev pub invariant-loop-decl : goal.invariant-loop-decl
invariant-loop-decl l = state_named (map decl_of (drop l.decl-index l.decls)) l.name ≡ state_named (map decl_of l.decls) l.name
