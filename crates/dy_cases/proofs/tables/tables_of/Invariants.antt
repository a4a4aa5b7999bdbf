use Rattle.std.proofs.Common.{map, take}
use Rattle.dy_syntax.specs.Meaning.{decl_of}
use Rattle.dy_cases.specs.MirrorCases.{HasDeclared}
use Rattle.dy_cases.proofs.tables.tables_of.Given as goal

abbrev pub invariant-loop-decl : goal.invariant-loop-decl
invariant-loop-decl l = HasDeclared l.tables (map decl_of (take l.decl-index l.decls))
