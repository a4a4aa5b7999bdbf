use Rattle.std.proofs.Common.{◌≡◌, ◌+◌, ◌≤◌, map, drop, length}
use Rattle.dy_syntax.specs.Meaning.{decl_of}
use Rattle.dy_cases.specs.DeclaredParts.{handlers_in}
use Rattle.dy_tool.proofs.checking.count_handlers.Given as goal

-- the handlers so far and those of the rest are all
abbrev pub invariant-loop-decl : goal.invariant-loop-decl
invariant-loop-decl l =
    (l.handlers + length (handlers_in (map decl_of (drop l.decl-index l.decls))) ≡ length (handlers_in (map decl_of l.decls))) × (l.handlers ≤ l.decl-index)
