use Rattle.std.proofs.Common.{map, take}
use Rattle.dy_syntax.specs.Meaning.{decl_of, handler_of}
use Rattle.dy_typing.specs.Typing.{AreTyped}
use Rattle.dy_check.proofs.checking.check.Given as goal

-- The handlers so far are typed.
abbrev pub invariant-loop-handler : goal.invariant-loop-handler
invariant-loop-handler l = AreTyped (map decl_of l.fn.file.decls) (map (λ handler. handler_of handler.now) (take l.handler-index l.handler-items))
