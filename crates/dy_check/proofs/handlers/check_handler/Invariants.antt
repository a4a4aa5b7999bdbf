use Rattle.std.proofs.Common.{map, take}
use Rattle.dy_syntax.specs.Meaning.{decl_of, handler_of, statement_of}
use Rattle.dy_typing.specs.Names as typing
use Rattle.dy_typing.specs.Effects.{start_of}
use Rattle.dy_typing.specs.Strongest.{after_all, AllMet}
use Rattle.dy_check.specs.Meaning.{knowledge_of}
use Rattle.dy_check.specs.Tables.{KnowledgeHasTables}
use Rattle.dy_check.proofs.handlers.check_handler.Given as goal

-- All demands of the statements so far are met, and what is known is what is known after them.
abbrev pub invariant-loop-statement : goal.invariant-loop-statement
invariant-loop-statement l =
    let decls = map decl_of l.fn.cases in
    let handler = handler_of l.fn.handler in
    let done = map statement_of (take l.statement-index l.statement-items) in
    record {
      met : AllMet (typing.setting_of decls handler) (start_of decls handler) done;
      knows : KnowledgeHasTables (after_all (typing.setting_of decls handler) (start_of decls handler) done) (knowledge_of l.known);
    }
