use Rattle.std.proofs.Common.{List}
use Rattle.dy_syntax.specs.Files.{Decl}
use Rattle.dy_syntax.specs.Statements.{Handler}
use Rattle.dy_typing.specs.Names.{setting_of}
use Rattle.dy_typing.proofs.Numbering.{after-numbered, start_of-numbered}
use Rattle.dy_typing.proofs.Strongest.{Rises, typed, refused}
use Rattle.dy_typing.proofs.laws.the_strongest_derivation_decides.Goals as goal

pub returns : goal.returns
returns c =
    let rises : (decls : List Decl) (handler : Handler) → Rises (setting_of decls handler) = λ decls handler. record {
      itself = c.weaker_knowledge_of_a_handler_is_ordered.ensures.itself;
      onward = c.weaker_knowledge_of_a_handler_is_ordered.ensures.onward;
      conditions = c.stronger_knowledge_goes_further.ensures.conditions decls;
      statements = λ stronger weaker act numbered weak. c.statements_keep_the_order.ensures (setting_of decls handler) stronger weaker act numbered weak;
      numbered = after-numbered (setting_of decls handler);
    } in
    record {
      typed = λ decls handler. typed decls handler (rises decls handler) (start_of-numbered decls handler);
      refused = λ decls handler. refused decls handler (rises decls handler) (start_of-numbered decls handler);
    }
