use Rattle.std.proofs.Common.{◌≡◌, ◌+◌, ◌++◌, ◌∷◌, List, Contains, map, take, drop, sym, ap, subst, ◌∙◌}
use Rattle.std.specs.Borrow.{Bor}
use Rattle.std.proofs.lemmas.List.{take_all}
use Rattle.dy_syntax.specs.declared.declarations.Decl as code_decl
use Rattle.dy_syntax.specs.declared.statements.Handler as code
use Rattle.dy_syntax.specs.Statements as statements
use Rattle.dy_syntax.specs.Meaning.{decl_of, handler_of}
use Rattle.dy_cases.specs.DeclaredParts.{handlers_in}
use Rattle.dy_typing.specs.Typing.{AreTyped, IsRefusedAt}
use Rattle.dy_check.specs.MirrorHandlers.{IsFirstRefusal}
use Rattle.dy_check.proofs.HandlerParts.{in_middle, handler_is_short, AreTyped-more}
use Rattle.dy_check.proofs.SideBySide.{map_more}
use Rattle.dy_check.proofs.Statements.{parted_at}
use Rattle.dy_check.proofs.checking.check.Goals as goal

pub check_handler-requires-clause-names : goal.check_handler-requires-clause-names
check_handler-requires-clause-names c =
    let items = c.handlers-handler-items.result.now in
    let i = c.loop-handler.handler-index in
    let f = λ (handler : Bor code.Handler). handler_of handler.now in
    let parted = parted_at f items i c.handler-item.result c.loop-handler-test.true c.handler-item.is in
    let declared : handlers_in (map decl_of c.args.file.now.decls) ≡ map f (take i items) ++ f c.handler-item.result ∷ map f (drop (i + 1) items) =
    ap (λ (decls : List code_decl.Decl). handlers_in (map decl_of decls)) (sym c.in_ok-cases.ensures) ∙ sym c.handlers-handler-items.ensures ∙ parted in
    handler_is_short (map decl_of c.args.file.now.decls) (f c.handler-item.result) c.requires
    (subst (λ (handlers : List statements.Handler). Contains handlers (f c.handler-item.result)) (sym declared)
    (in_middle (map f (take i items)) (f c.handler-item.result) (map f (drop (i + 1) items))))

pub loop-handler-preserved : goal.loop-handler-preserved
loop-handler-preserved c =
    let items = c.handlers-handler-items.result.now in
    let i = c.loop-handler.handler-index in
    let f = λ (handler : Bor code.Handler). handler_of handler.now in
    let decls = map decl_of c.args.file.now.decls in
    let handler = f c.handler-item.result in
    let more = map_more f items i c.handler-item.result c.loop-handler-test.true c.handler-item.is in
    let told = rw (c.in_default.is, c.in_ok-cases.ensures) at c.in_ok-refusal.ensures in
    rw more (AreTyped-more decls (map f (take i items)) handler c.loop-handler.invariant
    ((c.the_strongest_derivation_decides.ensures.typed decls handler).1 told))

pub returns-in-Some-clause-refused : goal.returns-in-Some-clause-refused
returns-in-Some-clause-refused c = λ line condition field same.
    let items = c.handlers-handler-items.result.now in
    let i = c.loop-handler.handler-index in
    let f = λ (handler : Bor code.Handler). handler_of handler.now in
    let decls = map decl_of c.args.file.now.decls in
    let handler = f c.handler-item.result in
    let parted = parted_at f items i c.handler-item.result c.loop-handler-test.true c.handler-item.is in
    let declared : handlers_in decls ≡ map f (take i items) ++ handler ∷ map f (drop (i + 1) items) =
    ap (λ (ds : List code_decl.Decl). handlers_in (map decl_of ds)) (sym c.in_ok-cases.ensures) ∙ sym c.handlers-handler-items.ensures ∙ parted in
    let told = rw (c.in-Some.is, c.in_ok-cases.ensures) at c.in_ok-refusal.ensures in
    let refusal = c.in-Some.refusal in
    let same_line : refusal.line ≡ line = cc in
    let same_condition : refusal.condition ≡ condition = cc in
    let same_field : refusal.field ≡ field = cc in
    rw (← same_line, ← same_condition, ← same_field) (record {
      earlier = map f (take i items);
      handler = handler;
      later = map f (drop (i + 1) items);
      handlers = declared;
      typed = c.loop-handler.invariant;
      refused = c.the_strongest_derivation_decides.ensures.refused decls handler refusal.line refusal.condition refusal.field told;
    })

pub returns-clause-accepted : goal.returns-clause-accepted
returns-clause-accepted c = λ accepted.
    let items = c.handlers-handler-items.result.now in
    let f = λ (handler : Bor code.Handler). handler_of handler.now in
    let decls = map decl_of c.args.file.now.decls in
    let all : map f (take c.loop-handler.handler-index items) ≡ handlers_in decls =
    ap (map f) (take_all c.loop-handler.handler-index items c.loop-handler-test.false) ∙ c.handlers-handler-items.ensures
    ∙ ap (λ (ds : List code_decl.Decl). handlers_in (map decl_of ds)) c.in_ok-cases.ensures in
    subst (λ (handlers : List statements.Handler). AreTyped decls handlers) all c.loop-handler.invariant
