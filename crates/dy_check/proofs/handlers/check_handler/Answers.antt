use Rattle.std.proofs.Common.{◌≡◌, ◌+◌, List, map, take, drop, refl, sym, ap, subst, ◌∙◌}
use Rattle.std.proofs.lemmas.List.{take_all}
use Rattle.dy_syntax.specs.declared.statements.Statement as code
use Rattle.dy_syntax.specs.Meaning.{decl_of, handler_of, statement_of}
use Rattle.dy_typing.specs.Names as typing
use Rattle.dy_typing.specs.Names.{Setting}
use Rattle.dy_typing.specs.Demands.{demands_of}
use Rattle.dy_typing.specs.Conditions.{AreMet}
use Rattle.dy_typing.specs.Effects.{after, at_start, start_of}
use Rattle.dy_typing.specs.Strongest.{after_all, AllMet, IsUnmet}
use Rattle.dy_check.specs.Meaning.{knowledge_of}
use Rattle.dy_check.specs.Tables.{KnowledgeHasTables}
use Rattle.dy_check.proofs.SideBySide.{map_more}
use Rattle.dy_check.proofs.Statements.{parted_at, after_all-more, AllMet-more}
use Rattle.dy_check.proofs.handlers.check_handler.Goals as goal

pub loop-statement-init : goal.loop-statement-init
loop-statement-init c = record {
  met = tt;
  knows = subst (λ (s : Setting). KnowledgeHasTables (at_start s (handler_of c.args.handler.now)) (knowledge_of c.in_ok-known.known)) c.in_ok-setting.ensures c.in_ok-known.ensures;
}

pub loop-statement-preserved : goal.loop-statement-preserved
loop-statement-preserved c =
    let decls = map decl_of c.args.cases.now in
    let handler = handler_of c.args.handler.now in
    let setting = typing.setting_of decls handler in
    let start = start_of decls handler in
    let items = c.as_slice-statement-items.result.now in
    let i = c.loop-statement.statement-index in
    let done = map statement_of (take i items) in
    let statement = statement_of c.statement-item.result in
    let known = after_all setting start done in
    let told = rw c.in_default.is at c.in_ok-unmet.ensures in
    let met = subst (λ (s : Setting). AreMet s.decls known (demands_of s statement.act)) c.in_ok-setting.ensures (told.first known c.loop-statement.invariant.knows) in
    let next = subst (λ (s : Setting). KnowledgeHasTables (after s known statement.act) (knowledge_of c.after.new.known)) c.in_ok-setting.ensures
    (c.in_ok-after.ensures known c.loop-statement.invariant.knows) in
    let more = map_more statement_of items i c.statement-item.result c.loop-statement-test.true c.statement-item.is in
    record {
      met = rw more (AllMet-more setting start done statement c.loop-statement.invariant.met met);
      knows = rw (more, after_all-more setting start done statement) next;
    }

pub returns-in-Some : goal.returns-in-Some
returns-in-Some c =
    let decls = map decl_of c.args.cases.now in
    let handler = handler_of c.args.handler.now in
    let setting = typing.setting_of decls handler in
    let start = start_of decls handler in
    let items = c.as_slice-statement-items.result.now in
    let i = c.loop-statement.statement-index in
    let done = map statement_of (take i items) in
    let statement = statement_of c.statement-item.result in
    let known = after_all setting start done in
    let told = rw c.in-Some.is at c.in_ok-unmet.ensures in
    record {
      done = done;
      statement = statement;
      later = map statement_of (drop (i + 1) items);
      body_is = ap (map statement_of) (sym c.as_slice-statement-items.ensures) ∙ parted_at statement_of items i c.statement-item.result c.loop-statement-test.true c.statement-item.is;
      are_met = c.loop-statement.invariant.met;
      unmet = subst (λ (s : Setting). IsUnmet s.decls known (demands_of s statement.act) c.in-Some.unmet.condition c.in-Some.unmet.field) c.in_ok-setting.ensures
          (told.first known c.loop-statement.invariant.knows);
      at_line = refl;
    }

pub returns : goal.returns
returns c =
    let decls = map decl_of c.args.cases.now in
    let handler = handler_of c.args.handler.now in
    let items = c.as_slice-statement-items.result.now in
    let all = take_all c.loop-statement.statement-index items c.loop-statement-test.false ∙ c.as_slice-statement-items.ensures in
    subst (λ (done : List code.Statement). AllMet (typing.setting_of decls handler) (start_of decls handler) (map statement_of done)) all c.loop-statement.invariant.met
