use Rattle.std.proofs.Common.{◌≡◌, List, [], ◌∷◌, true, false, sym, ◌∙◌, ap, rules}
use Rattle.dy_grammar.specs.Mirrors.Machine.{skip}
use Rattle.dy_parse.specs.declared.skipping.Due.{Due}
use Rattle.dy_parse.specs.Mirrors.Skipping.{sym_of, syms_of, can_pass}
use Rattle.dy_parse.proofs.Grammars.Skipping.{last_due, passes, refuses, skip_nothing}
use Rattle.dy_parse.proofs.skipping.skip_over.Goals as goal

pub dues-preserved : goal.dues-preserved
dues-preserved c =
    let total = skip c.args.tokens.now (sym_of c.args.due ∷ []) in
    let left_out : can_pass (sym_of c.in-Some.next) ≡ true = sym c.can_pass.ensures ∙ c.if-can_pass.true in
    sym (passes (sym_of c.in-Some.next) c.dues.left (syms_of c.pop.new.self.items) left_out c.in-None.ensures.none)
    ∙ last_due c.dues.stack.items c.pop.new.self.items c.in-Some.next c.dues.left total c.dues.invariant c.in-Some.ensures.items

pub returns-in-None-2 : goal.returns-in-None-2
returns-in-None-2 c =
    let total = skip c.args.tokens.now (sym_of c.args.due ∷ []) in
    let due_here : can_pass (sym_of c.in-Some.next) ≡ false = sym c.can_pass.ensures ∙ c.if-can_pass.false in
    rw c.fault.ensures
    (sym (last_due c.dues.stack.items c.pop.new.self.items c.in-Some.next c.dues.left total c.dues.invariant c.in-Some.ensures.items)
    ∙ refuses (sym_of c.in-Some.next) c.dues.left (syms_of c.pop.new.self.items) due_here c.in-None.ensures.none)

pub returns : goal.returns
returns c =
    let none : c.dues.stack.items ≡ [] = search rules in
    sym c.dues.invariant ∙ ap (λ (stack : List Due). skip c.dues.left (syms_of stack)) none ∙ skip_nothing c.dues.left
