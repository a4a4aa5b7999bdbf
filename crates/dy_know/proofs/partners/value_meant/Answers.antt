use Rattle.std.proofs.Common.{◌≡◌, List, Some, None, true, false, sym, ◌∙◌, subst, arith}
use Rattle.std.specs.Str.{bytes_eq}
use Rattle.dy_syntax.specs.declared.declarations.Param.{Param}
use Rattle.dy_know.proofs.Words.{found_in, found_here, not_here, none_left, meant_is}
use Rattle.dy_know.proofs.partners.value_meant.Goals as goal

pub returns-then-same : goal.returns-then-same
returns-then-same c =
    let found = sym c.loop-i.invariant
    ∙ found_here c.in-Named.id.word c.as_slice-params.result.now c.args.args.now c.loop-i.i c.index-params-i.result c.index-args-i.result
    (omega (arith, c.loop-i-test.true, c.min-i-end.ensures)) c.index-params-i.is (omega (arith, c.loop-i-test.true, c.min-i-end.ensures)) c.index-args-i.is
    (subst (λ (p : Param). bytes_eq c.in-Named.id.word p.name.word ≡ true) (sym c.index-params-i.is) (sym c.same.ensures ∙ c.if-same.true)) in
    sym (meant_is c.args.event.now c.args.args.now c.args.name.now c.in-Named.id (Some (c.index-params-i.result.name.word, c.index-args-i.result)) c.in-Named.is
    (subst (λ (ps : List Param). found_in c.in-Named.id.word ps c.args.args.now ≡ Some (c.index-params-i.result.name.word, c.index-args-i.result)) c.as_slice-params.ensures found))

pub loop-i-preserved : goal.loop-i-preserved
loop-i-preserved c =
    not_here c.in-Named.id.word c.as_slice-params.result.now c.args.args.now c.loop-i.i c.index-params-i.result
    (omega (arith, c.loop-i-test.true, c.min-i-end.ensures)) c.index-params-i.is (omega (arith, c.loop-i-test.true, c.min-i-end.ensures))
    (subst (λ (p : Param). bytes_eq c.in-Named.id.word p.name.word ≡ false) (sym c.index-params-i.is) (sym c.same.ensures ∙ c.if-same.false)) ∙ c.loop-i.invariant

pub returns : goal.returns
returns c =
    let found = sym c.loop-i.invariant
    ∙ none_left c.in-Named.id.word c.as_slice-params.result.now c.args.args.now c.loop-i.i (omega (arith, c.loop-i-test.false, c.min-i-end.ensures)) in
    sym (meant_is c.args.event.now c.args.args.now c.args.name.now c.in-Named.id None c.in-Named.is
    (subst (λ (ps : List Param). found_in c.in-Named.id.word ps c.args.args.now ≡ None) c.as_slice-params.ensures found))
