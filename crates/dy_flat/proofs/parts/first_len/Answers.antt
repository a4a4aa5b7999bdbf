use Rattle.std.proofs.Common.{◌≡◌, ◌+◌, ◌-◌, map, drop, arith, sym, ◌∙◌, ap, zero-add, get_or}
use Rattle.std.proofs.lemmas.List.{drop_all}
use Rattle.dy_flat.specs.MirrorSpans.{span}
use Rattle.dy_flat.specs.declared.flat_nodes.Node.TheVariants as code
use Rattle.dy_flat.specs.Meaning.{arity}
use Rattle.dy_flat.proofs.Spans.{arity_most, span_none, span_step}
use Rattle.dy_flat.proofs.parts.first_len.Goals as goal

pub loop-at-init : goal.loop-at-init
loop-at-init c = record { rest = sym (zero-add _); some = omega arith; few = omega arith }

pub overflow_sub-due : goal.overflow_sub-due
overflow_sub-due c = omega (arith, c.loop-at.invariant.some)

pub overflow_add-due : goal.overflow_add-due
overflow_add-due c =
    omega (arith, c.loop-at.invariant.few, arity_most (get_or c.args.run.now c.loop-at.at (code.Lit 0)), c.arity.ensures, c.loop-at-test.true, c.well_formed.0.1)

pub returns-then-due-eq0 : goal.returns-then-due-eq0
returns-then-due-eq0 c =
    let run = c.args.run.now in
    let at = c.loop-at.at in
    let i = c.loop-at.invariant in
    let step = span_step run at c.loop-at.due (code.Lit 0) c.loop-at-test.true i.some in
    let none : c.loop-at.due - 1 + arity (get_or run at (code.Lit 0)) ≡ 0 = sym (ap (λ n. c.loop-at.due - 1 + n) c.arity.ensures) ∙ c.if-due-eq0.true in
    let last : span (c.loop-at.due - 1 + arity (get_or run at (code.Lit 0))) (map arity (drop (at + 1) run)) ≡ 0 = ap (λ n. span n (map arity (drop (at + 1) run))) none ∙ span_none _ in
    omega (arith, i.rest, step, last)

pub loop-at-preserved : goal.loop-at-preserved
loop-at-preserved c =
    let run = c.args.run.now in
    let at = c.loop-at.at in
    let i = c.loop-at.invariant in
    let node = get_or run at (code.Lit 0) in
    let step = span_step run at c.loop-at.due (code.Lit 0) c.loop-at-test.true i.some in
    let most = arity_most node in
    let same = ap (λ n. span (c.loop-at.due - 1 + n) (map arity (drop (at + 1) run))) c.arity.ensures in
    record {
      rest = omega (arith, i.rest, step, same);
      some = omega (arith, i.some, c.if-due-eq0.false);
      few = omega (arith, i.few, most, c.arity.ensures);
    }

pub returns : goal.returns
returns c =
    let i = c.loop-at.invariant in
    let none = ap (λ more. span c.loop-at.due (map arity more)) (drop_all c.loop-at.at c.args.run.now c.loop-at-test.false) in
    omega (arith, i.rest, none)
