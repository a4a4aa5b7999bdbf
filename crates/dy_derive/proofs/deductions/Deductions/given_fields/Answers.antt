use Rattle.std.proofs.Common.{◌+◌, ◌++◌, ◌∷◌, [], take, subst, sym, ap, ◌∙◌, arith}
use Rattle.std.proofs.lemmas.List.{take_more, take_all}
use Rattle.dy_term.specs.Terms.{Term}
use Rattle.dy_flat.specs.Views.{tree_of}
use Rattle.dy_derive.specs.Nodes.{IsTermAt}
use Rattle.dy_derive.specs.MirrorKnowledge.{Grows, AreAny}
use Rattle.dy_derive.proofs.FieldsGiven.{none_given, still_any, then_given, all_given}
use Rattle.dy_derive.proofs.Refusals.{on_err}
use Rattle.dy_derive.proofs.deductions.Deductions.given_fields.Goals as goal

pub loop-field-init : goal.loop-field-init
loop-field-init c =
    none_given c.args.self.now c.args.places c.nothing-given.result.rules.items c.nothing-given.result.reasons.items c.args.index
    c.nothing-given.ensures.rules c.nothing-given.ensures.reasons

pub returns-in_err-part-clause-err : goal.returns-in_err-part-clause-err
returns-in_err-part-clause-err c =
    on_err c.from_residual.result _
    (still_any c.args.self.now c.loop-field.self c.intern_term.new.self c.args.places c.loop-field.given.rules.items c.loop-field.given.reasons.items c.args.index
    c.loop-field.number (take c.loop-field.field-index c.args.fields.now) c.loop-field.invariant AreAny c.in_err-part.ensures.err)

pub returns-in_err-push_field-clause-err : goal.returns-in_err-push_field-clause-err
returns-in_err-push_field-clause-err c =
    on_err c.from_residual-in_err-push_field.result _
    (still_any c.args.self.now c.loop-field.self c.intern_term.new.self c.args.places c.loop-field.given.rules.items c.loop-field.given.reasons.items c.args.index
    c.loop-field.number (take c.loop-field.field-index c.args.fields.now) c.loop-field.invariant
    (λ facts. IsTermAt facts c.in_ok-part.part (tree_of c.whole.result)) c.in_ok-part.ensures.ok)

pub returns-in_err-number-clause-err : goal.returns-in_err-number-clause-err
returns-in_err-number-clause-err c =
    on_err c.from_residual-in_err-number.result _
    (still_any c.args.self.now c.loop-field.self c.intern_term.new.self c.args.places c.loop-field.given.rules.items c.loop-field.given.reasons.items c.args.index
    c.loop-field.number (take c.loop-field.field-index c.args.fields.now) c.loop-field.invariant
    (λ facts. IsTermAt facts c.in_ok-part.part (tree_of c.whole.result)) c.in_ok-part.ensures.ok)

pub loop-field-preserved : goal.loop-field-preserved
loop-field-preserved c =
    let fields = c.args.fields.now in
    let at = c.loop-field.field-index in
    let part = c.in_ok-part.part in
    let field = c.field-item.result in
    then_given c.args.self.now c.loop-field.self c.intern_term.new.self c.args.places c.loop-field.given.rules.items c.loop-field.given.reasons.items c.args.index
    c.loop-field.number (take c.loop-field.field-index c.args.fields.now) c.loop-field.invariant
    part field (subst (λ (t : Term). Grows c.loop-field.self c.intern_term.new.self (λ facts. IsTermAt facts part t)) c.whole.ensures c.in_ok-part.ensures.ok)
    c.in_ok-part.ensures.within c.requires.below c.push_field.new.given.rules.items c.push_field.new.given.reasons.items c.in_ok-number.number
    (take (at + 1) fields) c.in_ok-push_field.ensures.rules c.in_ok-push_field.ensures.reasons
    (grind (arith, c.in_ok-number.ensures, c.checked_add.ensures))
    (take_more fields at field c.loop-field-test.true ∙ ap (λ (f : Term). take at fields ++ f ∷ []) (sym c.field-item.is))

pub returns-clause-ok : goal.returns-clause-ok
returns-clause-ok c =
    all_given c.args.self.now c.loop-field.self c.args.places c.loop-field.given.rules.items c.loop-field.given.reasons.items c.args.index
    c.loop-field.number (take c.loop-field.field-index c.args.fields.now) c.args.fields.now
    (take_all c.loop-field.field-index c.args.fields.now c.loop-field-test.false) c.loop-field.invariant
