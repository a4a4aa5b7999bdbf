use Rattle.std.proofs.Common.{◌≡◌, None, map, fold, length, get_or, subst, sym, ap, ◌∙◌, arith}
use Rattle.std.proofs.lemmas.List.{get_or-map}
use Rattle.std.proofs.lemmas.List.{length-map}
use Rattle.dy_syntax.specs.Declarations.{Field}
use Rattle.dy_syntax.specs.Meaning.{nm_of, field_of}
use Rattle.dy_types.specs.FieldTypes.{declared_claims}
use Rattle.dy_typing.specs.Instances.{type_in}
use Rattle.dy_typing.specs.Knowledge.{Knowledge}
use Rattle.dy_typing.specs.Effects.{add_checked}
use Rattle.dy_check.specs.Meaning.{knowledge_of}
use Rattle.dy_check.specs.MirrorNames.{numbers_of}
use Rattle.dy_check.specs.Tables.{KnowledgeHasTables}
use Rattle.dy_check.proofs.SideBySide.{fold_zip_more, zip_whole}
use Rattle.dy_check.proofs.effects.checks.claim_fields.Goals as goal

pub loop-i-preserved : goal.loop-i-preserved
loop-i-preserved c = λ k label h g.
    let i = c.loop-i.i in
    let args = c.args.args.now in
    let fields = c.args.fields.now in
    let kind = λ (f : Field). type_in (numbers_of c.args.naming.now) None f.kind in
    let types = map kind (map field_of fields) in
    let same : length types ≡ length fields = length-map (map field_of fields) kind ∙ length-map fields field_of in
    let arg = c.index-args-i.result in
    let declared = rw (← c.index-fields-i.is) at c.in_ok-declared.ensures in
    let type = kind (field_of c.index-fields-i.result) in
    let type_is : type ≡ get_or types i type =
    ap (λ f. kind (field_of f)) c.index-fields-i.is
    ∙ ap kind (sym (get_or-map field_of fields i c.index-fields-i.result (field_of c.index-fields-i.result) (omega arith)))
    ∙ sym (get_or-map kind (map field_of fields) i (field_of c.index-fields-i.result) type (omega (arith, length-map fields field_of))) in
    let more = fold_zip_more (add_checked label) k nm_of args types i arg type (omega arith) (omega arith) c.index-args-i.is type_is in
    subst (λ (known : Knowledge). KnowledgeHasTables known (knowledge_of c.claim_value.new.self)) (sym more)
    (rw c.of.ensures at (c.in_ok-claim_value.ensures _ (declared_claims type label) (c.loop-i.invariant k label h g) (c.in_ok-claims.ensures type label declared g)))

pub returns : goal.returns
returns c = λ k label h g.
    let kind = λ (f : Field). type_in (numbers_of c.args.naming.now) None f.kind in
    let types = map kind (map field_of c.args.fields.now) in
    let same : length types ≡ length c.args.fields.now = length-map (map field_of c.args.fields.now) kind ∙ length-map c.args.fields.now field_of in
    let whole = zip_whole nm_of c.args.args.now types c.loop-i.i (λ in_args in_fields. absurd (omega arith)) in
    subst (λ (known : Knowledge). KnowledgeHasTables known (knowledge_of c.loop-i.known)) (ap (fold (add_checked label) k) whole)
    (c.loop-i.invariant k label h g)
