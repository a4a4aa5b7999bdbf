use Rattle.std.proofs.Common.{◌∷◌, [], map, take}
use Rattle.std.proofs.lemmas.List.{map-append}
use Rattle.dy_syntax.specs.Declarations.{Field}
use Rattle.dy_syntax.specs.Meaning.{field_of}
use Rattle.dy_types.specs.Meaning.{known_of}
use Rattle.dy_typing.specs.Instances.{type_in}
use Rattle.dy_check.specs.Meaning.{here_of}
use Rattle.dy_check.specs.MirrorNames.{numbers_of}
use Rattle.dy_check.specs.MirrorOpenings.{known_by}
use Rattle.dy_check.proofs.SideBySide.{map_more}
use Rattle.dy_check.proofs.ValueTables.{ValuesHaveTables-push}
use Rattle.dy_check.proofs.effects.fields.knowns_by.Goals as goal

pub loop-field-preserved : goal.loop-field-preserved
loop-field-preserved c = λ way hi guard o.
    let fields = c.args.fields.now in
    let i = c.loop-field.field-index in
    let field = c.field-item.result in
    let kind = λ (f : Field). type_in (numbers_of c.args.naming.now) (here_of c.args.here) f.kind in
    let knowing = known_by way hi guard in
    let before = map field_of (take i fields) in
    let more = map_more field_of fields i field c.loop-field-test.true c.field-item.is in
    let value = knowing (kind (field_of field)) in
    rw (more, map-append kind before (field_of field ∷ []), map-append knowing (map kind before) (kind (field_of field) ∷ []), c.in_ok-push.ensures.ok, map-append known_of c.loop-field.knowns _)
    (ValuesHaveTables-push (map knowing (map kind before)) (map known_of c.loop-field.knowns) value _ (c.loop-field.invariant way hi guard o) (c.in_ok-known_by.ensures way hi guard (kind (field_of field)) o c.in_ok-declared.ensures))
