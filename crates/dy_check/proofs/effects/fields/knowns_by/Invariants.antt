use Rattle.std.proofs.Common.{map, take}
use Rattle.dy_label.specs.Words.{StaticLabel}
use Rattle.dy_syntax.specs.Meaning.{field_of}
use Rattle.dy_types.specs.Meaning.{known_of}
use Rattle.dy_typing.specs.Instances.{type_in}
use Rattle.dy_check.specs.declared.effects.openings.Way.{Way}
use Rattle.dy_check.specs.Meaning.{here_of}
use Rattle.dy_check.specs.MirrorNames.{numbers_of}
use Rattle.dy_check.specs.MirrorOpenings.{IsOpening, known_by}
use Rattle.dy_check.specs.Tables.{ValuesHaveTables}
use Rattle.dy_check.proofs.effects.fields.knowns_by.Given as goal

-- what is known of the fields so far
abbrev pub invariant-loop-field : goal.invariant-loop-field
invariant-loop-field l =
    (way : Way) (hi guard : StaticLabel) → IsOpening way hi guard l.opening
    → ValuesHaveTables (map (known_by way hi guard) (map (λ field. type_in (numbers_of l.naming) (here_of l.here) field.kind) (map field_of (take l.field-index l.fields)))) (map known_of l.knowns)
