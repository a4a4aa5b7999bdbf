use Rattle.std.proofs.Common.{take}
use Rattle.dy_derive.proofs.FieldsGiven.{AreGiven}
use Rattle.dy_derive.proofs.deductions.Deductions.given_fields.Given as goal

abbrev pub invariant-loop-field : goal.invariant-loop-field
invariant-loop-field l =
    AreGiven l.initial.self l.self l.places l.given.rules.items l.given.reasons.items l.index l.number (take l.field-index l.fields)
