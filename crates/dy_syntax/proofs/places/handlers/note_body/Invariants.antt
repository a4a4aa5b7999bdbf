use Rattle.std.proofs.Common.{◌≡◌, map, drop}
use Rattle.dy_syntax.specs.Meaning.{statement_of, file_of}
use Rattle.dy_syntax.specs.MirrorMeaning.{least_of, scope_of}
use Rattle.dy_syntax.specs.MirrorFaults.{note_places}
use Rattle.dy_syntax.specs.Places.{body_places}
use Rattle.dy_syntax.proofs.places.handlers.note_body.Given as goal

-- those so far are noted, and what they bind is bound
abbrev pub invariant-loop-i : goal.invariant-loop-i
invariant-loop-i l =
    note_places (file_of l.file) (body_places (scope_of l.scope) (map statement_of (drop l.i l.body))) (least_of l.least)
    ≡ note_places (file_of l.file) (body_places (scope_of l.initial.scope) (map statement_of l.body)) (least_of l.initial.least)
