use Rattle.std.proofs.Common.{◌≡◌, map, drop}
use Rattle.dy_syntax.specs.Meaning.{round_of, file_of}
use Rattle.dy_syntax.specs.MirrorMeaning.{least_of, scope_of}
use Rattle.dy_syntax.specs.MirrorFaults.{note_parts}
use Rattle.dy_syntax.specs.Places.{parts_of_rounds}
use Rattle.dy_syntax.proofs.places.plans.note_rounds.Given as goal

-- those so far are noted
abbrev pub invariant-loop-i : goal.invariant-loop-i
invariant-loop-i l =
    note_parts (file_of l.file) (scope_of l.scope) (parts_of_rounds l.i (map round_of (drop l.i l.rounds))) (least_of l.least)
    ≡ note_parts (file_of l.file) (scope_of l.scope) (parts_of_rounds 0 (map round_of l.rounds)) (least_of l.initial.least)
