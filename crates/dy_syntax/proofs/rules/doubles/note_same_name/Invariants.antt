use Rattle.std.proofs.Common.{◌≡◌, map, filter, drop}
use Rattle.dy_syntax.specs.Meaning.{id_of}
use Rattle.dy_syntax.specs.MirrorMeaning.{least_of}
use Rattle.dy_syntax.specs.MirrorFaults.{note_lines}
use Rattle.dy_syntax.specs.Rules.Doubles.{same_word}
use Rattle.dy_syntax.proofs.rules.doubles.note_same_name.Given as goal

-- those so far are noted
abbrev pub invariant-loop-other : goal.invariant-loop-other
invariant-loop-other l =
    note_lines l.number (map (λ i. i.line) (filter (same_word (id_of l.id)) (map id_of (drop l.other-index l.more)))) (least_of l.least)
    ≡ note_lines l.number (map (λ i. i.line) (filter (same_word (id_of l.id)) (map id_of l.more))) (least_of l.initial.least)
