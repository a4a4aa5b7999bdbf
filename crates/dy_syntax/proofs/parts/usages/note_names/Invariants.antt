use Rattle.std.proofs.Common.{◌≡◌, map, drop}
use Rattle.dy_syntax.specs.Meaning.{nm_of, file_of}
use Rattle.dy_syntax.specs.MirrorMeaning.{least_of, scope_of}
use Rattle.dy_syntax.specs.MirrorFaults.{note_parts}
use Rattle.dy_syntax.specs.Parts.{NameOnly}
use Rattle.dy_syntax.proofs.parts.usages.note_names.Given as goal

-- those so far are noted
abbrev pub invariant-loop-name : goal.invariant-loop-name
invariant-loop-name l =
    note_parts (file_of l.file) (scope_of l.scope) (map NameOnly (map nm_of (drop l.name-index l.names))) (least_of l.least)
    ≡ note_parts (file_of l.file) (scope_of l.scope) (map NameOnly (map nm_of l.names)) (least_of l.initial.least)
