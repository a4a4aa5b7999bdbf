use Rattle.std.proofs.Common.{◌≡◌, map, drop}
use Rattle.std.specs.List.{flat_map}
use Rattle.dy_syntax.specs.Meaning.{partner_of, file_of}
use Rattle.dy_syntax.specs.MirrorMeaning.{least_of, scope_of}
use Rattle.dy_syntax.specs.MirrorFaults.{note_parts}
use Rattle.dy_syntax.specs.Parts as parts
use Rattle.dy_syntax.proofs.places.declarations.note_partners.Given as goal

-- those so far are noted
abbrev pub invariant-loop-partner : goal.invariant-loop-partner
invariant-loop-partner l =
    note_parts (file_of l.file) (scope_of l.scope) (flat_map parts.parts_of_partner (map partner_of (drop l.partner-index l.partners))) (least_of l.least)
    ≡ note_parts (file_of l.file) (scope_of l.scope) (flat_map parts.parts_of_partner (map partner_of l.partners)) (least_of l.initial.least)
