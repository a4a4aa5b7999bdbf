use Rattle.std.proofs.Common.{◌≡◌, map, drop}
use Rattle.std.specs.List.{flat_map}
use Rattle.dy_syntax.specs.Meaning.{decl_of, file_of}
use Rattle.dy_syntax.specs.MirrorMeaning.{least_of}
use Rattle.dy_syntax.specs.MirrorFaults.{note_places}
use Rattle.dy_syntax.specs.Places.{decl_places}
use Rattle.dy_syntax.proofs.places.files.note_decls.Given as goal

-- those so far are noted
abbrev pub invariant-loop-decl : goal.invariant-loop-decl
invariant-loop-decl l =
    note_places (file_of l.file) (flat_map (decl_places (map decl_of l.file.decls)) (map decl_of (drop l.decl-index l.decls))) (least_of l.least)
    ≡ note_places (file_of l.file) (flat_map (decl_places (map decl_of l.file.decls)) (map decl_of l.decls)) (least_of l.initial.least)
