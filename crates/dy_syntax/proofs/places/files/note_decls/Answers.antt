use Rattle.std.proofs.Common.{sym, ◌∙◌, map, arith}
use Rattle.dy_syntax.specs.Meaning.{decl_of}
use Rattle.dy_syntax.specs.MirrorMeaning.{least_of}
use Rattle.dy_syntax.specs.Places.{decl_places}
use Rattle.dy_syntax.proofs.Noted.{places_more}
use Rattle.dy_syntax.proofs.places.files.note_decls.Goals as goal

pub loop-decl-preserved : goal.loop-decl-preserved
loop-decl-preserved c =
    rw c.in_ok-note_decl.ensures
    (sym (places_more (decl_places (map decl_of c.args.file.now.decls)) decl_of _ c.args.decls.now c.loop-decl.decl-index c.decl-item.result (least_of c.loop-decl.least) (omega arith) c.decl-item.is)
    ∙ c.loop-decl.invariant)
