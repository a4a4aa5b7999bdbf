use Rattle.std.proofs.Common.{sym, ◌∙◌, arith}
use Rattle.dy_syntax.specs.Meaning.{atom_of}
use Rattle.dy_syntax.specs.MirrorMeaning.{least_of}
use Rattle.dy_syntax.specs.Parts.{parts_of_atom}
use Rattle.dy_syntax.proofs.Noted.{parts_more}
use Rattle.dy_syntax.proofs.places.declarations.note_atoms.Goals as goal

pub loop-atom-preserved : goal.loop-atom-preserved
loop-atom-preserved c =
    rw c.note_atom.ensures
    (sym (parts_more parts_of_atom atom_of _ _ c.args.atoms.now c.loop-atom.atom-index c.atom-item.result (least_of c.loop-atom.least) (omega arith) c.atom-item.is) ∙ c.loop-atom.invariant)
