use Rattle.dy_sound.proofs.AllStatements.{statements_are_sound}
use Rattle.dy_sound.proofs.TypedFiles.{typed_is_secure}
use Rattle.dy_sound.proofs.typed_files.typed_is_secure.Goals as goal

pub returns : goal.returns
returns c = λ bytes file T typed is_one.
    typed_is_secure c.laws_below.ensures (statements_are_sound c.laws_below.ensures c.sameness_is_equality.ensures.equal) bytes file T typed is_one
