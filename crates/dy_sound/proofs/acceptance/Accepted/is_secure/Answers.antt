use Rattle.dy_syntax.specs.Meaning.{file_of}
use Rattle.dy_sound.proofs.SecurityDecided.{secure_file}
use Rattle.dy_sound.proofs.acceptance.Accepted.is_secure.Goals as goal

pub returns : goal.returns
returns c = secure_file c.sameness_is_equality.ensures.equal c.sameness_is_equality.ensures.same (file_of c.args.self.now.file) c.args.self.now.secure
