use Rattle.dy_check.specs.Meaning.{setting_of}
use Rattle.dy_check.specs.OperationsMeaning.{sealing_in}
use Rattle.dy_syntax.specs.Meaning.{nm_of}
use Rattle.dy_typing.specs.Conditions.{content_hi}
use Rattle.dy_typing.specs.Knowledge.{known_of}
use Rattle.dy_check.proofs.conditions.readers.may_be_read.Goals as goal

pub returns : goal.returns
returns c = record {
  exactly = λ k h.
      let key = rw c.of.ensures at (c.in_ok-key.ensures k h) in
      rw c.requires
      (c.implies.ensures (known_of k (nm_of c.args.seal.now.key.now)).lo (content_hi (setting_of c.args.setting.now).decls k (sealing_in c.args.setting.now c.args.seal.now)) key.lo (c.in_ok-content.ensures.has k h));
}
