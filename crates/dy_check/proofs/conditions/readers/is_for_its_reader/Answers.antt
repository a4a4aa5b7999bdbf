use Rattle.dy_syntax.specs.Meaning.{nm_of}
use Rattle.dy_typing.specs.Conditions.{content_hi}
use Rattle.dy_typing.specs.Knowledge.{known_of}
use Rattle.dy_check.specs.Meaning.{setting_of}
use Rattle.dy_check.specs.OperationsMeaning.{sealing_in}
use Rattle.dy_check.proofs.FirstUnmet.{or_first, or_second, not_true}
use Rattle.dy_check.proofs.conditions.readers.is_for_its_reader.Goals as goal

pub returns-then-has_pk : goal.returns-then-has_pk
returns-then-has_pk c = record {
  exactly = λ k h.
      let content = content_hi (setting_of c.args.setting.now).decls k (sealing_in c.args.setting.now c.args.seal.now) in
      let key = rw c.of.ensures at (c.in_ok-key.ensures k h) in
      let table = c.in_ok-content.ensures.has k h in
      let has = rw c.in_ok-usage.ensures at (c.has_pk.ensures (known_of k (nm_of c.args.seal.now.key.now)) content key table) in
      rw c.requires (or_first (has.0 c.if-has_pk.true));
}

pub returns : goal.returns
returns c = record {
  exactly = λ k h.
      let content = content_hi (setting_of c.args.setting.now).decls k (sealing_in c.args.setting.now c.args.seal.now) in
      let key = rw c.of.ensures at (c.in_ok-key.ensures k h) in
      let table = c.in_ok-content.ensures.has k h in
      let has = rw c.in_ok-usage.ensures at (c.has_pk.ensures (known_of k (nm_of c.args.seal.now.key.now)) content key table) in
      rw c.requires (or_second c.is_public.result (not_true c.has_pk.result c.if-has_pk.false has) (c.is_public.ensures content table));
}
