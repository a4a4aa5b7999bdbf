use Rattle.std.proofs.Common.{◌≡◌, [], ◌∷◌, ◌∙◌}
use Rattle.dy_label.specs.Labels.{One}
use Rattle.dy_label.specs.Words.{Name}
use Rattle.dy_syntax.specs.Meaning.{id_of}
use Rattle.dy_syntax.specs.Names.{Named}
use Rattle.dy_typing.specs.Knowledge.{known_of}
use Rattle.dy_check.proofs.FirstUnmet.{and_first, and_second, not_true}
use Rattle.dy_check.proofs.conditions.others.is_certified.Goals as goal

pub returns-then-has_use : goal.returns-then-has_use
returns-then-has_use c =
    let name = Named (id_of c.args.key.now) in
    let word : c.copy.result ≡ c.args.usage.now.word = c.copy.ensures in
    let args : c.in_ok-from_slice.field-0 ≡ 0 ∷ [] = c.in_ok-from_slice.ensures ∙ c.as_slice.ensures in
    record {
      exactly = λ k h.
          let value = c.in_ok-key.ensures k h in
          let has = rw (word, args) at (c.has_use.ensures (known_of k name) value) in
          and_second c.implies.result (has.0 c.if-has_use.true) (c.implies.ensures (known_of k name).lo (One (Name 0)) value.lo c.name_table.ensures);
    }

pub returns : goal.returns
returns c =
    let name = Named (id_of c.args.key.now) in
    let word : c.copy.result ≡ c.args.usage.now.word = c.copy.ensures in
    let args : c.in_ok-from_slice.field-0 ≡ 0 ∷ [] = c.in_ok-from_slice.ensures ∙ c.as_slice.ensures in
    record {
      exactly = λ k h.
          let has = rw (word, args) at (c.has_use.ensures (known_of k name) (c.in_ok-key.ensures k h)) in
          and_first (not_true c.has_use.result c.if-has_use.false has);
    }
