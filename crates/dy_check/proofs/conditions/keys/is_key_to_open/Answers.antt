use Rattle.std.proofs.Common.{◌≡◌, rules}
use Rattle.dy_label.specs.Labels.{Public}
use Rattle.dy_syntax.specs.declared.names.KindText.TheVariants.{Sig}
use Rattle.dy_typing.specs.Knowledge.{known_of}
use Rattle.dy_check.proofs.conditions.keys.is_key_to_open.Goals as goal

pub returns-then-eq : goal.returns-then-eq
returns-then-eq c = λ k name h.
    let is : c.args.kind ≡ Sig = search rules in
    rw is (c.has_vk.ensures (known_of k name) Public h c.public_table.ensures)
