use Rattle.std.proofs.Common.{◌≡◌, rules}
use Rattle.dy_label.specs.Labels.{Public}
use Rattle.dy_syntax.specs.declared.names.KindText.TheVariants.{Pke}
use Rattle.dy_typing.specs.Knowledge.{known_of}
use Rattle.dy_check.proofs.conditions.keys.is_key_for.Goals as goal

pub returns-then-eq : goal.returns-then-eq
returns-then-eq c = λ k name h.
    let is : c.args.kind ≡ Pke = search rules in
    rw is (c.has_pk.ensures (known_of k name) Public h c.public_table.ensures)
