use Rattle.std.proofs.Common.{rules, ap, sym, ◌∙◌, ◌∷◌}
use Rattle.std.specs.Prelude.{Some}
use Rattle.atomic_table.specs.Table.{rest}
use Rattle.dy_turn.proofs.steps.take_out.Goals as goal

pub exchange-requires : goal.exchange-requires
exchange-requires g c =
    let full = c.requires.full in (search rules, (Some full.0, full.1 ∙ sym (ap (λ l. (0, Some full.0) ∷ rest l) full.1)))
