use Rattle.dy_check.specs.OperationsMeaning.{sealing_in}
use Rattle.dy_check.proofs.conditions.fields.unmet_case_field.Goals as goal

pub returns : goal.returns
returns c =
    let found = c.in_ok-found.ensures (sealing_in c.args.setting.now c.args.seal.now) c.in_ok-sealer_table.ensures in
    rw (c.as_slice-fields.ensures, c.as_slice-2.ensures, c.in_ok-stands.ensures, c.as_slice-args.ensures, c.as_slice.ensures, c.in_ok-places.ensures) at found
