use Rattle.std.proofs.Common.{◌^◌, ◌<◌, ◌-◌, arith, inl, inr, bit_and}
use Rattle.std.proofs.lemmas.Bool.{eqb-true, eq-eqb, cases_eq}
use Rattle.dy_label.proofs.RowBits.{block_within-zero, block_within-nonzero}
use Rattle.dy_label.proofs.tables.block_within.Goals as goal

pub returns : goal.returns
returns c =
    let first = c.args.first in
    let second = c.args.second in
    let lawful = c.args.lawful in
    let left = bit_and (bit_and first (18446744073709551615 - second)) lawful in
    let fits_first : first < 2 ^ 64 = omega arith in
    let fits_second : second < 2 ^ 64 = omega arith in (
      λ h. block_within-zero first second lawful fits_second (eqb-true left 0 h),
      λ h. elim (cases_eq left 0) [
        | inl none ↦ eq-eqb left 0 none
        | inr some ↦ absurd (block_within-nonzero first second lawful fits_first fits_second some h)
      ],
    )
