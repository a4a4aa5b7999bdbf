use Rattle.std.proofs.Common.{◌/◌, refl, arith, inl, inr}
use Rattle.std.proofs.lemmas.Bool.{cases_lt}
use Rattle.dy_label.proofs.RowBits.{row_within, block_within-rows}
use Rattle.dy_label.proofs.Implication.{implies-within}
use Rattle.dy_label.proofs.tables.within.Goals as goal

pub returns-then-not-block_within-clause-rows : goal.returns-then-not-block_within-clause-rows
returns-then-not-block_within-clause-rows c = (
  λ h. λ row below lawful in_first. cc,
  λ h. c.if-not-block_within.ensures.1 (block_within-rows c.args.first.now c.args.second.now c.loop-block.block c.loop-block-test.true h),
)

pub returns-then-not-block_within-clause-labels : goal.returns-then-not-block_within-clause-labels
returns-then-not-block_within-clause-labels c = λ l m uses_l uses_m of_l of_m.
    let rows = returns-then-not-block_within-clause-rows c in
    let labels = implies-within l m c.args.first.now c.args.second.now uses_l uses_m of_l of_m in
    (λ h. labels.0 (rows.0 h), λ h. rows.1 (labels.1 h))

pub loop-block-preserved : goal.loop-block-preserved
loop-block-preserved c = λ row below lawful in_first. elim (cases_lt (row / 64) c.loop-block.block) [
  | inl earlier ↦ c.loop-block.invariant row earlier lawful in_first
  | inr here ↦ row_within c.args.first.now c.args.second.now c.loop-block.block row (omega arith) (omega arith) (c.if-not-block_within.ensures.0 refl) lawful in_first
]

pub returns-clause-labels : goal.returns-clause-labels
returns-clause-labels c = λ l m uses_l uses_m of_l of_m.
    let labels = implies-within l m c.args.first.now c.args.second.now uses_l uses_m of_l of_m in
    (λ h. labels.0 (λ row below lawful in_first. c.loop-block.invariant row (omega arith) lawful in_first), λ h. refl)
