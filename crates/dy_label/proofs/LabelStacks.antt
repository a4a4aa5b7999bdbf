-- Runs one after the other: a leaf is put after them, or the node of the last two.
use Rattle.std.proofs.Common.{◌≡◌, ℕ, ◌+◌, ◌≤◌, true, List, [], ◌∷◌, ◌++◌, length, ap, append_assoc, arith}
use Rattle.dy_label.specs.declared.label_nodes.Whole.{Whole}
use Rattle.dy_label.specs.Labels.{Label, with_last_two}
use Rattle.dy_label.specs.MirrorRuns.{Node, Public, Nobody, One, Join, Meet, run_of, runs_of, labels_after, is_leaf, EndsWithTwoRuns, CountsTwoRuns}
use Rattle.dy_label.specs.MirrorNodes.{whole_of, whole_node}
use Rattle.dy_label.proofs.LabelParts.{run_of-whole}

pub leaf_after : (nodes : List Node) (before : List Label) (leaf : Node) → nodes ≡ runs_of before → is_leaf leaf ≡ true → nodes ++ leaf ∷ [] ≡ runs_of (labels_after before leaf)
leaf_after nodes before Public e is = ap (λ r. r ++ Public ∷ []) e
leaf_after nodes before Nobody e is = ap (λ r. r ++ Nobody ∷ []) e
leaf_after nodes before (One reader) e is = ap (λ r. r ++ One reader ∷ []) e
leaf_after nodes before (Join n) e is = cc
leaf_after nodes before (Meet n) e is = cc

pub length-leaf_after : (before : List Label) (leaf : Node) → is_leaf leaf ≡ true → length (labels_after before leaf) ≡ length before + 1
length-leaf_after before Public is = omega arith
length-leaf_after before Nobody is = omega arith
length-leaf_after before (One reader) is = omega arith
length-leaf_after before (Join n) is = cc
length-leaf_after before (Meet n) is = cc

-- where two labels are, two runs stand at the end
pub two_at_end : (nodes : List Node) (some : List Label) → nodes ≡ runs_of some → 2 ≤ length some
    → EndsWithTwoRuns nodes
two_at_end nodes [] e two = absurd (omega arith)
two_at_end nodes (only ∷ []) e two = absurd (omega arith)
two_at_end nodes (second ∷ first ∷ before) e two = (runs_of before, first, second, e)

pub length-with_last_two : (whole : Label → Label → Label) (some : List Label) → 2 ≤ length some → length (with_last_two whole some) + 1 ≡ length some
length-with_last_two whole [] two = absurd (omega arith)
length-with_last_two whole (only ∷ []) two = absurd (omega arith)
length-with_last_two whole (second ∷ first ∷ before) two = omega arith

-- the last node of a whole, after the runs of its parts, makes the last two labels the whole
pub whole_after : (whole : Whole) (nodes : List Node) (some : List Label) (n : ℕ) → nodes ≡ runs_of some → 2 ≤ length some → CountsTwoRuns nodes n → nodes ++ whole_node whole n ∷ [] ≡ runs_of (with_last_two (whole_of whole) some)
whole_after whole nodes [] n e two counts = absurd (omega arith)
whole_after whole nodes (only ∷ []) n e two counts = absurd (omega arith)
whole_after whole nodes (second ∷ first ∷ before) n e two counts =
    rw (run_of-whole whole first second, counts (runs_of before) first second e, e, append_assoc (runs_of before) (run_of first) (run_of second)) (append_assoc (runs_of before) (run_of first ++ run_of second) _)
