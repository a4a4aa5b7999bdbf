-- The run of a label: its nodes, those of its parts before it. So a label of any depth is one list.
use Rattle.std.specs.Prelude.{◌≡◌, ℕ, ◌+◌, Bool, true, false, List, [], ◌∷◌, ◌++◌, length}
use Rattle.dy_label.specs.Labels as labels
use Rattle.dy_label.specs.Labels.{Place}

-- A node that has two parts has the number of nodes of its whole run, itself counted.
pub data Node : Type 0 where
  Public : Node
  Nobody : Node
  One : (reader : Place) → Node
  Join : (nodes : ℕ) → Node
  Meet : (nodes : ℕ) → Node

abbrev pub run_of : labels.Label → List Node
run_of labels.Public = Public ∷ []
run_of labels.Nobody = Nobody ∷ []
run_of (labels.One reader) = One reader ∷ []
run_of (labels.Join first second) =
    (run_of first ++ run_of second) ++ Join (length (run_of first ++ run_of second) + 1) ∷ []
run_of (labels.Meet first second) =
    (run_of first ++ run_of second) ++ Meet (length (run_of first ++ run_of second) + 1) ∷ []

-- the runs of some labels, the last label first, one run after the other
abbrev pub runs_of : List labels.Label → List Node
runs_of [] = []
runs_of (label ∷ before) = runs_of before ++ run_of label

-- the labels that stand finished after a node, the last one first
abbrev pub labels_after : List labels.Label → Node → List labels.Label
labels_after before Public = labels.Public ∷ before
labels_after before Nobody = labels.Nobody ∷ before
labels_after before (One reader) = labels.One reader ∷ before
labels_after before (Join nodes) = labels.with_last_two labels.Join before
labels_after before (Meet nodes) = labels.with_last_two labels.Meet before

abbrev pub labels_from : List labels.Label → List Node → List labels.Label
labels_from before [] = before
labels_from before (node ∷ nodes) = labels_from (labels_after before node) nodes

-- the labels whose runs the nodes are, the last one first
abbrev pub labels_in : List Node → List labels.Label
labels_in nodes = labels_from [] nodes

-- the last label, or `nobody` where there is none
abbrev pub last : List labels.Label → labels.Label
last [] = labels.Nobody
last (label ∷ before) = label

-- the label whose run the nodes are, where they are the run of one
abbrev pub label_in : List Node → labels.Label
label_in nodes = last (labels_in nodes)

-- The nodes are the run of one label.
abbrev pub IsRun : List Node → Type 0
IsRun nodes = nodes ≡ run_of (label_in nodes)

-- The nodes are the runs of so many labels.
pub record AreRuns (nodes : List Node) (count : ℕ) : Type 0 where
  pub runs : nodes ≡ runs_of (labels_in nodes)
  pub counted : count ≡ length (labels_in nodes)

-- a node without parts
abbrev pub is_leaf : Node → Bool
is_leaf (Join nodes) = false
is_leaf (Meet nodes) = false
is_leaf _ = true

-- how many nodes the run has that ends with the node
abbrev pub run_length : Node → ℕ
run_length (Join nodes) = nodes
run_length (Meet nodes) = nodes
run_length _ = 1

-- Some nodes, and then the run of a label.
abbrev pub EndsWithRun : List Node → Type 0
EndsWithRun nodes = (before : List Node) × (label : labels.Label) × (nodes ≡ before ++ run_of label)

-- The second nodes are the run that the nodes end with, and the first ones stand before it.
abbrev pub SplitsLastRun : List Node → List Node → List Node → Type 0
SplitsLastRun nodes first last = (before : List Node) (label : labels.Label)
    → nodes ≡ before ++ run_of label → (first ≡ before) × (last ≡ run_of label)

-- The nodes are the runs of two labels.
abbrev pub AreTwoRuns : List Node → Type 0
AreTwoRuns nodes = (first : labels.Label) × (second : labels.Label) × (nodes ≡ run_of first ++ run_of second)

-- Some nodes, and then the runs of two labels.
abbrev pub EndsWithTwoRuns : List Node → Type 0
EndsWithTwoRuns nodes = (before : List Node) × (first : labels.Label) × (second : labels.Label)
    × (nodes ≡ (before ++ run_of first) ++ run_of second)

-- The number is that of the nodes of the last two runs, and one more.
abbrev pub CountsTwoRuns : List Node → ℕ → Type 0
CountsTwoRuns nodes number = (before : List Node) (first second : labels.Label)
    → nodes ≡ (before ++ run_of first) ++ run_of second → number ≡ length (run_of first ++ run_of second) + 1

-- the last node of a label's run
abbrev pub last_node : labels.Label → Node
last_node labels.Public = Public
last_node labels.Nobody = Nobody
last_node (labels.One reader) = One reader
last_node (labels.Join first second) = Join (length (run_of first ++ run_of second) + 1)
last_node (labels.Meet first second) = Meet (length (run_of first ++ run_of second) + 1)

-- the nodes of a label's run before the last one
abbrev pub nodes_of_parts : labels.Label → List Node
nodes_of_parts (labels.Join first second) = run_of first ++ run_of second
nodes_of_parts (labels.Meet first second) = run_of first ++ run_of second
nodes_of_parts _ = []
