-- How the logic stores labels: by their runs.
use Rattle.std.specs.Prelude.{◌≡◌, ℕ, ◌+◌, ◌==◌, cond, List, [], ◌∷◌, ◌++◌, length, refl}
use Rattle.std.specs.Coded.{Coded, code_by, coded×, coded_ℕ, coded_list}
use Rattle.std.proofs.Common.{ap, sym, ◌∙◌, append_assoc}
use Rattle.std.proofs.lemmas.List.{append-nil}
use Rattle.dy_label.specs.Labels as labels
use Rattle.dy_label.specs.Labels.{Principal, Session, Version}
use Rattle.dy_label.specs.MirrorRuns.{Node, Public, Nobody, One, Join, Meet, run_of, last, labels_from, label_in}

abbrev numbers_of : Node → ℕ × (ℕ × (ℕ × List ℕ))
numbers_of Public = (0, (0, (0, [])))
numbers_of Nobody = (1, (0, (0, [])))
numbers_of (One (Principal principal)) = (2, (0, (0, principal)))
numbers_of (One (Session principal session)) = (3, (session, (0, principal)))
numbers_of (One (Version principal session version)) = (4, (session, (version, principal)))
numbers_of (Join nodes) = (5, (nodes, (0, [])))
numbers_of (Meet nodes) = (6, (nodes, (0, [])))

abbrev node_of : ℕ × (ℕ × (ℕ × List ℕ)) → Node
node_of n =
    cond (n.0 == 0) Public (cond (n.0 == 1) Nobody
    (cond (n.0 == 2) (One (Principal n.1.1.1)) (cond (n.0 == 3) (One (Session n.1.1.1 n.1.0))
    (cond (n.0 == 4) (One (Version n.1.1.1 n.1.0 n.1.1.0)) (cond (n.0 == 5) (Join n.1.0) (Meet n.1.0))))))

pub node_of-numbers_of : (node : Node) → node_of (numbers_of node) ≡ node
node_of-numbers_of Public = refl
node_of-numbers_of Nobody = refl
node_of-numbers_of (One (Principal principal)) = refl
node_of-numbers_of (One (Session principal session)) = refl
node_of-numbers_of (One (Version principal session version)) = refl
node_of-numbers_of (Join nodes) = refl
node_of-numbers_of (Meet nodes) = refl

abbrev pub nodes_code : Coded (List Node)
nodes_code =
    coded_list (code_by (ℕ × (ℕ × (ℕ × List ℕ)))
    (coded× coded_ℕ (coded× coded_ℕ (coded× coded_ℕ (coded_list coded_ℕ))))
    numbers_of node_of node_of-numbers_of)

-- a run stands for its label, and what follows is read after it
pub labels_from-run_of : (before : List labels.Label) (label : labels.Label) (nodes : List Node)
    → labels_from before (run_of label ++ nodes) ≡ labels_from (label ∷ before) nodes
labels_from-run_of before labels.Public nodes = refl
labels_from-run_of before labels.Nobody nodes = refl
labels_from-run_of before (labels.One reader) nodes = refl
labels_from-run_of before (labels.Join first second) nodes =
    let whole = Join (length (run_of first ++ run_of second) + 1) in
    ap (labels_from before)
    (append_assoc (run_of first ++ run_of second) (whole ∷ []) nodes
    ∙ append_assoc (run_of first) (run_of second) (whole ∷ nodes))
    ∙ labels_from-run_of before first (run_of second ++ whole ∷ nodes)
    ∙ labels_from-run_of (first ∷ before) second (whole ∷ nodes)
labels_from-run_of before (labels.Meet first second) nodes =
    let whole = Meet (length (run_of first ++ run_of second) + 1) in
    ap (labels_from before)
    (append_assoc (run_of first ++ run_of second) (whole ∷ []) nodes
    ∙ append_assoc (run_of first) (run_of second) (whole ∷ nodes))
    ∙ labels_from-run_of before first (run_of second ++ whole ∷ nodes)
    ∙ labels_from-run_of (first ∷ before) second (whole ∷ nodes)

pub label_in-run_of : (label : labels.Label) → label_in (run_of label) ≡ label
label_in-run_of label = ap label_in (sym (append-nil (run_of label))) ∙ ap last (labels_from-run_of [] label [])

abbrev pub label_code : Coded labels.Label
label_code = code_by (List Node) nodes_code run_of label_in label_in-run_of

abbrev pub labels_code : Coded (List labels.Label)
labels_code = coded_list label_code
