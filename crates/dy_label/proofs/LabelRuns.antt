-- Runs of labels: where the last one begins, and what it stands for.
use Rattle.std.proofs.Common.{◌≡◌, ℕ, ◌+◌, ◌<◌, ◌≤◌, List, [], ◌∷◌, ◌++◌, length, map, take, drop, refl, ap, sym, ◌∙◌, append_assoc, arith, length-append}
use Rattle.std.proofs.lemmas.List.{append-nil, length-map, map-append, length_push, take-map, drop-map}
use Rattle.std.proofs.Math.Seq.{take-append_seam, drop-append_seam}
use Rattle.dy_label.specs.Labels as labels
use Rattle.dy_label.specs.Labels.{Label}
use Rattle.dy_label.specs.MirrorRuns.{Node, run_of, runs_of, labels_from, labels_in, label_in, run_length, last_node, nodes_of_parts, IsRun, AreRuns}
use Rattle.dy_label.specs.MirrorCodes.{label_in-run_of, labels_from-run_of}

-- runs stand for their labels, and what follows is read after them
pub labels_from-runs_of : (before : List Label) (nodes : List Node) → labels_from [] (runs_of before ++ nodes) ≡ labels_from before nodes
labels_from-runs_of [] nodes = refl
labels_from-runs_of (label ∷ before) nodes =
    ap (labels_from []) (append_assoc (runs_of before) (run_of label) nodes) ∙ labels_from-runs_of before (run_of label ++ nodes) ∙ labels_from-run_of before label nodes

-- runs one after the other stand for their labels
pub labels_in-runs_of : (some : List Label) → labels_in (runs_of some) ≡ some
labels_in-runs_of some = ap labels_in (sym (append-nil (runs_of some))) ∙ labels_from-runs_of some []

pub push_injective : {X : Type 0} (xs ys : List X) (x y : X) → xs ++ x ∷ [] ≡ ys ++ y ∷ [] → (xs ≡ ys) × (x ≡ y)
push_injective [] [] x y e = (refl, cc)
push_injective [] (z ∷ []) x y e = cc
push_injective [] (z ∷ w ∷ zs) x y e = cc
push_injective (z ∷ []) [] x y e = cc
push_injective (z ∷ w ∷ zs) [] x y e = cc
push_injective (z ∷ xs) (w ∷ ys) x y e =
    let rest : xs ++ x ∷ [] ≡ ys ++ y ∷ [] = cc in
    let both = push_injective xs ys x y rest in
    let same = both.0 in
    (cc, both.1)

pub run_of-parts : (label : Label) → run_of label ≡ nodes_of_parts label ++ last_node label ∷ []
run_of-parts labels.Public = refl
run_of-parts labels.Nobody = refl
run_of-parts (labels.One reader) = refl
run_of-parts (labels.Join first second) = refl
run_of-parts (labels.Meet first second) = refl

pub run_length-last_node : (label : Label) → run_length (last_node label) ≡ length (run_of label)
run_length-last_node labels.Public = refl
run_length-last_node labels.Nobody = refl
run_length-last_node (labels.One reader) = refl
run_length-last_node (labels.Join first second) = sym (length_push (run_of first ++ run_of second) _)
run_length-last_node (labels.Meet first second) = sym (length_push (run_of first ++ run_of second) _)

-- the last node tells how long the last run is
pub run_length_of_last : (rest before : List Node) (last : Node) (label : Label) → rest ++ last ∷ [] ≡ before ++ run_of label → run_length last ≡ length (run_of label)
run_length_of_last rest before last label e =
    let parted : rest ++ last ∷ [] ≡ (before ++ nodes_of_parts label) ++ last_node label ∷ [] =
    e ∙ ap (λ r. before ++ r) (run_of-parts label) ∙ sym (append_assoc before (nodes_of_parts label) (last_node label ∷ [])) in
    let same = (push_injective rest (before ++ nodes_of_parts label) last (last_node label) parted).1 in
    ap run_length same ∙ run_length-last_node label

pub run_of-not_empty : (label : Label) → 0 < length (run_of label)
run_of-not_empty label = rw (run_of-parts label, length_push (nodes_of_parts label) (last_node label)) (omega arith)

-- the same for nodes of the code, which f takes to nodes of a run
module _ {A : Type 0} (f : A → Node) where
  pub run_length_at_end : (nodes rest : List A) (last : A) (before : List Node) (label : Label) → nodes ≡ rest ++ last ∷ [] → map f nodes ≡ before ++ run_of label → run_length (f last) ≡ length (run_of label)
  run_length_at_end nodes rest last before label e run =
      run_length_of_last (map f rest) before (f last) label (sym (map-append f rest (last ∷ [])) ∙ ap (map f) (sym e) ∙ run)

  pub run_is_within : (nodes : List A) (before : List Node) (label : Label) → map f nodes ≡ before ++ run_of label → length before + length (run_of label) ≡ length nodes
  run_is_within nodes before label run = sym (length-append before (run_of label)) ∙ ap length (sym run) ∙ length-map nodes f

  pub split_at_run : (nodes : List A) (before : List Node) (label : Label) (at : ℕ) → map f nodes ≡ before ++ run_of label → at + length (run_of label) ≡ length nodes → (map f (take at nodes) ≡ before) × (map f (drop at nodes) ≡ run_of label)
  split_at_run nodes before label at run e =
      let within = run_is_within nodes before label run in
      let same : at ≡ length before = omega arith in (
        rw (same, ← take-map f (length before) nodes, run) (take-append_seam before (run_of label)),
        rw (same, ← drop-map f (length before) nodes, run) (drop-append_seam before (run_of label)),
      )

-- nodes that are the run of a label stand for it
pub run_is : (nodes : List Node) (label : Label) → nodes ≡ run_of label → label_in nodes ≡ label
run_is nodes label e = ap label_in e ∙ label_in-run_of label

pub is_run : (nodes : List Node) (label : Label) → nodes ≡ run_of label → IsRun nodes
is_run nodes label e = rw (run_is nodes label e) e

pub runs_are : (nodes : List Node) (some : List Label) → nodes ≡ runs_of some → labels_in nodes ≡ some
runs_are nodes some e = ap labels_in e ∙ labels_in-runs_of some

pub are_runs : (nodes : List Node) (some : List Label) (count : ℕ) → nodes ≡ runs_of some → count ≡ length some → AreRuns nodes count
are_runs nodes some count e counted = record { runs = rw (runs_are nodes some e) e; counted = rw (runs_are nodes some e) counted }

-- no label is without a node
pub length_le_runs : (some : List Label) → length some ≤ length (runs_of some)
length_le_runs [] = omega arith
length_le_runs (label ∷ before) = omega (arith, length_le_runs before, length-append (runs_of before) (run_of label), run_of-not_empty label)
