-- The steps of a walk over a run, node by node from the last.
use Rattle.std.proofs.Common.{◌≡◌, ℕ, zero, suc, ◌+◌, ◌-◌, ◌<◌, ◌≤◌, Some, List, [], ◌∷◌, ◌++◌, map, reverse, length, take, drop, get_or, refl, sym, ◌∙◌, ap, arith, drop-cons, Result, Ok, Err, is_ok, IsOk}
use Rattle.std.specs.Prelude.{if◌then◌else◌}
use Rattle.std.specs.Option.{option_map}
use Rattle.std.proofs.lemmas.List.{append_assoc, append-nil, length-append, length-map, length-drop, drop-map, drop_all, reverse-append, take-append-drop}
use Rattle.std.proofs.Math.ListN.{get_or-append}
use Rattle.std.proofs.Math.Seq.{get_or-append_seam}
use Rattle.dy_term.specs.Terms as trees
use Rattle.dy_term.specs.Terms.{size}
use Rattle.dy_flat.specs.declared.views.View.{View}
use Rattle.dy_flat.specs.declared.flat_nodes.Node.{Node}
use Rattle.dy_flat.specs.declared.flat_nodes.Node.TheVariants as code
use Rattle.dy_flat.specs.declared.contents.Contents.{Contents}
use Rattle.dy_flat.specs.Runs as runs
use Rattle.dy_flat.specs.Runs.{run_of}
use Rattle.dy_flat.specs.Meaning.{read, read_all, arity}
use Rattle.dy_flat.specs.Views.{tree_of}
use Rattle.dy_flat.specs.Walks.{Step, steps_from, steps_of, last_number}
use Rattle.dy_flat.specs.MirrorWalks.{without, unused_of, Unused, step_over}
use Rattle.dy_flat.proofs.Spans.{parts_of, read_all_parts}
use Rattle.dy_flat.proofs.WholeRuns.{length_whole, length-run_of}

-- the steps of nodes, those of the last nodes first
abbrev run_steps : List runs.Node → List Step
run_steps [] = []
run_steps (node ∷ more) = run_steps more ++ step_over node (unused_of (map parts_of more)) ∷ []

-- ---- the numbers that are left

abbrev unused : List runs.Node → List ℕ
unused nodes = unused_of (map parts_of nodes)

cons_is : (a b : ℕ) (x y : List ℕ) → a ≡ b → x ≡ y → a ∷ x ≡ b ∷ y
cons_is a b x y e f = ap (λ n. n ∷ x) e ∙ ap (λ more. b ∷ more) f

number_is : (nodes : List runs.Node) (rest k n : ℕ) → length nodes ≡ k + rest → n ≡ rest → length (map parts_of nodes) ≡ (n + (1 + k)) - 1
number_is nodes rest k n len at = omega (arith, length-map nodes parts_of, len, at)

unused_one : (A rest : List runs.Node) (x n a : ℕ) → length A ≡ a → n ≡ length rest → unused (A ++ rest) ≡ x ∷ unused rest → unused_of (1 ∷ map parts_of (A ++ rest)) ≡ ((n + (1 + a)) - 1) ∷ unused rest
unused_one A rest x n a len at is =
    cons_is _ _ _ _ (number_is (A ++ rest) (length rest) a n (omega (arith, length-append A rest, len)) at) (ap (drop 1) is)

unused_two : (A B rest : List runs.Node) (x y n a b : ℕ) → length A ≡ a → length B ≡ b → n ≡ length rest → unused (A ++ (B ++ rest)) ≡ x ∷ unused (B ++ rest) → unused (B ++ rest) ≡ y ∷ unused rest
    → unused_of (2 ∷ map parts_of ((A ++ B) ++ rest)) ≡ ((n + (1 + a + b)) - 1) ∷ unused rest
unused_two A B rest x y n a b len_a len_b at first second =
    let all : unused ((A ++ B) ++ rest) ≡ x ∷ y ∷ unused rest = ap unused (append_assoc A B rest) ∙ first ∙ ap (λ more. x ∷ more) second in
    cons_is _ _ _ _ (number_is ((A ++ B) ++ rest) (length rest) (a + b) n (omega (arith, length-append (A ++ B) rest, length-append A B, len_a, len_b)) at ∙ (omega arith)) (ap (λ u. drop 1 (drop 1 u)) all)

unused_three : (A B C rest : List runs.Node) (x y z n a b c : ℕ) → length A ≡ a → length B ≡ b → length C ≡ c → n ≡ length rest
    → unused (A ++ (B ++ (C ++ rest))) ≡ x ∷ unused (B ++ (C ++ rest)) → unused (B ++ (C ++ rest)) ≡ y ∷ unused (C ++ rest) → unused (C ++ rest) ≡ z ∷ unused rest
    → unused_of (3 ∷ map parts_of ((A ++ (B ++ C)) ++ rest)) ≡ ((n + (1 + a + b + c)) - 1) ∷ unused rest
unused_three A B C rest x y z n a b c len_a len_b len_c at first second third =
    let nodes : (A ++ (B ++ C)) ++ rest ≡ A ++ (B ++ (C ++ rest)) = append_assoc A (B ++ C) rest ∙ ap (λ back. A ++ back) (append_assoc B C rest) in
    let all : unused ((A ++ (B ++ C)) ++ rest) ≡ x ∷ y ∷ z ∷ unused rest = ap unused nodes ∙ first ∙ ap (λ more. x ∷ more) (second ∙ ap (λ more. y ∷ more) third) in
    cons_is _ _ _ _ (number_is ((A ++ (B ++ C)) ++ rest) (length rest) (a + b + c) n (omega (arith, length-append (A ++ (B ++ C)) rest, length-append A (B ++ C), length-append B C, len_a, len_b, len_c)) at ∙ (omega arith)) (ap (λ u. drop 1 (drop 1 (drop 1 u))) all)

after_is : (B rest : List runs.Node) (n b : ℕ) → length B ≡ b → n ≡ length rest → n + b ≡ length (B ++ rest)
after_is B rest n b len at = omega (arith, length-append B rest, len, at)

-- Of a term's nodes the number of the last step is left, before those that were left.
unused_run : (t : trees.Term) (rest : List runs.Node) (n : ℕ) → n ≡ length rest → unused (run_of t ++ rest) ≡ last_number n t ∷ unused rest
unused_run (trees.Lit text) rest n at = cons_is _ _ _ _ (omega (arith, length-map rest parts_of, at)) refl
unused_run (trees.Name principal) rest n at = cons_is _ _ _ _ (omega (arith, length-map rest parts_of, at)) refl
unused_run (trees.Nonce index) rest n at = cons_is _ _ _ _ (omega (arith, length-map rest parts_of, at)) refl
unused_run (trees.Pair a b) rest n at =
    unused_two (run_of a) (run_of b) rest _ _ n (size a) (size b) (length-run_of a) (length-run_of b) at
    (unused_run a (run_of b ++ rest) (n + size b) (after_is (run_of b) rest n (size b) (length-run_of b) at)) (unused_run b rest n at)
unused_run (trees.Pk k) rest n at = unused_one (run_of k) rest _ n (size k) (length-run_of k) at (unused_run k rest n at)
unused_run (trees.Vk k) rest n at = unused_one (run_of k) rest _ n (size k) (length-run_of k) at (unused_run k rest n at)
unused_run (trees.Penc a b) rest n at =
    unused_two (run_of a) (run_of b) rest _ _ n (size a) (size b) (length-run_of a) (length-run_of b) at
    (unused_run a (run_of b ++ rest) (n + size b) (after_is (run_of b) rest n (size b) (length-run_of b) at)) (unused_run b rest n at)
unused_run (trees.Aead k m a) rest n at =
    let i = n + size a in
    let at_i = after_is (run_of a) rest n (size a) (length-run_of a) at in
    unused_three (run_of k) (run_of m) (run_of a) rest _ _ _ n (size k) (size m) (size a) (length-run_of k) (length-run_of m) (length-run_of a) at
    (unused_run k (run_of m ++ (run_of a ++ rest)) (i + size m) (after_is (run_of m) (run_of a ++ rest) i (size m) (length-run_of m) at_i))
    (unused_run m (run_of a ++ rest) i at_i)
    (unused_run a rest n at)
unused_run (trees.Sign a b) rest n at =
    unused_two (run_of a) (run_of b) rest _ _ n (size a) (size b) (length-run_of a) (length-run_of b) at
    (unused_run a (run_of b ++ rest) (n + size b) (after_is (run_of b) rest n (size b) (length-run_of b) at)) (unused_run b rest n at)
unused_run (trees.Mac a b) rest n at =
    unused_two (run_of a) (run_of b) rest _ _ n (size a) (size b) (length-run_of a) (length-run_of b) at
    (unused_run a (run_of b ++ rest) (n + size b) (after_is (run_of b) rest n (size b) (length-run_of b) at)) (unused_run b rest n at)
unused_run (trees.Kdf a c b) rest n at =
    unused_two (run_of a) (run_of b) rest _ _ n (size a) (size b) (length-run_of a) (length-run_of b) at
    (unused_run a (run_of b ++ rest) (n + size b) (after_is (run_of b) rest n (size b) (length-run_of b) at)) (unused_run b rest n at)
unused_run (trees.Hash k) rest n at = unused_one (run_of k) rest _ n (size k) (length-run_of k) at (unused_run k rest n at)

-- ---- the steps

steps_one : (node : runs.Node) (A rest : List runs.Node) (SA : List Step) (x : ℕ) (s : Step) → run_steps (A ++ rest) ≡ run_steps rest ++ SA → unused (A ++ rest) ≡ x ∷ unused rest → step_over node (x ∷ unused rest) ≡ s
    → run_steps ((node ∷ A) ++ rest) ≡ run_steps rest ++ (SA ++ s ∷ [])
steps_one node A rest SA x s steps left is =
    ap (λ prefix. prefix ++ step_over node (unused (A ++ rest)) ∷ []) steps ∙ append_assoc (run_steps rest) SA (step_over node (unused (A ++ rest)) ∷ [])
    ∙ ap (λ step. run_steps rest ++ (SA ++ step ∷ [])) (ap (step_over node) left ∙ is)

steps_two : (node : runs.Node) (A B rest : List runs.Node) (SA SB : List Step) (x y : ℕ) (s : Step) → run_steps (A ++ (B ++ rest)) ≡ run_steps (B ++ rest) ++ SA → run_steps (B ++ rest) ≡ run_steps rest ++ SB
    → unused (A ++ (B ++ rest)) ≡ x ∷ unused (B ++ rest) → unused (B ++ rest) ≡ y ∷ unused rest → step_over node (x ∷ y ∷ unused rest) ≡ s
    → run_steps ((node ∷ (A ++ B)) ++ rest) ≡ run_steps rest ++ (SB ++ (SA ++ s ∷ []))
steps_two node A B rest SA SB x y s first second left_a left_b is =
    let nodes = append_assoc A B rest in
    let left : unused ((A ++ B) ++ rest) ≡ x ∷ y ∷ unused rest = ap unused nodes ∙ left_a ∙ ap (λ more. x ∷ more) left_b in
    let last = step_over node (unused ((A ++ B) ++ rest)) ∷ [] in
    ap (λ prefix. prefix ++ last) (ap run_steps nodes ∙ first ∙ ap (λ prefix. prefix ++ SA) second)
    ∙ append_assoc (run_steps rest ++ SB) SA last ∙ append_assoc (run_steps rest) SB (SA ++ last)
    ∙ ap (λ step. run_steps rest ++ (SB ++ (SA ++ step ∷ []))) (ap (step_over node) left ∙ is)

-- Of a term's nodes the steps are those of the term.
steps_run : (t : trees.Term) (rest : List runs.Node) (n : ℕ) → n ≡ length rest → run_steps (run_of t ++ rest) ≡ run_steps rest ++ steps_from n t
steps_run (trees.Lit text) rest n at = refl
steps_run (trees.Name principal) rest n at = refl
steps_run (trees.Nonce index) rest n at = refl
steps_run (trees.Pair a b) rest n at =
    let at_a = after_is (run_of b) rest n (size b) (length-run_of b) at in
    steps_two (runs.Pair (length (run_of a))) (run_of a) (run_of b) rest _ _ _ _ _ (steps_run a (run_of b ++ rest) (n + size b) at_a) (steps_run b rest n at) (unused_run a (run_of b ++ rest) (n + size b) at_a) (unused_run b rest n at) refl
steps_run (trees.Pk k) rest n at = steps_one runs.Pk (run_of k) rest _ _ _ (steps_run k rest n at) (unused_run k rest n at) refl
steps_run (trees.Vk k) rest n at = steps_one runs.Vk (run_of k) rest _ _ _ (steps_run k rest n at) (unused_run k rest n at) refl
steps_run (trees.Penc a b) rest n at =
    let at_a = after_is (run_of b) rest n (size b) (length-run_of b) at in
    steps_two (runs.Penc (length (run_of a))) (run_of a) (run_of b) rest _ _ _ _ _ (steps_run a (run_of b ++ rest) (n + size b) at_a) (steps_run b rest n at) (unused_run a (run_of b ++ rest) (n + size b) at_a) (unused_run b rest n at) refl
steps_run (trees.Aead k m a) rest n at =
    let K = run_of k in
    let M = run_of m in
    let D = run_of a in
    let i = n + size a in
    let j = i + size m in
    let at_i = after_is D rest n (size a) (length-run_of a) at in
    let at_j = after_is M (D ++ rest) i (size m) (length-run_of m) at_i in
    let node = runs.Aead (length (K ++ M)) in
    let nodes : (K ++ (M ++ D)) ++ rest ≡ K ++ (M ++ (D ++ rest)) = append_assoc K (M ++ D) rest ∙ ap (λ back. K ++ back) (append_assoc M D rest) in
    let x = last_number j k in
    let y = last_number i m in
    let z = last_number n a in
    let left : unused ((K ++ (M ++ D)) ++ rest) ≡ x ∷ y ∷ z ∷ unused rest =
    ap unused nodes ∙ unused_run k (M ++ (D ++ rest)) j at_j ∙ ap (λ more. x ∷ more) (unused_run m (D ++ rest) i at_i ∙ ap (λ more. y ∷ more) (unused_run a rest n at)) in
    let last = step_over node (unused ((K ++ (M ++ D)) ++ rest)) ∷ [] in
    let SA = steps_from n a in
    let SM = steps_from i m in
    let SK = steps_from j k in
    let steps : run_steps ((K ++ (M ++ D)) ++ rest) ≡ ((run_steps rest ++ SA) ++ SM) ++ SK =
    ap run_steps nodes ∙ steps_run k (M ++ (D ++ rest)) j at_j ∙ ap (λ prefix. prefix ++ SK) (steps_run m (D ++ rest) i at_i ∙ ap (λ prefix. prefix ++ SM) (steps_run a rest n at)) in
    ap (λ prefix. prefix ++ last) steps
    ∙ append_assoc ((run_steps rest ++ SA) ++ SM) SK last ∙ append_assoc (run_steps rest ++ SA) SM (SK ++ last) ∙ append_assoc (run_steps rest) SA (SM ++ (SK ++ last))
    ∙ ap (λ step. run_steps rest ++ (SA ++ (SM ++ (SK ++ step ∷ [])))) (ap (step_over node) left)
steps_run (trees.Sign a b) rest n at =
    let at_a = after_is (run_of b) rest n (size b) (length-run_of b) at in
    steps_two (runs.Sign (length (run_of a))) (run_of a) (run_of b) rest _ _ _ _ _ (steps_run a (run_of b ++ rest) (n + size b) at_a) (steps_run b rest n at) (unused_run a (run_of b ++ rest) (n + size b) at_a) (unused_run b rest n at) refl
steps_run (trees.Mac a b) rest n at =
    let at_a = after_is (run_of b) rest n (size b) (length-run_of b) at in
    steps_two (runs.Mac (length (run_of a))) (run_of a) (run_of b) rest _ _ _ _ _ (steps_run a (run_of b ++ rest) (n + size b) at_a) (steps_run b rest n at) (unused_run a (run_of b ++ rest) (n + size b) at_a) (unused_run b rest n at) refl
steps_run (trees.Kdf a c b) rest n at =
    let at_a = after_is (run_of b) rest n (size b) (length-run_of b) at in
    steps_two (runs.Kdf c) (run_of a) (run_of b) rest _ _ _ _ _ (steps_run a (run_of b ++ rest) (n + size b) at_a) (steps_run b rest n at) (unused_run a (run_of b ++ rest) (n + size b) at_a) (unused_run b rest n at) refl
steps_run (trees.Hash k) rest n at = steps_one runs.Hash (run_of k) rest _ _ _ (steps_run k rest n at) (unused_run k rest n at) refl

steps_of_run : (t : trees.Term) → steps_of t ≡ run_steps (run_of t)
steps_of_run t = sym (ap run_steps (sym (append-nil (run_of t))) ∙ steps_run t [] 0 refl)

-- ---- one step

length-run_steps : (nodes : List runs.Node) → length (run_steps nodes) ≡ length nodes
length-run_steps [] = refl
length-run_steps (node ∷ more) = omega (arith, length-append (run_steps more) (step_over node (unused more) ∷ []), length-run_steps more)

step_at : (prefix : List runs.Node) (node : runs.Node) (back : List runs.Node) (d : Step) → get_or (run_steps (prefix ++ node ∷ back)) (length back) d ≡ step_over node (unused back)
step_at [] node back d =
    ap (λ k. get_or (run_steps (node ∷ back)) k d) (sym (length-run_steps back)) ∙ get_or-append_seam (run_steps back) (step_over node (unused back)) [] d
step_at (x ∷ prefix) node back d =
    get_or-append (run_steps (prefix ++ node ∷ back)) (step_over x (unused (prefix ++ node ∷ back)) ∷ []) d (length back)
    (omega (arith, length-run_steps (prefix ++ node ∷ back), length-append prefix (node ∷ back)))
    ∙ step_at prefix node back d

read_at : (contents : Contents) (nodes : List Node) (m : List runs.Node) (i : ℕ) (d : Node) (e : runs.Node) → read_all contents nodes ≡ map Some m → i < length nodes → read contents (get_or nodes i d) ≡ Some (get_or m i e)
read_at contents [] m i d e all within = absurd (omega (arith, within))
read_at contents (node ∷ nodes) [] i d e all within = absurd (cc)
read_at contents (node ∷ nodes) (n ∷ m) zero d e all within = cc
read_at contents (node ∷ nodes) (n ∷ m) (suc i) d e all within = read_at contents nodes m i d e (cc) (omega (arith, within))

pub next_step : (view : View) (left : ℕ) (numbers : List ℕ) (step : Step) → 0 < left → left ≤ length view.nodes.now → Unused numbers view.nodes.now left
    → option_map (λ n. step_over n (reverse numbers)) (read view.contents.now (get_or view.nodes.now (left - 1) (code.Lit 0))) ≡ Some step
    → drop (length view.nodes.now - left) (steps_of (tree_of view)) ≡ step ∷ drop (length view.nodes.now - (left - 1)) (steps_of (tree_of view))
next_step view left numbers step some within are is =
    let contents = view.contents.now in
    let nodes = view.nodes.now in
    let run = run_of (tree_of view) in
    let at = left - 1 in
    let k = length nodes - left in
    let all : length nodes ≡ length run = length_whole contents nodes (tree_of view) view.whole in
    let node = get_or run at runs.Hash in
    let one : read contents (get_or nodes at (code.Lit 0)) ≡ Some node = read_at contents nodes run at (code.Lit 0) runs.Hash view.whole (omega (arith, some, within)) in
    let after : suc at ≡ left = omega (arith, some) in
    let split : take at run ++ node ∷ drop left run ≡ run =
    ap (λ n. take at run ++ node ∷ drop n run) (sym after) ∙ ap (λ back. take at run ++ back) (sym (drop-cons run at runs.Hash (omega (arith, some, within, all)))) ∙ take-append-drop at run in
    let back : read_all contents (drop left nodes) ≡ map Some (drop left run) = sym (drop-map (read contents) left nodes) ∙ ap (drop left) view.whole ∙ drop-map Some left run in
    let left_over : reverse numbers ≡ unused (drop left run) = are ∙ ap unused_of (read_all_parts contents (drop left nodes) (drop left run) back) in
    let same : Some (step_over node (unused (drop left run))) ≡ Some step =
    sym (ap (λ r. option_map (λ n. step_over n (reverse numbers)) r) one ∙ ap (λ numbers. Some (step_over node numbers)) left_over) ∙ is in
    let this : step_over node (unused (drop left run)) ≡ step = cc in
    let number : length (drop left run) ≡ k = omega (arith, length-drop left run, all) in
    let steps = run_steps run in
    let here : get_or steps k step ≡ step =
    ap (λ r. get_or (run_steps r) k step) (sym split) ∙ ap (λ n. get_or (run_steps (take at run ++ node ∷ drop left run)) n step) (sym number) ∙ step_at (take at run) node (drop left run) step ∙ this in
    let next : suc k ≡ length nodes - at = omega (arith, some, within) in
    ap (drop k) (steps_of_run (tree_of view)) ∙ drop-cons steps k step (omega (arith, length-run_steps run, all, some, within))
    ∙ ap (λ first. first ∷ drop (suc k) steps) here ∙ ap (λ n. step ∷ drop n steps) next ∙ ap (λ all. step ∷ drop (length nodes - at) all) (sym (steps_of_run (tree_of view)))

-- ---- how many numbers are left

without_few : (parts : ℕ) (numbers : List ℕ) → length (without parts numbers) ≤ length numbers
without_few zero numbers = omega arith
without_few (suc parts) numbers = omega (arith, without_few parts (drop 1 numbers), length-drop 1 numbers)

unused_few : (arities : List ℕ) → length (unused_of arities) ≤ length arities
unused_few [] = omega arith
unused_few (parts ∷ more) = omega (arith, without_few parts (unused_of more), unused_few more)

pub are_few : (numbers : List ℕ) (nodes : List Node) (left : ℕ) → Unused numbers nodes left → length (reverse numbers) ≤ length nodes - left
are_few numbers nodes left are =
    omega (arith, ap length are, unused_few (map arity (drop left nodes)), length-map (drop left nodes) arity, length-drop left nodes)

-- ---- what a walk keeps

length_steps : (view : View) → length (steps_of (tree_of view)) ≡ length view.nodes.now
length_steps view =
    let all = length_whole view.contents.now view.nodes.now (tree_of view) view.whole in
    let steps = length-run_steps (run_of (tree_of view)) in
    ap length (steps_of_run (tree_of view)) ∙ steps ∙ sym all

pub no_steps : (view : View) (left : ℕ) → left ≡ 0 → drop (length view.nodes.now - left) (steps_of (tree_of view)) ≡ []
no_steps view left none = drop_all (length view.nodes.now - left) (steps_of (tree_of view)) (omega (arith, length_steps view, none))

-- The next step's number is added, after those of its parts were taken.
pub next_unused : (nodes : List Node) (left number : ℕ) (before after now : List ℕ) → 0 < left → left ≤ length nodes → number ≡ length nodes - left → Unused before nodes left
    → reverse after ≡ without (arity (get_or nodes (left - 1) (code.Lit 0))) (reverse before) → now ≡ after ++ number ∷ [] → Unused now nodes (left - 1)
next_unused nodes left number before after now some within number_is are taken added =
    let at = left - 1 in
    let node = get_or nodes at (code.Lit 0) in
    let next : suc at ≡ left = omega (arith, some) in
    let split : drop at nodes ≡ node ∷ drop left nodes = drop-cons nodes at (code.Lit 0) (omega (arith, some, within)) ∙ ap (λ n. node ∷ drop n nodes) next in
    let count : number ≡ length (map arity (drop left nodes)) = omega (arith, number_is, length-map (drop left nodes) arity, length-drop left nodes) in
    ap reverse added ∙ reverse-append after (number ∷ [])
    ∙ ap (λ more. number ∷ more) (taken ∙ ap (without (arity node)) are)
    ∙ ap (λ n. n ∷ without (arity node) (unused_of (map arity (drop left nodes)))) count
    ∙ ap (λ all. unused_of (map arity all)) (sym split)

pub pushed : {E : Type 0} (r : Result (Unit {0}) E) (now after : List ℕ) (number : ℕ) → now ≡ (if is_ok r then after ++ number ∷ [] else after) → IsOk r → now ≡ after ++ number ∷ []
pushed (Ok done) now after number is ok = is
pushed (Err error) now after number is ok = cc
