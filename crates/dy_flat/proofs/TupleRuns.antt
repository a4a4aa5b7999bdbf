-- The nodes of a tuple, as its fields are added.
use Rattle.std.proofs.Common.{◌≡◌, ℕ, List, [], ◌∷◌, ◌++◌, length, refl, sym, ap, ◌∙◌}
use Rattle.std.proofs.lemmas.List.{append_assoc}
use Rattle.dy_term.specs.Terms as trees
use Rattle.dy_term.specs.Tuples.{right_pairs, tagged_tuple}
use Rattle.dy_flat.specs.Runs.{Node, Lit, Pair, run_of}

-- The nodes so far, and those of what is left to add, are those of the tuple.
abbrev pub Leads : List Node → trees.Term → List trees.Term → List ℕ → List trees.Term → Type 0
Leads run last more tag fields = run ++ run_of (right_pairs last more) ≡ run_of (tagged_tuple tag fields)

pub leads_first : (p0 p1 p2 : List Node) (tag : List ℕ) (first : trees.Term) (more : List trees.Term) → p0 ≡ [] → p1 ≡ p0 ++ Pair 1 ∷ [] → p2 ≡ p1 ++ Lit tag ∷ [] → Leads p2 first more tag (first ∷ more)
leads_first p0 p1 p2 tag first more e0 e1 e2 = rw (e2, e1, e0) refl

pub leads_next : (run p1 p2 : List Node) (last field : trees.Term) (more : List trees.Term) (tag : List ℕ) (fields : List trees.Term) (before : ℕ)
    → before ≡ length (run_of last) → p1 ≡ run ++ Pair before ∷ [] → p2 ≡ p1 ++ run_of last → Leads run last (field ∷ more) tag fields → Leads p2 field more tag fields
leads_next run p1 p2 last field more tag fields before is e1 e2 leads =
    let A = run_of last in
    let B = run_of (right_pairs field more) in
    let whole : ((run ++ Pair (length A) ∷ []) ++ A) ++ B ≡ run ++ (Pair (length A) ∷ (A ++ B)) = append_assoc (run ++ Pair (length A) ∷ []) A B ∙ append_assoc run (Pair (length A) ∷ []) (A ++ B) in
    rw (e2, e1, is) (whole ∙ leads)

pub leads_end : (run all : List Node) (last : trees.Term) (more : List trees.Term) (tag : List ℕ) (fields : List trees.Term) → more ≡ [] → Leads run last more tag fields → all ≡ run ++ run_of last → all ≡ run_of (tagged_tuple tag fields)
leads_end run all last more tag fields none leads is = is ∙ ap (λ (rest : List trees.Term). run ++ run_of (right_pairs last rest)) (sym none) ∙ leads
