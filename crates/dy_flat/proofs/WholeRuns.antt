-- Nodes that are the run of one whole term.
use Rattle.std.proofs.Common.{◌≡◌, ℕ, zero, suc, ◌<◌, Option, Some, None, IsSome, List, [], ◌∷◌, ◌++◌, map, length, take, drop, get_or, refl, sym, ◌∙◌, ap, arith}
use Rattle.std.specs.Option.{option_map}
use Rattle.std.proofs.lemmas.List.{length-map, length-append, take-map, drop-map}
use Rattle.dy_term.specs.Terms as trees
use Rattle.dy_flat.specs.declared.flat_nodes.Node.{Node}
use Rattle.dy_flat.specs.declared.contents.Contents.{Contents}
use Rattle.dy_flat.specs.Runs as runs
use Rattle.dy_flat.specs.Runs.{run_of, term_of}
use Rattle.dy_flat.specs.MirrorCodes.{term_of-run_of}
use Rattle.dy_flat.specs.Meaning.{read, read_all, known_nodes, IsWhole}
use Rattle.dy_flat.proofs.Lookups.{known_is}

pub term_is : (contents : Contents) (nodes : List Node) (t : trees.Term) → read_all contents nodes ≡ map Some (run_of t) → term_of (known_nodes (read_all contents nodes)) ≡ t
term_is contents nodes t e = ap term_of (known_is (read_all contents nodes) (run_of t) e) ∙ term_of-run_of t

pub whole_is : (contents : Contents) (nodes : List Node) (t : trees.Term) → read_all contents nodes ≡ map Some (run_of t) → IsWhole contents nodes
whole_is contents nodes t e = e ∙ ap (λ u. map Some (run_of u)) (sym (term_is contents nodes t e))

pub run_term_is : (nodes : List runs.Node) (t : trees.Term) → nodes ≡ run_of t → term_of nodes ≡ t
run_term_is nodes t e = ap term_of e ∙ term_of-run_of t

pub is_run : (nodes : List runs.Node) (t : trees.Term) → nodes ≡ run_of t → runs.IsRun nodes
is_run nodes t e = e ∙ ap run_of (sym (run_term_is nodes t e))

-- ---- single nodes

pub some_at : (contents : Contents) (nodes : List Node) (m : List runs.Node) (i : ℕ) (d : Node) → read_all contents nodes ≡ map Some m → i < length nodes → IsSome (read contents (get_or nodes i d))
some_at contents [] m i d all within = absurd (omega (arith, within))
some_at contents (node ∷ nodes) [] i d all within = cc
some_at contents (node ∷ nodes) (n ∷ m) zero d all within = let first : read contents node ≡ Some n = cc in rw first refl
some_at contents (node ∷ nodes) (n ∷ m) (suc i) d all within = some_at contents nodes m i d (cc) (omega (arith, within))

pub same_at : (a b : Contents) (prefix back : List Node) (i : ℕ) (d e : Node) → read_all a prefix ≡ read_all b back → i < length prefix → read a (get_or prefix i d) ≡ read b (get_or back i e)
same_at a b [] back i d e all within = absurd (omega (arith, within))
same_at a b (m ∷ prefix) [] i d e all within = cc
same_at a b (m ∷ prefix) (n ∷ back) zero d e all within = cc
same_at a b (m ∷ prefix) (n ∷ back) (suc i) d e all within = same_at a b prefix back i d e (cc) (omega (arith, within))

pub made_some : (make : List ℕ → runs.Node) (found : Option (List ℕ)) → IsSome (option_map make found) → IsSome found
made_some make (Some text) some = refl
made_some make None some = some

pub nonempty : (contents : Contents) (nodes : List Node) → IsWhole contents nodes → 0 < length nodes
nonempty contents [] whole = cc
nonempty contents (node ∷ nodes) whole = omega arith

pub first_some : (contents : Contents) (nodes : List Node) (d : Node) → IsWhole contents nodes → IsSome (read contents (get_or nodes 0 d))
first_some contents nodes d whole = some_at contents nodes _ 0 d whole (nonempty contents nodes whole)

-- ---- sizes

pub length-run_of : (t : trees.Term) → length (run_of t) ≡ trees.size t
length-run_of (trees.Lit text) = refl
length-run_of (trees.Name principal) = refl
length-run_of (trees.Nonce index) = refl
length-run_of (trees.Pair first second) = omega (arith, length-append (run_of first) (run_of second), length-run_of first, length-run_of second)
length-run_of (trees.Pk key) = omega (arith, length-run_of key)
length-run_of (trees.Vk key) = omega (arith, length-run_of key)
length-run_of (trees.Penc to message) = omega (arith, length-append (run_of to) (run_of message), length-run_of to, length-run_of message)
length-run_of (trees.Aead key message associated) =
    omega (arith, length-append (run_of key) (run_of message ++ run_of associated), length-append (run_of message) (run_of associated), length-run_of key, length-run_of message, length-run_of associated)
length-run_of (trees.Sign key message) = omega (arith, length-append (run_of key) (run_of message), length-run_of key, length-run_of message)
length-run_of (trees.Mac key message) = omega (arith, length-append (run_of key) (run_of message), length-run_of key, length-run_of message)
length-run_of (trees.Kdf key context input) = omega (arith, length-append (run_of key) (run_of input), length-run_of key, length-run_of input)
length-run_of (trees.Hash message) = omega (arith, length-run_of message)

pub length_whole : (contents : Contents) (nodes : List Node) (t : trees.Term) → read_all contents nodes ≡ map Some (run_of t) → length nodes ≡ length (run_of t)
length_whole contents nodes t e = sym (length-map nodes (read contents)) ∙ ap length e ∙ length-map (run_of t) Some

-- ---- pieces

pub piece : (contents : Contents) (nodes : List Node) (n k : ℕ) → read_all contents (take n (drop k nodes)) ≡ take n (drop k (read_all contents nodes))
piece contents nodes n k = sym (take-map (read contents) n (drop k nodes)) ∙ ap (take n) (sym (drop-map (read contents) k nodes))
