-- How nodes read, as they are added, as their contents grow, and when they are turned round.
use Rattle.std.proofs.Common.{◌≡◌, ℕ, zero, suc, Bool, true, false, Option, Some, None, List, [], ◌∷◌, ◌++◌, map, length, reverse, arith, Result, Ok, Err, is_ok, IfOk, refl, sym, ◌∙◌, ap}
use Rattle.std.specs.Prelude.{slice_get, if◌then◌else◌}
use Rattle.std.proofs.lemmas.List.{append-nil}
use Rattle.std.specs.Option.{option_map}
use Rattle.std.proofs.lemmas.List.{map-append, reverse-append}
use Rattle.dy_flat.specs.declared.flat_nodes.Node.{Node}
use Rattle.dy_flat.specs.declared.flat_nodes.Node.TheVariants as code
use Rattle.dy_flat.specs.declared.contents.Contents.{Contents}
use Rattle.dy_flat.specs.Runs as runs
use Rattle.dy_flat.specs.Meaning.{read, read_all, known_nodes}
use Rattle.dy_flat.specs.Extending.{Extends}
use Rattle.dy_flat.specs.Growth.{Grows}

-- ---- what is known

known_nodes-map : (m : List runs.Node) → known_nodes (map Some m) ≡ m
known_nodes-map [] = refl
known_nodes-map (n ∷ m) = ap (λ more. n ∷ more) (known_nodes-map m)

pub known_is : (xs : List (Option runs.Node)) (m : List runs.Node) → xs ≡ map Some m → known_nodes xs ≡ m
known_is xs m e = ap known_nodes e ∙ known_nodes-map m

pub all_known : (xs : List (Option runs.Node)) (m : List runs.Node) → xs ≡ map Some m → xs ≡ map Some (known_nodes xs)
all_known xs m e = e ∙ ap (map Some) (sym (known_is xs m e))

pub map-Some-same : (m n : List runs.Node) → map Some m ≡ map Some n → m ≡ n
map-Some-same m n e = sym (known_nodes-map m) ∙ ap known_nodes e ∙ known_nodes-map n

-- ---- contents that grow

pub extends_same : {A : Type 0} (old new : List A) → new ≡ old → Extends old new
extends_same old new is = record { more = []; is = is ∙ sym (append-nil old) }

pub grows_by_none : (contents : Contents) → Grows contents contents
grows_by_none contents = record { texts = extends_same _ _ refl; names = extends_same _ _ refl }

pub slice_get-last : {A : Type 0} (xs : List A) (x : A) (k : ℕ) → k ≡ length xs → slice_get (xs ++ x ∷ []) k ≡ Some x
slice_get-last [] x k is = rw is refl
slice_get-last (y ∷ xs) x zero is = absurd (omega (arith, is))
slice_get-last (y ∷ xs) x (suc k) is = slice_get-last xs x k (omega (arith, is))

slice_get-more : (xs ys : List (List ℕ)) (i : ℕ) (x : List ℕ) → slice_get xs i ≡ Some x → slice_get (xs ++ ys) i ≡ Some x
slice_get-more [] ys i x e = cc
slice_get-more (y ∷ xs) ys zero x e = e
slice_get-more (y ∷ xs) ys (suc i) x e = slice_get-more xs ys i x e

pub looked_up-more : (make : List ℕ → runs.Node) (xs ys zs : List (List ℕ)) → zs ≡ xs ++ ys → (i : ℕ) (n : runs.Node) → option_map make (slice_get xs i) ≡ Some n → option_map make (slice_get zs i) ≡ Some n
looked_up-more make xs ys zs grown i n e =
    elim (slice_get xs i) as (λ o. slice_get xs i ≡ o → option_map make o ≡ Some n → option_map make (slice_get zs i) ≡ Some n)
    [ Some x ↦ λ is made. rw (grown, slice_get-more xs ys i x is) made | None ↦ λ is made. cc ] refl e

pub read-grows : (old new : Contents) → Grows old new → (node : Node) (n : runs.Node) → read old node ≡ Some n → read new node ≡ Some n
read-grows old new grows (code.Lit place) n e = looked_up-more runs.Lit _ _ _ grows.texts.is place n e
read-grows old new grows (code.Name place) n e = looked_up-more runs.Name _ _ _ grows.names.is place n e
read-grows old new grows (code.Nonce index) n e = e
read-grows old new grows (code.Pair before) n e = e
read-grows old new grows code.Pk n e = e
read-grows old new grows code.Vk n e = e
read-grows old new grows (code.Penc before) n e = e
read-grows old new grows (code.Aead before) n e = e
read-grows old new grows (code.Sign before) n e = e
read-grows old new grows (code.Mac before) n e = e
read-grows old new grows (code.Kdf place) n e = looked_up-more runs.Kdf _ _ _ grows.texts.is place n e
read-grows old new grows code.Hash n e = e

pub read_all-grows : (old new : Contents) → Grows old new → (nodes : List Node) (m : List runs.Node) → read_all old nodes ≡ map Some m → read_all new nodes ≡ map Some m
read_all-grows old new grows [] [] e = refl
read_all-grows old new grows [] (n ∷ m) e = cc
read_all-grows old new grows (node ∷ nodes) [] e = cc
read_all-grows old new grows (node ∷ nodes) (n ∷ m) e =
    let first : read new node ≡ Some n = read-grows old new grows node n (cc) in
    let more : read_all new nodes ≡ map Some m = read_all-grows old new grows nodes m (cc) in
    cc

-- ---- one more node

pub read_all-push : (contents : Contents) (nodes : List Node) (m : List runs.Node) (node : Node) (n : runs.Node) → read_all contents nodes ≡ map Some m → read contents node ≡ Some n → read_all contents (nodes ++ node ∷ []) ≡ map Some (m ++ n ∷ [])
read_all-push contents nodes m node n all one = rw (map-append, map-append, all, one) refl

-- The contents have grown, and a node was added or was not.
pub read_all-added : (old new : Contents) → Grows old new → (nodes more : List Node) (m : List runs.Node) (node : Node) (n : runs.Node) (added : Bool) → more ≡ (if added then nodes ++ node ∷ [] else nodes) → read_all old nodes ≡ map Some m → read new node ≡ Some n → read_all new more ≡ map Some (if added then m ++ n ∷ [] else m)
read_all-added old new grows nodes more m node n true is all one = rw is (read_all-push new nodes m node n (read_all-grows old new grows nodes m all) one)
read_all-added old new grows nodes more m node n false is all one = rw is (read_all-grows old new grows nodes m all)

pub added_known : {E : Type 0} (r : Result (Unit {0}) E) (old new : Contents) → Grows old new → (nodes more : List Node) (m : List runs.Node) (node : Node) (n : runs.Node) → more ≡ (if is_ok r then nodes ++ node ∷ [] else nodes) → read_all old nodes ≡ map Some m → read new node ≡ Some n → IfOk r (λ _. known_nodes (read_all new more) ≡ m ++ n ∷ [])
added_known (Ok done) old new grows nodes more m node n is all one = known_is _ _ (read_all-added old new grows nodes more m node n true is all one)
added_known (Err error) old new grows nodes more m node n is all one = tt

-- ---- the other way round

pub read_all-reverse : (contents : Contents) (nodes : List Node) (m : List runs.Node) → read_all contents nodes ≡ map Some m → read_all contents (reverse nodes) ≡ map Some (reverse m)
read_all-reverse contents [] [] e = refl
read_all-reverse contents [] (n ∷ m) e = cc
read_all-reverse contents (node ∷ nodes) [] e = cc
read_all-reverse contents (node ∷ nodes) (n ∷ m) e =
    rw (reverse-append (node ∷ []) nodes, reverse-append (n ∷ []) m) (read_all-push contents (reverse nodes) (reverse m) node n (read_all-reverse contents nodes m (cc)) (cc))
