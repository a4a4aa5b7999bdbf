-- How many nodes the first terms of a run take.
use Rattle.std.proofs.Common.{◌≡◌, ℕ, zero, suc, ◌+◌, ◌-◌, ◌<◌, ◌≤◌, Option, Some, None, List, [], ◌∷◌, ◌++◌, map, length, drop, get_or, refl, sym, ◌∙◌, ap, arith, drop-cons, add-one, add-zero}
use Rattle.std.specs.Option.{option_map}
use Rattle.std.proofs.lemmas.List.{append_assoc, length-append}
use Rattle.dy_term.specs.Terms as trees
use Rattle.dy_flat.specs.declared.flat_nodes.Node.{Node}
use Rattle.dy_flat.specs.declared.flat_nodes.Node.TheVariants as code
use Rattle.dy_flat.specs.declared.contents.Contents.{Contents}
use Rattle.dy_flat.specs.Runs as runs
use Rattle.dy_flat.specs.Runs.{run_of}
use Rattle.dy_flat.specs.MirrorSpans.{span}
use Rattle.dy_flat.specs.Meaning.{read, read_all, arity}

pub arity_most : (node : Node) → arity node ≤ 3
arity_most (code.Lit place) = omega arith
arity_most (code.Name place) = omega arith
arity_most (code.Nonce index) = omega arith
arity_most (code.Pair before) = omega arith
arity_most code.Pk = omega arith
arity_most code.Vk = omega arith
arity_most (code.Penc before) = omega arith
arity_most (code.Aead before) = omega arith
arity_most (code.Sign before) = omega arith
arity_most (code.Mac before) = omega arith
arity_most (code.Kdf place) = omega arith
arity_most code.Hash = omega arith

pub span_none : (more : List ℕ) → span 0 more ≡ 0
span_none [] = refl
span_none (parts ∷ more) = refl

pub span_end : (due : ℕ) → span due [] ≡ 0
span_end due = refl

span_node : (due : ℕ) (parts : ℕ) (more : List ℕ) → 0 < due → span due (parts ∷ more) ≡ 1 + span (due - 1 + parts) more
span_node zero parts more some = absurd (omega (arith, some))
span_node (suc due) parts more some = let less : suc due - 1 ≡ due = omega arith in rw less refl

pub span_step : (run : List Node) (at due : ℕ) (d : Node) → at < length run → 0 < due → span due (map arity (drop at run)) ≡ 1 + span (due - 1 + arity (get_or run at d)) (map arity (drop (at + 1) run))
span_step run at due d within some =
    let split : drop at run ≡ get_or run at d ∷ drop (at + 1) run = rw add-one (drop-cons run at d within) in
    rw split (span_node due _ _ some)

-- ---- the span of a run

abbrev pub parts_of : runs.Node → ℕ
parts_of (runs.Lit text) = 0
parts_of (runs.Name principal) = 0
parts_of (runs.Nonce index) = 0
parts_of (runs.Pair before) = 2
parts_of runs.Pk = 1
parts_of runs.Vk = 1
parts_of (runs.Penc before) = 2
parts_of (runs.Aead before) = 3
parts_of (runs.Sign before) = 2
parts_of (runs.Mac before) = 2
parts_of (runs.Kdf context) = 2
parts_of runs.Hash = 1

made_parts : (make : List ℕ → runs.Node) (parts : ℕ) → ((text : List ℕ) → parts_of (make text) ≡ parts) → (found : Option (List ℕ)) (n : runs.Node) → option_map make found ≡ Some n → parts ≡ parts_of n
made_parts make parts each (Some text) n e = let is : make text ≡ n = cc in sym (each text) ∙ ap parts_of is
made_parts make parts each None n e = cc

read_parts : (contents : Contents) (node : Node) (n : runs.Node) → read contents node ≡ Some n → arity node ≡ parts_of n
read_parts contents (code.Lit place) n e = made_parts runs.Lit 0 (λ text. refl) _ n e
read_parts contents (code.Name place) n e = made_parts runs.Name 0 (λ text. refl) _ n e
read_parts contents (code.Nonce index) n e = let is : runs.Nonce index ≡ n = cc in ap parts_of is
read_parts contents (code.Pair before) n e = let is : runs.Pair before ≡ n = cc in ap parts_of is
read_parts contents code.Pk n e = let is : runs.Pk ≡ n = cc in ap parts_of is
read_parts contents code.Vk n e = let is : runs.Vk ≡ n = cc in ap parts_of is
read_parts contents (code.Penc before) n e = let is : runs.Penc before ≡ n = cc in ap parts_of is
read_parts contents (code.Aead before) n e = let is : runs.Aead before ≡ n = cc in ap parts_of is
read_parts contents (code.Sign before) n e = let is : runs.Sign before ≡ n = cc in ap parts_of is
read_parts contents (code.Mac before) n e = let is : runs.Mac before ≡ n = cc in ap parts_of is
read_parts contents (code.Kdf place) n e = made_parts runs.Kdf 2 (λ text. refl) _ n e
read_parts contents code.Hash n e = let is : runs.Hash ≡ n = cc in ap parts_of is

pub read_all_parts : (contents : Contents) (nodes : List Node) (m : List runs.Node) → read_all contents nodes ≡ map Some m → map arity nodes ≡ map parts_of m
read_all_parts contents [] [] e = refl
read_all_parts contents [] (n ∷ m) e = cc
read_all_parts contents (node ∷ nodes) [] e = cc
read_all_parts contents (node ∷ nodes) (n ∷ m) e =
    let first = read_parts contents node n (cc) in
    let more = read_all_parts contents nodes m (cc) in
    cc

-- Two runs, one after the other, whatever is due before, between and after them.
joined : (k l m : ℕ) (A B rest : List runs.Node) → span k (map parts_of (A ++ (B ++ rest))) ≡ length A + span l (map parts_of (B ++ rest)) → span l (map parts_of (B ++ rest)) ≡ length B + span m (map parts_of rest) → span k (map parts_of ((A ++ B) ++ rest)) ≡ length (A ++ B) + span m (map parts_of rest)
joined k l m A B rest prefix back =
    let one = ap (λ nodes. span k (map parts_of nodes)) (append_assoc A B rest) in
    omega (arith, one, prefix, back, length-append A B)

plus_two : (n : ℕ) → n + 2 ≡ suc (suc n)
plus_two n = omega arith

plus_three : (n : ℕ) → n + 3 ≡ suc (suc (suc n))
plus_three n = omega arith

-- Of the terms that are due, the first takes its run, and the others what is after it.
pub span_run : (t : trees.Term) (due : ℕ) (rest : List runs.Node) → span (suc due) (map parts_of (run_of t ++ rest)) ≡ length (run_of t) + span due (map parts_of rest)
span_run (trees.Lit text) due rest = ap (λ n. 1 + span n (map parts_of rest)) (add-zero due)
span_run (trees.Name principal) due rest = ap (λ n. 1 + span n (map parts_of rest)) (add-zero due)
span_run (trees.Nonce index) due rest = ap (λ n. 1 + span n (map parts_of rest)) (add-zero due)
span_run (trees.Pair first second) due rest =
    let prefix = span_run first (suc due) (run_of second ++ rest) in
    let both = joined (suc (suc due)) (suc due) due (run_of first) (run_of second) rest prefix (span_run second due rest) in
    omega (arith, ap (λ n. span n (map parts_of ((run_of first ++ run_of second) ++ rest))) (plus_two due), both)
span_run (trees.Pk key) due rest = omega (arith, ap (λ n. span n (map parts_of (run_of key ++ rest))) (add-one due), span_run key due rest)
span_run (trees.Vk key) due rest = omega (arith, ap (λ n. span n (map parts_of (run_of key ++ rest))) (add-one due), span_run key due rest)
span_run (trees.Penc to message) due rest =
    let prefix = span_run to (suc due) (run_of message ++ rest) in
    let both = joined (suc (suc due)) (suc due) due (run_of to) (run_of message) rest prefix (span_run message due rest) in
    omega (arith, ap (λ n. span n (map parts_of ((run_of to ++ run_of message) ++ rest))) (plus_two due), both)
span_run (trees.Aead key message associated) due rest =
    let prefix = span_run key (suc (suc due)) ((run_of message ++ run_of associated) ++ rest) in
    let middle = span_run message (suc due) (run_of associated ++ rest) in
    let back = joined (suc (suc due)) (suc due) due (run_of message) (run_of associated) rest middle (span_run associated due rest) in
    let all = joined (suc (suc (suc due))) (suc (suc due)) due (run_of key) (run_of message ++ run_of associated) rest prefix back in
    omega (arith, ap (λ n. span n (map parts_of ((run_of key ++ (run_of message ++ run_of associated)) ++ rest))) (plus_three due), all)
span_run (trees.Sign key message) due rest =
    let prefix = span_run key (suc due) (run_of message ++ rest) in
    let both = joined (suc (suc due)) (suc due) due (run_of key) (run_of message) rest prefix (span_run message due rest) in
    omega (arith, ap (λ n. span n (map parts_of ((run_of key ++ run_of message) ++ rest))) (plus_two due), both)
span_run (trees.Mac key message) due rest =
    let prefix = span_run key (suc due) (run_of message ++ rest) in
    let both = joined (suc (suc due)) (suc due) due (run_of key) (run_of message) rest prefix (span_run message due rest) in
    omega (arith, ap (λ n. span n (map parts_of ((run_of key ++ run_of message) ++ rest))) (plus_two due), both)
span_run (trees.Kdf key context input) due rest =
    let prefix = span_run key (suc due) (run_of input ++ rest) in
    let both = joined (suc (suc due)) (suc due) due (run_of key) (run_of input) rest prefix (span_run input due rest) in
    omega (arith, ap (λ n. span n (map parts_of ((run_of key ++ run_of input) ++ rest))) (plus_two due), both)
span_run (trees.Hash message) due rest = omega (arith, ap (λ n. span n (map parts_of (run_of message ++ rest))) (add-one due), span_run message due rest)
