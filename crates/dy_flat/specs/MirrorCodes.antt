-- How the logic stores terms: by their runs.
use Rattle.std.specs.Prelude.{◌≡◌, ℕ, ◌==◌, cond, List, [], ◌∷◌, ◌++◌, refl}
use Rattle.std.specs.Coded.{Coded, code_by, coded×, coded_ℕ, coded_list}
use Rattle.std.proofs.Common.{append_assoc, ap, sym, ◌∙◌}
use Rattle.std.proofs.lemmas.List.{append-nil}
use Rattle.dy_term.specs.Terms as trees
use Rattle.dy_flat.specs.Runs.{Node, Lit, Name, Nonce, Pair, Pk, Vk, Penc, Aead, Sign, Mac, Kdf, Hash}
use Rattle.dy_flat.specs.Runs.{run_of, over, terms_of, first_of, term_of}

abbrev number_of : Node → ℕ × (ℕ × List ℕ)
number_of (Lit text) = (0, (0, text))
number_of (Name principal) = (1, (0, principal))
number_of (Nonce index) = (2, (index, []))
number_of (Pair before) = (3, (before, []))
number_of Pk = (4, (0, []))
number_of Vk = (5, (0, []))
number_of (Penc before) = (6, (before, []))
number_of (Aead before) = (7, (before, []))
number_of (Sign before) = (8, (before, []))
number_of (Mac before) = (9, (before, []))
number_of (Kdf context) = (10, (0, context))
number_of Hash = (11, (0, []))

abbrev node_of : ℕ × (ℕ × List ℕ) → Node
node_of p =
    cond (p.0 == 0) (Lit p.1.1) (cond (p.0 == 1) (Name p.1.1) (cond (p.0 == 2) (Nonce p.1.0)
    (cond (p.0 == 3) (Pair p.1.0) (cond (p.0 == 4) Pk (cond (p.0 == 5) Vk (cond (p.0 == 6) (Penc p.1.0)
    (cond (p.0 == 7) (Aead p.1.0) (cond (p.0 == 8) (Sign p.1.0) (cond (p.0 == 9) (Mac p.1.0)
    (cond (p.0 == 10) (Kdf p.1.1) Hash))))))))))

pub node_of-number_of : (node : Node) → node_of (number_of node) ≡ node
node_of-number_of (Lit text) = refl
node_of-number_of (Name principal) = refl
node_of-number_of (Nonce index) = refl
node_of-number_of (Pair before) = refl
node_of-number_of Pk = refl
node_of-number_of Vk = refl
node_of-number_of (Penc before) = refl
node_of-number_of (Aead before) = refl
node_of-number_of (Sign before) = refl
node_of-number_of (Mac before) = refl
node_of-number_of (Kdf context) = refl
node_of-number_of Hash = refl

abbrev pub node_code : Coded Node
node_code =
    code_by (ℕ × (ℕ × List ℕ)) (coded× coded_ℕ (coded× coded_ℕ (coded_list coded_ℕ)))
    number_of node_of node_of-number_of

abbrev pub run_code : Coded (List Node)
run_code = coded_list node_code

two_terms : (a b : trees.Term) (rest : List Node)
    → terms_of (run_of a ++ (run_of b ++ rest)) ≡ a ∷ terms_of (run_of b ++ rest)
    → terms_of (run_of b ++ rest) ≡ b ∷ terms_of rest
    → terms_of ((run_of a ++ run_of b) ++ rest) ≡ a ∷ b ∷ terms_of rest
two_terms a b rest of_a of_b =
    ap terms_of (append_assoc (run_of a) (run_of b) rest) ∙ of_a ∙ ap (λ terms. a ∷ terms) of_b

-- The nodes of a run, and then others, make the term and then what the others make.
pub terms_of-run_of : (t : trees.Term) (rest : List Node) → terms_of (run_of t ++ rest) ≡ t ∷ terms_of rest
terms_of-run_of (trees.Lit text) rest = refl
terms_of-run_of (trees.Name principal) rest = refl
terms_of-run_of (trees.Nonce index) rest = refl
terms_of-run_of (trees.Pair first second) rest =
    ap (over (Pair 0))
    (two_terms first second rest (terms_of-run_of first (run_of second ++ rest)) (terms_of-run_of second rest))
terms_of-run_of (trees.Pk key) rest = ap (over Pk) (terms_of-run_of key rest)
terms_of-run_of (trees.Vk key) rest = ap (over Vk) (terms_of-run_of key rest)
terms_of-run_of (trees.Penc to message) rest =
    ap (over (Penc 0))
    (two_terms to message rest (terms_of-run_of to (run_of message ++ rest)) (terms_of-run_of message rest))
terms_of-run_of (trees.Aead key message associated) rest =
    let later = run_of message ++ run_of associated in
    let of_message = terms_of-run_of message (run_of associated ++ rest) in
    let of_two = two_terms message associated rest of_message (terms_of-run_of associated rest) in
    let of_key = terms_of-run_of key (later ++ rest) in
    ap (over (Aead 0))
    (ap terms_of (append_assoc (run_of key) later rest) ∙ of_key ∙ ap (λ terms. key ∷ terms) of_two)
terms_of-run_of (trees.Sign key message) rest =
    ap (over (Sign 0))
    (two_terms key message rest (terms_of-run_of key (run_of message ++ rest)) (terms_of-run_of message rest))
terms_of-run_of (trees.Mac key message) rest =
    ap (over (Mac 0))
    (two_terms key message rest (terms_of-run_of key (run_of message ++ rest)) (terms_of-run_of message rest))
terms_of-run_of (trees.Kdf key context input) rest =
    ap (over (Kdf context))
    (two_terms key input rest (terms_of-run_of key (run_of input ++ rest)) (terms_of-run_of input rest))
terms_of-run_of (trees.Hash message) rest = ap (over Hash) (terms_of-run_of message rest)

pub term_of-run_of : (t : trees.Term) → term_of (run_of t) ≡ t
term_of-run_of t = ap term_of (sym (append-nil (run_of t))) ∙ ap first_of (terms_of-run_of t [])

abbrev pub term_code : Coded trees.Term
term_code = code_by (List Node) run_code run_of term_of term_of-run_of
