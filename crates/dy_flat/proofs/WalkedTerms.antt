-- The steps of a term make its parts, and last the term.
use Rattle.std.proofs.Common.{◌≡◌, ℕ, zero, suc, ◌+◌, Some, List, [], ◌∷◌, ◌++◌, length, refl, sym, ◌∙◌, ap, arith}
use Rattle.std.specs.Prelude.{slice_get}
use Rattle.std.specs.Option.{option_and_then}
use Rattle.std.proofs.lemmas.List.{append_assoc, append-nil, length-append}
use Rattle.dy_term.specs.Terms.{Term, Lit, Name, Nonce, Pair, Pk, Vk, Penc, Aead, Sign, Mac, Kdf, Hash, size}
use Rattle.dy_flat.specs.Walks as walks
use Rattle.dy_flat.specs.Walks.{Step, steps_from, steps_of, last_number, walk_of, of_two, of_three, term_of_step, terms_by_steps}

-- ---- a term is the last that its steps make

abbrev Ends : Term → Type 0
Ends term = (parts : List Term) × (walk_of term ≡ parts ++ term ∷ [])

pub ends : (term : Term) → Ends term
ends (Lit text) = ([], refl)
ends (Name principal) = ([], refl)
ends (Nonce index) = ([], refl)
ends (Pair a b) = (walk_of b ++ walk_of a, sym (append_assoc (walk_of b) (walk_of a) (Pair a b ∷ [])))
ends (Pk k) = (walk_of k, refl)
ends (Vk k) = (walk_of k, refl)
ends (Penc p m) = (walk_of m ++ walk_of p, sym (append_assoc (walk_of m) (walk_of p) (Penc p m ∷ [])))
ends (Aead k m a) =
    (walk_of a ++ (walk_of m ++ walk_of k), ap (λ back. walk_of a ++ back) (sym (append_assoc (walk_of m) (walk_of k) (Aead k m a ∷ []))) ∙ sym (append_assoc (walk_of a) (walk_of m ++ walk_of k) (Aead k m a ∷ [])))
ends (Sign k m) = (walk_of m ++ walk_of k, sym (append_assoc (walk_of m) (walk_of k) (Sign k m ∷ [])))
ends (Mac k m) = (walk_of m ++ walk_of k, sym (append_assoc (walk_of m) (walk_of k) (Mac k m ∷ [])))
ends (Kdf k c x) = (walk_of x ++ walk_of k, sym (append_assoc (walk_of x) (walk_of k) (Kdf k c x ∷ [])))
ends (Hash m) = (walk_of m, refl)

-- ---- one for each node

length_two : (A B : List Term) (t : Term) (a b : ℕ) → length A ≡ a → length B ≡ b → length (B ++ (A ++ t ∷ [])) ≡ 1 + a + b
length_two A B t a b first second = omega (arith, length-append B (A ++ t ∷ []), length-append A (t ∷ []), first, second)

length_one : (A : List Term) (t : Term) (a : ℕ) → length A ≡ a → length (A ++ t ∷ []) ≡ 1 + a
length_one A t a first = omega (arith, length-append A (t ∷ []), first)

pub length-walk_of : (term : Term) → length (walk_of term) ≡ size term
length-walk_of (Lit text) = refl
length-walk_of (Name principal) = refl
length-walk_of (Nonce index) = refl
length-walk_of (Pair a b) = length_two (walk_of a) (walk_of b) (Pair a b) (size a) (size b) (length-walk_of a) (length-walk_of b)
length-walk_of (Pk k) = length_one (walk_of k) (Pk k) (size k) (length-walk_of k)
length-walk_of (Vk k) = length_one (walk_of k) (Vk k) (size k) (length-walk_of k)
length-walk_of (Penc p m) = length_two (walk_of p) (walk_of m) (Penc p m) (size p) (size m) (length-walk_of p) (length-walk_of m)
length-walk_of (Aead k m a) =
    omega (arith, length-append (walk_of a) (walk_of m ++ (walk_of k ++ Aead k m a ∷ [])), length_two (walk_of k) (walk_of m) (Aead k m a) (size k) (size m) (length-walk_of k) (length-walk_of m), length-walk_of a)
length-walk_of (Sign k m) = length_two (walk_of k) (walk_of m) (Sign k m) (size k) (size m) (length-walk_of k) (length-walk_of m)
length-walk_of (Mac k m) = length_two (walk_of k) (walk_of m) (Mac k m) (size k) (size m) (length-walk_of k) (length-walk_of m)
length-walk_of (Kdf k c x) = length_two (walk_of k) (walk_of x) (Kdf k c x) (size k) (size x) (length-walk_of k) (length-walk_of x)
length-walk_of (Hash m) = length_one (walk_of m) (Hash m) (size m) (length-walk_of m)

-- ---- where it stands among others

slice_get-at : (before after : List Term) (t : Term) (k : ℕ) → k ≡ length before → slice_get (before ++ t ∷ after) k ≡ Some t
slice_get-at [] after t k is = ap (slice_get (t ∷ after)) is
slice_get-at (x ∷ before) after t zero is = absurd (omega (arith, is))
slice_get-at (x ∷ before) after t (suc k) is = slice_get-at before after t k (omega (arith, is))

-- The last of the terms of a term's steps, which stand between others, has the last number.
pub found : (earlier later : List Term) (t : Term) (n : ℕ) → n ≡ length earlier → slice_get ((earlier ++ walk_of t) ++ later) (last_number n t) ≡ Some t
found earlier later t n at =
    let end = ends t in
    let whole : (earlier ++ walk_of t) ++ later ≡ (earlier ++ end.0) ++ t ∷ later =
    append_assoc earlier (walk_of t) later ∙ ap (λ w. earlier ++ (w ++ later)) end.1 ∙ ap (λ back. earlier ++ back) (append_assoc end.0 (t ∷ []) later)
    ∙ sym (append_assoc earlier end.0 (t ∷ later)) in
    let number : last_number n t ≡ length (earlier ++ end.0) =
    omega (arith, at, length-append earlier end.0, length-append end.0 (t ∷ []), ap length end.1, length-walk_of t) in
    ap (λ terms. slice_get terms (last_number n t)) whole ∙ slice_get-at (earlier ++ end.0) later t (last_number n t) number

-- ---- step by step

-- The steps of a term, after earlier terms and before other steps, add the terms that they make.
abbrev Adds : Term → Type 0
Adds t = (earlier : List Term) (n : ℕ) → n ≡ length earlier → (more : List Step) → terms_by_steps earlier (steps_from n t ++ more) ≡ terms_by_steps (earlier ++ walk_of t) more

-- a step that makes a term, after those of parts
adds_last : (earlier parts : List Term) (step : Step) (t : Term) (more : List Step) → term_of_step (earlier ++ parts) step ≡ Some t → terms_by_steps (earlier ++ parts) (step ∷ more) ≡ terms_by_steps (earlier ++ (parts ++ t ∷ [])) more
adds_last earlier parts step t more made =
    ap (option_and_then (λ term. terms_by_steps ((earlier ++ parts) ++ term ∷ []) more)) made ∙ ap (λ terms. terms_by_steps terms more) (append_assoc earlier parts (t ∷ []))

one : (a t : Term) (step : ℕ → Step) → ((earlier : List Term) (i : ℕ) → slice_get earlier i ≡ Some a → term_of_step earlier (step i) ≡ Some t) → Adds a
    → (earlier : List Term) (n : ℕ) → n ≡ length earlier → (more : List Step) → terms_by_steps earlier ((steps_from n a ++ step (last_number n a) ∷ []) ++ more) ≡ terms_by_steps (earlier ++ (walk_of a ++ t ∷ [])) more
one a t step made add earlier n at more =
    let last = step (last_number n a) in
    let here : slice_get (earlier ++ walk_of a) (last_number n a) ≡ Some a = ap (λ terms. slice_get terms (last_number n a)) (sym (append-nil (earlier ++ walk_of a))) ∙ found earlier [] a n at in
    ap (terms_by_steps earlier) (append_assoc (steps_from n a) (last ∷ []) more)
    ∙ add earlier n at (last ∷ more)
    ∙ adds_last earlier (walk_of a) last t more (made (earlier ++ walk_of a) (last_number n a) here)

two : (a b t : Term) (step : ℕ → ℕ → Step) → ((earlier : List Term) (i j : ℕ) → slice_get earlier i ≡ Some a → slice_get earlier j ≡ Some b → term_of_step earlier (step i j) ≡ Some t) → Adds a → Adds b
    → (earlier : List Term) (n : ℕ) → n ≡ length earlier → (more : List Step)
    → terms_by_steps earlier ((steps_from n b ++ (steps_from (n + size b) a ++ step (last_number (n + size b) a) (last_number n b) ∷ [])) ++ more) ≡ terms_by_steps (earlier ++ (walk_of b ++ (walk_of a ++ t ∷ []))) more
two a b t step made add_a add_b earlier n at more =
    let middle = n + size b in
    let last = step (last_number middle a) (last_number n b) in
    let before = earlier ++ walk_of b in
    let at_middle : middle ≡ length before = omega (arith, at, length-append earlier (walk_of b), length-walk_of b) in
    let first : slice_get (before ++ walk_of a) (last_number middle a) ≡ Some a = ap (λ terms. slice_get terms (last_number middle a)) (sym (append-nil (before ++ walk_of a))) ∙ found before [] a middle at_middle in
    let second : slice_get (before ++ walk_of a) (last_number n b) ≡ Some b = found earlier (walk_of a) b n at in
    ap (terms_by_steps earlier) (append_assoc (steps_from n b) (steps_from middle a ++ last ∷ []) more ∙ ap (λ back. steps_from n b ++ back) (append_assoc (steps_from middle a) (last ∷ []) more))
    ∙ add_b earlier n at (steps_from middle a ++ (last ∷ more))
    ∙ add_a before middle at_middle (last ∷ more)
    ∙ adds_last before (walk_of a) last t more (made (before ++ walk_of a) (last_number middle a) (last_number n b) first second)
    ∙ ap (λ terms. terms_by_steps terms more) (append_assoc earlier (walk_of b) (walk_of a ++ t ∷ []))

-- an `Aead`, which has three parts
three : (k m a : Term) → Adds k → Adds m → Adds a → Adds (Aead k m a)
three k m a add_k add_m add_a earlier n at more =
    let i = n + size a in
    let j = i + size m in
    let last = walks.Aead (last_number j k) (last_number i m) (last_number n a) in
    let one = earlier ++ walk_of a in
    let both = one ++ walk_of m in
    let at_i : i ≡ length one = omega (arith, at, length-append earlier (walk_of a), length-walk_of a) in
    let at_j : j ≡ length both = omega (arith, at_i, length-append one (walk_of m), length-walk_of m) in
    let all = both ++ walk_of k in
    let key : slice_get all (last_number j k) ≡ Some k = ap (λ terms. slice_get terms (last_number j k)) (sym (append-nil all)) ∙ found both [] k j at_j in
    let message : slice_get all (last_number i m) ≡ Some m = found one (walk_of k) m i at_i in
    let associated : slice_get all (last_number n a) ≡ Some a =
    ap (λ terms. slice_get terms (last_number n a)) (append_assoc one (walk_of m) (walk_of k)) ∙ found earlier (walk_of m ++ walk_of k) a n at in
    let made : term_of_step all last ≡ Some (Aead k m a) = rw (key, message, associated) refl in
    let inner = steps_from j k ++ last ∷ [] in
    ap (terms_by_steps earlier) (append_assoc (steps_from n a) (steps_from i m ++ inner) more
    ∙ ap (λ back. steps_from n a ++ back) (append_assoc (steps_from i m) inner more ∙ ap (λ back. steps_from i m ++ back) (append_assoc (steps_from j k) (last ∷ []) more)))
    ∙ add_a earlier n at (steps_from i m ++ (steps_from j k ++ (last ∷ more)))
    ∙ add_m one i at_i (steps_from j k ++ (last ∷ more))
    ∙ add_k both j at_j (last ∷ more)
    ∙ adds_last both (walk_of k) last (Aead k m a) more made
    ∙ ap (λ terms. terms_by_steps terms more) (append_assoc one (walk_of m) (walk_of k ++ Aead k m a ∷ []) ∙ append_assoc earlier (walk_of a) (walk_of m ++ (walk_of k ++ Aead k m a ∷ [])))

pub adds : (t : Term) → Adds t
adds (Lit text) earlier n at more = refl
adds (Name principal) earlier n at more = refl
adds (Nonce index) earlier n at more = refl
adds (Pair a b) earlier n at more = two a b (Pair a b) walks.Pair (λ e i j first second. rw (first, second) refl) (adds a) (adds b) earlier n at more
adds (Pk k) earlier n at more = one k (Pk k) walks.Pk (λ e i first. rw first refl) (adds k) earlier n at more
adds (Vk k) earlier n at more = one k (Vk k) walks.Vk (λ e i first. rw first refl) (adds k) earlier n at more
adds (Penc p m) earlier n at more = two p m (Penc p m) walks.Penc (λ e i j first second. rw (first, second) refl) (adds p) (adds m) earlier n at more
adds (Aead k m a) earlier n at more = three k m a (adds k) (adds m) (adds a) earlier n at more
adds (Sign k m) earlier n at more = two k m (Sign k m) walks.Sign (λ e i j first second. rw (first, second) refl) (adds k) (adds m) earlier n at more
adds (Mac k m) earlier n at more = two k m (Mac k m) walks.Mac (λ e i j first second. rw (first, second) refl) (adds k) (adds m) earlier n at more
adds (Kdf k c x) earlier n at more = two k x (Kdf k c x) (λ i j. walks.Kdf i c j) (λ e i j first second. rw (first, second) refl) (adds k) (adds x) earlier n at more
adds (Hash m) earlier n at more = one m (Hash m) walks.Hash (λ e i first. rw first refl) (adds m) earlier n at more

pub all_terms : (t : Term) → terms_by_steps [] (steps_of t) ≡ Some (walk_of t)
all_terms t = ap (terms_by_steps []) (sym (append-nil (steps_of t))) ∙ adds t [] 0 refl []
