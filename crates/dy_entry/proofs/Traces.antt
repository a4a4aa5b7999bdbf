-- Look-ups in a trace that grows at its end, and in a trace that a function takes to another.
use Rattle.std.proofs.Common.{◌≡◌, ℕ, ◌+◌, ◌<◌, ◌≤◌, zero, suc, Bool, not, Some, None, ◌⊎◌, inl, inr, List, [], ◌∷◌, ◌++◌, map, max, take, length, get_or, refl, ap, sym, ◌∙◌, arith}
use Rattle.std.specs.List.{slice_get, position, prefix_len}
use Rattle.std.proofs.lemmas.List.{length-map, length-take-le, map_more}
use Rattle.dy_entry.specs.Entries.{Entry}
use Rattle.dy_label.specs.declared.readers.Corruption.{Corruption}
use Rattle.dy_entry.specs.declared.entries.Entry as declared
use Rattle.dy_entry.specs.declared.entries.Entry.TheVariants as code
use Rattle.dy_entry.specs.Meaning.{entry_of, entries_of}
use Rattle.dy_entry.specs.LookUps.{corruption_of, newest, version_in}

pub slice_get-prefix : {X : Type 0} (xs ys : List X) (i : ℕ) (x : X) → slice_get xs i ≡ Some x → slice_get (xs ++ ys) i ≡ Some x
slice_get-prefix [] ys i x e = absurd (cc)
slice_get-prefix (z ∷ xs) ys zero x e = e
slice_get-prefix (z ∷ xs) ys (suc i) x e = slice_get-prefix xs ys i x e

pub slice_get-end : {X : Type 0} (xs : List X) (x : X) → slice_get (xs ++ x ∷ []) (length xs) ≡ Some x
slice_get-end [] x = refl
slice_get-end (z ∷ xs) x = slice_get-end xs x

-- what stands in a longer list stands in the shorter one or at the end
pub slice_get_split : {X : Type 0} (xs : List X) (x y : X) (i : ℕ) → slice_get (xs ++ x ∷ []) i ≡ Some y → (slice_get xs i ≡ Some y) ⊎ ((i ≡ length xs) × (x ≡ y))
slice_get_split [] x y zero e = inr (refl, cc)
slice_get_split [] x y (suc i) e = absurd (cc)
slice_get_split (z ∷ xs) x y zero e = inl e
slice_get_split (z ∷ xs) x y (suc i) e = elim (slice_get_split xs x y i e) [ inl before ↦ inl before | inr last ↦ inr (ap suc last.0, last.1) ]

pub prefix_len-map : {X Y : Type 0} (f : X → Y) (p : Y → Bool) (xs : List X) → prefix_len p (map f xs) ≡ prefix_len (λ x. p (f x)) xs
prefix_len-map f p [] = refl
prefix_len-map f p (x ∷ xs) = rw (prefix_len-map f p xs)

pub position-map : {X Y : Type 0} (f : X → Y) (p : Y → Bool) (xs : List X) → position p (map f xs) ≡ position (λ x. p (f x)) xs
position-map f p xs = rw (prefix_len-map f (λ y. not (p y)) xs, length-map)

-- a trace of the code with one entry more
pub one_more : (entries : List declared.Entry) (i : ℕ) (x : declared.Entry) → i < length entries → x ≡ get_or entries i x
    → entries_of (take (i + 1) entries) ≡ entries_of (take i entries) ++ entry_of x ∷ []
one_more entries i x within at = map_more entry_of entries i x within ∙ ap (λ y. entries_of (take i entries) ++ entry_of y ∷ []) (sym at)

pub length-prefix : (entries : List declared.Entry) (i : ℕ) → i ≤ length entries → length (entries_of (take i entries)) ≡ i
length-prefix entries i within = length-map (take i entries) entry_of ∙ length-take-le i entries within

-- an entry of the code that is no corruption takes nothing
pub takes_nothing : (x : declared.Entry) → ((step : ℕ) (corruption : Corruption) → x ≡ code.Corrupt step corruption → ⊥) → corruption_of (entry_of x) ≡ None
takes_nothing (code.Corrupt step corruption) other = absurd (other step corruption refl)
takes_nothing (code.Setup input) other = refl
takes_nothing (code.Start step handler principal session args message) other = refl
takes_nothing (code.Fresh instance label usage) other = refl
takes_nothing (code.Message instance value) other = refl
takes_nothing (code.State instance principal session version tag fields) other = refl
takes_nothing (code.Event instance principal name args) other = refl
takes_nothing (code.Cert instance principal usage key) other = refl
takes_nothing (code.End instance outcome) other = refl
takes_nothing (code.Forge step) other = refl
takes_nothing (code.Inject step value) other = refl
takes_nothing (code.Skip step) other = refl

pub newest-more : (T : List Entry) (e : Entry) (principal : List ℕ) (session : ℕ)
    → newest (T ++ e ∷ []) principal session ≡ max (version_in principal session e) (newest T principal session)
newest-more [] e principal session = refl
newest-more (x ∷ T) e principal session =
    let shorter = newest-more T e principal session in
    let turned : (a b c : ℕ) → max a (max b c) ≡ max b (max a c) = λ a b c. omega arith in
    ap (max (version_in principal session x)) shorter ∙ turned (version_in principal session x) (version_in principal session e) (newest T principal session)
