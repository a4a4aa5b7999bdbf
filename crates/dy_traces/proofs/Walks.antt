-- Traces that are walked entry by entry.
use Rattle.std.proofs.Common.{◌≡◌, ℕ, zero, suc, ◌+◌, ◌<◌, Bool, true, false, not, ◌&&◌, ◌||◌, List, [], ◌∷◌, ◌++◌, length, take, Option, Some, None, refl, ap, sym, ◌∙◌, subst, arith}
use Rattle.std.proofs.lemmas.List.{append_assoc, append-nil}
use Rattle.std.proofs.lemmas.Bool.{and_parts}
use Rattle.std.specs.Option.{is_some}
use Rattle.std.specs.List.{slice_get}
use Rattle.dy_syntax.specs.Files.{File, Decl}
use Rattle.dy_syntax.specs.Rules.{IsWellFormed}
use Rattle.dy_parse.specs.Reading.{Reads}
use Rattle.dy_entry.specs.Entries.{Entry, Setup}
use Rattle.dy_traces.specs.Instances.{starts_in, end_of, IsRunningIn}
use Rattle.dy_traces.specs.Following.{MayFollow}
use Rattle.dy_traces.specs.Interleavings.{Interleaves}
use Rattle.dy_traces.proofs.Prefixes.{in_last, take_whole}

-- Each of these entries may follow those before it.
abbrev pub Walks : List Decl → List Entry → List Entry → Type 0
Walks decls before [] = Unit {0}
Walks decls before (e ∷ rest) = MayFollow decls before e × Walks decls (before ++ e ∷ []) rest

-- what a walk says of its entry at an index
walk_at : (decls : List Decl) (before rest : List Entry) (i : ℕ) (e : Entry) → Walks decls before rest → slice_get rest i ≡ Some e → MayFollow decls (before ++ take i rest) e
walk_at decls before [] i e walks at = absurd cc
walk_at decls before (f ∷ rest) zero e walks at = let same : f ≡ e = cc in subst (λ (g : Entry). MayFollow decls (before ++ []) g) same (subst (λ (T : List Entry). MayFollow decls T f) (sym (append-nil before)) walks.0)
walk_at decls before (f ∷ rest) (suc i) e walks at = subst (λ (T : List Entry). MayFollow decls T e) (append_assoc before (f ∷ []) (take i rest)) (walk_at decls (before ++ f ∷ []) rest i e walks.1 at)

later_follow : (bytes : List ℕ) (decls : List Decl) (rest : List Entry) → Walks decls (Setup bytes ∷ []) rest → (i : ℕ) (e : Entry) → 0 < i → slice_get (Setup bytes ∷ rest) i ≡ Some e → MayFollow decls (take i (Setup bytes ∷ rest)) e
later_follow bytes decls rest walks zero e late at = absurd (omega (arith, late))
later_follow bytes decls rest walks (suc i) e late at = walk_at decls (Setup bytes ∷ []) rest i e walks at

-- A walk after the Setup of a file's bytes is an interleaving.
pub walked : (bytes : List ℕ) (file : File) (rest : List Entry) → Reads bytes file → IsWellFormed file
    → Walks file.decls (Setup bytes ∷ []) rest → Interleaves bytes file (Setup bytes ∷ rest)
walked bytes file rest reads well_formed walks =
    record { reads = reads; well_formed = well_formed; opens = refl; follows = later_follow bytes file.decls rest walks }

-- An entry that may not follow makes a trace no interleaving.
pub none_with : (bytes : List ℕ) (file : File) (first : Entry) (before : List Entry) (e : Entry)
    → (MayFollow file.decls (first ∷ before) e → ⊥) → Interleaves bytes file (first ∷ before ++ e ∷ []) → ⊥
none_with bytes file first before e may_not traces =
    may_not (subst (λ (T : List Entry). MayFollow file.decls T e) (take_whole (first ∷ before) (e ∷ [])) (traces.follows (length (first ∷ before)) e (omega arith) (in_last (first ∷ before) e)))

-- No instance runs in a session at an index where no Start in it stands.
pub no_start_at : (T : List Entry) (session i : ℕ) (e : Entry) → slice_get T i ≡ Some e → starts_in session e ≡ false → IsRunningIn T session i → ⊥
no_start_at T session i e at other runs =
    let same : Some e ≡ Some runs.start = sym at ∙ runs.stands in
    let stands : starts_in session e ≡ true = ap (λ f. starts_in session f) (inside e runs.start same) ∙ runs.is_start in
    cc where
      inside : (a b : Entry) → Some a ≡ Some b → a ≡ b
      inside a b same = cc

pub none_at : (T : List Entry) (session i : ℕ) → slice_get T i ≡ None → IsRunningIn T session i → ⊥
none_at T session i past runs = let stands = runs.stands in cc

pub ended_at : (T : List Entry) (session i at : ℕ) → end_of T i ≡ Some at → IsRunningIn T session i → ⊥
ended_at T session i at ends runs = let goes_on = runs.goes_on in cc

-- A walk, and a walk that goes on after it.
pub walks_on : (decls : List Decl) (before first second : List Entry) → Walks decls before first
    → Walks decls (before ++ first) second → Walks decls before (first ++ second)
walks_on decls before [] second walks more = subst (λ (T : List Entry). Walks decls T second) (append-nil before) more
walks_on decls before (e ∷ first) second walks more = (
  walks.0,
  walks_on decls (before ++ e ∷ []) first second walks.1
      (subst (λ (T : List Entry). Walks decls T second) (sym (append_assoc before (e ∷ []) first)) more),
)

-- Of the entries from an index on, none is a Start in the session whose instance has no End.
abbrev pub none_runs_from : List Entry → ℕ → ℕ → List Entry → Bool
none_runs_from T session index [] = true
none_runs_from T session index (e ∷ rest) =
    (not (starts_in session e) || is_some (end_of T index)) && none_runs_from T session (suc index) rest

ended_or_other : (starts : Bool) (ended : Option ℕ) → (not starts || is_some ended) ≡ true → starts ≡ true → ended ≡ None → ⊥
ended_or_other true None is starts none = cc
ended_or_other true (Some at) is starts none = cc
ended_or_other false ended is starts none = cc

none_runs_at : (T : List Entry) (session index : ℕ) (rest : List Entry) → none_runs_from T session index rest ≡ true
    → (k : ℕ) (e : Entry) → slice_get rest k ≡ Some e → starts_in session e ≡ true → end_of T (k + index) ≡ None → ⊥
none_runs_at T session index [] none k e at starts goes_on = absurd cc
none_runs_at T session index (f ∷ rest) none zero e at starts goes_on =
    let parts = and_parts (not (starts_in session f) || is_some (end_of T index)) (none_runs_from T session (suc index) rest) none in
    let same : e ≡ f = cc in
    let here : 0 + index ≡ index = omega arith in
    ended_or_other (starts_in session f) (end_of T index) parts.0
    (subst (λ (g : Entry). starts_in session g ≡ true) same starts) (subst (λ (n : ℕ). end_of T n ≡ None) here goes_on)
none_runs_at T session index (f ∷ rest) none (suc k) e at starts goes_on =
    let parts = and_parts (not (starts_in session f) || is_some (end_of T index)) (none_runs_from T session (suc index) rest) none in
    let later : suc k + index ≡ k + suc index = omega arith in
    none_runs_at T session (suc index) rest parts.1 k e at starts (subst (λ (n : ℕ). end_of T n ≡ None) later goes_on)

-- No instance of the session runs, by computation.
pub none_runs : (T : List Entry) (session : ℕ) → none_runs_from T session 0 T ≡ true → (instance : ℕ) → IsRunningIn T session instance → ⊥
none_runs T session none instance runs =
    let here : instance ≡ instance + 0 = omega arith in
    none_runs_at T session 0 T none instance runs.start runs.stands runs.is_start
    (subst (λ (n : ℕ). end_of T n ≡ None) here runs.goes_on)
