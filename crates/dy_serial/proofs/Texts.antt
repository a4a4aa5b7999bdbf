-- An interleaving has a text.
use Rattle.std.proofs.Common.{◌≡◌, ℕ, suc, ◌<◌, ◌≤◌, ◌^◌, Bool, true, false, not, ◌&&◌, List, [], ◌∷◌, length, take, Some, refl, ap, ◌∙◌, arith}
use Rattle.std.specs.Prelude.{nat_lt}
use Rattle.std.specs.List.{slice_get, list_all, list_any}
use Rattle.dy_term.specs.Terms.{Term, size}
use Rattle.dy_term.specs.declared.limits.TheConstants.{MAX_NODES}
use Rattle.dy_syntax.specs.Files.{File, Decl}
use Rattle.dy_entry.specs.Entries.{Entry, Setup, Start, Fresh, Message, State, Event, Cert, End, Corrupt, Forge, Inject, Skip}
use Rattle.dy_traces.specs.Following.{MayFollow}
use Rattle.dy_traces.specs.Interleavings.{Interleaves}
use Rattle.dy_traces.specs.SmallValues.{AreSmall, HasSmallValues}
use Rattle.dy_trace_text.specs.TraceText.{is_setup, is_set_up, values_in, is_small, HasText}

small_one : (value : Term) → size value ≤ MAX_NODES → is_small value ≡ true
small_one value few = search (arith, few)

both : (a b : Bool) → a ≡ true → b ≡ true → (a && b) ≡ true
both a b first second = cc

small_all : (values : List Term) → AreSmall values → list_all is_small values ≡ true
small_all [] small = refl
small_all (value ∷ values) small = both (is_small value) (list_all is_small values) (small_one value small.0) (small_all values small.1)

small_single : (value : Term) → size value ≤ MAX_NODES → list_all is_small (value ∷ []) ≡ true
small_single value few = both (is_small value) true (small_one value few) refl

-- an entry whose values are small
small_entry : (e : Entry) → HasSmallValues e → list_all is_small (values_in e) ≡ true
small_entry (Message instance value) small = small_single value small
small_entry (State instance principal session version tag fields) small = small_all fields small
small_entry (Event instance principal name args) small = small_all args small
small_entry (Cert instance principal usage key) small = small_single key small
small_entry (Inject step value) small = small_single value small
small_entry (Setup input) small = refl
small_entry (Start step handler principal session args message) small = refl
small_entry (Fresh instance label usage) small = refl
small_entry (End instance outcome) small = refl
small_entry (Corrupt step corruption) small = refl
small_entry (Forge step) small = refl
small_entry (Skip step) small = refl

-- what follows a trace is no Setup
follows_no_setup : (decls : List Decl) (T : List Entry) (e : Entry) → MayFollow decls T e → is_setup e ≡ false
follows_no_setup decls T (Setup input) follows = absurd follows
follows_no_setup decls T e follows = refl

module _ {A : Type 0} (test : A → Bool) where
  all_of : (xs : List A) → ((k : ℕ) (x : A) → slice_get xs k ≡ Some x → test x ≡ true) → list_all test xs ≡ true
  all_of [] each = refl
  all_of (x ∷ xs) each = both (test x) (list_all test xs) (each 0 x refl) (all_of xs (λ k y at. each (suc k) y at))

  none_of_all : (xs : List A) → ((k : ℕ) (x : A) → slice_get xs k ≡ Some x → test x ≡ false) → list_any test xs ≡ false
  none_of_all [] each = refl
  none_of_all (x ∷ xs) each =
      let first : test x ≡ false = each 0 x refl in
      let later : list_any test xs ≡ false = none_of_all xs (λ k y at. each (suc k) y at) in
      cc

set_up_by : (bytes : List ℕ) (T : List Entry) → length bytes < 2 ^ 32 → slice_get T 0 ≡ Some (Setup bytes)
    → ((i : ℕ) (e : Entry) → 0 < i → slice_get T i ≡ Some e → is_setup e ≡ false) → is_set_up T ≡ true
set_up_by bytes [] few opens others = absurd cc
set_up_by bytes (e ∷ more) few opens others =
    let first : e ≡ Setup bytes = cc in
    let short : nat_lt (length bytes) (2 ^ 32) ≡ true = search (arith, few) in
    let none : list_any is_setup more ≡ false = none_of_all is_setup more (λ k x at. others (suc k) x (omega arith) at) in
    ap (λ (x : Entry). is_set_up (x ∷ more)) first ∙ both (nat_lt (length bytes) (2 ^ 32)) (not (list_any is_setup more)) short (ap not none)

-- an interleaving of few entries, whose values are small
pub interleaving_has_text : (bytes : List ℕ) (file : File) (T : List Entry) → Interleaves bytes file T → length T < 2 ^ 32
    → ((i : ℕ) (e : Entry) → slice_get T i ≡ Some e → HasSmallValues e) → HasText T
interleaving_has_text bytes file T is_one few small = record {
  few = few;
  set_up = set_up_by bytes T (let read = is_one.reads.few in omega (arith, read)) is_one.opens
      (λ i e after at. follows_no_setup file.decls (take i T) e (is_one.follows i e after at));
  small = all_of (λ (e : Entry). list_all is_small (values_in e)) T (λ i e at. small_entry e (small i e at));
}
