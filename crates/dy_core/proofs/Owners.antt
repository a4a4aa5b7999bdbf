-- What is of an instance stands after its Start.
use Rattle.std.proofs.Common.{◌≡◌, ℕ, zero, suc, ◌<◌, true, false, ◌==◌, List, [], length, take, Option, Some, None, if◌then◌else◌, inl, inr, refl, ap, sym, ◌∙◌, arith}
use Rattle.std.specs.Option.{option_and_then, is_some}
use Rattle.std.specs.List.{slice_get}
use Rattle.std.proofs.lemmas.Bool.{cases_Bool, eqb-true}
use Rattle.std.proofs.lemmas.List.{length-take-le}
use Rattle.dy_syntax.specs.Files.{File, Decl}
use Rattle.dy_entry.specs.Entries.{Entry, Setup, Fresh, Message, State, Event, Cert, End}
use Rattle.dy_traces.specs.Instances.{is_item_of, items_of, is_end_of, end_of, entry_next, next_entry}
use Rattle.dy_traces.specs.Following.{MayFollow}
use Rattle.dy_traces.specs.Interleavings.{Interleaves}
use Rattle.dy_traces.proofs.Prefixes.{below_length}
use Rattle.dy_traces.proofs.Searches.{none_found}
use Rattle.dy_core.proofs.Searches.{indices_none}

inside : (a b : Entry) → Some a ≡ Some b → a ≡ b
inside a b same = cc

next_is : (o : Option ℕ) (found : Option Entry) (follows : Entry → Option Entry) (e : Entry)
    → (if is_some o then None else option_and_then follows found) ≡ Some e → (start : Entry) × (found ≡ Some start)
next_is (Some k) found follows e is = absurd cc
next_is None None follows e is = absurd cc
next_is None (Some start) follows e is = (start, refl)

module _ (decls : List Decl) (X : List Entry) (n : ℕ) where
  starts_before : (other : ℕ) (e : Entry) → (other == n) ≡ true → next_entry decls X other ≡ Some e → n < length X
  starts_before other e same follows =
      let found = next_is (end_of X other) (slice_get X other) (entry_next decls X other) e follows in
      let below = below_length X other found.0 found.1 in
      omega (arith, eqb-true other n same, below)

  item_after : (e : Entry) → MayFollow decls X e → is_item_of n e ≡ true → n < length X
  item_after (Fresh other label usage) follows is = starts_before other _ is follows
  item_after (Message other value) follows is = starts_before other _ is follows
  item_after (State other principal session version tag fields) follows is = starts_before other _ is follows
  item_after (Event other principal name args) follows is = starts_before other _ is follows
  item_after (Cert other principal usage key) follows is = starts_before other _ is follows
  item_after e follows is = absurd cc

  end_after : (e : Entry) → MayFollow decls X e → is_end_of n e ≡ true → n < length X
  end_after (End other outcome) follows is = starts_before other _ is follows
  end_after e follows is = absurd cc

module _ (bytes : List ℕ) (file : File) (T : List Entry) (is_one : Interleaves bytes file T) where
  opens_with : (e : Entry) → slice_get T 0 ≡ Some e → e ≡ Setup bytes
  opens_with e at = inside e (Setup bytes) (sym at ∙ is_one.opens)

  item_stands_after : (n k : ℕ) (e : Entry) → slice_get T k ≡ Some e → is_item_of n e ≡ true → n < k
  item_stands_after n zero e at is = let never : false ≡ true = sym (ap (is_item_of n) (opens_with e at)) ∙ is in absurd cc
  item_stands_after n (suc k) e at is =
      let after = item_after file.decls (take (suc k) T) n e (is_one.follows (suc k) e (omega arith) at) is in
      let below = below_length T (suc k) e at in
      let few = length-take-le (suc k) T (omega (arith, below)) in
      omega (arith, after, few)

  end_stands_after : (n k : ℕ) (e : Entry) → slice_get T k ≡ Some e → is_end_of n e ≡ true → n < k
  end_stands_after n zero e at is = let never : false ≡ true = sym (ap (is_end_of n) (opens_with e at)) ∙ is in absurd cc
  end_stands_after n (suc k) e at is =
      let after = end_after file.decls (take (suc k) T) n e (is_one.follows (suc k) e (omega arith) at) is in
      let below = below_length T (suc k) e at in
      let few = length-take-le (suc k) T (omega (arith, below)) in
      omega (arith, after, few)

  -- The instance of a Start that comes next has put nothing, and has no End.
  pub no_items_yet : items_of T (length T) ≡ []
  no_items_yet = indices_none (is_item_of (length T)) 0 T (λ k e at. elim (cases_Bool (is_item_of (length T) e)) [
    | inl own ↦ let after = item_stands_after (length T) k e at own in let below = below_length T k e at in absurd (omega (arith, after, below))
    | inr other ↦ other
  ])

  pub no_end_yet : end_of T (length T) ≡ None
  no_end_yet = none_found (is_end_of (length T)) T (λ k e at. elim (cases_Bool (is_end_of (length T) e)) [
    | inl own ↦ let after = end_stands_after (length T) k e at own in let below = below_length T k e at in absurd (omega (arith, after, below))
    | inr other ↦ other
  ])
