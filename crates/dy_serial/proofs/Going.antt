-- An instance that goes on to its End.
use Rattle.std.proofs.Common.{◌≡◌, ℕ, true, false, List, [], ◌∷◌, ◌++◌, length, Some, None, inl, inr, refl, ap, sym, subst, ◌∙◌, append_assoc}
use Rattle.std.proofs.lemmas.List.{append-nil}
use Rattle.dy_entry.specs.Entries.{Entry, Fresh, Message, State, Event, Cert, End}
use Rattle.std.specs.List.{slice_get}
use Rattle.dy_traces.specs.Instances.{is_item_of, is_end_of, end_of}
use Rattle.dy_traces.proofs.Prefixes.{in_longer, in_last, in_more}
use Rattle.dy_core.specs.declared.books.Book.{Book}
use Rattle.dy_core.specs.declared.answers.Advanced.TheVariants as advanced
use Rattle.dy_core.specs.BookMeaning.{trace_of, decls_in, StaysInterleaved}
use Rattle.dy_core.specs.declared.answers.Started.{Started}
use Rattle.dy_core.specs.declared.answers.Started.TheVariants as started
use Rattle.dy_core.specs.Answers.{IsOpened, IsIdle, HasMessage, IsInstance, IsAdvanced, IsStarted, Adds}
use Rattle.dy_core.specs.MirrorBooks.{MayBegin}
use Rattle.dy_core.specs.StepMeaning.{StartStep, start_of}
use Rattle.dy_core.proofs.Longer.{end_same}
use Rattle.dy_serial.specs.Running.{GrowsTo}
use Rattle.dy_serial.specs.MirrorRunning.{AreItems, RunsToEnd}
use Rattle.dy_serial.proofs.Books.{grows_by_none, grows_by_one, grows_then}

-- an item of an instance is no End
item_no_end : (instance other : ℕ) (e : Entry) → is_item_of instance e ≡ true → is_end_of other e ≡ false
item_no_end instance other (Fresh n label usage) is = refl
item_no_end instance other (Message n value) is = refl
item_no_end instance other (State n principal session version tag fields) is = refl
item_no_end instance other (Event n principal name args) is = refl
item_no_end instance other (Cert n principal usage key) is = refl
item_no_end instance other e is = absurd cc

-- An instance goes on, and has added items alone so far.
pub record GoesOn (instance : ℕ) (old now : Book) : Type 0 where
  pub items : List Entry
  pub are_items : AreItems instance items
  pub trace : trace_of now ≡ trace_of old ++ items
  pub stands : IsInstance (trace_of now) instance
  pub goes_on : end_of (trace_of now) instance ≡ None
  pub grows : GrowsTo old now

-- an instance that has added nothing
pub goes_from : (instance : ℕ) (book : Book) → IsInstance (trace_of book) instance → end_of (trace_of book) instance ≡ None → GoesOn instance book book
goes_from instance book stands goes_on = record {
  items = [];
  are_items = λ i e at. absurd cc;
  trace = sym (append-nil (trace_of book));
  stands = stands;
  goes_on = goes_on;
  grows = grows_by_none book book refl (λ bytes is_one. is_one) refl;
}

module _ (instance index : ℕ) (old now new : Book) (went : GoesOn instance old now) (file : new.file ≡ now.file) (interleaves : StaysInterleaved now new) where
  -- one more item
  pub goes_more : IsAdvanced (decls_in now) (trace_of now) instance (advanced.Put index) (trace_of new) → GoesOn instance old new
  goes_more put =
      let e = put.0 in
      let trace = put.3.trace in
      record {
        items = went.items ++ e ∷ [];
        are_items = λ i x at. elim (in_more went.items e i x at) [
          | inl before ↦ went.are_items i x before
          | inr last ↦ ap (is_item_of instance) last.1 ∙ put.2
        ];
        trace = trace ∙ ap (λ (X : List Entry). X ++ e ∷ []) went.trace ∙ append_assoc (trace_of old) went.items (e ∷ []);
        stands = (
          went.stands.0,
          ap (λ (X : List Entry). slice_get X instance) trace ∙ in_longer (trace_of now) (e ∷ []) instance went.stands.0 went.stands.1,
          went.stands.2,
        );
        goes_on = ap (λ (X : List Entry). end_of X instance) trace ∙ end_same (trace_of now) e instance (item_no_end instance instance e put.2) went.goes_on;
        grows = grows_then old now new went.grows (grows_by_one now new file interleaves e trace);
      }

  module _ (done : IsAdvanced (decls_in now) (trace_of now) instance (advanced.Finished index) (trace_of new)) where
    -- the End
    pub goes_to_end : RunsToEnd instance (trace_of old) (trace_of new)
    goes_to_end = record {
      items = went.items;
      are_items = went.are_items;
      outcome = done.0;
      trace = done.2.trace ∙ ap (λ (X : List Entry). X ++ End instance done.0 ∷ []) went.trace;
    }

    pub grows_to_end : GrowsTo old new
    grows_to_end = grows_then old now new went.grows (grows_by_one now new file interleaves (End instance done.0) done.2.trace)

-- a Start that was added stands there, and its instance has no End
module _ (s : StartStep) (index : ℕ) (T U : List Entry) (adds : Adds T U index (start_of s T)) where
  pub instance_stands : IsInstance U index
  instance_stands = (
    start_of s T,
    ap (slice_get U) adds.at ∙ ap (λ (X : List Entry). slice_get X (length T)) adds.trace ∙ in_last T (start_of s T),
    refl,
  )

  pub instance_goes_on : end_of T (length T) ≡ None → end_of U index ≡ None
  instance_goes_on none =
      ap (end_of U) adds.at ∙ ap (λ (X : List Entry). end_of X (length T)) adds.trace ∙ end_same T (start_of s T) (length T) refl none

-- the start is refused for another cause than out of memory
abbrev pub IsRefusal : Started → Type 0
IsRefusal (started.Ok index) = ⊥
IsRefusal started.Memory = ⊥
IsRefusal answer = Unit {0}

-- a step that may begin is not refused
pub not_refused : (T U : List Entry) (s : StartStep) (answer : Started) → MayBegin T s → IsStarted T s answer U → IsRefusal answer → ⊥
not_refused T U s (started.Already index) may is other = let none = may.unused in let some = is.0 in absurd cc
not_refused T U s started.NoSession may is other = is.1.2 (subst (IsOpened T s.principal) is.1.1 may.opened)
not_refused T U s (started.Busy instance) may is other = subst (IsIdle T) is.1.1 may.idle instance is.1.3
not_refused T U s started.NoMessage may is other =
    let has : HasMessage T (Some is.3.0) = subst (HasMessage T) is.3.1 may.has_message in
    let some = has.1 in
    let none = is.3.2 in
    absurd cc
not_refused T U s (started.Ok index) may is other = absurd other
not_refused T U s started.Memory may is other = absurd other
