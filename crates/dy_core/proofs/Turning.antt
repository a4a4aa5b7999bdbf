-- What a Book says when its instance takes a turn.
use Rattle.std.proofs.Common.{◌≡◌, ℕ, zero, suc, ◌+◌, ◌<◌, ◌≤◌, ◌^◌, true, false, ◌==◌, List, [], ◌∷◌, ◌++◌, length, take, Option, Some, None, inl, inr, ap, sym, ◌∙◌, subst, arith}
use Rattle.std.proofs.lemmas.List.{map-append, length-take-le}
use Rattle.std.proofs.lemmas.Bool.{eq-eqb, eqb-true}
use Rattle.std.specs.List.{slice_get, position}
use Rattle.dy_label.specs.declared.usages.Outcome.{Outcome}
use Rattle.dy_syntax.specs.Files.{File}
use Rattle.dy_entry.specs.Entries.{Entry, Setup}
use Rattle.dy_entry.specs.declared.entries.Entry as declared
use Rattle.dy_entry.specs.LookUps.{newest}
use Rattle.dy_entry.specs.Meaning.{entry_of, entries_of}
use Rattle.dy_entry.specs.Summaries.{is_start}
use Rattle.dy_eval.specs.declared.items.Item.{Item}
use Rattle.dy_eval.specs.declared.items.Emit.TheVariants.{Put, End}
use Rattle.dy_eval.specs.Past.{HasEachVersionOnce}
use Rattle.dy_eval.specs.Runs.{Left, Next, Puts, Ends}
use Rattle.dy_eval.specs.Turns.{emit_of, HasRoomForVersions}
use Rattle.dy_traces.specs.Instances.{end_of}
use Rattle.dy_core.specs.declared.running.Running.{Running}
use Rattle.dy_core.specs.Answers.{IsInstance}
use Rattle.dy_core.specs.MirrorBooks.{IsBook}
use Rattle.dy_traces.proofs.Prefixes.{in_prefix, in_order}
use Rattle.dy_traces.proofs.Searches.{none_passes, found_passes}

inside : (a b : Entry) → Some a ≡ Some b → a ≡ b
inside a b same = cc

-- A fact that cannot fail holds, where it speaks of numbers.
pub once_from : (X : List Entry) → ((HasEachVersionOnce X → ⊥) → ⊥) → HasEachVersionOnce X
once_from X sure i j a b p s v t u f g at more = elim (in_order i j) [
  | inl less ↦ absurd (sure (λ once. let same = once i j a b p s v t u f g at more in omega (arith, less, same)))
  | inr (inl same) ↦ same
  | inr (inr greater) ↦ absurd (sure (λ once. let same = once i j a b p s v t u f g at more in omega (arith, greater, same)))
]

pub room_from : (X : List Entry) → ((HasRoomForVersions X → ⊥) → ⊥) → HasRoomForVersions X
room_from X sure p s = elim (in_order (newest X p s + 1) (2 ^ 32)) [
  | inl less ↦ less
  | inr (inl same) ↦ absurd (sure (λ room. let low = room p s in omega (arith, low, same)))
  | inr (inr greater) ↦ absurd (sure (λ room. let low = room p s in omega (arith, low, greater)))
]

pub once_before : (T : List Entry) (n : ℕ) → HasEachVersionOnce T → HasEachVersionOnce (take n T)
once_before T n once i j a b p s v t u f g at more =
    once i j a b p s v t u f g (in_prefix T n i _ at).1 (in_prefix T n j _ more).1

pub starts_late : (bytes : List ℕ) (T : List Entry) (n : ℕ) (start : Entry) → slice_get T 0 ≡ Some (Setup bytes) → slice_get T n ≡ Some start → is_start start ≡ true → 0 < n
starts_late bytes T zero start opens at is =
    let same : Setup bytes ≡ start = inside (Setup bytes) start (sym opens ∙ at) in
    let never : false ≡ true = ap is_start same ∙ is in
    absurd cc
starts_late bytes T (suc n) start opens at is = omega arith

pub room_before : (T : List Entry) (n : ℕ) → n < length T → length T < 2 ^ 32 → ((p : List ℕ) (s : ℕ) → newest (take n T) p s ≤ length (take n T)) → HasRoomForVersions (take n T)
room_before T n within few low p s = let versions = low p s in let all = length-take-le n T (omega (arith, within)) in omega (arith, versions, all, within, few)

-- what is answered tells what comes next
pub puts_from : (next : Next) (item : Item) → emit_of next ≡ Put item → (binds : Option (List ℕ)) × (left : Left) × (next ≡ Puts item binds left)
puts_from (Puts other binds left) item is = let same : other ≡ item = cc in (binds, left, ap (λ (x : Item). Puts x binds left) same)
puts_from (Ends outcome) item is = absurd cc

pub ends_from : (next : Next) (outcome : Outcome) → emit_of next ≡ End outcome → next ≡ Ends outcome
ends_from (Puts item binds left) outcome is = absurd cc
ends_from (Ends other) outcome is = let same : other ≡ outcome = cc in ap (λ (o : Outcome). Ends o) same

-- the trace with an entry more
pub trace_more : (entries roomy more : List declared.Entry) (entry : declared.Entry) → more ≡ roomy ++ entry ∷ [] → roomy ≡ entries
    → entries_of more ≡ entries_of entries ++ entry_of entry ∷ []
trace_more entries roomy more entry adds same =
    ap entries_of (adds ∙ ap (λ (es : List declared.Entry). es ++ entry ∷ []) same) ∙ map-append entry_of entries (entry ∷ [])

-- the Book's lists with an entry more
pub grown_to : (file : File) (entries roomy more : List declared.Entry) (entry : declared.Entry) (rows more_rows : List Running)
    → more ≡ roomy ++ entry ∷ [] → roomy ≡ entries → more_rows ≡ rows → IsBook file (entries_of entries ++ entry_of entry ∷ []) rows → IsBook file (entries_of more) more_rows
grown_to file entries roomy more entry rows more_rows adds same rows_same book =
    subst (λ (X : List Entry). IsBook file X more_rows)
    (sym (trace_more entries roomy more entry adds same))
    (subst (λ (rs : List Running). IsBook file (entries_of entries ++ entry_of entry ∷ []) rs) (sym rows_same) book)

-- An instance that is kept has no End.
pub place_goes_on : (file : File) (T : List Entry) (running : List Running) (instance at : ℕ)
    → position (λ (kept : Running). kept.start == instance) running ≡ Some at → IsBook file T running → end_of T instance ≡ None
place_goes_on file T running instance at found book =
    let is = found_passes (λ (kept : Running). kept.start == instance) running at found in
    subst (λ n. end_of T n ≡ None) (eqb-true is.0.start instance is.2) (book.kept at is.0 is.1).goes_on

-- An instance without an End is kept.
pub no_place : (file : File) (T : List Entry) (running : List Running) (instance : ℕ) → IsInstance T instance → end_of T instance ≡ None
    → position (λ (kept : Running). kept.start == instance) running ≡ None → IsBook file T running → ⊥
no_place file T running instance stands goes_on none book =
    let found = book.all instance stands.0 stands.1 stands.2 goes_on in
    let other : (found.1.start == instance) ≡ false = none_passes (λ (kept : Running). kept.start == instance) running none found.0 found.1 found.2 in
    let own : (found.1.start == instance) ≡ true = eq-eqb found.1.start instance found.3 in
    absurd cc
