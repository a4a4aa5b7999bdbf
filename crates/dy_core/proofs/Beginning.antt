-- A Book with one instance more, which has just started.
use Rattle.std.proofs.Common.{◌≡◌, ℕ, List, [], ◌∷◌, ◌++◌, length, take, Option, Some, None, inl, inr, refl, ap, sym, ◌∙◌, subst, arith}
use Rattle.std.specs.Option.{option_map, option_and_then}
use Rattle.std.proofs.lemmas.List.{map-append}
use Rattle.std.specs.List.{slice_get}
use Rattle.dy_syntax.specs.Statements as statements
use Rattle.dy_syntax.specs.Files.{File}
use Rattle.dy_syntax.specs.LookUps.{handler_named}
use Rattle.dy_entry.specs.Entries.{Entry}
use Rattle.dy_entry.specs.declared.entries.Entry as declared
use Rattle.dy_entry.specs.Meaning.{entry_of, entries_of}
use Rattle.dy_entry.specs.Summaries.{is_start}
use Rattle.dy_eval.specs.Meaning.{standing_of}
use Rattle.dy_eval.specs.Runs.{Left, Standing, Goes, next_of}
use Rattle.dy_eval.specs.Turns.{IsAsked, next_asked}
use Rattle.dy_eval.specs.Starts.{opening, does_after}
use Rattle.dy_traces.specs.Steps.{IsShort}
use Rattle.dy_traces.specs.Instances.{items_of, end_of}
use Rattle.dy_traces.specs.Following.{message_at}
use Rattle.dy_traces.specs.Interleavings.{Interleaves}
use Rattle.dy_core.specs.declared.running.Running.{Running}
use Rattle.dy_core.specs.StepMeaning.{StartStep, session_of, start_of}
use Rattle.dy_core.specs.MirrorBooks.{IsKept, IsBook, HasEachOnce, opened_by}
use Rattle.dy_traces.proofs.Prefixes.{in_longer, in_last, in_more, below_length, take_whole}
use Rattle.dy_core.proofs.Longer.{items_same, end_same, end_before, kept_longer}
use Rattle.dy_core.proofs.Owners.{no_items_yet, no_end_yet}

-- each instance stays kept once where another is kept too
pub once_more : (running : List Running) (r : Running) → HasEachOnce running → ((k : ℕ) (x : Running) → slice_get running k ≡ Some x → x.start ≡ r.start → ⊥)
    → HasEachOnce (running ++ r ∷ [])
once_more running r once other j k x y at more same = elim (in_more running r j x at) [
  | inl old ↦ elim (in_more running r k y more) [
    | inl old_too ↦ once j k x y old old_too same
    | inr new ↦ absurd (other j x old (same ∙ ap (λ (z : Running). z.start) new.1))
  ]
  | inr new ↦ elim (in_more running r k y more) [
    | inl old ↦ absurd (other k y old (sym same ∙ ap (λ (z : Running). z.start) new.1))
    | inr new_too ↦ new.0 ∙ sym new_too.0
  ]
]

goes_from : (o : Option statements.Handler) (standing : Standing) (opens : statements.Handler → Left) → Some standing ≡ option_map (λ h. Goes (opens h)) o
    → (h : statements.Handler) × (o ≡ Some h) × (standing ≡ Goes (opens h))
goes_from None standing opens is = absurd cc
goes_from (Some h) standing opens is = (h, refl, cc)

module _ (T : List Entry) (s : StartStep) (r : Running) (at_end : r.start ≡ length T) (new : r.landed ≡ None) where
  abbrev start : Entry
  start = start_of s T

  started_kept : (bytes : List ℕ) (file : File) → Interleaves bytes file T → Some (standing_of r.instance) ≡ opened_by file.decls T s → IsKept file.decls (T ++ start ∷ []) r
  started_kept bytes file is_one opens =
      let decls = file.decls in
      let longer = T ++ start ∷ [] in
      let opens_as : statements.Handler → Left = λ h. opening decls h s.principal (session_of s.session (length T)) s.args (option_and_then (message_at T) s.message) in
      let goes = goes_from (handler_named decls s.handler) (standing_of r.instance) opens_as opens in
      let left = opens_as goes.0 in
      let none : items_of longer (length T) ≡ [] = items_same T start (length T) refl ∙ no_items_yet bytes file T is_one in
      let asks : next_of T left ≡ next_asked T (standing_of r.instance) r.landed = ap (λ (standing : Standing). next_asked T standing None) (sym goes.2) ∙ ap (next_asked T (standing_of r.instance)) (sym new) in
      let first : does_after decls T start [] ≡ Some (next_asked T (standing_of r.instance) r.landed) =
      ap (λ (o : Option statements.Handler). option_map (λ (h : statements.Handler). next_of T (opens_as h)) o) goes.1 ∙ ap Some asks in
      let with_items : does_after decls T start (items_of longer (length T)) ≡ Some (next_asked T (standing_of r.instance) r.landed) =
      ap (does_after decls T start) none ∙ first in
      let before : take (length T) longer ≡ T = take_whole T (start ∷ []) in
      record {
        start = start;
        stands = ap (slice_get longer) at_end ∙ in_last T start;
        goes_on = ap (end_of longer) at_end ∙ end_same T start (length T) refl (no_end_yet bytes file T is_one);
        asked = subst (λ (standing : Standing). IsAsked standing r.landed) (sym goes.2) (subst (λ (landed : Option ℕ). IsAsked (Goes left) landed) (sym new) tt);
        does = subst (λ (n : ℕ). does_after decls (take n longer) start (items_of longer n) ≡ Some (next_asked (take n longer) (standing_of r.instance) r.landed)) (sym at_end)
            (subst (λ (X : List Entry). does_after decls X start (items_of longer (length T)) ≡ Some (next_asked X (standing_of r.instance) r.landed)) (sym before) with_items);
      }

  -- A Book with an instance more.
  pub book_with_start : (file : File) (running : List Running) → Some (standing_of r.instance) ≡ opened_by file.decls T s
      → ((bytes : List ℕ) → Interleaves bytes file T → Interleaves bytes file (T ++ start ∷ [])) → (IsShort T → IsShort (T ++ start ∷ []))
      → IsBook file T running → IsBook file (T ++ start ∷ []) (running ++ r ∷ [])
  book_with_start file running opens longer short book = record {
    bytes = book.bytes;
    interleaves = longer book.bytes book.interleaves;
    short = short book.short;
    kept = λ k x at. elim (in_more running r k x at) [
      | inl old ↦ kept_longer T start file.decls x refl refl (book.kept k x old)
      | inr last ↦ subst (λ (y : Running). IsKept file.decls (T ++ start ∷ []) y) (sym last.1) (started_kept book.bytes file book.interleaves opens)
    ];
    once = once_more running r book.once (λ k x at same.
        let stands = (book.kept k x at).stands in
        let below = below_length T x.start (book.kept k x at).start stands in
        absurd (omega (arith, below, same, at_end)));
    all = λ instance e at is none. elim (in_more T start instance e at) [
      | inl old ↦ let found = book.all instance e old is (end_before T start instance none) in (found.0, found.1, in_longer running (r ∷ []) found.0 found.1 found.2, found.3)
      | inr last ↦ (length running, r, in_last running r, at_end ∙ sym last.0)
    ];
  }

-- The Book's lists with an instance more.
pub begun : (file : File) (entries roomy more : List declared.Entry) (entry : declared.Entry) (running roomy_running more_running : List Running) (s : StartStep) (r : Running)
    → more ≡ roomy ++ entry ∷ [] → roomy ≡ entries → more_running ≡ roomy_running ++ r ∷ [] → roomy_running ≡ running
    → entry_of entry ≡ start_of s (entries_of entries) → r.start ≡ length (entries_of entries) → r.landed ≡ None
    → Some (standing_of r.instance) ≡ opened_by file.decls (entries_of entries) s
    → ((bytes : List ℕ) → Interleaves bytes file (entries_of entries) → Interleaves bytes file (entries_of entries ++ start_of s (entries_of entries) ∷ []))
    → (IsShort (entries_of entries) → IsShort (entries_of entries ++ start_of s (entries_of entries) ∷ []))
    → IsBook file (entries_of entries) running → IsBook file (entries_of more) more_running
begun file entries roomy more entry running roomy_running more_running s r adds same adds_too same_too is_start at_end new opens longer short book =
    let T = entries_of entries in
    let trace : entries_of more ≡ T ++ start_of s T ∷ [] =
    ap entries_of (adds ∙ ap (λ (es : List declared.Entry). es ++ entry ∷ []) same) ∙ map-append entry_of entries (entry ∷ []) ∙ ap (λ (e : Entry). T ++ e ∷ []) is_start in
    let rows : more_running ≡ running ++ r ∷ [] = adds_too ∙ ap (λ (rs : List Running). rs ++ r ∷ []) same_too in
    subst (λ (X : List Entry). IsBook file X more_running) (sym trace)
    (subst (λ (rs : List Running). IsBook file (T ++ start_of s T ∷ []) rs) (sym rows) (book_with_start T s r at_end new file running opens longer short book))
