-- A Book with one entry more.
use Rattle.std.proofs.Common.{◌≡◌, ℕ, zero, suc, ◌+◌, Bool, true, false, List, [], ◌∷◌, ◌++◌, length, take, Option, Some, None, if◌then◌else◌, ◌⊎◌, inl, inr, refl, ap, sym, ◌∙◌, subst, arith}
use Rattle.std.proofs.lemmas.List.{append-nil, map-append}
use Rattle.std.specs.List.{slice_get}
use Rattle.dy_syntax.specs.Files.{File, Decl}
use Rattle.dy_entry.specs.Entries.{Entry, Setup, Corrupt, Forge, Inject, Skip}
use Rattle.dy_entry.specs.declared.entries.Entry as declared
use Rattle.dy_entry.specs.Meaning.{entry_of, entries_of}
use Rattle.dy_entry.specs.Summaries.{is_start}
use Rattle.dy_eval.specs.Meaning.{standing_of}
use Rattle.dy_eval.specs.Turns.{next_asked}
use Rattle.dy_eval.specs.Starts.{does_after}
use Rattle.dy_traces.specs.Steps.{IsShort}
use Rattle.dy_traces.specs.Instances.{is_item_of, items_of, is_end_of, end_of}
use Rattle.dy_traces.specs.Interleavings.{Interleaves}
use Rattle.dy_core.specs.declared.running.Running.{Running}
use Rattle.dy_core.specs.MirrorBooks.{IsKept, IsBook, IsOfNoInstance}
use Rattle.dy_traces.proofs.Prefixes.{in_longer, in_more, below_length, take_before}
use Rattle.dy_traces.proofs.Searches.{none_passes, none_found, indices_more}

inside : (a b : Entry) → Some a ≡ Some b → a ≡ b
inside a b same = cc

-- what the entry is not
pub no_item : (e : Entry) → IsOfNoInstance e → (instance : ℕ) → is_item_of instance e ≡ false
no_item (Corrupt step corruption) other instance = refl
no_item (Forge step) other instance = refl
no_item (Inject step value) other instance = refl
no_item (Skip step) other instance = refl
no_item e other instance = absurd other

pub no_end : (e : Entry) → IsOfNoInstance e → (instance : ℕ) → is_end_of instance e ≡ false
no_end (Corrupt step corruption) other instance = refl
no_end (Forge step) other instance = refl
no_end (Inject step value) other instance = refl
no_end (Skip step) other instance = refl
no_end e other instance = absurd other

pub no_start : (e : Entry) → IsOfNoInstance e → is_start e ≡ false
no_start (Corrupt step corruption) other = refl
no_start (Forge step) other = refl
no_start (Inject step value) other = refl
no_start (Skip step) other = refl
no_start e other = absurd other

module _ (T : List Entry) (e : Entry) where
  pub items_same : (instance : ℕ) → is_item_of instance e ≡ false → items_of (T ++ e ∷ []) instance ≡ items_of T instance
  items_same instance other =
      indices_more (is_item_of instance) 0 T (e ∷ [])
      ∙ ap (λ (b : Bool). items_of T instance ++ (if b then (0 + length T) ∷ [] else [])) other
      ∙ append-nil (items_of T instance)

  pub end_same : (instance : ℕ) → is_end_of instance e ≡ false → end_of T instance ≡ None → end_of (T ++ e ∷ []) instance ≡ None
  end_same instance other none = none_found (is_end_of instance) (T ++ e ∷ []) fails where
    fails : (k : ℕ) (x : Entry) → slice_get (T ++ e ∷ []) k ≡ Some x → is_end_of instance x ≡ false
    fails k x at = elim (in_more T e k x at) [
      | inl old ↦ none_passes (is_end_of instance) T none k x old
      | inr new ↦ ap (is_end_of instance) new.1 ∙ other
    ]

  pub end_before : (instance : ℕ) → end_of (T ++ e ∷ []) instance ≡ None → end_of T instance ≡ None
  end_before instance none = none_found (is_end_of instance) T (λ k x at. none_passes (is_end_of instance) (T ++ e ∷ []) none k x (in_longer T (e ∷ []) k x at))

  -- An instance that the entry is not of stays as it is kept.
  pub kept_longer : (decls : List Decl) (r : Running) → is_item_of r.start e ≡ false → is_end_of r.start e ≡ false → IsKept decls T r → IsKept decls (T ++ e ∷ []) r
  kept_longer decls r no_item no_end kept =
      let below = below_length T r.start kept.start kept.stands in
      let sees : take r.start (T ++ e ∷ []) ≡ take r.start T = take_before T (e ∷ []) r.start (omega (arith, below)) in
      record {
        start = kept.start;
        stands = in_longer T (e ∷ []) r.start kept.start kept.stands;
        goes_on = end_same r.start no_end kept.goes_on;
        asked = kept.asked;
        does = subst (λ (X : List Entry). does_after decls X kept.start (items_of (T ++ e ∷ []) r.start) ≡ Some (next_asked X (standing_of r.instance) r.landed)) (sym sees)
            (subst (λ (indices : List ℕ). does_after decls (take r.start T) kept.start indices ≡ Some (next_asked (take r.start T) (standing_of r.instance) r.landed)) (sym (items_same r.start no_item)) kept.does);
      }

  -- A Book with an entry more that is of no instance.
  pub book_with_other : (file : File) (running : List Running) → IsOfNoInstance e
      → ((bytes : List ℕ) → Interleaves bytes file T → Interleaves bytes file (T ++ e ∷ [])) → (IsShort T → IsShort (T ++ e ∷ []))
      → IsBook file T running → IsBook file (T ++ e ∷ []) running
  book_with_other file running other longer short book = record {
    bytes = book.bytes;
    interleaves = longer book.bytes book.interleaves;
    short = short book.short;
    kept = λ k r at. kept_longer file.decls r (no_item e other r.start) (no_end e other r.start) (book.kept k r at);
    once = book.once;
    all = λ instance start at is_one none. still instance start is_one none (in_more T e instance start at);
  } where
    still : (instance : ℕ) (start : Entry) → is_start start ≡ true → end_of (T ++ e ∷ []) instance ≡ None
        → (slice_get T instance ≡ Some start) ⊎ ((instance ≡ length T) × (start ≡ e)) → (k : ℕ) × (r : Running) × (slice_get running k ≡ Some r) × (r.start ≡ instance)
    still instance start is_one none (inl old) = book.all instance start old is_one (end_before instance none)
    still instance start is_one none (inr new) = let none_is = no_start e other in let is : is_start e ≡ true = ap is_start (sym new.1) ∙ is_one in absurd cc

-- A Book of the Setup alone.
pub opening_book : (bytes : List ℕ) (file : File) (T : List Entry) (running : List Running) → T ≡ Setup bytes ∷ [] → running ≡ []
    → Interleaves bytes file (Setup bytes ∷ []) → IsShort (Setup bytes ∷ []) → IsBook file T running
opening_book bytes file T running opens none interleaves short =
    subst (λ (X : List Entry). IsBook file X running) (sym opens) (subst (λ (rs : List Running). IsBook file (Setup bytes ∷ []) rs) (sym none) (record {
      bytes = bytes;
      interleaves = interleaves;
      short = short;
      kept = λ k r at. absurd cc;
      once = λ j k r s at other same. absurd cc;
      all = no_start_in bytes;
    })) where
      no_start_in : (b : List ℕ) (instance : ℕ) (start : Entry) → slice_get (Setup b ∷ []) instance ≡ Some start → is_start start ≡ true
          → end_of (Setup b ∷ []) instance ≡ None → (k : ℕ) × (r : Running) × (slice_get {X = Running} [] k ≡ Some r) × (r.start ≡ instance)
      no_start_in b zero start at is_one none = let same : is_start (Setup b) ≡ is_start start = ap is_start (inside (Setup b) start at) in absurd cc
      no_start_in b (suc k) start at is_one none = absurd cc

-- A Book to which an entry was added, or was not.
pub grown : (file : File) (entries more : List declared.Entry) (entry : declared.Entry) (running : List Running) (b : Bool)
    → more ≡ (if b then entries ++ entry ∷ [] else entries)
    → (IsBook file (entries_of entries) running → IsBook file (entries_of entries ++ entry_of entry ∷ []) running)
    → IsBook file (entries_of entries) running → IsBook file (entries_of more) running
grown file entries more entry running true is longer book =
    subst (λ (X : List Entry). IsBook file X running) (sym (ap entries_of is ∙ map-append entry_of entries (entry ∷ []))) (longer book)
grown file entries more entry running false is longer book = subst (λ (es : List declared.Entry). IsBook file (entries_of es) running) (sym is) book

-- An interleaving to which an entry was added, or was not.
pub grown_interleaving : (bytes : List ℕ) (file : File) (entries more : List declared.Entry) (entry : declared.Entry) (b : Bool)
    → more ≡ (if b then entries ++ entry ∷ [] else entries)
    → Interleaves bytes file (entries_of entries ++ entry_of entry ∷ []) → Interleaves bytes file (entries_of entries) → Interleaves bytes file (entries_of more)
grown_interleaving bytes file entries more entry true is longer same =
    subst (λ (X : List Entry). Interleaves bytes file X) (sym (ap entries_of is ∙ map-append entry_of entries (entry ∷ []))) longer
grown_interleaving bytes file entries more entry false is longer same = subst (λ (es : List declared.Entry). Interleaves bytes file (entries_of es)) (sym is) same

pub none_of : (o : Option ℕ) → ((x : ℕ) → o ≡ Some x → ⊥) → o ≡ None
none_of None other = refl
none_of (Some x) other = absurd (other x refl)
