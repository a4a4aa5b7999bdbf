-- A Book whose instance took a step.
use Rattle.std.proofs.Common.{◌≡◌, ℕ, ◌+◌, Bool, true, false, ◌==◌, List, [], ◌∷◌, ◌++◌, length, take, Option, Some, None, if◌then◌else◌, ◌⊎◌, inl, inr, refl, ap, sym, ◌∙◌, subst, arith}
use Rattle.std.proofs.lemmas.Bool.{eq-eqb, ne_eqb, eqb-true}
use Rattle.std.specs.Option.{option_map, option_and_then, is_some}
use Rattle.std.specs.List.{slice_get, slice_index_or, position, remove}
use Rattle.dy_label.specs.declared.usages.Outcome.{Outcome}
use Rattle.dy_syntax.specs.Statements as statements
use Rattle.dy_syntax.specs.Files.{File, Decl}
use Rattle.dy_syntax.specs.LookUps.{handler_named}
use Rattle.dy_entry.specs.Entries.{Entry, Start, Fresh, Message, State, Event, Cert, End}
use Rattle.dy_entry.specs.Summaries.{is_start}
use Rattle.dy_eval.specs.declared.items.Item.{Item}
use Rattle.dy_eval.specs.declared.items.Item.TheVariants as items
use Rattle.dy_eval.specs.Meaning.{standing_of}
use Rattle.dy_eval.specs.Runs.{Left, Next, Puts, Ends, next_of, tell, step, does, Standing, Goes, Awaits, Ended}
use Rattle.dy_eval.specs.Turns.{IsAsked, next_asked}
use Rattle.dy_eval.specs.Starts.{opening, message_in, does_after}
use Rattle.dy_traces.specs.Steps.{IsShort, has_step}
use Rattle.dy_traces.specs.Instances.{is_item_of, items_of, is_end_of, end_of, entry_for, entry_of_next, does_next, entry_next, next_entry}
use Rattle.dy_traces.specs.Following.{MayFollow}
use Rattle.dy_traces.specs.Interleavings.{Interleaves}
use Rattle.dy_core.specs.declared.running.Running.{Running}
use Rattle.dy_core.specs.MirrorBooks.{IsKept, IsBook, HasEachOnce, next_of_kept, item_entry}
use Rattle.dy_traces.proofs.Prefixes.{in_longer, in_last, in_more, in_order, below_length, take_before}
use Rattle.dy_traces.proofs.Searches.{none_passes, found_passes, indices_more}
use Rattle.dy_core.proofs.Longer.{end_same, end_before, kept_longer}
use Rattle.dy_core.proofs.Beginning.{once_more}
use Rattle.dy_core.proofs.Removed.{stood_before, stands_still, read_at, once_removed, others_left, index_before}

inside : {A : Type 0} (a b : A) → Some a ≡ Some b → a ≡ b
inside a b same = cc

pub IsAsked-prop : (standing : Standing) (landed : Option ℕ) → IsProp (IsAsked standing landed)
IsAsked-prop (Goes left) None = λ x y. refl
IsAsked-prop (Goes left) (Some index) = λ x y. absurd x
IsAsked-prop (Awaits binds left) None = λ x y. absurd x
IsAsked-prop (Awaits binds left) (Some index) = λ x y. refl
IsAsked-prop (Ended outcome) None = λ x y. absurd x
IsAsked-prop (Ended outcome) (Some index) = λ x y. absurd x

pub none_two : IsProp ⊥
none_two x y = absurd x

-- what is found among those that are kept
pub place_holds : (running : List Running) (at instance : ℕ) (old : Running) → position (λ (kept : Running). kept.start == instance) running ≡ Some at
    → old ≡ slice_index_or running at old → (slice_get running at ≡ Some old) × (old.start ≡ instance)
place_holds running at instance old some is =
    let found = found_passes (λ (kept : Running). kept.start == instance) running at some in
    let same : found.0 ≡ old = sym (is ∙ read_at running at found.0 old found.1) in
    (found.1 ∙ ap Some same, ap (λ (r : Running). r.start) (sym same) ∙ eqb-true found.0.start instance found.2)

-- what an item's entry is
item_is : (m n : ℕ) (p : List ℕ) (s : ℕ) (item : Item) → is_item_of m (entry_for n p s item) ≡ (n == m)
item_is m n p s (items.Fresh label usage) = refl
item_is m n p s (items.Message value) = refl
item_is m n p s (items.State version tag fields) = refl
item_is m n p s (items.Event name args) = refl
item_is m n p s (items.Cert usage key) = refl

item_no_end : (m n : ℕ) (p : List ℕ) (s : ℕ) (item : Item) → is_end_of m (entry_for n p s item) ≡ false
item_no_end m n p s (items.Fresh label usage) = refl
item_no_end m n p s (items.Message value) = refl
item_no_end m n p s (items.State version tag fields) = refl
item_no_end m n p s (items.Event name args) = refl
item_no_end m n p s (items.Cert usage key) = refl

item_no_start : (n : ℕ) (p : List ℕ) (s : ℕ) (item : Item) → is_start (entry_for n p s item) ≡ false
item_no_start n p s (items.Fresh label usage) = refl
item_no_start n p s (items.Message value) = refl
item_no_start n p s (items.State version tag fields) = refl
item_no_start n p s (items.Event name args) = refl
item_no_start n p s (items.Cert usage key) = refl

item_no_step : (m n : ℕ) (p : List ℕ) (s : ℕ) (item : Item) → has_step m (entry_for n p s item) ≡ false
item_no_step m n p s (items.Fresh label usage) = refl
item_no_step m n p s (items.Message value) = refl
item_no_step m n p s (items.State version tag fields) = refl
item_no_step m n p s (items.Event name args) = refl
item_no_step m n p s (items.Cert usage key) = refl

-- The entry is that of an item of this instance.
pub record IsItemEntry (n : ℕ) (e : Entry) : Type 0 where
  pub own : (m : ℕ) → is_item_of m e ≡ (n == m)
  pub no_end : (m : ℕ) → is_end_of m e ≡ false
  pub no_start : is_start e ≡ false
  pub no_step : (m : ℕ) → has_step m e ≡ false

item_facts : (n : ℕ) (item : Item) (start e : Entry) → item_entry n item start ≡ Some e → IsItemEntry n e
item_facts n item (Start step handler p s args message) e is =
    subst (λ (f : Entry). IsItemEntry n f) (inside (entry_for n p s item) e is)
    (record { own = λ m. item_is m n p s item; no_end = λ m. item_no_end m n p s item; no_start = item_no_start n p s item; no_step = λ m. item_no_step m n p s item })
item_facts n item start e is = absurd cc

found_entry : (n : ℕ) (item : Item) (found : Option Entry) (e : Entry) → Some e ≡ option_and_then (item_entry n item) found → (start : Entry) × (found ≡ Some start) × (item_entry n item start ≡ Some e)
found_entry n item None e is = absurd cc
found_entry n item (Some start) e is = (start, refl, sym is)

-- an item that is put
pub item_put : (n : ℕ) (item : Item) (found : Option Entry) (e : Entry) → Some e ≡ option_and_then (item_entry n item) found → IsItemEntry n e
item_put n item found e is = let at = found_entry n item found e is in item_facts n item at.0 e at.2

item_next : (n : ℕ) (item : Item) (binds : Option (List ℕ)) (left : Left) (start : Entry) → item_entry n item start ≡ entry_of_next n start (Puts item binds left)
item_next n item binds left (Start step handler p s args message) = refl
item_next n item binds left e = refl

-- what an instance puts next may follow
may_next : (decls : List Decl) (T : List Entry) (n : ℕ) (start : Entry) (next : Next) (e : Entry) → entry_of_next n start next ≡ Some e → next_entry decls T n ≡ Some e → MayFollow decls T e
may_next decls T n (Start step handler p s args message) (Puts (items.Fresh label usage) binds left) e is follows =
    subst (λ (f : Entry). next_entry decls T n ≡ Some f → MayFollow decls T f) (inside (Fresh n label usage) e is) (λ h. h) follows
may_next decls T n (Start step handler p s args message) (Puts (items.Message value) binds left) e is follows =
    subst (λ (f : Entry). next_entry decls T n ≡ Some f → MayFollow decls T f) (inside (Message n value) e is) (λ h. h) follows
may_next decls T n (Start step handler p s args message) (Puts (items.State version tag fields) binds left) e is follows =
    subst (λ (f : Entry). next_entry decls T n ≡ Some f → MayFollow decls T f) (inside (State n p s version tag fields) e is) (λ h. h) follows
may_next decls T n (Start step handler p s args message) (Puts (items.Event name terms) binds left) e is follows =
    subst (λ (f : Entry). next_entry decls T n ≡ Some f → MayFollow decls T f) (inside (Event n p name terms) e is) (λ h. h) follows
may_next decls T n (Start step handler p s args message) (Puts (items.Cert usage key) binds left) e is follows =
    subst (λ (f : Entry). next_entry decls T n ≡ Some f → MayFollow decls T f) (inside (Cert n p usage key) e is) (λ h. h) follows
may_next decls T n (Start step handler p s args message) (Ends outcome) e is follows =
    subst (λ (f : Entry). next_entry decls T n ≡ Some f → MayFollow decls T f) (inside (End n outcome) e is) (λ h. h) follows
may_next decls T n start next e is follows = absurd cc

followed_by : (o : Option ℕ) (found : Option Entry) (entry : Entry → Option Entry) (start e : Entry) → o ≡ None → found ≡ Some start → entry start ≡ Some e
    → (if is_some o then None else option_and_then entry found) ≡ Some e
followed_by (Some k) found entry start e none at is = absurd cc
followed_by None None entry start e none at is = absurd cc
followed_by None (Some other) entry start e none at is = ap entry (inside other start at) ∙ is

next_from : (o : Option ℕ) (found : Option Entry) (follows : Entry → Option Entry) (e : Entry)
    → (if is_some o then None else option_and_then follows found) ≡ Some e → (start : Entry) × (follows start ≡ Some e)
next_from (Some k) found follows e is = absurd cc
next_from None None follows e is = absurd cc
next_from None (Some start) follows e is = (start, is)

does_from : (o : Option Next) (entry : Next → Option Entry) (e : Entry) → option_and_then entry o ≡ Some e → (next : Next) × (entry next ≡ Some e)
does_from None entry e is = absurd cc
does_from (Some next) entry e is = (next, is)

-- What an instance puts next may follow.
pub next_follows : (decls : List Decl) (T : List Entry) (n : ℕ) (e : Entry) → next_entry decls T n ≡ Some e → MayFollow decls T e
next_follows decls T n e is =
    let start = next_from (end_of T n) (slice_get T n) (entry_next decls T n) e is in
    let next = does_from (does_next decls T n start.0) (entry_of_next n start.0) e start.1 in
    may_next decls T n start.0 next.0 e next.1 is

kept_next : (decls : List Decl) (T : List Entry) (old : Running) (kept : IsKept decls T old) (e : Entry) → entry_of_next old.start kept.start (next_of_kept T old) ≡ Some e → next_entry decls T old.start ≡ Some e
kept_next decls T old kept e is =
    followed_by (end_of T old.start) (slice_get T old.start) (entry_next decls T old.start) kept.start e kept.goes_on kept.stands
    (ap (λ (o : Option Next). option_and_then (entry_of_next old.start kept.start) o) kept.does ∙ is)

-- the Start of an instance that does something
starts_instance : (decls : List Decl) (X : List Entry) (start : Entry) (indices : List ℕ) (next : Next) → does_after decls X start indices ≡ Some next → is_start start ≡ true
starts_instance decls X (Start step handler p s args message) indices next is = refl
starts_instance decls X start indices next is = absurd cc

ends_entry : (n : ℕ) (outcome : Outcome) (start : Entry) → is_start start ≡ true → entry_of_next n start (Ends outcome) ≡ Some (End n outcome)
ends_entry n outcome (Start step handler p s args message) is = refl
ends_entry n outcome start is = absurd cc

-- One index more is one step more, as a law says.
abbrev pub StepsMore : Type 0
StepsMore = (X : List Entry) (left : Left) (indices : List ℕ) (index : ℕ) → does X left (indices ++ index ∷ []) ≡ step X (does X left indices) index

one_step : (more : StepsMore) (decls : List Decl) (X : List Entry) (start : Entry) (indices : List ℕ) (index : ℕ) (item : Item) (binds : Option (List ℕ)) (left : Left)
    → does_after decls X start indices ≡ Some (Puts item binds left) → does_after decls X start (indices ++ index ∷ []) ≡ Some (next_of X (tell index binds left))
one_step more decls X (Start steps handler p s args message) indices index item binds left is = by_handler (handler_named decls handler) is where
  opens : statements.Handler → Left
  opens h = opening decls h p s args (option_and_then (λ (i : ℕ). option_and_then message_in (slice_get X i)) message)

  by_handler : (o : Option statements.Handler) → option_map (λ (h : statements.Handler). does X (opening decls h p s args (option_and_then (λ (i : ℕ). option_and_then message_in (slice_get X i)) message)) indices) o ≡ Some (Puts item binds left)
      → option_map (λ (h : statements.Handler). does X (opening decls h p s args (option_and_then (λ (i : ℕ). option_and_then message_in (slice_get X i)) message)) (indices ++ index ∷ [])) o ≡ Some (next_of X (tell index binds left))
  by_handler None same = absurd cc
  by_handler (Some h) same =
      let from = opening decls h p s args (option_and_then (λ (i : ℕ). option_and_then message_in (slice_get X i)) message) in
      ap Some (more X from indices index ∙ ap (λ (n : Next). step X n index) (inside (does X from indices) (Puts item binds left) same))
one_step more decls X start indices index item binds left is = absurd cc

module _ (file : File) (T : List Entry) (running : List Running) (at : ℕ) (old : Running) (is : slice_get running at ≡ Some old) where
  others : IsBook file T running → (k : ℕ) (x : Running) → slice_get (remove running at) k ≡ Some x → x.start ≡ old.start → ⊥
  others book = others_left running at book.once old is

  was_kept : IsBook file T running → (k : ℕ) (x : Running) → slice_get (remove running at) k ≡ Some x → IsKept file.decls T x
  was_kept book k x stands = book.kept (index_before at k) x (stood_before running at k x stands)

  -- an instance that is kept is the one that took the step, or still kept
  still_kept : (k : ℕ) (x : Running) → slice_get running k ≡ Some x → (x ≡ old) ⊎ ((m : ℕ) × (slice_get (remove running at) m ≡ Some x))
  still_kept k x stands = elim (in_order k at) [
    | inl less ↦ inr (stands_still running at k x (λ same. omega (arith, less, same)) stands)
    | inr (inl same) ↦ inl (inside x old (sym stands ∙ ap (slice_get running) same ∙ is))
    | inr (inr more) ↦ inr (stands_still running at k x (λ same. omega (arith, more, same)) stands)
  ]

  end_put : (outcome : Outcome) → next_of_kept T old ≡ Ends outcome → (book : IsBook file T running) → entry_of_next old.start (book.kept at old is).start (next_of_kept T old) ≡ Some (End old.start outcome)
  end_put outcome ends book =
      let kept = book.kept at old is in
      let starts = starts_instance file.decls (take old.start T) kept.start (items_of T old.start) (next_of_kept T old) kept.does in
      ap (entry_of_next old.start kept.start) ends ∙ ends_entry old.start outcome kept.start starts

  -- The End is what the instance puts next.
  pub end_next : (outcome : Outcome) → next_of_kept T old ≡ Ends outcome → IsBook file T running → next_entry file.decls T old.start ≡ Some (End old.start outcome)
  end_next outcome ends book = kept_next file.decls T old (book.kept at old is) (End old.start outcome) (end_put outcome ends book)

  -- A Book whose instance ended.
  pub book_with_end : (outcome : Outcome) → next_of_kept T old ≡ Ends outcome
      → ((bytes : List ℕ) → Interleaves bytes file T → MayFollow file.decls T (End old.start outcome) → Interleaves bytes file (T ++ End old.start outcome ∷ []))
      → (IsShort T → IsShort (T ++ End old.start outcome ∷ []))
      → IsBook file T running → IsBook file (T ++ End old.start outcome ∷ []) (remove running at)
  book_with_end outcome ends longer short book =
      let e = End old.start outcome in
      record {
        bytes = book.bytes;
        interleaves = longer book.bytes book.interleaves (next_follows file.decls T old.start e (end_next outcome ends book));
        short = short book.short;
        kept = λ k x stands. kept_longer T e file.decls x refl (ne_eqb old.start x.start (λ same. others book k x stands (sym same))) (was_kept book k x stands);
        once = once_removed running at book.once;
        all = λ instance start stands starts none. left_over book outcome instance start starts none (in_more T e instance start stands);
      } where
        left_over : IsBook file T running → (outcome : Outcome) (instance : ℕ) (start : Entry) → is_start start ≡ true → end_of (T ++ End old.start outcome ∷ []) instance ≡ None
            → (slice_get T instance ≡ Some start) ⊎ ((instance ≡ length T) × (start ≡ End old.start outcome))
            → (k : ℕ) × (r : Running) × (slice_get (remove running at) k ≡ Some r) × (r.start ≡ instance)
        left_over book outcome instance start starts none (inl before) =
            let e = End old.start outcome in
            let found = book.all instance start before starts (end_before T e instance none) in
            elim (still_kept found.0 found.1 found.2) [
              | inl same ↦
                  let own : old.start ≡ instance = ap (λ (r : Running). r.start) (sym same) ∙ found.3 in
                  let ended : (old.start == instance) ≡ true = eq-eqb old.start instance own in
                  let goes_on : (old.start == instance) ≡ false = none_passes (is_end_of instance) (T ++ e ∷ []) none (length T) e (in_last T e) in
                  absurd cc
              | inr left ↦ (left.0, found.1, left.1, found.3)
            ]
        left_over book outcome instance start starts none (inr new) = let never : false ≡ true = sym (ap is_start new.1) ∙ starts in absurd cc

  module _ (r : Running) (same : r.start ≡ old.start) where
    back_once : IsBook file T running → HasEachOnce (remove running at ++ r ∷ [])
    back_once book = once_more (remove running at) r (once_removed running at book.once) (λ k x stands equal. others book k x stands (equal ∙ same))

    back_found : (instance : ℕ) → ((k : ℕ) × (x : Running) × (slice_get running k ≡ Some x) × (x.start ≡ instance))
        → (k : ℕ) × (x : Running) × (slice_get (remove running at ++ r ∷ []) k ≡ Some x) × (x.start ≡ instance)
    back_found instance found = elim (still_kept found.0 found.1 found.2) [
      | inl own ↦ (length (remove running at), r, in_last (remove running at) r, same ∙ ap (λ (x : Running). x.start) (sym own) ∙ found.3)
      | inr left ↦ (left.0, found.1, in_longer (remove running at) (r ∷ []) left.0 found.1 left.1, found.3)
    ]

    -- A Book whose instance is put back as it was.
    pub book_as_before : r.landed ≡ old.landed → standing_of r.instance ≡ standing_of old.instance → IsBook file T running → IsBook file T (remove running at ++ r ∷ [])
    book_as_before landed stands book =
        let kept = book.kept at old is in
        record {
          bytes = book.bytes;
          interleaves = book.interleaves;
          short = book.short;
          kept = λ k x stood. elim (in_more (remove running at) r k x stood) [
            | inl before ↦ was_kept book k x before
            | inr last ↦ subst (λ (y : Running). IsKept file.decls T y) (sym last.1) (record {
              start = kept.start;
              stands = ap (slice_get T) same ∙ kept.stands;
              goes_on = ap (end_of T) same ∙ kept.goes_on;
              asked = subst (λ (standing : Standing). IsAsked standing r.landed) (sym stands) (subst (λ (l : Option ℕ). IsAsked (standing_of old.instance) l) (sym landed) kept.asked);
              does = ap (λ (n : ℕ). does_next file.decls T n kept.start) same ∙ kept.does
                  ∙ ap (λ (n : ℕ). Some (next_asked (take n T) (standing_of old.instance) old.landed)) (sym same)
                  ∙ ap (λ (standing : Standing). Some (next_asked (take r.start T) standing old.landed)) (sym stands)
                  ∙ ap (λ (l : Option ℕ). Some (next_asked (take r.start T) (standing_of r.instance) l)) (sym landed);
            })
          ];
          once = back_once book;
          all = λ instance start stood starts none. back_found instance (book.all instance start stood starts none);
        }

    -- A Book whose instance put an item.
    module _ (more : StepsMore) (e : Entry) (item : Item) (binds : Option (List ℕ)) (left : Left) (puts : next_of_kept T old ≡ Puts item binds left)
        (put : Some e ≡ option_and_then (item_entry old.start item) (slice_get T old.start)) where
      entry_is : (kept : IsKept file.decls T old) → item_entry old.start item kept.start ≡ Some e
      entry_is kept =
          let found = found_entry old.start item (slice_get T old.start) e put in
          let same_start : kept.start ≡ found.0 = inside kept.start found.0 (sym kept.stands ∙ found.1) in
          ap (item_entry old.start item) same_start ∙ found.2

      put_kept : r.landed ≡ Some (length T) → standing_of r.instance ≡ Awaits binds left → (kept : IsKept file.decls T old) → IsKept file.decls (T ++ e ∷ []) r
      put_kept landed stands kept =
          let decls = file.decls in
          let n = old.start in
          let longer = T ++ e ∷ [] in
          let X = take n T in
          let facts = item_facts n item kept.start e (entry_is kept) in
          let own : is_item_of n e ≡ true = facts.own n ∙ eq-eqb n n refl in
          let at_end : 0 + length T ≡ length T = omega arith in
          let items_are : items_of longer n ≡ items_of T n ++ length T ∷ [] =
          indices_more (is_item_of n) 0 T (e ∷ []) ∙ ap (λ (b : Bool). items_of T n ++ (if b then (0 + length T) ∷ [] else [])) own
          ∙ ap (λ (m : ℕ). items_of T n ++ m ∷ []) at_end in
          let below = below_length T n kept.start kept.stands in
          let sees : take n longer ≡ X = take_before T (e ∷ []) n (omega (arith, below)) in
          let comes : does_after decls X kept.start (items_of T n) ≡ Some (Puts item binds left) = kept.does ∙ ap Some puts in
          let stepped : does_after decls X kept.start (items_of T n ++ length T ∷ []) ≡ Some (next_of X (tell (length T) binds left)) =
          one_step more decls X kept.start (items_of T n) (length T) item binds left comes in
          let asks : next_of X (tell (length T) binds left) ≡ next_asked X (standing_of r.instance) r.landed =
          ap (λ (l : Option ℕ). next_asked X (Awaits binds left) l) (sym landed) ∙ ap (λ (standing : Standing). next_asked X standing r.landed) (sym stands) in
          let does_then : does_after decls X kept.start (items_of longer n) ≡ Some (next_asked X (standing_of r.instance) r.landed) =
          ap (does_after decls X kept.start) items_are ∙ stepped ∙ ap Some asks in
          record {
            start = kept.start;
            stands = ap (slice_get longer) same ∙ in_longer T (e ∷ []) n kept.start kept.stands;
            goes_on = ap (end_of longer) same ∙ end_same T e n (facts.no_end n) kept.goes_on;
            asked = subst (λ (standing : Standing). IsAsked standing r.landed) (sym stands) (subst (λ (l : Option ℕ). IsAsked (Awaits binds left) l) (sym landed) tt);
            does = subst (λ (m : ℕ). does_after decls (take m longer) kept.start (items_of longer m) ≡ Some (next_asked (take m longer) (standing_of r.instance) r.landed)) (sym same)
                (subst (λ (Y : List Entry). does_after decls Y kept.start (items_of longer n) ≡ Some (next_asked Y (standing_of r.instance) r.landed)) (sym sees) does_then);
          }

      -- The item is what the instance puts next.
      pub put_next : IsBook file T running → next_entry file.decls T old.start ≡ Some e
      put_next book =
          let kept = book.kept at old is in
          kept_next file.decls T old kept e
          (ap (entry_of_next old.start kept.start) puts ∙ sym (item_next old.start item binds left kept.start) ∙ entry_is kept)

      pub book_with_put : r.landed ≡ Some (length T) → standing_of r.instance ≡ Awaits binds left
          → ((bytes : List ℕ) → Interleaves bytes file T → MayFollow file.decls T e → Interleaves bytes file (T ++ e ∷ [])) → (IsShort T → IsShort (T ++ e ∷ []))
          → IsBook file T running → IsBook file (T ++ e ∷ []) (remove running at ++ r ∷ [])
      book_with_put landed stands longer short book =
          let kept = book.kept at old is in
          let facts = item_facts old.start item kept.start e (entry_is kept) in
          record {
            bytes = book.bytes;
            interleaves = longer book.bytes book.interleaves (next_follows file.decls T old.start e (put_next book));
            short = short book.short;
            kept = λ k x stood. elim (in_more (remove running at) r k x stood) [
              | inl before ↦ kept_longer T e file.decls x (facts.own x.start ∙ ne_eqb old.start x.start (λ equal. others book k x before (sym equal))) (facts.no_end x.start) (was_kept book k x before)
              | inr last ↦ subst (λ (y : Running). IsKept file.decls (T ++ e ∷ []) y) (sym last.1) (put_kept landed stands kept)
            ];
            once = back_once book;
            all = λ instance start stood starts none. elim (in_more T e instance start stood) [
              | inl before ↦ back_found instance (book.all instance start before starts (end_before T e instance none))
              | inr new ↦ let never : false ≡ true = sym facts.no_start ∙ ap is_start (sym new.1) ∙ starts in absurd cc
            ];
          }
