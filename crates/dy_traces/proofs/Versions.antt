-- In an interleaving each version of a session's state stands once, and its number is no greater than its index.
use Rattle.std.proofs.Common.{◌≡◌, ℕ, zero, suc, ◌+◌, ◌<◌, ◌≤◌, Bool, true, false, ◌&&◌, ◌==◌, max, List, [], ◌∷◌, ◌++◌, length, take, drop, Option, Some, None, if◌then◌else◌, ◌⊎◌, inl, inr, refl, ap, sym, ◌∙◌, subst, arith}
use Rattle.std.specs.Option.{option_map, option_and_then, is_some}
use Rattle.std.specs.List.{slice_get}
use Rattle.std.specs.Str.{bytes_eq}
use Rattle.std.proofs.lemmas.Slice.Eq.{bytes_eq-Decides}
use Rattle.std.proofs.lemmas.Bool.{eq-eqb}
use Rattle.std.proofs.lemmas.List.{length-take-le}
use Rattle.dy_term.specs.Terms.{Term}
use Rattle.dy_label.specs.declared.usages.Outcome.TheVariants.{Done}
use Rattle.dy_syntax.specs.Statements as statements
use Rattle.dy_syntax.specs.Statements.{OnPart}
use Rattle.dy_syntax.specs.Files.{File, Decl}
use Rattle.dy_syntax.specs.LookUps.{handler_named}
use Rattle.dy_entry.specs.Entries.{Entry, Start, State}
use Rattle.dy_entry.specs.LookUps.{version_in, newest}
use Rattle.dy_eval.specs.declared.items.Item.TheVariants as items
use Rattle.dy_eval.specs.Past.{HasEachVersionOnce}
use Rattle.dy_eval.specs.Runs.{Next, Puts, Ends, does}
use Rattle.dy_eval.specs.Starts.{opening, message_in, does_after}
use Rattle.dy_traces.specs.Instances.{is_item_of, items_of, indices_from, is_end_of, end_of, entry_of_next, entry_next}
use Rattle.dy_traces.specs.Following.{MayFollow, MayBeIn, MayStart}
use Rattle.dy_traces.specs.Interleavings.{Interleaves}
use Rattle.dy_traces.proofs.Prefixes.{in_prefix, stands_in_prefix, below_length, take_within, around, take_next, take_everything, stands_at, in_order, at_most}
use Rattle.dy_traces.proofs.Searches.{none_in_shorter, indices_more}
use Rattle.dy_traces.proofs.Stores.{lines_store_last}
use Rattle.dy_traces.proofs.Doing.{IsFineNext, IsLastPut, fine_does, done_after}

inside : {A : Type 0} (a b : A) → Some a ≡ Some b → a ≡ b
inside a b same = cc

-- An instance puts a State of this principal, session and version at an index, as its last item.
record PutsState (decls : List Decl) (T : List Entry) (i instance : ℕ) (principal : List ℕ) (session version : ℕ) : Type 0 where
  step : ℕ
  handler : List ℕ
  args : List (List ℕ)
  message : Option ℕ
  start_at : slice_get T instance ≡ Some (Start step handler principal session args message)
  before : instance < i
  goes_on : end_of (take i T) instance ≡ None
  version_is : version ≡ newest (take instance T) principal session + 1
  next : Next
  comes : does_after decls (take instance T) (Start step handler principal session args message) (items_of (take i T) instance) ≡ Some next
  last : IsLastPut (take instance T) next

-- what comes of an item that is a State
record IsStateOf (X : List Entry) (instance other : ℕ) (p q : List ℕ) (s t version : ℕ) (next : Next) : Type 0 where
  same_principal : p ≡ q
  same_session : s ≡ t
  version_is : version ≡ newest X p s + 1
  last : IsLastPut X next

state_of_next : (X : List Entry) (instance other : ℕ) (step : ℕ) (handler p q : List ℕ) (s t version : ℕ) (args : List (List ℕ)) (message : Option ℕ) (tag : List ℕ) (fields : List Term) (next : Next)
    → IsFineNext X p s next → entry_of_next instance (Start step handler p s args message) next ≡ Some (State other q t version tag fields) → IsStateOf X instance other p q s t version next
state_of_next X instance other step handler p q s t version args message tag fields (Ends outcome) fine is = absurd cc
state_of_next X instance other step handler p q s t version args message tag fields (Puts (items.State number mark contents) binds left) fine is =
    let same : version ≡ number = cc in
    record { same_principal = cc; same_session = cc; version_is = same ∙ fine.0.0; last = fine.0.1 }
state_of_next X instance other step handler p q s t version args message tag fields (Puts (items.Fresh label usage) binds left) fine is = absurd cc
state_of_next X instance other step handler p q s t version args message tag fields (Puts (items.Message value) binds left) fine is = absurd cc
state_of_next X instance other step handler p q s t version args message tag fields (Puts (items.Event name terms) binds left) fine is = absurd cc
state_of_next X instance other step handler p q s t version args message tag fields (Puts (items.Cert usage key) binds left) fine is = absurd cc

-- what a trace says of an entry that an instance puts next
next_is : (o : Option ℕ) (found : Option Entry) (follows : Entry → Option Entry) (e : Entry)
    → (if is_some o then None else option_and_then follows found) ≡ Some e → (start : Entry) × (o ≡ None) × (found ≡ Some start) × (follows start ≡ Some e)
next_is (Some k) found follows e is = absurd cc
next_is None None follows e is = absurd cc
next_is None (Some start) follows e is = (start, refl, refl, is)

declared_is : (o : Option statements.Handler) (does : statements.Handler → Next) (follows : Next → Option Entry) (e : Entry)
    → option_and_then follows (option_map does o) ≡ Some e → (h : statements.Handler) × (o ≡ Some h) × (follows (does h) ≡ Some e)
declared_is None does follows e is = absurd cc
declared_is (Some h) does follows e is = (h, refl, is)

-- a State stands among the versions that are seen
same_place : (p : List ℕ) (s : ℕ) → (bytes_eq p p && (s == s)) ≡ true
same_place p s = let one = (bytes_eq-Decides p p).1 refl in let other = eq-eqb s s refl in cc

stored_is_seen : (X : List Entry) (k a : ℕ) (p : List ℕ) (s version : ℕ) (tag : List ℕ) (fields : List Term) → slice_get X k ≡ Some (State a p s version tag fields) → version ≤ newest X p s
stored_is_seen [] k a p s version tag fields at = absurd cc
stored_is_seen (e ∷ X) zero a p s version tag fields at =
    let own : version_in p s e ≡ version = ap (version_in p s) (inside e (State a p s version tag fields) at) ∙ ap (λ (b : Bool). if b then version else 0) (same_place p s) in
    omega (arith, own)
stored_is_seen (e ∷ X) (suc k) a p s version tag fields at = let later = stored_is_seen X k a p s version tag fields at in omega (arith, later)

newest_more : (T : List Entry) (e : Entry) (p : List ℕ) (s : ℕ) → newest (T ++ e ∷ []) p s ≡ max (version_in p s e) (newest T p s)
newest_more [] e p s = refl
newest_more (x ∷ T) e p s =
    let shorter = newest_more T e p s in
    let turned : (a b c : ℕ) → max a (max b c) ≡ max b (max a c) = λ a b c. omega arith in
    ap (max (version_in p s x)) shorter ∙ turned (version_in p s x) (version_in p s e) (newest T p s)

at_most_own : (b : Bool) (version bound : ℕ) → version ≤ bound → (if b then version else 0) ≤ bound
at_most_own true version bound low = low
at_most_own false version bound low = omega arith

-- an instance stays done after its last item
done_still : (decls : List Decl) (X : List Entry) (step : ℕ) (handler p : List ℕ) (s : ℕ) (args : List (List ℕ)) (message : Option ℕ) (before more : List ℕ) (index : ℕ) (next : Next)
    → does_after decls X (Start step handler p s args message) before ≡ Some next → IsLastPut X next
    → does_after decls X (Start step handler p s args message) (before ++ index ∷ more) ≡ Some (Ends Done)
done_still decls X step handler p s args message before more index next comes last = still (handler_named decls handler) comes where
  still : (o : Option statements.Handler) → option_map (λ (h : statements.Handler). does X (opening decls h p s args (option_and_then (λ (i : ℕ). option_and_then message_in (slice_get X i)) message)) before) o ≡ Some next
      → option_map (λ (h : statements.Handler). does X (opening decls h p s args (option_and_then (λ (i : ℕ). option_and_then message_in (slice_get X i)) message)) (before ++ index ∷ more)) o ≡ Some (Ends Done)
  still None same = absurd cc
  still (Some h) same =
      let left = opening decls h p s args (option_and_then (λ (i : ℕ). option_and_then message_in (slice_get X i)) message) in
      ap Some (done_after X left before more index (subst (λ (n : Next). IsLastPut X n) (sym (inside (does X left before) next same)) last))

module _ (bytes : List ℕ) (file : File) (T : List Entry) (is_one : Interleaves bytes file T) where
  -- the Start of an instance that puts a State
  from_start : (i instance other : ℕ) (q : List ℕ) (t version : ℕ) (tag : List ℕ) (fields : List Term) (start : Entry)
      → slice_get T instance ≡ Some start → instance < i → end_of (take i T) instance ≡ None
      → option_and_then (entry_of_next instance start) (does_after file.decls (take instance T) start (items_of (take i T) instance)) ≡ Some (State other q t version tag fields)
      → PutsState file.decls T i instance q t version
  from_start i instance other q t version tag fields (Start step handler p s args message) at before goes_on is =
      let X = take instance T in
      let indices = items_of (take i T) instance in
      let received = option_and_then (λ (index : ℕ). option_and_then message_in (slice_get X index)) message in
      let found = declared_is (handler_named file.decls handler) (λ (h : statements.Handler). does X (opening file.decls h p s args received) indices)
      (entry_of_next instance (Start step handler p s args message)) (State other q t version tag fields) is in
      let left = opening file.decls found.0 p s args received in
      let next = does X left indices in
      let fine : IsFineNext X p s next = fine_does X left indices (lines_store_last file is_one.well_formed handler found.0 found.1) in
      let facts = state_of_next X instance other step handler p q s t version args message tag fields next fine found.2 in
      let comes : does_after file.decls X (Start step handler p s args message) indices ≡ Some next = ap (λ (o : Option statements.Handler). option_map (λ (h : statements.Handler). does X (opening file.decls h p s args received) indices) o) found.1 in
      subst (λ (r : List ℕ). PutsState file.decls T i instance r t version) facts.same_principal
      (subst (λ (u : ℕ). PutsState file.decls T i instance p u version) facts.same_session
      (record {
        step = step;
        handler = handler;
        args = args;
        message = message;
        start_at = at;
        before = before;
        goes_on = goes_on;
        version_is = facts.version_is;
        next = next;
        comes = comes;
        last = facts.last;
      }))
  from_start i instance other q t version tag fields start at before goes_on is = absurd cc

  state_facts : (i instance : ℕ) (p : List ℕ) (s version : ℕ) (tag : List ℕ) (fields : List Term) → slice_get T i ≡ Some (State instance p s version tag fields) → PutsState file.decls T i instance p s version
  state_facts zero instance p s version tag fields at = let opens = is_one.opens in absurd cc
  state_facts (suc i) instance p s version tag fields at =
      let X = take (suc i) T in
      let follows : MayFollow file.decls X (State instance p s version tag fields) = is_one.follows (suc i) _ (omega arith) at in
      let found = next_is (end_of X instance) (slice_get X instance) (entry_next file.decls X instance) (State instance p s version tag fields) follows in
      let start = found.0 in
      let place = in_prefix T (suc i) instance start found.2 in
      let below = place.0 in
      let sees : take instance X ≡ take instance T = take_within T instance (suc i) (omega (arith, below)) in
      from_start (suc i) instance instance p s version tag fields start place.1 place.0 found.1
      (subst (λ (Y : List Entry). option_and_then (entry_of_next instance start) (does_after file.decls Y start (items_of X instance)) ≡ Some (State instance p s version tag fields)) sees found.3)

  -- of two instances of one session, the first has ended before the second starts
  first_ended : (a b : ℕ) (p : List ℕ) (s : ℕ) (step other_step : ℕ) (handler other_handler : List ℕ) (args other_args : List (List ℕ)) (message other_message : Option ℕ)
      → slice_get T a ≡ Some (Start step handler p s args message) → slice_get T b ≡ Some (Start other_step other_handler p s other_args other_message)
      → a < b → end_of (take b T) a ≡ None → ⊥
  first_ended a b p s step other_step handler other_handler args other_args message other_message at other_at before goes_on =
      second (may b other_step other_handler other_args other_message other_at).declared.on (may b other_step other_handler other_args other_message other_at).session_fits where
        starts_late : (k : ℕ) (st : ℕ) (h : List ℕ) (names : List (List ℕ)) (m : Option ℕ) → slice_get T k ≡ Some (Start st h p s names m) → 0 < k
        starts_late zero st h names m stands = let opens = is_one.opens in absurd cc
        starts_late (suc k) st h names m stands = omega arith

        may : (k : ℕ) (st : ℕ) (h : List ℕ) (names : List (List ℕ)) (m : Option ℕ) → slice_get T k ≡ Some (Start st h p s names m) → MayStart file.decls (take k T) st h p s names m
        may k st h names m stands = is_one.follows k _ (starts_late k st h names m stands) stands

        length_is : (k : ℕ) (e : Entry) → slice_get T k ≡ Some e → length (take k T) ≡ k
        length_is k e stands = let below = below_length T k e stands in length-take-le k T (omega (arith, below))

        opened_before : (on : Option OnPart) → MayBeIn (take a T) on p s → s ≤ a
        opened_before None fits = let is = length_is a _ at in omega (arith, is, fits)
        opened_before (Some on) fits = let place = in_prefix T a s fits.0.start fits.0.stands in let below = place.0 in omega (arith, below)

        second : (on : Option OnPart) → MayBeIn (take b T) on p s → ⊥
        second None fits =
            let is = length_is b _ other_at in
            let low = opened_before (may a step handler args message at).declared.on (may a step handler args message at).session_fits in
            omega (arith, is, fits, low, before)
        second (Some on) fits = fits.1 a (record {
          start = Start step handler p s args message;
          stands = stands_in_prefix T b a _ before at;
          is_start = eq-eqb s s refl;
          goes_on = goes_on;
        })

  -- two States of one version at two indices
  twice : (i j a b : ℕ) (p : List ℕ) (s version : ℕ) (tag : List ℕ) (fields : List Term) → slice_get T i ≡ Some (State a p s version tag fields) → j ≤ length T → i < j
      → PutsState file.decls T i a p s version → PutsState file.decls T j b p s version → ⊥
  twice i j a b p s version tag fields at within before one two = by_order (in_order a b) where
    X : List Entry
    X = take a T

    longer : take j T ≡ take i T ++ State a p s version tag fields ∷ drop (suc i) (take j T)
    longer = around (take j T) i _ (stands_in_prefix T j i _ before at)
        ∙ ap (λ (Y : List Entry). Y ++ State a p s version tag fields ∷ drop (suc i) (take j T)) (take_within T i j (omega (arith, before)))

    indices_are : items_of (take j T) a ≡ items_of (take i T) a ++ i ∷ indices_from (suc i) (is_item_of a) (drop (suc i) (take j T))
    indices_are =
        let low : length (take i T) ≡ i = length-take-le i T (omega (arith, before, within)) in
        let place : 0 + length (take i T) ≡ i = omega (arith, low) in
        ap (λ (Y : List Entry). items_of Y a) longer
        ∙ indices_more (is_item_of a) 0 (take i T) (State a p s version tag fields ∷ drop (suc i) (take j T))
        ∙ ap (λ (n : ℕ). items_of (take i T) a ++ indices_from n (is_item_of a) (State a p s version tag fields ∷ drop (suc i) (take j T))) place
        ∙ ap (λ (own : Bool). items_of (take i T) a ++ (if own then i ∷ indices_from (suc i) (is_item_of a) (drop (suc i) (take j T)) else indices_from (suc i) (is_item_of a) (drop (suc i) (take j T)))) (eq-eqb a a refl)

    -- of one instance, nothing comes after its State
    of_one : a ≡ b → ⊥
    of_one same =
        let other : PutsState file.decls T j a p s version = subst (λ (c : ℕ). PutsState file.decls T j c p s version) (sym same) two in
        let starts = inside (Start other.step other.handler p s other.args other.message) (Start one.step one.handler p s one.args one.message) (sym other.start_at ∙ one.start_at) in
        let again : does_after file.decls X (Start one.step one.handler p s one.args one.message) (items_of (take i T) a ++ i ∷ indices_from (suc i) (is_item_of a) (drop (suc i) (take j T))) ≡ Some other.next =
        subst (λ (indices : List ℕ). does_after file.decls X (Start one.step one.handler p s one.args one.message) indices ≡ Some other.next) indices_are
        (subst (λ (e : Entry). does_after file.decls X e (items_of (take j T) a) ≡ Some other.next) starts other.comes) in
        let ended = done_still file.decls X one.step one.handler p s one.args one.message (items_of (take i T) a) (indices_from (suc i) (is_item_of a) (drop (suc i) (take j T))) i one.next one.comes one.last in
        subst (λ (n : Next). IsLastPut X n) (inside other.next (Ends Done) (sym again ∙ ended)) other.last

    -- the second instance starts after the first one's State
    first_before : a < b → ⊥
    first_before earlier = elim (in_order i b) [
      | inl stored ↦
          let low = stored_is_seen (take b T) i a p s version tag fields (stands_in_prefix T b i _ stored at) in
          let is = two.version_is in
          omega (arith, low, is)
      | inr late ↦ first_ended a b p s one.step two.step one.handler two.handler one.args two.args one.message two.message one.start_at two.start_at earlier
          (none_in_shorter (is_end_of a) T i b (at_most b i late) one.goes_on)
    ]

    second_before : b < a → ⊥
    second_before earlier =
        let below = one.before in
        first_ended b a p s two.step one.step two.handler one.handler two.args one.args two.message one.message two.start_at one.start_at earlier
        (none_in_shorter (is_end_of b) T j a (omega (arith, below, before)) two.goes_on)

    by_order : (a < b) ⊎ ((a ≡ b) ⊎ (b < a)) → ⊥
    by_order (inl less) = first_before less
    by_order (inr (inl same)) = of_one same
    by_order (inr (inr more)) = second_before more

  -- Each version of a session's state stands once.
  pub each_version_once : HasEachVersionOnce T
  each_version_once i j a b p s version tag other_tag fields other_fields at other_at = by_order (in_order i j) where
    one : PutsState file.decls T i a p s version
    one = state_facts i a p s version tag fields at

    two : PutsState file.decls T j b p s version
    two = state_facts j b p s version other_tag other_fields other_at

    low : (k : ℕ) (e : Entry) → slice_get T k ≡ Some e → k ≤ length T
    low k e stands = let below = below_length T k e stands in omega (arith, below)

    by_order : (i < j) ⊎ ((i ≡ j) ⊎ (j < i)) → i ≡ j
    by_order (inl less) = absurd (twice i j a b p s version tag fields at (low j _ other_at) less one two)
    by_order (inr (inl same)) = same
    by_order (inr (inr more)) = absurd (twice j i b a p s version other_tag other_fields other_at (low i _ at) more two one)

  low_entry : (n : ℕ) → ((p : List ℕ) (s m : ℕ) → m ≤ n → newest (take m T) p s ≤ m) → (e : Entry) → slice_get T n ≡ Some e → (p : List ℕ) (s : ℕ) → version_in p s e ≤ suc n
  low_entry n low (State a q t version tag fields) at p s =
      let facts = state_facts n a q t version tag fields at in
      let is = facts.version_is in
      let before = facts.before in
      let seen = low q t a (omega (arith, before)) in
      at_most_own (bytes_eq q p && (t == s)) version (suc n) (omega (arith, is, before, seen))
  low_entry n low e at p s = omega arith

  -- Each version's number is at most its index.
  low_version : (n : ℕ) → n ≤ length T → (p : List ℕ) (s : ℕ) (m : ℕ) → m ≤ n → newest (take m T) p s ≤ m
  low_version zero within p s m below = let none : m ≡ 0 = omega (arith, below) in subst (λ (k : ℕ). newest (take k T) p s ≤ k) (sym none) (omega arith)
  low_version (suc n) within p s m below = elim (in_order m (suc n)) [
    | inl less ↦ low_version n (omega (arith, within)) p s m (omega (arith, less))
    | inr (inl same) ↦
        let last = stands_at T n (omega (arith, within)) in
        let stored = low_entry n (low_version n (omega (arith, within))) last.0 last.1 p s in
        let before = low_version n (omega (arith, within)) p s n (omega arith) in
        let newer : newest (take (suc n) T) p s ≡ max (version_in p s last.0) (newest (take n T) p s) = ap (λ (Y : List Entry). newest Y p s) (take_next T n last.0 last.1) ∙ newest_more (take n T) last.0 p s in
        subst (λ (k : ℕ). newest (take k T) p s ≤ k) (sym same) (omega (arith, newer, stored, before))
    | inr (inr more) ↦ absurd (omega (arith, more, below))
  ]

  pub versions_are_few : (p : List ℕ) (s : ℕ) → newest T p s ≤ length T
  versions_are_few p s = subst (λ (Y : List Entry). newest Y p s ≤ length T) (take_everything T) (low_version (length T) (omega arith) p s (length T) (omega arith))
