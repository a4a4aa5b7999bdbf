-- In an interleaving each value of an entry has only nonces that were made before, and so has what the attacker derives.
use Rattle.std.proofs.Common.{◌≡◌, ℕ, zero, suc, ◌+◌, ◌-◌, ◌<◌, ◌≤◌, Bool, true, false, ◌==◌, List, [], ◌∷◌, ◌++◌, length, take, drop, Option, Some, None, if◌then◌else◌, inl, inr, refl, ap, sym, ◌∙◌, subst, arith}
use Rattle.std.specs.Option.{option_map, option_and_then, is_some}
use Rattle.std.specs.List.{slice_get}
use Rattle.std.proofs.lemmas.Bool.{cases_order, cases_lt, cases_Bool, eqb-true}
use Rattle.std.proofs.lemmas.List.{length-take-le, take_all, append-nil}
use Rattle.std.proofs.lemmas.Option.{slice_get_read}
use Rattle.std.proofs.Math.Seq.{take-add}
use Rattle.dy_term.specs.Terms as terms
use Rattle.dy_term.specs.Terms.{Term}
use Rattle.dy_syntax.specs.Names.{Id}
use Rattle.dy_syntax.specs.Statements as statements
use Rattle.dy_syntax.specs.Files.{File, Decl}
use Rattle.dy_syntax.specs.LookUps.{handler_named}
use Rattle.dy_entry.specs.Entries.{Entry, Setup, Start, Fresh, Message, State, Event, Cert, End, Corrupt, Forge, Inject, Skip}
use Rattle.dy_entry.specs.Attacker.{Derives, literal, name, sent, injected, certified, forged, corrupted, pair, pk, vk, penc, aead, sign, mac, kdf, hash, fst, snd, pdec, adec, ad, body}
use Rattle.dy_entry.specs.ValueLabels.{IsMade, HasMadeNonces, makes_nonce}
use Rattle.dy_entry.proofs.MadeNonces.{nonces_are_made_still}
use Rattle.dy_eval.specs.declared.written.Written.{Written}
use Rattle.dy_eval.specs.declared.items.Item.{Item}
use Rattle.dy_eval.specs.declared.items.Item.TheVariants as items
use Rattle.dy_eval.specs.Runs.{Next, Puts, Ends, next_of, step, does}
use Rattle.dy_eval.specs.Starts.{opening, message_in, does_after, names_written, message_written}
use Rattle.dy_traces.specs.Instances.{is_item_of, items_of, indices_from, end_of, entry_for, entry_of_next, entry_next, next_entry}
use Rattle.dy_traces.specs.Following.{MayFollow}
use Rattle.dy_traces.specs.Interleavings.{Interleaves}
use Rattle.dy_traces.proofs.Prefixes.{in_prefix, stands_in_prefix, below_length, take_within, take_next}
use Rattle.dy_traces.proofs.Searches.{indices_more}
use Rattle.dy_traces.proofs.Doing.{steps_more}
use Rattle.dy_know.proofs.MadeValues.{AreAllMade, IsMadeIfAny, WrittenMade, EntryMade, ItemMade, IsFreshItem, NextMade, written_more, runs_made, step_made}

-- ---- longer traces

module _ (U more : List Entry) where
  all_still : (ts : List Term) → AreAllMade U ts → AreAllMade (U ++ more) ts
  all_still [] made = tt
  all_still (t ∷ ts) made = (nonces_are_made_still U more t made.0, all_still ts made.1)

  written_still : (ws : List Written) → WrittenMade U ws → WrittenMade (U ++ more) ws
  written_still [] made = tt
  written_still (w ∷ ws) made = (nonces_are_made_still U more w.bytes made.0, written_still ws made.1)

  item_still : (item : Item) → ItemMade U item → ItemMade (U ++ more) item
  item_still (items.Fresh label usage) made = tt
  item_still (items.Message value) made = nonces_are_made_still U more value made
  item_still (items.State version tag fields) made = all_still fields made
  item_still (items.Event word args) made = all_still args made
  item_still (items.Cert usage key) made = nonces_are_made_still U more key made

  next_still : (next : Next) → NextMade U next → NextMade (U ++ more) next
  next_still (Puts item binds left) made = (item_still item made.0, made.1, written_still left.names.written made.2)
  next_still (Ends outcome) made = tt

  entry_still : (e : Entry) → EntryMade U e → EntryMade (U ++ more) e
  entry_still (Message instance value) made = nonces_are_made_still U more value made
  entry_still (State instance principal session version tag fields) made = all_still fields made
  entry_still (Event instance principal word args) made = all_still args made
  entry_still (Cert instance principal usage key) made = nonces_are_made_still U more key made
  entry_still (Inject number value) made = nonces_are_made_still U more value made
  entry_still (Setup input) made = tt
  entry_still (Start number handler principal session args message) made = tt
  entry_still (Fresh instance label usage) made = tt
  entry_still (End instance outcome) made = tt
  entry_still (Corrupt number corruption) made = tt
  entry_still (Forge number) made = tt
  entry_still (Skip number) made = tt

longer_prefix : (T : List Entry) (k n : ℕ) → k ≤ n → take n T ≡ take k T ++ take (n - k) (drop k T)
longer_prefix T k n within =
    let sum : n ≡ k + (n - k) = omega (arith, within) in
    ap (λ m. take m T) sum ∙ take-add k (n - k) T

entry_onward : (T : List Entry) (k n : ℕ) (e : Entry) → k ≤ n → EntryMade (take k T) e → EntryMade (take n T) e
entry_onward T k n e within made = subst (λ (X : List Entry). EntryMade X e) (sym (longer_prefix T k n within)) (entry_still (take k T) (take (n - k) (drop k T)) e made)

next_onward : (T : List Entry) (k n : ℕ) (next : Next) → k ≤ n → NextMade (take k T) next → NextMade (take n T) next
next_onward T k n next within made = subst (λ (X : List Entry). NextMade X next) (sym (longer_prefix T k n within)) (next_still (take k T) (take (n - k) (drop k T)) next made)

-- ---- what the attacker derives

one_of : (U : List Entry) (ts : List Term) (i : ℕ) (t : Term) → AreAllMade U ts → slice_get ts i ≡ Some t → HasMadeNonces U t
one_of U [] i t made at = absurd cc
one_of U (x ∷ ts) zero t made at = let same : x ≡ t = cc in subst (HasMadeNonces U) same made.0
one_of U (x ∷ ts) (suc i) t made at = one_of U ts i t made.1 at

pub derived_made : (U : List Entry) → ((i : ℕ) (e : Entry) → slice_get U i ≡ Some e → EntryMade U e) → (t : Term) → Derives U t → HasMadeNonces U t
derived_made U all _ (literal text) = tt
derived_made U all _ (name principal) = tt
derived_made U all _ (sent index instance value at) = all index _ at
derived_made U all _ (injected index number value at) = all index _ at
derived_made U all _ (certified index instance principal usage key at) = all index _ at
derived_made U all _ (forged index number at) = (Forge number, at, refl)
derived_made U all _ (corrupted index instance principal session version tag fields field at covered within) =
    one_of U fields within.0 field (all index _ at) (slice_get_read fields (length fields) within.0 field refl within.1 (sym within.2))
derived_made U all _ (pair a b da db) = (derived_made U all a da, derived_made U all b db)
derived_made U all _ (pk k dk) = derived_made U all k dk
derived_made U all _ (vk k dk) = derived_made U all k dk
derived_made U all _ (penc k m dk dm) = (derived_made U all k dk, derived_made U all m dm)
derived_made U all _ (aead k m a dk dm da) = (derived_made U all k dk, derived_made U all m dm, derived_made U all a da)
derived_made U all _ (sign k m dk dm) = (derived_made U all k dk, derived_made U all m dm)
derived_made U all _ (mac k m dk dm) = (derived_made U all k dk, derived_made U all m dm)
derived_made U all _ (kdf k c x dk dx) = (derived_made U all k dk, derived_made U all x dx)
derived_made U all _ (hash m dm) = derived_made U all m dm
derived_made U all _ (fst a b d) = (derived_made U all _ d).0
derived_made U all _ (snd a b d) = (derived_made U all _ d).1
derived_made U all _ (pdec k m d dk) = (derived_made U all _ d).1
derived_made U all _ (adec k m a d dk) = (derived_made U all _ d).1
derived_made U all _ (ad k m a d) = (derived_made U all _ d).2
derived_made U all _ (body k m d) = (derived_made U all _ d).1

-- ---- what an instance puts

item_entry : (U : List Entry) (instance session : ℕ) (principal : List ℕ) (item : Item) → ItemMade U item → EntryMade U (entry_for instance principal session item)
item_entry U instance session principal (items.Fresh label usage) made = tt
item_entry U instance session principal (items.Message value) made = made
item_entry U instance session principal (items.State version tag fields) made = made
item_entry U instance session principal (items.Event word args) made = made
item_entry U instance session principal (items.Cert usage key) made = made

put_made : (U : List Entry) (instance : ℕ) (start : Entry) (next : Next) (e : Entry) → entry_of_next instance start next ≡ Some e → NextMade U next → EntryMade U e
put_made U instance (Start number handler principal session args message) (Puts item binds left) e is made =
    let same : entry_for instance principal session item ≡ e = cc in subst (EntryMade U) same (item_entry U instance session principal item made.0)
put_made U instance (Start number handler principal session args message) (Ends outcome) e is made = let same : End instance outcome ≡ e = cc in subst (EntryMade U) same tt
put_made U instance start next e is made = absurd cc

-- what a trace says of an entry that an instance puts next
next_is : (o : Option ℕ) (found : Option Entry) (follows : Entry → Option Entry) (e : Entry)
    → (if is_some o then None else option_and_then follows found) ≡ Some e → (start : Entry) × (found ≡ Some start) × (follows start ≡ Some e)
next_is (Some k) found follows e is = absurd cc
next_is None None follows e is = absurd cc
next_is None (Some start) follows e is = (start, refl, is)

does_is : (o : Option Next) (follows : Next → Option Entry) (e : Entry) → option_and_then follows o ≡ Some e → (next : Next) × (o ≡ Some next) × (follows next ≡ Some e)
does_is None follows e is = absurd cc
does_is (Some next) follows e is = (next, refl, is)

-- ---- how an instance starts

names_made : (U : List Entry) (args : List Id) (given : List (List ℕ)) → WrittenMade U (names_written args given)
names_made U [] given = tt
names_made U (arg ∷ args) [] = tt
names_made U (arg ∷ args) (word ∷ given) = (tt, names_made U args given)

message_made : (U : List Entry) (word : Option Id) (message : Option Term) → IsMadeIfAny U message → WrittenMade U (message_written word message)
message_made U None message made = tt
message_made U (Some word) None made = tt
message_made U (Some word) (Some message) made = (made, tt)

message_of_entry : (U : List Entry) (e : Entry) → EntryMade U e → IsMadeIfAny U (message_in e)
message_of_entry U (Message instance value) made = made
message_of_entry U (Inject number value) made = made
message_of_entry U e made = tt

received_made : (U X : List Entry) → ((i : ℕ) (e : Entry) → slice_get X i ≡ Some e → EntryMade U e) → (message : Option ℕ)
    → IsMadeIfAny U (option_and_then (λ index. option_and_then message_in (slice_get X index)) message)
received_made U X stored None = tt
received_made U X stored (Some index) = one (slice_get X index) (λ e is. stored index e is) where
  one : (o : Option Entry) → ((e : Entry) → o ≡ Some e → EntryMade U e) → IsMadeIfAny U (option_and_then message_in o)
  one None all = tt
  one (Some e) all = message_of_entry U e (all e refl)

starts_made : (U X : List Entry) (decls : List Decl) → ((i : ℕ) (e : Entry) → slice_get X i ≡ Some e → EntryMade U e) → (start : Entry) (next : Next)
    → does_after decls X start [] ≡ Some next → NextMade U next
starts_made U X decls stored (Start number handler principal session args message) next is = one (handler_named decls handler) is where
  one : (o : Option statements.Handler) → option_map (λ h. does X (opening decls h principal session args (option_and_then (λ index. option_and_then message_in (slice_get X index)) message)) []) o ≡ Some next → NextMade U next
  one None is' = absurd cc
  one (Some h) is' =
      let left = opening decls h principal session args (option_and_then (λ index. option_and_then message_in (slice_get X index)) message) in
      let same : does X left [] ≡ next = cc (is') in
      subst (NextMade U) same (runs_made U X stored left.names left.number left.lines
      (written_more U (names_written h.args args) (message_written h.recv (option_and_then (λ index. option_and_then message_in (slice_get X index)) message))
      (names_made U h.args args)
      (message_made U h.recv (option_and_then (λ index. option_and_then message_in (slice_get X index)) message) (received_made U X stored message))))
starts_made U X decls stored start next is = absurd cc

-- one index more is one step more
after_more : (decls : List Decl) (X : List Entry) (start : Entry) (indices : List ℕ) (index : ℕ) (prev next : Next) → does_after decls X start indices ≡ Some prev
    → does_after decls X start (indices ++ index ∷ []) ≡ Some next → step X prev index ≡ next
after_more decls X (Start number handler principal session args message) indices index prev next is is' = one (handler_named decls handler) is is' where
  one : (o : Option statements.Handler)
      → option_map (λ h. does X (opening decls h principal session args (option_and_then (λ i. option_and_then message_in (slice_get X i)) message)) indices) o ≡ Some prev
      → option_map (λ h. does X (opening decls h principal session args (option_and_then (λ i. option_and_then message_in (slice_get X i)) message)) (indices ++ index ∷ [])) o ≡ Some next
      → step X prev index ≡ next
  one None a b = absurd cc
  one (Some h) a b =
      let left = opening decls h principal session args (option_and_then (λ i. option_and_then message_in (slice_get X i)) message) in
      let first : does X left indices ≡ prev = cc (a) in
      let second : does X left (indices ++ index ∷ []) ≡ next = cc (b) in
      ap (λ (p : Next). step X p index) (sym first) ∙ sym (steps_more X (next_of X left) indices (index ∷ [])) ∙ second
after_more decls X start indices index prev next is is' = absurd cc

no_indices : (m : ℕ) (test : Entry → Bool) (xs : List Entry) → ((k : ℕ) (x : Entry) → slice_get xs k ≡ Some x → test x ≡ false) → indices_from m test xs ≡ []
no_indices m test [] none = refl
no_indices m test (x ∷ xs) none = rw (none zero x refl) (no_indices (suc m) test xs (λ k y at. none (suc k) y at))

fresh_makes : (e : Entry) (instance session : ℕ) (principal : List ℕ) (item : Item) → entry_for instance principal session item ≡ e → IsFreshItem item → makes_nonce e ≡ true
fresh_makes e instance session principal (items.Fresh label usage) is fresh = ap makes_nonce (sym is)
fresh_makes e instance session principal item is fresh = absurd fresh

module _ (bytes : List ℕ) (file : File) (T : List Entry) (is_one : Interleaves bytes file T) where
  -- up to a length, each value has only nonces made before, and so has what each instance puts next
  record MadeUpTo (n : ℕ) : Type 0 where
    entries_made : (k : ℕ) (e : Entry) → k < n → slice_get T k ≡ Some e → EntryMade (take k T) e
    nexts_made : (s : ℕ) (start : Entry) (next : Next) → s < n → slice_get T s ≡ Some start
        → does_after file.decls (take s T) start (items_of (take n T) s) ≡ Some next → NextMade (take n T) next

  in_prefix_made : (n : ℕ) → MadeUpTo n → (k : ℕ) (e : Entry) → slice_get (take n T) k ≡ Some e → EntryMade (take n T) e
  in_prefix_made n all k e at =
      let place = in_prefix T n k e at in
      let below = place.0 in
      entry_onward T k n e (omega (arith, below)) (all.entries_made k e below place.1)

  -- an entry is what an instance puts next
  record PutBy (n instance : ℕ) (e : Entry) : Type 0 where
    start : Entry
    stands : slice_get T instance ≡ Some start
    before : instance < n
    next : Next
    comes : does_after file.decls (take instance T) start (items_of (take n T) instance) ≡ Some next
    puts : entry_of_next instance start next ≡ Some e

  put_by : (n instance : ℕ) (e : Entry) → next_entry file.decls (take n T) instance ≡ Some e → PutBy n instance e
  put_by n instance e is =
      let found = next_is (end_of (take n T) instance) (slice_get (take n T) instance) (entry_next file.decls (take n T) instance) e is in
      let place = in_prefix T n instance found.0 found.1 in
      let below = place.0 in
      let sees : take instance (take n T) ≡ take instance T = take_within T instance n (omega (arith, below)) in
      let parts = does_is (does_after file.decls (take instance (take n T)) found.0 (items_of (take n T) instance)) (entry_of_next instance found.0) e found.2 in
      record {
        start = found.0;
        stands = place.1;
        before = below;
        next = parts.0;
        comes = subst (λ (X : List Entry). does_after file.decls X found.0 (items_of (take n T) instance) ≡ Some parts.0) sees parts.1;
        puts = parts.2;
      }

  by_instance : (n instance : ℕ) (e : Entry) → MadeUpTo n → next_entry file.decls (take n T) instance ≡ Some e → EntryMade (take n T) e
  by_instance n instance e all is =
      let by = put_by n instance e is in
      put_made (take n T) instance by.start by.next e by.puts (all.nexts_made instance by.start by.next by.before by.stands by.comes)

  follows_made : (n : ℕ) (e : Entry) → MadeUpTo n → MayFollow file.decls (take n T) e → EntryMade (take n T) e
  follows_made n (Message instance value) all may = by_instance n instance (Message instance value) all may
  follows_made n (State instance principal session version tag fields) all may = by_instance n instance (State instance principal session version tag fields) all may
  follows_made n (Event instance principal word args) all may = by_instance n instance (Event instance principal word args) all may
  follows_made n (Cert instance principal usage key) all may = by_instance n instance (Cert instance principal usage key) all may
  follows_made n (Inject number value) all may = derived_made (take n T) (in_prefix_made n all) value may.derived
  follows_made n (Setup input) all may = tt
  follows_made n (Start number handler principal session args message) all may = tt
  follows_made n (Fresh instance label usage) all may = tt
  follows_made n (End instance outcome) all may = tt
  follows_made n (Corrupt number corruption) all may = tt
  follows_made n (Forge number) all may = tt
  follows_made n (Skip number) all may = tt

  entry_now : (n : ℕ) (e : Entry) → MadeUpTo n → slice_get T n ≡ Some e → EntryMade (take n T) e
  entry_now zero e all at = let is : Setup bytes ≡ e = cc (at, is_one.opens) in subst (EntryMade (take zero T)) is tt
  entry_now (suc n) e all at = follows_made (suc n) e all (is_one.follows (suc n) e (omega arith) at)

  -- an item of an instance is what it puts next
  same_instance : (n other s : ℕ) (e : Entry) → (other == s) ≡ true → next_entry file.decls (take n T) other ≡ Some e → next_entry file.decls (take n T) s ≡ Some e
  same_instance n other s e is next = let same = eqb-true other s is in subst (λ i. next_entry file.decls (take n T) i ≡ Some e) same next

  item_follows : (n s : ℕ) (e : Entry) → MayFollow file.decls (take n T) e → is_item_of s e ≡ true → next_entry file.decls (take n T) s ≡ Some e
  item_follows n s (Fresh other label usage) may is = same_instance n other s _ is may
  item_follows n s (Message other value) may is = same_instance n other s _ is may
  item_follows n s (State other principal session version tag fields) may is = same_instance n other s _ is may
  item_follows n s (Event other principal word args) may is = same_instance n other s _ is may
  item_follows n s (Cert other principal usage key) may is = same_instance n other s _ is may
  item_follows n s e may is = absurd cc

  item_is_put : (n s : ℕ) (e : Entry) → slice_get T n ≡ Some e → is_item_of s e ≡ true → PutBy n s e
  item_is_put zero s e at is = let same : Setup bytes ≡ e = cc (at, is_one.opens) in let no : is_item_of s e ≡ false = subst (λ (x : Entry). is_item_of s x ≡ false) same refl in absurd (cc (is, no))
  item_is_put (suc n) s e at is = put_by (suc n) s e (item_follows (suc n) s e (is_one.follows (suc n) e (omega arith) at) is)

  items_more : (n s : ℕ) (e : Entry) → slice_get T n ≡ Some e → items_of (take (suc n) T) s ≡ items_of (take n T) s ++ (if is_item_of s e then n ∷ [] else [])
  items_more n s e at =
      let within = below_length T n e at in
      let low : length (take n T) ≡ n = length-take-le n T (omega (arith, within)) in
      let place : 0 + length (take n T) ≡ n = omega (arith, low) in
      ap (λ (X : List Entry). items_of X s) (take_next T n e at) ∙ indices_more (is_item_of s) 0 (take n T) (e ∷ [])
      ∙ ap (λ m. items_of (take n T) s ++ indices_from m (is_item_of s) (e ∷ [])) place

  none_before : (n : ℕ) → items_of (take n T) n ≡ []
  none_before n = no_indices 0 (is_item_of n) (take n T) (λ k x at. elim (cases_Bool (is_item_of n x)) [
    | inl is ↦ let place = in_prefix T n k x at in let by = item_is_put k n x place.1 is in let less = by.before in let below = place.0 in absurd (omega (arith, less, below))
    | inr other ↦ other
  ])

  no_own_item : (n : ℕ) (e : Entry) → slice_get T n ≡ Some e → is_item_of n e ≡ false
  no_own_item n e at = elim (cases_Bool (is_item_of n e)) [
    | inl is ↦ let by = item_is_put n n e at is in let less = by.before in absurd (omega (arith, less))
    | inr other ↦ other
  ]

  -- the trace before a Start, in a longer one
  stored_in : (n s m : ℕ) → MadeUpTo n → s ≤ n → n ≤ m → (i : ℕ) (x : Entry) → slice_get (take s T) i ≡ Some x → EntryMade (take m T) x
  stored_in n s m all within onward i x at =
      let place = in_prefix T s i x at in
      let below = place.0 in
      entry_onward T i m x (omega (arith, below, within, onward)) (all.entries_made i x (omega (arith, below, within)) place.1)

  stepped : (n s : ℕ) (start e : Entry) (next : Next) → MadeUpTo n → s ≤ n → slice_get T n ≡ Some e → entry_of_next s start next ≡ Some e
      → NextMade (take (suc n) T) next → NextMade (take (suc n) T) (step (take s T) next n)
  stepped n s start e (Ends outcome) all within at puts made = tt
  stepped n s (Start number handler principal session args message) e (Puts item binds left) all within at puts made =
      let is : entry_for s principal session item ≡ e = cc (puts) in
      step_made (take (suc n) T) (take s T) (stored_in n s (suc n) all within (omega arith)) item binds left n made
      (λ fresh. (e, stands_in_prefix T (suc n) n e (omega arith) at, fresh_makes e s session principal item is fresh))
  stepped n s start e (Puts item binds left) all within at puts made = absurd cc

  goes_on : (n s : ℕ) (start e : Entry) (next : Next) → MadeUpTo n → s < n → slice_get T n ≡ Some e → slice_get T s ≡ Some start
      → does_after file.decls (take s T) start (items_of (take (suc n) T) s) ≡ Some next → NextMade (take (suc n) T) next
  goes_on n s start e next all less at stands comes = elim (cases_Bool (is_item_of s e)) [
    | inl is ↦
        let by = item_is_put n s e at is in
        let same : by.start ≡ start = let a = by.stands in cc (a, stands) in
        let before : does_after file.decls (take s T) start (items_of (take n T) s) ≡ Some by.next = subst (λ (x : Entry). does_after file.decls (take s T) x (items_of (take n T) s) ≡ Some by.next) same by.comes in
        let puts : entry_of_next s start by.next ≡ Some e = subst (λ (x : Entry). entry_of_next s x by.next ≡ Some e) same by.puts in
        let indices : items_of (take (suc n) T) s ≡ items_of (take n T) s ++ n ∷ [] = items_more n s e at ∙ ap (λ (b : Bool). items_of (take n T) s ++ (if b then n ∷ [] else [])) is in
        let is_step = after_more file.decls (take s T) start (items_of (take n T) s) n by.next next before
        (subst (λ (is : List ℕ). does_after file.decls (take s T) start is ≡ Some next) indices comes) in
        subst (NextMade (take (suc n) T)) is_step
        (stepped n s start e by.next all (omega (arith, less)) at puts (next_onward T n (suc n) by.next (omega arith) (all.nexts_made s start by.next less stands before)))
    | inr other ↦
        let indices : items_of (take (suc n) T) s ≡ items_of (take n T) s = items_more n s e at ∙ ap (λ (b : Bool). items_of (take n T) s ++ (if b then n ∷ [] else [])) other ∙ append-nil (items_of (take n T) s) in
        next_onward T n (suc n) next (omega arith) (all.nexts_made s start next less stands (subst (λ (is : List ℕ). does_after file.decls (take s T) start is ≡ Some next) indices comes))
  ]

  new_instance : (n : ℕ) (start : Entry) (next : Next) → MadeUpTo n → slice_get T n ≡ Some start
      → does_after file.decls (take n T) start (items_of (take (suc n) T) n) ≡ Some next → NextMade (take (suc n) T) next
  new_instance n start next all stands comes =
      let indices : items_of (take (suc n) T) n ≡ [] = items_more n n start stands ∙ ap (λ (b : Bool). items_of (take n T) n ++ (if b then n ∷ [] else [])) (no_own_item n start stands)
      ∙ append-nil (items_of (take n T) n) ∙ none_before n in
      starts_made (take (suc n) T) (take n T) file.decls (stored_in n n (suc n) all (omega arith) (omega arith)) start next
      (subst (λ (is : List ℕ). does_after file.decls (take n T) start is ≡ Some next) indices comes)

  entry_there : (xs : List Entry) (n : ℕ) → n < length xs → (e : Entry) × (slice_get xs n ≡ Some e)
  entry_there [] n below = absurd (omega (arith, below))
  entry_there (x ∷ xs) zero below = (x, refl)
  entry_there (x ∷ xs) (suc n) below = entry_there xs n (omega (arith, below))

  up_to : (n : ℕ) → n ≤ length T → MadeUpTo n
  up_to zero within = record { entries_made = λ k e below at. absurd (omega (arith, below)); nexts_made = λ s start next below at comes. absurd (omega (arith, below)) }
  up_to (suc n) within =
      let all = up_to n (omega (arith, within)) in
      let last = entry_there T n (omega (arith, within)) in
      record {
        entries_made = λ k x below at. elim (cases_order k n) [
          | inl same ↦ subst (λ m. EntryMade (take m T) x) (sym same) (entry_now n x all (subst (λ m. slice_get T m ≡ Some x) same at))
          | inr order ↦ elim order [ inl less ↦ all.entries_made k x less at | inr more ↦ absurd (omega (arith, below, more)) ]
        ];
        nexts_made = λ s start next below at comes. elim (cases_order s n) [
          | inl same ↦ new_instance n start next all (subst (λ m. slice_get T m ≡ Some start) same at)
              (subst (λ m. does_after file.decls (take m T) start (items_of (take (suc n) T) m) ≡ Some next) same comes)
          | inr order ↦ elim order [ inl less ↦ goes_on n s start last.0 next all less last.1 at comes | inr more ↦ absurd (omega (arith, below, more)) ]
        ];
      }

  made_within : (n index : ℕ) → n ≤ length T → Derives (take n T) (terms.Nonce index) → IsMade (take n T) index
  made_within n index within derived = derived_made (take n T) (in_prefix_made n (up_to n within)) (terms.Nonce index) derived

  -- The attacker derives only nonces that are made.
  pub derived_is_made : (n index : ℕ) → Derives (take n T) (terms.Nonce index) → IsMade (take n T) index
  derived_is_made n index derived = elim (cases_lt (length T) n) [
    | inr within ↦ made_within n index within derived
    | inl past ↦
        let whole : take n T ≡ take (length T) T = take_all n T (omega (arith, past)) ∙ sym (take_all (length T) T (omega arith)) in
        subst (λ (X : List Entry). IsMade X index) (sym whole) (made_within (length T) index (omega arith) (subst (λ (X : List Entry). Derives X (terms.Nonce index)) whole derived))
  ]
