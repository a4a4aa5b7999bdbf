-- What an instance puts next: it is unfinished, and puts an item from where it stands; or it ends.
use Rattle.std.proofs.Common.{◌≡◌, ℕ, Bool, true, false, List, [], ◌∷◌, fold, take, Option, Some, None, if◌then◌else◌, ◌⊎◌, inl, inr, refl, sym, ap, ◌∙◌}
use Rattle.std.specs.Option.{option_map, option_and_then, is_some}
use Rattle.std.specs.List.{slice_get}
use Rattle.dy_label.specs.declared.usages.Outcome.{Outcome}
use Rattle.dy_syntax.specs.Statements.{Handler}
use Rattle.dy_syntax.specs.Files.{Decl}
use Rattle.dy_syntax.specs.LookUps.{handler_named}
use Rattle.dy_entry.specs.Entries.{Entry, Setup, Start, Fresh, Message, State, Event, Cert, End, Corrupt, Forge, Inject, Skip}
use Rattle.dy_eval.specs.declared.items.Item.{Item}
use Rattle.dy_eval.specs.Runs.{Left, Next, Puts, Ends, next_of, tell, step, steps, does}
use Rattle.dy_eval.specs.Starts.{opening}
use Rattle.dy_traces.specs.Instances.{items_of, end_of, entry_for, entry_of_next, does_next, entry_next, next_entry}
use Rattle.dy_traces.specs.Following.{message_at}
use Rattle.dy_sound.specs.Instances.{left_told, with_item_at, left_after, IsUnfinished}

-- The instance puts this entry, which is that of an item that it puts from where it stands.
pub record PutsNext (decls : List Decl) (T : List Entry) (instance : ℕ) (e : Entry) : Type 0 where
  pub handler : Handler
  pub left : Left
  pub unfinished : IsUnfinished decls T instance handler left
  pub item : Item
  pub binds : Option (List ℕ)
  pub after : Left
  pub puts : next_of (take instance T) left ≡ Puts item binds after
  pub entry_is : e ≡ entry_for instance unfinished.principal unfinished.session item

-- Or it is the End of the instance.
abbrev pub EndsNext : ℕ → Entry → Type 0
EndsNext instance e = (outcome : Outcome) × (e ≡ End instance outcome)

-- What comes of an instance that has ended is that it has ended.
ended_stays : (X : List Entry) (outcome : Outcome) (indices : List ℕ) → steps X (Ends outcome) indices ≡ Ends outcome
ended_stays X outcome [] = refl
ended_stays X outcome (index ∷ more) = ended_stays X outcome more

-- where an instance stands that puts an item after those at these indices
pub record StandsAt (X : List Entry) (start : Left) (indices : List ℕ) (item : Item) (binds : Option (List ℕ)) (after : Left) : Type 0 where
  pub left : Left
  pub has_left : left_after X start indices ≡ Some left
  pub puts : next_of X left ≡ Puts item binds after

stands_later : (X : List Entry) (start : Left) (index : ℕ) (more : List ℕ) (item : Item) (binds : Option (List ℕ)) (after : Left)
    → ((left : Left) → steps X (next_of X left) more ≡ Puts item binds after → StandsAt X left more item binds after)
    → (next : Next) → next_of X start ≡ next → steps X (step X next index) more ≡ Puts item binds after
    → StandsAt X start (index ∷ more) item binds after
stands_later X start index more item binds after from (Ends outcome) next_is is = let ended = ended_stays X outcome more in absurd cc
stands_later X start index more item binds after from (Puts own own_binds left) next_is is =
    let rest = from (tell index own_binds left) is in
    record {
      left = rest.left;
      has_left = ap (λ (next : Next). fold (with_item_at X) (left_told index next) more) next_is ∙ rest.has_left;
      puts = rest.puts;
    }

stands_at : (X : List Entry) (start : Left) (indices : List ℕ) (item : Item) (binds : Option (List ℕ)) (after : Left)
    → steps X (next_of X start) indices ≡ Puts item binds after → StandsAt X start indices item binds after
stands_at X start [] item binds after is = record { left = start; has_left = refl; puts = is }
stands_at X start (index ∷ more) item binds after is =
    stands_later X start index more item binds after (λ left. stands_at X left more item binds after) (next_of X start) refl is

there_if : {A B : Type 0} (over : Bool) (f : A → Option B) (found : Option A) (y : B)
    → (if over then None else option_and_then f found) ≡ Some y → (over ≡ false) × (x : A) × (found ≡ Some x) × (f x ≡ Some y)
there_if true f found y is = absurd cc
there_if false f None y is = absurd cc
there_if false f (Some x) y is = (refl, x, refl, is)

then_there : {A B : Type 0} (f : A → Option B) (found : Option A) (y : B) → option_and_then f found ≡ Some y → (x : A) × (found ≡ Some x) × (f x ≡ Some y)
then_there f None y is = absurd cc
then_there f (Some x) y is = (x, refl, is)

mapped_there : {A B : Type 0} (f : A → B) (found : Option A) (y : B) → option_map f found ≡ Some y → (x : A) × (found ≡ Some x) × (f x ≡ y)
mapped_there f None y is = absurd cc
mapped_there f (Some x) y is = (x, refl, cc)

not_there : {A : Type 0} (found : Option A) → is_some found ≡ false → found ≡ None
not_there None is = refl
not_there (Some x) is = absurd cc

module _ (decls : List Decl) (T : List Entry) (instance : ℕ) (e : Entry) (no_end : end_of T instance ≡ None) where
  next_of_start : (number : ℕ) (name principal : List ℕ) (session : ℕ) (args : List (List ℕ)) (message : Option ℕ)
      → slice_get T instance ≡ Some (Start number name principal session args message)
      → (handler : Handler) → handler_named decls name ≡ Some handler → (next : Next)
      → does (take instance T) (opening decls handler principal session args (option_and_then (message_at (take instance T)) message)) (items_of T instance) ≡ next
      → entry_of_next instance (Start number name principal session args message) next ≡ Some e → PutsNext decls T instance e ⊎ EndsNext instance e
  next_of_start number name principal session args message stands handler declared (Ends outcome) is entry = inr (outcome, let same : End instance outcome ≡ e = cc in sym same)
  next_of_start number name principal session args message stands handler declared (Puts item binds after) is entry =
      let X = take instance T in
      let at = stands_at X (opening decls handler principal session args (option_and_then (message_at X) message)) (items_of T instance) item binds after is in
      let same : entry_for instance principal session item ≡ e = cc in
      inl (record {
        handler = handler;
        left = at.left;
        unfinished = record {
          step = number;
          name = name;
          principal = principal;
          session = session;
          args = args;
          message = message;
          stands = stands;
          is_declared = declared;
          has_no_end = no_end;
          has_left = at.has_left;
        };
        item = item;
        binds = binds;
        after = after;
        puts = at.puts;
        entry_is = sym same;
      })

  next_of_entry : (start : Entry) → slice_get T instance ≡ Some start → (next : Next) → does_next decls T instance start ≡ Some next
      → entry_of_next instance start next ≡ Some e → PutsNext decls T instance e ⊎ EndsNext instance e
  next_of_entry (Start number name principal session args message) stands next is entry =
      let found = mapped_there (λ h. does (take instance T) (opening decls h principal session args (option_and_then (message_at (take instance T)) message)) (items_of T instance))
      (handler_named decls name) next is in
      next_of_start number name principal session args message stands found.0 found.1 next found.2 entry
  next_of_entry (Setup input) stands next is entry = absurd cc
  next_of_entry (Fresh other label usage) stands next is entry = absurd cc
  next_of_entry (Message other value) stands next is entry = absurd cc
  next_of_entry (State other principal session version tag fields) stands next is entry = absurd cc
  next_of_entry (Event other principal name args) stands next is entry = absurd cc
  next_of_entry (Cert other principal usage key) stands next is entry = absurd cc
  next_of_entry (End other outcome) stands next is entry = absurd cc
  next_of_entry (Corrupt number corruption) stands next is entry = absurd cc
  next_of_entry (Forge number) stands next is entry = absurd cc
  next_of_entry (Inject number value) stands next is entry = absurd cc
  next_of_entry (Skip number) stands next is entry = absurd cc

-- What an instance puts next comes of an item from where it stands, or is its End.
pub puts_or_ends : (decls : List Decl) (T : List Entry) (instance : ℕ) (e : Entry) → next_entry decls T instance ≡ Some e → PutsNext decls T instance e ⊎ EndsNext instance e
puts_or_ends decls T instance e is =
    let found = there_if (is_some (end_of T instance)) (entry_next decls T instance) (slice_get T instance) e is in
    let next = then_there (entry_of_next instance found.1) (does_next decls T instance found.1) e found.3 in
    next_of_entry decls T instance e (not_there (end_of T instance) found.0) found.1 found.2 next.0 next.1 next.2
