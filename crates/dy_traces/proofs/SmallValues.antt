-- The values that an instance puts are small, and so are those of an interleaving.
use Rattle.std.proofs.Common.{◌≡◌, ℕ, zero, suc, ◌+◌, ◌<◌, ◌≤◌, Bool, true, false, List, [], ◌∷◌, map, take, nat_le, Option, Some, None, if◌then◌else◌, refl, sym, subst, arith}
use Rattle.std.specs.Prelude.{sum_by}
use Rattle.std.specs.Option.{option_map, option_and_then, is_some}
use Rattle.std.specs.List.{slice_get}
use Rattle.std.proofs.lemmas.Bool.{leb-true}
use Rattle.std.proofs.lemmas.List.Sums.{sum_by-cons}
use Rattle.dy_term.specs.Terms.{Term, size}
use Rattle.dy_term.specs.declared.limits.TheConstants.{MAX_NODES}
use Rattle.dy_label.specs.declared.usages.Kind as kind
use Rattle.dy_syntax.specs.Names.{Quote}
use Rattle.dy_syntax.specs.Statements as s
use Rattle.dy_syntax.specs.Statements.{Act, Pattern, Handler}
use Rattle.dy_syntax.specs.Files.{File, Decl}
use Rattle.dy_syntax.specs.LookUps.{handler_named}
use Rattle.dy_entry.specs.Entries as entries
use Rattle.dy_entry.specs.Entries.{Entry, Setup, Start, Fresh, Message, State, Event, Cert, End, Corrupt, Forge, Inject, Skip}
use Rattle.dy_entry.specs.LookUps.{newest}
use Rattle.dy_eval.specs.declared.written.Written.{Written}
use Rattle.dy_eval.specs.declared.items.Item.{Item}
use Rattle.dy_eval.specs.declared.items.Item.TheVariants as items
use Rattle.dy_eval.specs.Doings.{Effect}
use Rattle.dy_eval.specs.Doings as effects
use Rattle.dy_eval.specs.Lines.{Line, GoesOn, Does}
use Rattle.dy_eval.specs.Names.{Names, write, bytes_at, bytes_for}
use Rattle.dy_eval.specs.Values.{value, if_small, are_small}
use Rattle.dy_eval.specs.Patterns.{fits, written_by, match_if, match_tuple}
use Rattle.dy_eval.specs.Effects.{puts, puts_all, public_key, writes, effect, effect_of}
use Rattle.dy_eval.specs.Runs.{Left, Next, Puts, Ends, next_by, runs, next_of, tell, step, steps, does}
use Rattle.dy_eval.specs.Starts.{opening, message_in, does_after}
use Rattle.dy_traces.specs.Instances.{items_of, end_of, entry_for, entry_of_next, entry_next, next_entry}
use Rattle.dy_traces.specs.Following.{MayFollow}
use Rattle.dy_traces.specs.Interleavings.{Interleaves}
use Rattle.dy_traces.specs.SmallValues.{AreSmall, HasSmallValues}

-- terms that are small together are small
all_small : (terms : List Term) → sum_by size terms ≤ MAX_NODES → AreSmall terms
all_small [] few = tt
all_small (term ∷ terms) few =
    let sum = sum_by-cons size term terms in
    (omega (arith, few, sum), all_small terms (omega (arith, few, sum)))

abbrev IsSmallItem : Item → Type 0
IsSmallItem (items.Fresh label usage) = Unit {0}
IsSmallItem (items.Message value) = size value ≤ MAX_NODES
IsSmallItem (items.State version tag fields) = AreSmall fields
IsSmallItem (items.Event name args) = AreSmall args
IsSmallItem (items.Cert usage key) = size key ≤ MAX_NODES

abbrev IsSmallEffect : Effect → Type 0
IsSmallEffect (effects.Puts item binds) = IsSmallItem item
IsSmallEffect (effects.Writes written) = Unit {0}
IsSmallEffect effects.Fails = Unit {0}

small_if : (b : Bool) (written : List Written) → IsSmallEffect (if b then effects.Writes written else effects.Fails)
small_if true written = tt
small_if false written = tt

small_matched : (names : Names) (patterns : List Pattern) (fields : Option (List Term)) → IsSmallEffect (match_if names patterns fields)
small_matched names patterns None = tt
small_matched names patterns (Some fields) = small_if (fits names patterns fields) (written_by patterns fields)

small_opened : (names : Names) (tag : Quote) (patterns : List Pattern) (message : Option Term) → IsSmallEffect (match_tuple names tag patterns message)
small_opened names tag patterns None = tt
small_opened names tag patterns (Some message) = small_matched names patterns _

small_writes : (word : List ℕ) (term : Option Term) → IsSmallEffect (writes word term)
small_writes word None = tt
small_writes word (Some term) = tt

small_puts : (item : Term → Item) → ((term : Term) → size term ≤ MAX_NODES → IsSmallItem (item term)) → (term : Term) → IsSmallEffect (puts item (if_small term))
small_puts item small term = one (nat_le (size term) MAX_NODES) refl where
  one : (b : Bool) → nat_le (size term) MAX_NODES ≡ b → IsSmallEffect (puts item (if b then Some term else None))
  one true low = small term (leb-true (size term) MAX_NODES low)
  one false low = tt

small_puts_if : (item : Term → Item) → ((term : Term) → size term ≤ MAX_NODES → IsSmallItem (item term)) → (term : Option Term)
    → IsSmallEffect (puts item (option_and_then if_small term))
small_puts_if item small None = tt
small_puts_if item small (Some term) = small_puts item small term

small_puts_all : (item : List Term → Item) → ((terms : List Term) → AreSmall terms → IsSmallItem (item terms)) → (terms : List Term) → IsSmallEffect (puts_all item terms)
small_puts_all item small terms = one (are_small terms) refl where
  one : (b : Bool) → are_small terms ≡ b → IsSmallEffect (if b then effects.Puts (item terms) None else effects.Fails)
  one true low = small terms (all_small terms (leb-true (sum_by size terms) MAX_NODES low))
  one false low = tt

module _ (X : List Entry) where
  small_effect_of : (names : Names) (kind : kind.Kind) (act : Act) → IsSmallEffect (effect_of X names kind act)
  small_effect_of names kind (s.New name usage label) = tt
  small_effect_of names kind (s.Let name expr) = small_writes name.word _
  small_effect_of names kind (s.Event atom) = small_puts_all (items.Event atom.event.word) (λ terms small. small) (map (bytes_for names) atom.args)
  small_effect_of names kind (s.Send expr) = small_puts items.Message (λ term small. small) (value names expr)
  small_effect_of names kind (s.Store state fields) =
      small_puts_all (items.State (newest X names.principal names.session + 1) state.word) (λ terms small. small) (map (value names) fields)
  small_effect_of names kind (s.Certify key usage) = small_puts_if (items.Cert usage.word) (λ term small. small) (public_key kind (bytes_at names key.word))
  small_effect_of names kind (s.Find usage owner name) = small_writes name.word _
  small_effect_of names kind (s.Recall state pats) = small_matched names pats _
  small_effect_of names kind (s.Split split tag pats) = small_opened names tag pats (Some (bytes_at names split.word))
  small_effect_of names kind (s.Opened sealed key usage tag pats ad) = small_opened names tag pats _
  small_effect_of names kind (s.Popened sealed key usage tag pats) = small_opened names tag pats _
  small_effect_of names kind (s.Verify signed key usage tag pats) = small_opened names tag pats _
  small_effect_of names kind (s.Check code key usage tag args) = small_if _ []
  small_effect_of names kind (s.Same left right) = small_if _ []

  small_effect : (names : Names) (line : Line) → IsSmallEffect (effect X names line)
  small_effect names (GoesOn on) = small_matched names on.pats _
  small_effect names (Does kind act) = small_effect_of names kind act

  abbrev IsSmallNext : Next → Type 0
  IsSmallNext (Puts item binds left) = IsSmallItem item
  IsSmallNext (Ends outcome) = Unit {0}

  small_taken : (names : Names) (number : ℕ) (more : List Line) (done : Effect) → IsSmallEffect done → (goes_on : Names → Next)
      → ((written : List Written) → IsSmallNext (goes_on (write names written))) → IsSmallNext (next_by done names number more goes_on)
  small_taken names number more (effects.Puts item binds) small goes_on rest = small
  small_taken names number more (effects.Writes written) small goes_on rest = rest written
  small_taken names number more effects.Fails small goes_on rest = tt

  small_runs : (names : Names) (number : ℕ) (lines : List Line) → IsSmallNext (runs X names number lines)
  small_runs names number [] = tt
  small_runs names number (line ∷ more) =
      small_taken names number more (effect X names line) (small_effect names line)
      (λ after. runs X after (number + 1) more) (λ written. small_runs (write names written) (number + 1) more)

  small_step : (next : Next) (index : ℕ) → IsSmallNext (step X next index)
  small_step (Puts item binds left) index = small_runs (tell index binds left).names left.number left.lines
  small_step (Ends outcome) index = tt

  small_steps : (next : Next) (indices : List ℕ) → IsSmallNext next → IsSmallNext (steps X next indices)
  small_steps next [] small = small
  small_steps next (index ∷ more) small = small_steps (step X next index) more (small_step next index)

  small_does : (left : Left) (indices : List ℕ) → IsSmallNext (does X left indices)
  small_does left indices = small_steps (next_of X left) indices (small_runs left.names left.number left.lines)

small_entry : (instance session : ℕ) (principal : List ℕ) (item : Item) → IsSmallItem item → HasSmallValues (entry_for instance principal session item)
small_entry instance session principal (items.Fresh label usage) small = tt
small_entry instance session principal (items.Message value) small = small
small_entry instance session principal (items.State version tag fields) small = small
small_entry instance session principal (items.Event name args) small = small
small_entry instance session principal (items.Cert usage key) small = small

-- what is found by one step after another
found_by : {A B : Type 0} (o : Option A) (follows : A → Option B) (b : B) → option_and_then follows o ≡ Some b → (a : A) × (o ≡ Some a) × (follows a ≡ Some b)
found_by None follows b is = absurd cc
found_by (Some a) follows b is = (a, refl, is)

module _ (decls : List Decl) (T : List Entry) where
  -- the entry of what an instance does next
  of_next : (X : List Entry) (instance : ℕ) (start e : Entry) (indices : List ℕ) (next : Next) → does_after decls X start indices ≡ Some next
      → entry_of_next instance start next ≡ Some e → HasSmallValues e
  of_next X instance (Start number handler principal session args message) e indices next is puts = one (handler_named decls handler) is where
    put : (found : Next) → IsSmallNext X found → entry_of_next instance (Start number handler principal session args message) found ≡ Some e → HasSmallValues e
    put (Puts item binds left) small same = let is_e : entry_for instance principal session item ≡ e = cc (same) in subst HasSmallValues is_e (small_entry instance session principal item small)
    put (Ends outcome) small same = let is_e : End instance outcome ≡ e = cc (same) in subst HasSmallValues is_e tt

    one : (o : Option Handler) → option_map (λ h. does X (opening decls h principal session args (option_and_then (λ index. option_and_then message_in (slice_get X index)) message)) indices) o ≡ Some next → HasSmallValues e
    one None found = absurd cc
    one (Some h) found =
        let left = opening decls h principal session args (option_and_then (λ index. option_and_then message_in (slice_get X index)) message) in
        let same : does X left indices ≡ next = cc (found) in
        put next (subst (IsSmallNext X) same (small_does X left indices)) puts
  of_next X instance start e indices next is puts = absurd cc

  small_next : (instance : ℕ) (e : Entry) → next_entry decls T instance ≡ Some e → HasSmallValues e
  small_next instance e is = one (end_of T instance) is where
    one : (o : Option ℕ) → (if is_some o then None else option_and_then (entry_next decls T instance) (slice_get T instance)) ≡ Some e → HasSmallValues e
    one (Some k) found = absurd cc
    one None found =
        let start = found_by (slice_get T instance) (entry_next decls T instance) e found in
        let next = found_by (does_after decls (take instance T) start.0 (items_of T instance)) (entry_of_next instance start.0) e start.2 in
        of_next (take instance T) instance start.0 e (items_of T instance) next.0 next.1 next.2

  small_follows : (e : Entry) → MayFollow decls T e → HasSmallValues e
  small_follows (Setup input) may = tt
  small_follows (Start step handler principal session args message) may = tt
  small_follows (Fresh instance label usage) may = tt
  small_follows (Message instance value) may = small_next instance _ may
  small_follows (State instance principal session version tag fields) may = small_next instance _ may
  small_follows (Event instance principal name args) may = small_next instance _ may
  small_follows (Cert instance principal usage key) may = small_next instance _ may
  small_follows (End instance outcome) may = tt
  small_follows (Corrupt step corruption) may = tt
  small_follows (Forge step) may = tt
  small_follows (Inject step value) may = may.few_nodes
  small_follows (Skip step) may = tt

pub small_values : (bytes : List ℕ) (file : File) (T : List Entry) → Interleaves bytes file T → (i : ℕ) (e : Entry) → slice_get T i ≡ Some e → HasSmallValues e
small_values bytes file T is_one zero e at = let is : Setup bytes ≡ e = cc (at, is_one.opens) in subst HasSmallValues is tt
small_values bytes file T is_one (suc i) e at = small_follows file.decls (take (suc i) T) e (is_one.follows (suc i) e (omega arith) at)
