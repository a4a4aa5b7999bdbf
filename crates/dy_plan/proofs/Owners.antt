-- The step that an entry is of.
use Rattle.std.proofs.Common.{◌≡◌, ℕ, ◌==◌, true, List, ◌++◌, Option, Some, None, refl, ap, ◌∙◌, arith}
use Rattle.std.specs.Option.{option_and_then}
use Rattle.std.specs.List.{slice_get}
use Rattle.dy_entry.specs.Entries.{Entry, Setup, Start, Fresh, Message, State, Event, Cert, End, Corrupt, Forge, Inject, Skip}
use Rattle.dy_traces.specs.Steps.{has_step}
use Rattle.dy_traces.specs.Instances.{is_item_of}
use Rattle.dy_traces.proofs.Prefixes.{in_longer}
use Rattle.dy_plan.specs.Completeness.{step_started, step_of_instance, step_of, owner}

pub same_number : (a b : ℕ) → (a == b) ≡ true → a ≡ b
same_number a b is = search (arith, is)

-- an option that has a value, and what it has it by
pub and_then_some : {A B : Type 0} (f : A → Option B) (o : Option A) (y : B) → option_and_then f o ≡ Some y → (x : A) × (o ≡ Some x) × (f x ≡ Some y)
and_then_some f None y some = absurd cc
and_then_some f (Some x) y some = (x, refl, some)

-- the entry of a step is of that step
pub of_own_step : (T : List Entry) (number : ℕ) (e : Entry) → has_step number e ≡ true → step_of T e ≡ Some number
of_own_step T number (Start step handler principal session args message) has = ap Some (same_number step number has)
of_own_step T number (Corrupt step corruption) has = ap Some (same_number step number has)
of_own_step T number (Forge step) has = ap Some (same_number step number has)
of_own_step T number (Inject step value) has = ap Some (same_number step number has)
of_own_step T number (Skip step) has = ap Some (same_number step number has)
of_own_step T number e has = absurd cc

-- an item of an instance is of its step
pub of_instance : (T : List Entry) (instance : ℕ) (e : Entry) → is_item_of instance e ≡ true → step_of T e ≡ step_of_instance T instance
of_instance T instance (Fresh other label usage) is = ap (step_of_instance T) (same_number other instance is)
of_instance T instance (Message other value) is = ap (step_of_instance T) (same_number other instance is)
of_instance T instance (State other principal session version tag fields) is = ap (step_of_instance T) (same_number other instance is)
of_instance T instance (Event other principal name args) is = ap (step_of_instance T) (same_number other instance is)
of_instance T instance (Cert other principal usage key) is = ap (step_of_instance T) (same_number other instance is)
of_instance T instance e is = absurd cc

-- an item has no step number
pub item_without_step : (instance number : ℕ) (e : Entry) → is_item_of instance e ≡ true → has_step number e ≡ true → ⊥
item_without_step instance number (Fresh other label usage) is has = absurd cc
item_without_step instance number (Message other value) is has = absurd cc
item_without_step instance number (State other principal session version tag fields) is has = absurd cc
item_without_step instance number (Event other principal name args) is has = absurd cc
item_without_step instance number (Cert other principal usage key) is has = absurd cc
item_without_step instance number e is has = absurd cc

instance_longer : (T more : List Entry) (instance number : ℕ) → step_of_instance T instance ≡ Some number → step_of_instance (T ++ more) instance ≡ Some number
instance_longer T more instance number is =
    let start = and_then_some step_started (slice_get T instance) number is in
    ap (option_and_then step_started) (in_longer T more instance start.0 start.1) ∙ start.2

-- in a longer trace an entry is of the same step
pub of_longer : (T more : List Entry) (e : Entry) (number : ℕ) → step_of T e ≡ Some number → step_of (T ++ more) e ≡ Some number
of_longer T more (Setup input) number is = absurd cc
of_longer T more (Start step handler principal session args message) number is = is
of_longer T more (Fresh instance label usage) number is = instance_longer T more instance number is
of_longer T more (Message instance value) number is = instance_longer T more instance number is
of_longer T more (State instance principal session version tag fields) number is = instance_longer T more instance number is
of_longer T more (Event instance principal name args) number is = instance_longer T more instance number is
of_longer T more (Cert instance principal usage key) number is = instance_longer T more instance number is
of_longer T more (End instance outcome) number is = instance_longer T more instance number is
of_longer T more (Corrupt step corruption) number is = is
of_longer T more (Forge step) number is = is
of_longer T more (Inject step value) number is = is
of_longer T more (Skip step) number is = is

-- the owner of an index is that of the entry there
pub owner_at : (T : List Entry) (i : ℕ) (e : Entry) → slice_get T i ≡ Some e → owner T i ≡ step_of T e
owner_at T i e at = ap (option_and_then (step_of T)) at
