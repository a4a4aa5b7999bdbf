-- Which entry may follow a trace.
use Rattle.std.specs.Prelude.{◌≡◌, ℕ, ◌≤◌, List, length, Option, Some, None}
use Rattle.std.specs.Option.{option_and_then}
use Rattle.std.specs.List.{slice_get}
use Rattle.dy_term.specs.Terms.{Term, size}
use Rattle.dy_term.specs.declared.limits.TheConstants.{MAX_NODES}
use Rattle.dy_syntax.specs.Names.{Id}
use Rattle.dy_syntax.specs.Statements as statements
use Rattle.dy_syntax.specs.Statements.{OnPart}
use Rattle.dy_syntax.specs.Files.{Decl}
use Rattle.dy_syntax.specs.LookUps.{handler_named}
use Rattle.dy_entry.specs.Entries.{Entry, Setup, Start, Fresh, Message, State, Event, Cert, End, Corrupt, Forge, Inject, Skip}
use Rattle.dy_entry.specs.Attacker.{Derives}
use Rattle.dy_eval.specs.Starts.{message_in}
use Rattle.dy_traces.specs.Steps.{IsUnused}
use Rattle.dy_traces.specs.Instances.{IsRunningIn, IsSessionOf, next_entry}

-- the message at an index, of an instance or of the attacker
abbrev pub message_at : List Entry → ℕ → Option Term
message_at T index = option_and_then message_in (slice_get T index)

-- An instance is given a message exactly where its handler receives one.
abbrev pub MayReceive : List Entry → Option Id → Option ℕ → Type 0
MayReceive T None None = Unit {0}
MayReceive T (Some word) (Some index) = (value : Term) × (message_at T index ≡ Some value)
MayReceive T received message = ⊥

-- A handler that goes on from a state needs a session of the same principal in which no instance is running. Another
-- opens a session, which has the index of its Start.
abbrev pub MayBeIn : List Entry → Option OnPart → List ℕ → ℕ → Type 0
MayBeIn T None principal session = session ≡ length T
MayBeIn T (Some on) principal session =
    IsSessionOf T principal session × ((instance : ℕ) → IsRunningIn T session instance → ⊥)

-- A Start may follow. The step is not used yet, the handler is declared, and it has as many arguments. It may receive
-- this message and be in this session.
pub record MayStart (decls : List Decl) (T : List Entry) (step : ℕ) (handler principal : List ℕ) (session : ℕ)
    (args : List (List ℕ)) (message : Option ℕ) : Type 0 where
  pub unused : IsUnused T step
  pub declared : statements.Handler
  pub is_declared : handler_named decls handler ≡ Some declared
  pub arguments : length args ≡ length declared.args
  pub session_fits : MayBeIn T declared.on principal session
  pub message_fits : MayReceive T declared.recv message

-- A message of the attacker may follow: the step is not used yet, and the attacker derives the bytes, which have at
-- most 1,024 nodes.
pub record MayInject (T : List Entry) (step : ℕ) (value : Term) : Type 0 where
  pub unused : IsUnused T step
  pub derived : Derives T value
  pub few_nodes : size value ≤ MAX_NODES

-- The entry may follow the trace. What an instance puts may follow where it is what the instance does next.
abbrev pub MayFollow : List Decl → List Entry → Entry → Type 0
MayFollow decls T (Setup input) = ⊥
MayFollow decls T (Start step handler principal session args message) =
    MayStart decls T step handler principal session args message
MayFollow decls T (Fresh instance label usage) = next_entry decls T instance ≡ Some (Fresh instance label usage)
MayFollow decls T (Message instance value) = next_entry decls T instance ≡ Some (Message instance value)
MayFollow decls T (State instance principal session version tag fields) =
    next_entry decls T instance ≡ Some (State instance principal session version tag fields)
MayFollow decls T (Event instance principal name args) =
    next_entry decls T instance ≡ Some (Event instance principal name args)
MayFollow decls T (Cert instance principal usage key) =
    next_entry decls T instance ≡ Some (Cert instance principal usage key)
MayFollow decls T (End instance outcome) = next_entry decls T instance ≡ Some (End instance outcome)
MayFollow decls T (Corrupt step corruption) = IsUnused T step
MayFollow decls T (Forge step) = IsUnused T step
MayFollow decls T (Inject step value) = MayInject T step value
MayFollow decls T (Skip step) = IsUnused T step
