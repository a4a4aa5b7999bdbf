-- What the words of a step name in a trace.
use Rattle.std.specs.Prelude.{ℕ, zero, suc, ◌==◌, List, Option, Some, None, if◌then◌else◌}
use Rattle.std.specs.Option.{option_map, option_and_then}
use Rattle.std.specs.List.{slice_get}
use Rattle.std.specs.Str.{bytes_eq}
use Rattle.dy_syntax.specs.Plans.{Plan}
use Rattle.dy_entry.specs.Entries.{Entry, Start, Forge, Inject}
use Rattle.dy_entry.specs.LookUps.{is_message_of, is_cert_of, state_at}
use Rattle.dy_traces.specs.Steps.{step_at}
use Rattle.dy_traces.specs.Instances.{indices_from}
use Rattle.dy_plan.specs.Steps.{number_of}

-- the entry at an index, after the index
abbrev pub found_at : List Entry → ℕ → Option (ℕ × Entry)
found_at T index = option_map (λ e. (index, e)) (slice_get T index)

-- the entry of the step of this name, after its index
abbrev pub entry_named : Plan → List Entry → List ℕ → Option (ℕ × Entry)
entry_named plan T name = option_and_then (found_at T) (option_and_then (step_at T) (number_of plan name))

-- a session: the principal that opened it, and its number
pub record OpenedSession : Type 0 where
  pub principal : List ℕ
  pub number : ℕ

-- The session that the entry at this index opened: a Start without an earlier session opens that of its own index.
abbrev pub session_opened : ℕ → Entry → Option OpenedSession
session_opened index (Start step handler principal session args message) =
    if session == index then Some (record { principal = principal; number = session }) else None
session_opened index e = None

-- the session that the step of this name opened
abbrev pub session_named : Plan → List Entry → List ℕ → Option OpenedSession
session_named plan T name = option_and_then (λ found. session_opened found.0 found.1) (entry_named plan T name)

-- the number of a session, if this principal opened it
abbrev pub number_for : List ℕ → OpenedSession → Option ℕ
number_for principal session = if bytes_eq session.principal principal then Some session.number else None

-- the session that the step of this name opened for this principal
abbrev pub session_of : Plan → List Entry → List ℕ → List ℕ → Option ℕ
session_of plan T principal name = option_and_then (number_for principal) (session_named plan T name)

-- the one of this number, counted from 1
abbrev pub counted_from_one : List ℕ → ℕ → Option ℕ
counted_from_one indices zero = None
counted_from_one indices (suc place) = slice_get indices place

-- The message of this number of the entry of a step, which has this index. It is a Message of the instance that it
-- starts, or the bytes that it injects, which are the first.
abbrev pub message_of_step : List Entry → ℕ → ℕ → Entry → Option ℕ
message_of_step T number index (Start step handler principal session args message) =
    counted_from_one (indices_from 0 (is_message_of index) T) number
message_of_step T number index (Inject step value) = if number == 1 then Some index else None
message_of_step T number index e = None

-- the certificate of this number of the instance that the entry at this index starts
abbrev pub cert_of_step : List Entry → ℕ → ℕ → Entry → Option ℕ
cert_of_step T number index (Start step handler principal session args message) =
    counted_from_one (indices_from 0 (is_cert_of index) T) number
cert_of_step T number index e = None

-- the entry at this index, if it forges a nonce
abbrev pub nonce_of_step : ℕ → Entry → Option ℕ
nonce_of_step index (Forge step) = Some index
nonce_of_step index e = None

-- `msg s.j`: the index of the message
abbrev pub message_named : Plan → List Entry → List ℕ → ℕ → Option ℕ
message_named plan T name number =
    option_and_then (λ found. message_of_step T number found.0 found.1) (entry_named plan T name)

-- `cert s.j`: the index of the certificate
abbrev pub cert_named : Plan → List Entry → List ℕ → ℕ → Option ℕ
cert_named plan T name number =
    option_and_then (λ found. cert_of_step T number found.0 found.1) (entry_named plan T name)

-- `nonce s`: the index of the Forge
abbrev pub nonce_named : Plan → List Entry → List ℕ → Option ℕ
nonce_named plan T name = option_and_then (λ found. nonce_of_step found.0 found.1) (entry_named plan T name)

-- `field s.v.k`: the index of the State that is this version of the session that the step opened
abbrev pub state_named : Plan → List Entry → List ℕ → ℕ → Option ℕ
state_named plan T name version =
    option_and_then (λ session. state_at T session.principal session.number version) (session_named plan T name)
