-- The unfinished instances of a trace: what each has left to do, and what is known there.
use Rattle.std.specs.Prelude.{◌≡◌, ℕ, zero, suc, List, Contains, fold, take, Option, Some, None}
use Rattle.std.specs.Option.{option_and_then}
use Rattle.std.specs.List.{slice_get}
use Rattle.dy_label.specs.Words.{Choice}
use Rattle.dy_syntax.specs.Statements.{Handler}
use Rattle.dy_syntax.specs.Files.{Decl}
use Rattle.dy_syntax.specs.LookUps.{handler_named}
use Rattle.dy_syntax.specs.Scopes.{words_of, handler_names}
use Rattle.dy_typing.specs.Knowledge.{Knowledge}
use Rattle.dy_typing.specs.Effects.{bound_first}
use Rattle.dy_typing.specs.Typing.{Reaches}
use Rattle.dy_entry.specs.Entries.{Entry, Start}
use Rattle.dy_entry.specs.LookUps.{newest}
use Rattle.dy_eval.specs.declared.written.Written.{Written}
use Rattle.dy_eval.specs.Runs.{Left, Next, Puts, Ends, next_of, tell}
use Rattle.dy_eval.specs.Starts.{opening}
use Rattle.dy_traces.specs.Instances.{items_of, end_of}
use Rattle.dy_traces.specs.Following.{message_at}
use Rattle.dy_sound.specs.Valid.{IsValid}
use Rattle.dy_sound.specs.Names.{Agrees}
use Rattle.dy_sound.specs.Knowledge.{Holds}

-- what is left once the item that is put next has this index
abbrev pub left_told : ℕ → Next → Option Left
left_told index (Puts item binds left) = Some (tell index binds left)
left_told index (Ends outcome) = None

abbrev pub with_item_at : List Entry → Option Left → ℕ → Option Left
with_item_at X left index = option_and_then (λ before. left_told index (next_of X before)) left

-- What an instance has left to do once its items have these indices, if it puts so many. X is the trace before its
-- Start.
abbrev pub left_after : List Entry → Left → List ℕ → Option Left
left_after X left indices = fold (with_item_at X) (Some left) indices

-- The instance whose Start has this index has no End, is of this handler, and has this left to do.
pub record IsUnfinished (decls : List Decl) (T : List Entry) (instance : ℕ) (handler : Handler) (left : Left)
    : Type 0 where
  pub step : ℕ
  pub name : List ℕ
  pub principal : List ℕ
  pub session : ℕ
  pub args : List (List ℕ)
  pub message : Option ℕ
  pub stands : slice_get T instance ≡ Some (Start step name principal session args message)
  pub is_declared : handler_named decls name ≡ Some handler
  pub has_no_end : end_of T instance ≡ None
  pub has_left :
      let X = take instance T in
      let start = opening decls handler principal session args (option_and_then (message_at X) message) in
      left_after X start (items_of T instance) ≡ Some left

-- Something is known before the statement of this number, by a derivation in which no condition of the statements
-- before fails. The `on` part has number 0.
abbrev pub IsKnownBefore : List Decl → Handler → ℕ → Knowledge → Type 0
IsKnownBefore decls handler zero k = k ≡ bound_first handler
IsKnownBefore decls handler (suc done) k = Reaches decls handler (take done handler.body) k

-- The values that are written are valid, and all that is known before the next statement holds. Nothing is asked
-- of the names in whose place nothing is written yet. X is the trace before the instance's Start.
pub record IsGoodSoFar (decls : List Decl) (T X : List Entry) (handler : Handler) (left : Left) : Type 0 where
  pub values_are_valid : (written : Written) → Contains left.names.written written → IsValid decls T written.bytes
  pub knowledge_holds : (k : Knowledge) → IsKnownBefore decls handler left.number k
      → (choice : Choice)
      → Agrees (words_of (handler_names handler)) (newest X left.names.principal left.names.session) left.names choice
      → Holds decls T choice left.names k
