-- What a step that starts an instance stands for.
use Rattle.std.specs.Prelude.{ℕ, List, Option, Some, None, length}
use Rattle.dy_entry.specs.Entries.{Entry, Start}
use Rattle.dy_core.specs.declared.steps.StartStep as code

-- a step that starts an instance, in a session that is given or in one of its own
pub record StartStep : Type 0 where
  pub step : ℕ
  pub handler : List ℕ
  pub principal : List ℕ
  pub session : Option ℕ
  pub args : List (List ℕ)
  pub message : Option ℕ

abbrev pub step_of : code.StartStep → StartStep
step_of s = record {
  step = s.step;
  handler = s.handler;
  principal = s.principal;
  session = s.session;
  args = s.args;
  message = s.message;
}

-- the session of the Start at an index: that which is given, or one of its own
abbrev pub session_of : Option ℕ → ℕ → ℕ
session_of (Some session) index = session
session_of None index = index

-- the Start that the step adds to a trace
abbrev pub start_of : StartStep → List Entry → Entry
start_of s T = Start s.step s.handler s.principal (session_of s.session (length T)) s.args s.message
