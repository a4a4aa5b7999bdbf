-- One more entry is counted.
use Rattle.std.specs.Prelude.{ℕ, ◌+◌, ◌<◌, ◌^◌, Bool, if◌then◌else◌}
use Rattle.dy_entry.specs.Entries.{Entry}
use Rattle.dy_entry.specs.Summaries.{Counts, is_start, is_fresh, is_message, is_state, is_event, is_cert}
use Rattle.dy_entry.specs.Summaries.{is_done, is_stopped, is_corrupt, is_forge, is_inject, is_skip}

abbrev pub one_more_if : Bool → ℕ → ℕ
one_more_if counted number = if counted then number + 1 else number

-- the counts with one more entry
abbrev pub with_entry : Counts → Entry → Counts
with_entry s e = record {
  total = s.total + 1;
  start = one_more_if (is_start e) s.start;
  fresh = one_more_if (is_fresh e) s.fresh;
  message = one_more_if (is_message e) s.message;
  state = one_more_if (is_state e) s.state;
  event = one_more_if (is_event e) s.event;
  cert = one_more_if (is_cert e) s.cert;
  done = one_more_if (is_done e) s.done;
  stopped = one_more_if (is_stopped e) s.stopped;
  corrupt = one_more_if (is_corrupt e) s.corrupt;
  forge = one_more_if (is_forge e) s.forge;
  inject = one_more_if (is_inject e) s.inject;
  skip = one_more_if (is_skip e) s.skip;
}

-- Each count may rise by one.
pub record HasRoom (s : Counts) : Type 0 where
  pub total : s.total + 1 < 2 ^ 32
  pub start : s.start + 1 < 2 ^ 32
  pub fresh : s.fresh + 1 < 2 ^ 32
  pub message : s.message + 1 < 2 ^ 32
  pub state : s.state + 1 < 2 ^ 32
  pub event : s.event + 1 < 2 ^ 32
  pub cert : s.cert + 1 < 2 ^ 32
  pub done : s.done + 1 < 2 ^ 32
  pub stopped : s.stopped + 1 < 2 ^ 32
  pub corrupt : s.corrupt + 1 < 2 ^ 32
  pub forge : s.forge + 1 < 2 ^ 32
  pub inject : s.inject + 1 < 2 ^ 32
  pub skip : s.skip + 1 < 2 ^ 32
