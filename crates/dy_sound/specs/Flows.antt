-- How labels in a trace depend on one another, whatever is corrupted later.
use Rattle.std.specs.Prelude.{◌≡◌, true, List, Contains}
use Rattle.dy_label.specs.Labels.{Place, Label, is_open}
use Rattle.dy_entry.specs.Entries.{Entry}
use Rattle.dy_entry.specs.LookUps.{corruptions}

-- The corruptions are over the trace: all those of the trace are among them.
pub record IsOver (T : List Entry) (C : List Place) : Type 0 where
  pub has_all : (corruption : Place) → Contains (corruptions T) corruption → Contains C corruption

-- Under all corruptions over the trace, where the first label is open so is the second.
pub record Flows (T : List Entry) (from to : Label) : Type 0 where
  pub opens : (C : List Place) → IsOver T C → is_open C from ≡ true → is_open C to ≡ true

-- The label is open under the corruptions of the trace: the attacker may know what has it.
pub record IsShown (T : List Entry) (label : Label) : Type 0 where
  pub is_open_now : is_open (corruptions T) label ≡ true
