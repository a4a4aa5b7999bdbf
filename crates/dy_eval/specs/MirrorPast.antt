-- How the code finds States, one after another.
use Rattle.std.specs.Prelude.{◌≡◌, ℕ, true, false, List, Option, Some, slice_get}
use Rattle.dy_label.specs.StateOrder.{comes_before, is_after}
use Rattle.dy_entry.specs.Entries.{Entry, State}
use Rattle.dy_entry.specs.LookUps.{Fits}
use Rattle.dy_eval.specs.Past.{Stored}

-- What is stored is in the trace, as a State of this principal and tag, after what is given, and none such comes
-- before it.
pub record FoundNext (X : List Entry) (principal tag : List ℕ) (from : Option (ℕ × ℕ)) (s : Stored) : Type 0 where
  pub index : ℕ
  pub instance : ℕ
  pub stands : slice_get X index ≡ Some (State instance principal s.session s.version tag s.fields)
  pub after : is_after from (s.session, s.version) ≡ true
  pub first : (other : ℕ) (at : ℕ × ℕ) → Fits X principal tag from other at
      → comes_before at (s.session, s.version) ≡ false
