-- The text of a trace, and which traces have one.
use Rattle.std.specs.Prelude.{◌≡◌, ℕ, ◌+◌, ◌^◌, ◌<◌, Bool, true, false, not, ◌&&◌, nat_lt, nat_le}
use Rattle.std.specs.Prelude.{List, [], ◌∷◌, ◌++◌, codes, length}
use Rattle.std.specs.List.{list_all, list_any}
use Rattle.dy_term.specs.Terms.{Term, size}
use Rattle.dy_term.specs.declared.limits.TheConstants.{MAX_NODES}
use Rattle.dy_entry.specs.Entries.{Entry, Setup, Message, State, Event, Cert, Inject}
use Rattle.dy_entry.specs.Summaries.{counts_in}
use Rattle.dy_trace_text.specs.EntryText.{line_of}
use Rattle.dy_trace_text.specs.CountsText.{counts_text}

-- the lines of entries, of which the first has this index
abbrev pub lines_from : ℕ → List Entry → List ℕ
lines_from index [] = []
lines_from index (entry ∷ more) = line_of index entry ++ lines_from (index + 1) more

-- a line for each entry, and then that of all counts
abbrev pub trace_text : List Entry → List ℕ
trace_text T = lines_from 0 T ++ counts_text (codes "total") (counts_in T)

-- ---- which traces have a text

abbrev pub is_setup : Entry → Bool
is_setup (Setup input) = true
is_setup _ = false

-- The first entry, and no other, is the Setup, of fewer than 2^32 bytes.
abbrev pub is_set_up : List Entry → Bool
is_set_up (Setup input ∷ more) = nat_lt (length input) (2 ^ 32) && not (list_any is_setup more)
is_set_up _ = false

-- the values that stand in an entry
abbrev pub values_in : Entry → List Term
values_in (Message instance value) = value ∷ []
values_in (State instance principal session version tag fields) = fields
values_in (Event instance principal name args) = args
values_in (Cert instance principal usage key) = key ∷ []
values_in (Inject step value) = value ∷ []
values_in _ = []

abbrev pub is_small : Term → Bool
is_small value = nat_le (size value) MAX_NODES

-- These entries have a text, where they can stand in the code.
pub record HasText (T : List Entry) : Type 0 where
  pub few : length T < 2 ^ 32
  pub set_up : is_set_up T ≡ true
  pub small : list_all (λ entry. list_all is_small (values_in entry)) T ≡ true
