-- Truth tables of labels over a handler's words. A row of a table says of each word whether it is open.
use Rattle.std.specs.Prelude.{◌≡◌, ℕ, ◌<◌, ◌/◌, ◌%◌, ◌==◌, Bool, true, not, ◌&&◌, ◌||◌, List, slice_index}
use Rattle.std.specs.Int.{bit_at}
use Rattle.dy_label.specs.declared.tables.TheConstants.{SESSION_BIT, PRIOR_BIT, NEXT_BIT, ROWS, BLOCK_ROWS}
use Rattle.dy_label.specs.declared.words.TheConstants.{NAMES}
use Rattle.dy_label.specs.Labels.{Place, is_open_where}
use Rattle.dy_label.specs.Words.{Atom, Name, ThisSession, Next, Prior, StaticLabel, is_below, Choice, is_word_open}

abbrev pub is_set : ℕ → ℕ → Bool
is_set number bit = bit_at number bit == 1

-- Each word has a bit of the row's number: the names in order, and then these three.
abbrev pub bit_of : Atom → ℕ
bit_of (Name number) = number
bit_of ThisSession = SESSION_BIT
bit_of Prior = PRIOR_BIT
bit_of Next = NEXT_BIT

-- whether the word is open in this row
abbrev pub opens_in : ℕ → Atom → Bool
opens_in row atom = is_set row (bit_of atom)

-- A version is open only with its session, and a session only with its principal.
abbrev pub is_lawful : ℕ → Bool
is_lawful row = (not (opens_in row Prior || opens_in row Next) || opens_in row ThisSession)
    && (not (opens_in row ThisSession) || opens_in row (Name 0))

-- The row in which those words are open that the corruptions open, where the words stand for what was chosen.
abbrev pub IsRowOf : Choice → List Place → ℕ → Type 0
IsRowOf choice corruptions row = (atom : Atom) → is_below NAMES atom ≡ true
    → opens_in row atom ≡ is_word_open choice corruptions atom

-- In each lawful row where the first label is open, so is the second.
abbrev pub ImpliesInRows : StaticLabel → StaticLabel → Type 0
ImpliesInRows first second = (row : ℕ) → row < ROWS → is_lawful row ≡ true
    → is_open_where (opens_in row) first ≡ true → is_open_where (opens_in row) second ≡ true

-- the truth value in this row of a table, which has its rows in blocks
abbrev pub value_at : List ℕ → ℕ → Bool
value_at table row = is_set (slice_index table (row / BLOCK_ROWS)) (row % BLOCK_ROWS)

-- The table has in each row the label's truth value there.
abbrev pub IsTableOf : StaticLabel → List ℕ → Type 0
IsTableOf label table = (row : ℕ) → row < ROWS → value_at table row ≡ is_open_where (opens_in row) label

-- Each lawful row that is set in the first table is set in the second.
abbrev pub IsWithin : List ℕ → List ℕ → Type 0
IsWithin first second = (row : ℕ) → row < ROWS → is_lawful row ≡ true
    → value_at first row ≡ true → value_at second row ≡ true
