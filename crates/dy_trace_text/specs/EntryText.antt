-- The line of each entry of a trace.
use Rattle.std.specs.Prelude.{ℕ, List, [], ◌∷◌, Option, Some, None, codes, length}
use Rattle.std.specs.Fmt.{decimal}
use Rattle.dy_term.specs.TermText.{term_text}
use Rattle.dy_label.specs.declared.usages.Outcome.{Outcome}
use Rattle.dy_label.specs.declared.usages.Outcome.TheVariants as ends
use Rattle.dy_entry.specs.Entries.{Entry, Setup, Start, Fresh, Message, State, Event, Cert, End, Corrupt, Forge, Inject, Skip}
use Rattle.dy_trace_text.specs.ListText.{line, words_text, terms_text}
use Rattle.dy_trace_text.specs.LabelText.{place_parts, label_text, usage_text}

-- the index of the message that an instance is given, or `-` where it is given none
abbrev pub given_text : Option ℕ → List ℕ
given_text None = codes "-"
given_text (Some index) = decimal index

-- how an instance ends: `done`, or `stopped` and the number of the statement
abbrev pub outcome_parts : Outcome → List (List ℕ)
outcome_parts ends.Done = codes "done" ∷ []
outcome_parts (ends.Stopped statement) = codes "stopped" ∷ decimal statement ∷ []

-- the parts of the entry's line after its index
abbrev pub entry_parts : Entry → List (List ℕ)
entry_parts (Setup input) = codes "setup" ∷ decimal (length input) ∷ []
entry_parts (Start step handler principal session args message) =
    codes "start" ∷ decimal step ∷ handler ∷ principal ∷ decimal session ∷ words_text args ∷ given_text message ∷ []
entry_parts (Fresh instance label usage) =
    codes "fresh" ∷ decimal instance ∷ label_text label ∷ usage_text usage ∷ []
entry_parts (Message instance value) = codes "message" ∷ decimal instance ∷ term_text value ∷ []
entry_parts (State instance principal session version tag fields) =
    codes "state" ∷ decimal instance ∷ principal ∷ decimal session ∷ decimal version ∷ tag ∷ terms_text fields ∷ []
entry_parts (Event instance principal name args) =
    codes "event" ∷ decimal instance ∷ principal ∷ name ∷ terms_text args ∷ []
entry_parts (Cert instance principal usage key) =
    codes "cert" ∷ decimal instance ∷ principal ∷ usage ∷ term_text key ∷ []
entry_parts (End instance outcome) = codes "end" ∷ decimal instance ∷ outcome_parts outcome
entry_parts (Corrupt step corruption) = codes "corrupt" ∷ decimal step ∷ place_parts corruption
entry_parts (Forge step) = codes "forge" ∷ decimal step ∷ []
entry_parts (Inject step value) = codes "inject" ∷ decimal step ∷ term_text value ∷ []
entry_parts (Skip step) = codes "skip" ∷ decimal step ∷ []

-- the line of the entry at this index
abbrev pub line_of : ℕ → Entry → List ℕ
line_of index entry = line (decimal index ∷ entry_parts entry)
