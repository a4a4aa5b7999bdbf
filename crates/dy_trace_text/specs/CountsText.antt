-- The line of the counts of a trace.
use Rattle.std.specs.Prelude.{ℕ, List, [], ◌∷◌, codes}
use Rattle.std.specs.Fmt.{decimal}
use Rattle.dy_entry.specs.Summaries.{Counts}
use Rattle.dy_trace_text.specs.ListText.{line}

-- the parts of the line after its word
abbrev pub count_parts : Counts → List (List ℕ)
count_parts counts =
    decimal counts.total ∷ codes "start" ∷ decimal counts.start ∷ codes "fresh" ∷ decimal counts.fresh
    ∷ codes "message" ∷ decimal counts.message ∷ codes "state" ∷ decimal counts.state
    ∷ codes "event" ∷ decimal counts.event ∷ codes "cert" ∷ decimal counts.cert
    ∷ codes "done" ∷ decimal counts.done ∷ codes "stopped" ∷ decimal counts.stopped
    ∷ codes "corrupt" ∷ decimal counts.corrupt ∷ codes "forge" ∷ decimal counts.forge
    ∷ codes "inject" ∷ decimal counts.inject ∷ codes "skip" ∷ decimal counts.skip ∷ []

-- The line begins with this word, which is `total` or `snapshot`.
abbrev pub counts_text : List ℕ → Counts → List ℕ
counts_text word counts = line (word ∷ count_parts counts)
