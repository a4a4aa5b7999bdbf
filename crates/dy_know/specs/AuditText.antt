-- The text of a report: a line for each item, and last the number of breaches.
use Rattle.std.specs.Prelude.{ℕ, List, ◌++◌, codes, length}
use Rattle.std.specs.List.{flat_map}
use Rattle.std.specs.Fmt.{decimal}
use Rattle.dy_recipe.specs.Moves.{Move}
use Rattle.dy_know.specs.Knowing.{KnownFrom}
use Rattle.dy_know.specs.Breaches.{Breach, Nonce, Event}
use Rattle.dy_know.specs.Reports.{Report}
use Rattle.dy_know.specs.MoveText.{moves_text}

-- known I from N
abbrev pub known_line : KnownFrom → List ℕ
known_line known = codes "known " ++ decimal known.nonce ++ codes " from " ++ decimal known.from ++ codes "\n"

-- breach nonce I from N by MOVES
abbrev pub nonce_line : ℕ → ℕ → List Move → List ℕ
nonce_line nonce from recipe =
    codes "breach nonce " ++ decimal nonce ++ codes " from " ++ decimal from ++ codes " by " ++ moves_text recipe
    ++ codes "\n"

-- breach event I partner J
abbrev pub event_line : ℕ → ℕ → List ℕ
event_line event partner =
    codes "breach event " ++ decimal event ++ codes " partner " ++ decimal partner ++ codes "\n"

abbrev pub breach_line : Breach → List ℕ
breach_line (Nonce nonce from recipe) = nonce_line nonce from recipe
breach_line (Event event partner) = event_line event partner

-- breaches K
abbrev pub count_line : ℕ → List ℕ
count_line breaches = codes "breaches " ++ decimal breaches ++ codes "\n"

abbrev pub audit_text : Report → List ℕ
audit_text report =
    flat_map known_line report.known ++ flat_map breach_line report.breaches ++ count_line (length report.breaches)
