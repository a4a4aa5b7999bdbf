-- What the code collects on its way to the table of a meet.
use Rattle.std.specs.Prelude.{◌≡◌, ℕ, ◌<◌, true, false, List, Option, Some, None}
use Rattle.std.specs.List.{list_all, filter_map}
use Rattle.dy_label.specs.declared.tables.TheConstants.{ROWS}
use Rattle.dy_label.specs.Tables.{value_at}
use Rattle.dy_types.specs.declared.claims.Side.{Side}
use Rattle.dy_types.specs.declared.claims.Side.TheVariants.{Pk, Vk}
use Rattle.dy_types.specs.Claims.{StaticUse, ClaimOf, pk_label, vk_label}
use Rattle.dy_types.specs.Tables.{Table, is_empty}

-- the label of a claim on a key of this usage, public or for verification
abbrev pub key_label : {L : Type 0} → Side → StaticUse → ClaimOf L → Option L
key_label Pk usage claim = pk_label usage claim
key_label Vk usage claim = vk_label usage claim

-- the labels of the claims on such keys
abbrev pub key_labels : {L : Type 0} → Side → List (ClaimOf L) → StaticUse → List L
key_labels side claims usage = filter_map (key_label side usage) claims

-- The answer is set in the rows in which all of these tables are. There is one exactly where there are tables.
abbrev pub MeetIn : List Table → Option Table → Type 0
MeetIn tables None = is_empty tables ≡ true
MeetIn tables (Some met) =
    (is_empty tables ≡ false)
    × ((row : ℕ) → row < ROWS → value_at met row ≡ list_all (λ table. value_at table row) tables)
