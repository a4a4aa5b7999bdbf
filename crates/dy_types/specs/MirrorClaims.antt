-- When claims say the same, and when one adds nothing to others.
use Rattle.std.specs.Prelude.{◌≡◌, ◌↔◌, ℕ, ◌<◌, false, ◌&&◌, List, Contains}
use Rattle.std.specs.List.{list_all}
use Rattle.dy_label.specs.declared.tables.TheConstants.{ROWS}
use Rattle.dy_label.specs.Tables.{value_at}
use Rattle.dy_types.specs.declared.claims.Side.{Side}
use Rattle.dy_types.specs.Claims.{StaticUse, ClaimOf, Use, Pk, Vk, uses_in, pk_labels, vk_labels}
use Rattle.dy_types.specs.Tables.{Table, is_empty}
use Rattle.dy_types.specs.MirrorMeets.{key_labels}

-- All of the one tables are set in the rows in which all of the others are. There are some exactly where there are
-- others.
pub record MeetsAlike (tables others : List Table) : Type 0 where
  pub empty : is_empty tables ≡ is_empty others
  pub rows : (row : ℕ) → row < ROWS
      → list_all (λ table. value_at table row) tables ≡ list_all (λ table. value_at table row) others

-- Of each usage the claims say the same.
pub record SayTheSame (kept others : List (ClaimOf Table)) : Type 0 where
  pub uses : (usage : StaticUse) → Contains (uses_in kept) usage ↔ Contains (uses_in others) usage
  pub keys : (side : Side) (usage : StaticUse)
      → MeetsAlike (key_labels side kept usage) (key_labels side others usage)

-- There are tables, and this one is set in the rows in which all of them are.
pub record CoversMeet (tables : List Table) (table : Table) : Type 0 where
  pub some : is_empty tables ≡ false
  pub rows : (row : ℕ) → row < ROWS
      → (list_all (λ other. value_at other row) tables && value_at table row)
      ≡ list_all (λ other. value_at other row) tables

abbrev pub SaysNothingNew : List (ClaimOf Table) → ClaimOf Table → Type 0
SaysNothingNew kept (Use usage) = Contains (uses_in kept) usage
SaysNothingNew kept (Pk table usage) = CoversMeet (pk_labels kept usage) table
SaysNothingNew kept (Vk table usage) = CoversMeet (vk_labels kept usage) table
