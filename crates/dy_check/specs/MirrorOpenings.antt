-- How the fields of what was opened, verified or found come to be known.
use Rattle.std.specs.Prelude.{◌≡◌}
use Rattle.dy_label.specs.Labels.{Public}
use Rattle.dy_label.specs.Words.{StaticLabel}
use Rattle.dy_types.specs.Claims.{Known}
use Rattle.dy_types.specs.FieldTypes.{Declared, declared_claims, narrow_by}
use Rattle.dy_types.specs.Tables.{HasTable}
use Rattle.dy_check.specs.declared.effects.openings.Way as ways
use Rattle.dy_check.specs.declared.effects.openings.Way.TheVariants.{Opened, Verified}
use Rattle.dy_check.specs.declared.effects.openings.Opening as opening

-- what is known of a field of this type
abbrev pub known_by : ways.Way → StaticLabel → StaticLabel → Declared → Known
known_by Opened hi guard type = narrow_by type hi guard
known_by Verified hi guard type = record { hi = hi; lo = Public; claims = declared_claims type guard }

-- The opening is this way, and has the tables of these labels.
pub record IsOpening (way : ways.Way) (hi guard : StaticLabel) (kept : opening.Opening) : Type 0 where
  pub is_way : kept.way ≡ way
  pub hi_table : HasTable hi kept.hi
  pub guard_table : HasTable guard kept.guard
