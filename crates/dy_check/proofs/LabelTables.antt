-- Tables of labels that are made of others.
use Rattle.std.proofs.lemmas.Bool.{and_from}
use Rattle.dy_label.specs.Labels.{Meet}
use Rattle.dy_label.specs.Words.{StaticLabel, uses_names_below}
use Rattle.dy_label.specs.Tables.{IsTableOf}
use Rattle.dy_types.specs.Tables.{Table, HasTable}

-- The meet of two labels that have tables has the table that is that of a meet.
pub HasTable-Meet : (first second : StaticLabel) (left right table : Table) → HasTable first left → HasTable second right
    → (IsTableOf first left → IsTableOf second right → IsTableOf (Meet first second) table) → HasTable (Meet first second) table
HasTable-Meet first second left right table h k met = record {
  names = and_from (uses_names_below 9 first) (uses_names_below 9 second) h.names k.names;
  rows = met h.rows k.rows;
}
