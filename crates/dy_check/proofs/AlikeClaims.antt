-- Claims that have the same elements have the same tables.
use Rattle.std.proofs.Common.{List, sym, ◌∙◌}
use Rattle.dy_label.specs.Labels.{is_open_where}
use Rattle.dy_label.specs.Words.{StaticLabel, uses_names_below}
use Rattle.dy_label.specs.Tables.{opens_in}
use Rattle.dy_types.specs.Claims.{ClaimOf, Claim, claimed_use, pk_label, vk_label, pk_labels, vk_labels}
use Rattle.dy_types.specs.Tables.{Table, MeetHasTables, ClaimsHaveTables}
use Rattle.dy_check.proofs.Members.{SameMembers, filter_map-same, list_all-same, is_empty-same}

MeetHasTables-same : (labels others : List StaticLabel) (tables : List Table) → SameMembers labels others → MeetHasTables labels tables → MeetHasTables others tables
MeetHasTables-same labels others tables same h = record {
  names = sym (list_all-same (uses_names_below 9) labels others same) ∙ h.names;
  empty = h.empty ∙ is_empty-same labels others same;
  rows = λ row below. h.rows row below ∙ list_all-same (is_open_where (opens_in row)) labels others same;
}

pub ClaimsHaveTables-same : (claims others : List Claim) (kept : List (ClaimOf Table)) → SameMembers claims others → ClaimsHaveTables claims kept → ClaimsHaveTables others kept
ClaimsHaveTables-same claims others kept same h =
    let uses = filter_map-same claimed_use claims others same in record {
      uses = λ usage. (λ k. (h.uses usage).0 (uses.back usage k), λ k. uses.into usage ((h.uses usage).1 k));
      pks = λ usage. MeetHasTables-same (pk_labels claims usage) (pk_labels others usage) (pk_labels kept usage) (filter_map-same (pk_label usage) claims others same) (h.pks usage);
      vks = λ usage. MeetHasTables-same (vk_labels claims usage) (vk_labels others usage) (vk_labels kept usage) (filter_map-same (vk_label usage) claims others same) (h.vks usage);
    }
