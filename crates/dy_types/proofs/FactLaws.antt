-- Facts and what the code keeps of them.
use Rattle.std.proofs.Common.{◌≡◌, ℕ, Bool, true, false, ◌&&◌, List, [], ◌∷◌, ◌++◌, map, Some, None, if◌then◌else◌, sym, ap, refl}
use Rattle.std.specs.Str.{bytes_eq}
use Rattle.std.specs.List.{cons_option}
use Rattle.dy_label.specs.Words.{StaticLabel}
use Rattle.dy_types.specs.Facts.{FactOf, Fact, first_of, is_fact_of, guard_of, guards_of}
use Rattle.dy_types.specs.Tables.{Table, HasTable, MeetHasTables, FactHasTable, FactsHaveTables}
use Rattle.dy_types.proofs.MeetLaws.{MeetHasTables-none, MeetHasTables-one, MeetHasTables-append}

module _ (first event values : List ℕ) where
  one_guard : (b : Bool) (guard : StaticLabel) (table : Table) (labels : List StaticLabel) (tables : List Table)
      → HasTable guard table → MeetHasTables labels tables
      → MeetHasTables (cons_option (if b then Some guard else None) labels) (cons_option (if b then Some table else None) tables)
  one_guard true guard table labels tables h k = MeetHasTables-append (guard ∷ []) labels (table ∷ []) tables (MeetHasTables-one guard table h) k
  one_guard false guard table labels tables h k = k

  same_fact : (fact : Fact) (kept : FactOf Table) → FactHasTable fact kept → is_fact_of first event values fact ≡ is_fact_of first event values kept
  same_fact fact kept h = let e = h.event in let a = h.args in
      rw (e, a) refl

  pub guards_have : (facts : List Fact) (kept : List (FactOf Table)) → FactsHaveTables facts kept
      → MeetHasTables (guards_of first facts event values) (guards_of first kept event values)
  guards_have [] [] h = MeetHasTables-none
  guards_have [] (other ∷ rest) h = absurd h
  guards_have (fact ∷ facts) [] h = absurd h
  guards_have (fact ∷ facts) (kept ∷ rest) h =
      rw (same_fact fact kept h.0)
      (one_guard (is_fact_of first event values kept) fact.guard kept.guard (guards_of first facts event values) (guards_of first rest event values) h.0.guard (guards_have facts rest h.1))
