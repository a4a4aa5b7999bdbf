-- The values that the code keeps, one by one.
use Rattle.std.proofs.Common.{◌≡◌, ℕ, zero, suc, ◌<◌, List, [], ◌∷◌, ◌++◌, map, length, get_or, refl, ap, arith}
use Rattle.dy_types.specs.Claims.{Known, KnownOf, unknown}
use Rattle.dy_types.specs.Meaning.{known_of}
use Rattle.dy_types.specs.Tables.{Table, KnownHasTables}
use Rattle.dy_types.specs.declared.knowns.Known as code
use Rattle.dy_check.specs.Tables.{ValuesHaveTables}
use Rattle.dy_check.proofs.KnowledgeTables.{ValuesHaveTables-append}

pub length_of_kept : (values : List Known) (kept : List code.Known) → ValuesHaveTables values (map known_of kept) → length values ≡ length kept
length_of_kept [] [] h = refl
length_of_kept [] (one ∷ kept) h = absurd h
length_of_kept (value ∷ values) [] h = absurd h
length_of_kept (value ∷ values) (one ∷ kept) h = ap suc (length_of_kept values kept h.1)

-- the value in the place of one that the code keeps
pub value_at : (values : List Known) (kept : List code.Known) (i : ℕ) (known : code.Known) → ValuesHaveTables values (map known_of kept)
    → i < length kept → KnownHasTables (get_or values i unknown) (known_of (get_or kept i known))
value_at [] [] i known h below = absurd (omega arith)
value_at [] (one ∷ kept) i known h below = absurd h
value_at (value ∷ values) [] i known h below = absurd h
value_at (value ∷ values) (one ∷ kept) zero known h below = h.0
value_at (value ∷ values) (one ∷ kept) (suc i) known h below = value_at values kept i known h.1 (omega arith)

-- one more value
pub ValuesHaveTables-push : (values : List Known) (kept : List (KnownOf Table)) (value : Known) (one : KnownOf Table)
    → ValuesHaveTables values kept → KnownHasTables value one → ValuesHaveTables (values ++ value ∷ []) (kept ++ one ∷ [])
ValuesHaveTables-push values kept value one h k = ValuesHaveTables-append values (value ∷ []) kept (one ∷ []) h (k, tt)
