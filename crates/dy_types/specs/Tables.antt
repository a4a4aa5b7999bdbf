-- The code keeps the truth table of a label in the label's place. What it keeps says the same as what it is kept for.
use Rattle.std.specs.Prelude.{◌≡◌, ◌↔◌, ℕ, ◌<◌, Bool, true, false, List, [], ◌∷◌, Contains, Option, Some, None}
use Rattle.std.specs.List.{list_all}
use Rattle.dy_label.specs.declared.tables.TheConstants.{ROWS}
use Rattle.dy_label.specs.declared.words.TheConstants.{NAMES}
use Rattle.dy_label.specs.Labels.{is_open_where}
use Rattle.dy_label.specs.Words.{StaticLabel, uses_names_below}
use Rattle.dy_label.specs.Tables.{opens_in, value_at, IsTableOf}
use Rattle.dy_types.specs.Claims.{StaticUse, ClaimOf, Claim, KnownOf, Known, uses_in, pk_labels, vk_labels, meet_of}
use Rattle.dy_types.specs.Claims as claims
use Rattle.dy_types.specs.FieldTypes.{DeclaredOf, Declared, Name, Any, Upto, Secret, Key, Pk, Vk}
use Rattle.dy_types.specs.Facts.{FactOf, Fact}

abbrev pub Table : Type 0
Table = List ℕ

-- The table is that of the label, which uses names that a handler may have.
pub record HasTable (label : StaticLabel) (table : Table) : Type 0 where
  pub names : uses_names_below NAMES label ≡ true
  pub rows : IsTableOf label table

abbrev pub is_empty : {A : Type 0} → List A → Bool
is_empty [] = true
is_empty (x ∷ xs) = false

-- All of these tables are set in the rows in which all of these labels are open. There are tables exactly where there
-- are labels.
pub record MeetHasTables (labels : List StaticLabel) (tables : List Table) : Type 0 where
  pub names : list_all (uses_names_below NAMES) labels ≡ true
  pub empty : is_empty tables ≡ is_empty labels
  pub rows : (row : ℕ) → row < ROWS
      → list_all (λ table. value_at table row) tables ≡ list_all (is_open_where (opens_in row)) labels

-- The table is that of the meet of all of these labels. There is one exactly where there are labels.
abbrev pub IsTableOfMeet : List StaticLabel → Option Table → Type 0
IsTableOfMeet [] None = Unit {0}
IsTableOfMeet [] (Some table) = ⊥
IsTableOfMeet (label ∷ labels) None = ⊥
IsTableOfMeet (label ∷ labels) (Some table) = HasTable (meet_of label labels) table

-- Of each usage these claims say the same, where claims on keys of one usage are taken together.
pub record ClaimsHaveTables (claims : List Claim) (kept : List (ClaimOf Table)) : Type 0 where
  pub uses : (usage : StaticUse) → Contains (uses_in claims) usage ↔ Contains (uses_in kept) usage
  pub pks : (usage : StaticUse) → MeetHasTables (pk_labels claims usage) (pk_labels kept usage)
  pub vks : (usage : StaticUse) → MeetHasTables (vk_labels claims usage) (vk_labels kept usage)

abbrev pub ClaimHasTable : Claim → ClaimOf Table → Type 0
ClaimHasTable (claims.Use usage) (claims.Use other) = usage ≡ other
ClaimHasTable (claims.Pk label usage) (claims.Pk table other) = HasTable label table × (usage ≡ other)
ClaimHasTable (claims.Vk label usage) (claims.Vk table other) = HasTable label table × (usage ≡ other)
ClaimHasTable claim other = ⊥

pub record KnownHasTables (known : Known) (kept : KnownOf Table) : Type 0 where
  pub hi : HasTable known.hi kept.hi
  pub lo : HasTable known.lo kept.lo
  pub claims : ClaimsHaveTables known.claims kept.claims

abbrev pub TypeHasTable : Declared → DeclaredOf Table → Type 0
TypeHasTable Name Name = Unit {0}
TypeHasTable Any Any = Unit {0}
TypeHasTable (Upto label) (Upto table) = HasTable label table
TypeHasTable (Secret label) (Secret table) = HasTable label table
TypeHasTable (Key label usage) (Key table other) = HasTable label table × (usage ≡ other)
TypeHasTable (Pk label usage) (Pk table other) = HasTable label table × (usage ≡ other)
TypeHasTable (Vk label usage) (Vk table other) = HasTable label table × (usage ≡ other)
TypeHasTable type other = ⊥

pub record FactHasTable (fact : Fact) (kept : FactOf Table) : Type 0 where
  pub event : fact.event ≡ kept.event
  pub args : fact.args ≡ kept.args
  pub guard : HasTable fact.guard kept.guard

-- These are the same facts in the same order.
abbrev pub FactsHaveTables : List Fact → List (FactOf Table) → Type 0
FactsHaveTables [] [] = Unit {0}
FactsHaveTables (fact ∷ facts) (kept ∷ rest) = FactHasTable fact kept × FactsHaveTables facts rest
FactsHaveTables facts other = ⊥
