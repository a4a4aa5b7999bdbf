-- What the code knows, with tables in the place of labels, says the same as what it is kept for.
use Rattle.std.specs.Prelude.{◌≡◌, List, [], ◌∷◌}
use Rattle.dy_types.specs.Claims.{Known, KnownOf}
use Rattle.dy_types.specs.Tables.{Table, KnownHasTables, FactsHaveTables}
use Rattle.dy_typing.specs.Knowledge.{Knowledge, KnowledgeOf}

-- These are the same values in the same order.
abbrev pub ValuesHaveTables : List Known → List (KnownOf Table) → Type 0
ValuesHaveTables [] [] = Unit {0}
ValuesHaveTables (known ∷ values) (kept ∷ rest) = KnownHasTables known kept × ValuesHaveTables values rest
ValuesHaveTables values other = ⊥

pub record KnowledgeHasTables (k : Knowledge) (kept : KnowledgeOf Table) : Type 0 where
  pub words : kept.words ≡ k.words
  pub first : kept.first ≡ k.first
  pub values : ValuesHaveTables k.values kept.values
  pub facts : FactsHaveTables k.facts kept.facts
