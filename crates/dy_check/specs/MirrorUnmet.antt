-- What the code finds of demands: whether one is met, and which is the first that is not.
use Rattle.std.specs.Prelude.{◌↔◌, ℕ, Bool, IsTrue, List, Option, Some, None}
use Rattle.dy_label.specs.Words.{StaticLabel}
use Rattle.dy_syntax.specs.Files.{Decl}
use Rattle.dy_types.specs.Tables.{Table, HasTable}
use Rattle.dy_typing.specs.Knowledge.{Knowledge}
use Rattle.dy_typing.specs.Names as n
use Rattle.dy_typing.specs.Demands.{Demand, Sealing, Fitted, FieldFits, StoreKeeps, StoreFits, Operation, key_demands, reader_demands, field_demands, event_demands}
use Rattle.dy_typing.specs.Conditions.{IsMet, AreMet, content_hi, sealer_hi}
use Rattle.dy_typing.specs.Strongest.{IsUnmet}
use Rattle.dy_check.specs.declared.settings.Setting as setting
use Rattle.dy_check.specs.declared.knowledge.Knowledge as knowledge
use Rattle.dy_check.specs.declared.conditions.unmet.Unmet.{Unmet}
use Rattle.dy_check.specs.declared.conditions.members.OnField.{OnField}
use Rattle.dy_check.specs.declared.conditions.members.OnField.TheVariants as on_field
use Rattle.dy_check.specs.declared.conditions.each_operation.OnOperation.{OnOperation}
use Rattle.dy_check.specs.declared.conditions.each_operation.OnOperation.TheVariants as on_operation
use Rattle.dy_check.specs.Meaning.{setting_of, knowledge_of}
use Rattle.dy_check.specs.Tables.{KnowledgeHasTables}

-- the first of these demands that is not met, or none where all are met
abbrev pub IsFirstUnmet : List Decl → Knowledge → List Demand → Option Unmet → Type 0
IsFirstUnmet decls k demands None = AreMet decls k demands
IsFirstUnmet decls k demands (Some unmet) = IsUnmet decls k demands unmet.condition unmet.field

-- This is the first of these demands that is not met by all that has the tables of what the code knows.
pub record FindsUnmet (setting : setting.Setting) (known : knowledge.Knowledge) (demands : List Demand)
    (found : Option Unmet) : Type 0 where
  pub first : (k : Knowledge) → KnowledgeHasTables k (knowledge_of known)
      → IsFirstUnmet (setting_of setting).decls k demands found

-- It is told whether the demand is met.
pub record TellsIfMet (setting : setting.Setting) (known : knowledge.Knowledge) (demand : Demand)
    (met : Bool) : Type 0 where
  pub exactly : (k : Knowledge) → KnowledgeHasTables k (knowledge_of known)
      → IsTrue met ↔ IsMet (setting_of setting).decls k demand

-- the table of who may know what is sealed
pub record IsContentTable (setting : setting.Setting) (known : knowledge.Knowledge) (sealing : Sealing)
    (table : Table) : Type 0 where
  pub has : (k : Knowledge) → KnowledgeHasTables k (knowledge_of known)
      → HasTable (content_hi (setting_of setting).decls k sealing) table

-- the table of who may seal it
pub record IsSealerTable (setting : setting.Setting) (known : knowledge.Knowledge) (sealing : Sealing)
    (table : Table) : Type 0 where
  pub has : (k : Knowledge) → KnowledgeHasTables k (knowledge_of known)
      → HasTable (sealer_hi (setting_of setting).decls k sealing) table

-- what is asked of a field: of one that is sealed, with what it is sealed with
abbrev pub demand_on_field : OnField → Sealing → Fitted → Demand
demand_on_field (on_field.Sealed table) sealing = FieldFits sealing
demand_on_field on_field.Kept sealing = StoreKeeps
demand_on_field on_field.Stored sealing = StoreFits

-- The table of a field that is sealed is that of who may seal it.
abbrev pub HasSealer : setting.Setting → knowledge.Knowledge → OnField → Sealing → Type 0
HasSealer setting known (on_field.Sealed table) sealing = IsSealerTable setting known sealing table
HasSealer setting known on_field.Kept sealing = Unit {0}
HasSealer setting known on_field.Stored sealing = Unit {0}

-- what is asked of an operation
abbrev pub demands_on_operation : OnOperation → n.Setting → Operation → List Demand
demands_on_operation on_operation.Key = key_demands
demands_on_operation on_operation.Reader = reader_demands
demands_on_operation on_operation.Fields = field_demands
demands_on_operation on_operation.Events = event_demands
