-- When a file is typed, and where it is refused.
use Rattle.std.specs.Prelude.{◌≡◌, ℕ, List, [], ◌∷◌, ◌++◌, Contains}
use Rattle.dy_syntax.specs.Statements.{Statement, Handler}
use Rattle.dy_syntax.specs.Files.{Decl}
use Rattle.dy_cases.specs.DeclaredParts.{handlers_in}
use Rattle.dy_typing.specs.Names.{Setting, setting_of}
use Rattle.dy_typing.specs.Knowledge.{Knowledge, IsWeakerKnowledge}
use Rattle.dy_typing.specs.Demands.{Demand, demands_of, condition_of, field_of}
use Rattle.dy_typing.specs.Conditions.{AreMet}
use Rattle.dy_typing.specs.Effects.{after, start_of}

-- A derivation: this is known after these statements, from what is known at the start. It goes by the rules of
-- statements whose demands are met, and by weakening anywhere.
pub data Derives (setting : Setting) (start : Knowledge) : List Statement → Knowledge → Type 0 where
  begins : Derives setting start [] start
  weakens : {done : List Statement} {k : Knowledge} (weaker : Knowledge)
      → Derives setting start done k → IsWeakerKnowledge k weaker → Derives setting start done weaker
  goes_on : {done : List Statement} {k : Knowledge} (statement : Statement)
      → Derives setting start done k → AreMet setting.decls k (demands_of setting statement.act)
      → Derives setting start (done ++ statement ∷ []) (after setting k statement.act)

-- Something is known after these statements of a handler.
abbrev pub Reaches : List Decl → Handler → List Statement → Knowledge → Type 0
Reaches decls handler done k = Derives (setting_of decls handler) (start_of decls handler) done k

-- The handler has a derivation in which no condition fails.
abbrev pub HasDerivation : List Decl → Handler → Type 0
HasDerivation decls handler = (k : Knowledge) × Reaches decls handler handler.body k

abbrev pub AreTyped : List Decl → List Handler → Type 0
AreTyped decls handlers = (handler : Handler) → Contains handlers handler → HasDerivation decls handler

-- These demands of the next statement can be met.
abbrev pub CanMeet : List Decl → Handler → List Statement → List Demand → Type 0
CanMeet decls handler done demands =
    (k : Knowledge) × Reaches decls handler done k × AreMet decls k demands

-- The place where a handler is refused. It is the first statement up to which no derivation meets all demands, and
-- the first of its demands up to which none does.
pub record IsRefusedIn (decls : List Decl) (handler : Handler) (line condition field : ℕ) : Type 0 where
  pub done : List Statement
  pub statement : Statement
  pub later : List Statement
  pub body : handler.body ≡ done ++ statement ∷ later
  pub before : (k : Knowledge) × Reaches decls handler done k
  pub fails : (k : Knowledge) → Reaches decls handler (done ++ statement ∷ []) k → ⊥
  pub met : List Demand
  pub demand : Demand
  pub others : List Demand
  pub demands : demands_of (setting_of decls handler) statement.act ≡ met ++ demand ∷ others
  pub can : CanMeet decls handler done met
  pub cannot : CanMeet decls handler done (met ++ demand ∷ []) → ⊥
  pub at_line : line ≡ statement.line
  pub at_condition : condition ≡ condition_of demand
  pub at_field : field ≡ field_of demand

-- The place where a file is refused stands in its first handler that has no derivation.
pub record IsRefusedAt (decls : List Decl) (line condition field : ℕ) : Type 0 where
  pub earlier : List Handler
  pub handler : Handler
  pub later : List Handler
  pub handlers : handlers_in decls ≡ earlier ++ handler ∷ later
  pub typed : AreTyped decls earlier
  pub refused : IsRefusedIn decls handler line condition field
