-- The derivation that never weakens.
use Rattle.std.specs.Prelude.{◌≡◌, ℕ, List, [], ◌∷◌, ◌++◌, fold}
use Rattle.dy_syntax.specs.Statements.{Statement}
use Rattle.dy_syntax.specs.Files.{Decl}
use Rattle.dy_typing.specs.Names.{Setting}
use Rattle.dy_typing.specs.Knowledge.{Knowledge}
use Rattle.dy_typing.specs.Demands.{Demand, demands_of, condition_of, field_of}
use Rattle.dy_typing.specs.Conditions.{IsMet, AreMet}
use Rattle.dy_typing.specs.Effects.{after}

-- what is known after these statements, where nothing is weakened
abbrev pub after_all : Setting → Knowledge → List Statement → Knowledge
after_all setting k statements = fold (λ known statement. after setting known statement.act) k statements

-- Each of these statements has its demands met by what is known before it, where nothing is weakened.
abbrev pub AllMet : Setting → Knowledge → List Statement → Type 0
AllMet setting k [] = Unit {0}
AllMet setting k (statement ∷ rest) =
    AreMet setting.decls k (demands_of setting statement.act) × AllMet setting (after setting k statement.act) rest

-- the first demand that is not met
pub record IsUnmet (decls : List Decl) (k : Knowledge) (demands : List Demand) (condition field : ℕ) : Type 0 where
  pub met : List Demand
  pub demand : Demand
  pub others : List Demand
  pub demands_are : demands ≡ met ++ demand ∷ others
  pub are_met : AreMet decls k met
  pub is_unmet : IsMet decls k demand → ⊥
  pub is_condition : condition ≡ condition_of demand
  pub is_field : field ≡ field_of demand

-- the first statement with a demand that is not met, where nothing is weakened
pub record IsUnmetAt (setting : Setting) (start : Knowledge) (body : List Statement)
    (line condition field : ℕ) : Type 0 where
  pub done : List Statement
  pub statement : Statement
  pub later : List Statement
  pub body_is : body ≡ done ++ statement ∷ later
  pub are_met : AllMet setting start done
  pub unmet : IsUnmet setting.decls (after_all setting start done) (demands_of setting statement.act) condition field
  pub at_line : line ≡ statement.line
