-- When a file breaks a rule of well-formedness, and where.
use Rattle.std.specs.Prelude.{◌≡◌, ℕ, ◌≤◌, ◌⊎◌, List, [], ◌∷◌, ◌++◌, map}
use Rattle.dy_syntax.specs.Files.{File}
use Rattle.dy_syntax.specs.Scopes.{Scope}
use Rattle.dy_syntax.specs.Parts.{Part}
use Rattle.dy_syntax.specs.Places.{Place, places_in}
use Rattle.dy_syntax.specs.Rules.Doubles.{w1, w5}
use Rattle.dy_syntax.specs.Rules.Declared.{w2}
use Rattle.dy_syntax.specs.Rules.Lengths.{w3}
use Rattle.dy_syntax.specs.Rules.Kinds.{w4, w8}
use Rattle.dy_syntax.specs.Rules.Names.{w6}
use Rattle.dy_syntax.specs.Rules.Words.{w7, w9, w10}
use Rattle.dy_syntax.specs.Rules.Plans.{w11}
pub mod Lines
pub mod Doubles
pub mod Declared
pub mod Lengths
pub mod Kinds
pub mod Names
pub mod Words
pub mod Plans

-- a line, and the number of a rule that is broken there
pub record Fault : Type 0 where
  pub line : ℕ
  pub rule : ℕ

abbrev pub faults_of : ℕ → List ℕ → List Fault
faults_of rule lines = map (λ line. record { line = line; rule = rule }) lines

-- the faults at one place of the file
abbrev pub faults_at : File → Place → List Fault
faults_at file place =
    let scope = place.scope in
    let part = place.part in
    faults_of 1 (w1 part) ++ faults_of 2 (w2 file.decls scope part) ++ faults_of 3 (w3 file.decls part)
    ++ faults_of 4 (w4 file.decls part) ++ faults_of 5 (w5 file.decls part) ++ faults_of 6 (w6 file.decls scope part)
    ++ faults_of 7 (w7 scope part) ++ faults_of 8 (w8 file.decls part) ++ faults_of 9 (w9 file.decls scope part)
    ++ faults_of 10 (w10 part) ++ faults_of 11 (w11 file part)

-- the element stands in the list
abbrev pub IsIn : {X : Type 0} → X → List X → Type 0
IsIn x [] = ⊥
IsIn x (y ∷ ys) = (y ≡ x) ⊎ IsIn x ys

-- the file breaks the rule of this number at this line
pub record Breaks (file : File) (rule line : ℕ) : Type 0 where
  pub place : Place
  pub of_file : IsIn place (places_in file)
  pub fault : IsIn (record { line = line; rule = rule }) (faults_at file place)

-- the file is well formed: it breaks no rule anywhere
abbrev pub IsWellFormed : File → Type 0
IsWellFormed file = (rule line : ℕ) → ¬ Breaks file rule line

-- The first fault: the rule is broken at this line, none at a lesser line, and none of a lesser number at this line.
pub record IsFirst (file : File) (rule line : ℕ) : Type 0 where
  pub breaks : Breaks file rule line
  pub line_is_least : (other before : ℕ) → Breaks file other before → line ≤ before
  pub rule_is_least : (other : ℕ) → Breaks file other line → rule ≤ other
