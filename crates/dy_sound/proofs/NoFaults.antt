-- A well-formed file has no fault at any of its places.
use Rattle.std.proofs.Common.{◌≡◌, ℕ, List, [], ◌∷◌, ◌++◌, Contains, inl, refl}
use Rattle.std.specs.List.{flat_map}
use Rattle.dy_syntax.specs.Statements as statements
use Rattle.dy_syntax.specs.Statements.{Statement, OnPart}
use Rattle.dy_syntax.specs.Files.{Decl, Handler, File}
use Rattle.dy_syntax.specs.Scopes.{no_scope, variables}
use Rattle.dy_syntax.specs.Parts.{Bound}
use Rattle.dy_syntax.specs.Places.{Place, handler_places, decl_places, declared_places, plan_places, places_in}
use Rattle.dy_syntax.specs.Rules.Doubles.{w1, w5}
use Rattle.dy_syntax.specs.Rules.Declared.{w2}
use Rattle.dy_syntax.specs.Rules.Lengths.{w3}
use Rattle.dy_syntax.specs.Rules.Kinds.{w4, w8}
use Rattle.dy_syntax.specs.Rules.Names.{w6}
use Rattle.dy_syntax.specs.Rules.Words.{w7, w9, w10}
use Rattle.dy_syntax.specs.Rules.Plans.{w11}
use Rattle.dy_syntax.specs.Rules.{Fault, faults_of, faults_at, IsIn, IsWellFormed}
use Rattle.dy_sound.proofs.StatementParts.{IsIn-left, IsIn-right, IsIn-from, IsIn-flat_map}

-- No rule has a line at the place where it is broken.
pub record HasNoFault (file : File) (place : Place) : Type 0 where
  pub rule_1 : w1 place.part ≡ []
  pub rule_2 : w2 file.decls place.scope place.part ≡ []
  pub rule_3 : w3 file.decls place.part ≡ []
  pub rule_4 : w4 file.decls place.part ≡ []
  pub rule_5 : w5 file.decls place.part ≡ []
  pub rule_6 : w6 file.decls place.scope place.part ≡ []
  pub rule_7 : w7 place.scope place.part ≡ []
  pub rule_8 : w8 file.decls place.part ≡ []
  pub rule_9 : w9 file.decls place.scope place.part ≡ []

no_lines : (rule : ℕ) (lines : List ℕ) (all : List Fault) → ((fault : Fault) → IsIn fault all → ⊥)
    → ((fault : Fault) → IsIn fault (faults_of rule lines) → IsIn fault all) → lines ≡ []
no_lines rule [] all none part = refl
no_lines rule (line ∷ lines) all none part = let fault : Fault = record { line = line; rule = rule } in absurd (none fault (part fault (inl refl)))

pub no_fault : (file : File) → IsWellFormed file → (place : Place) → IsIn place (places_in file) → HasNoFault file place
no_fault file well_formed place stands =
    let none : (fault : Fault) → IsIn fault (faults_at file place) → ⊥ = λ fault at.
    well_formed fault.rule fault.line (record { place = place; of_file = stands; fault = at }) in
    let scope = place.scope in
    let part = place.part in
    let f1 = faults_of 1 (w1 part) in
    let f2 = faults_of 2 (w2 file.decls scope part) in
    let f3 = faults_of 3 (w3 file.decls part) in
    let f4 = faults_of 4 (w4 file.decls part) in
    let f5 = faults_of 5 (w5 file.decls part) in
    let f6 = faults_of 6 (w6 file.decls scope part) in
    let f7 = faults_of 7 (w7 scope part) in
    let f8 = faults_of 8 (w8 file.decls part) in
    let f9 = faults_of 9 (w9 file.decls scope part) in
    let f10 = faults_of 10 (w10 part) in
    let f11 = faults_of 11 (w11 file part) in
    let to_2 = f1 ++ f2 in
    let to_3 = to_2 ++ f3 in
    let to_4 = to_3 ++ f4 in
    let to_5 = to_4 ++ f5 in
    let to_6 = to_5 ++ f6 in
    let to_7 = to_6 ++ f7 in
    let to_8 = to_7 ++ f8 in
    let to_9 = to_8 ++ f9 in
    let to_10 = to_9 ++ f10 in
    let to_11 = to_10 ++ f11 in
    let from_10 : (f : Fault) → IsIn f to_10 → IsIn f to_11 = λ f h. IsIn-left f to_10 f11 h in
    let from_9 : (f : Fault) → IsIn f to_9 → IsIn f to_11 = λ f h. from_10 f (IsIn-left f to_9 f10 h) in
    let from_8 : (f : Fault) → IsIn f to_8 → IsIn f to_11 = λ f h. from_9 f (IsIn-left f to_8 f9 h) in
    let from_7 : (f : Fault) → IsIn f to_7 → IsIn f to_11 = λ f h. from_8 f (IsIn-left f to_7 f8 h) in
    let from_6 : (f : Fault) → IsIn f to_6 → IsIn f to_11 = λ f h. from_7 f (IsIn-left f to_6 f7 h) in
    let from_5 : (f : Fault) → IsIn f to_5 → IsIn f to_11 = λ f h. from_6 f (IsIn-left f to_5 f6 h) in
    let from_4 : (f : Fault) → IsIn f to_4 → IsIn f to_11 = λ f h. from_5 f (IsIn-left f to_4 f5 h) in
    let from_3 : (f : Fault) → IsIn f to_3 → IsIn f to_11 = λ f h. from_4 f (IsIn-left f to_3 f4 h) in
    let from_2 : (f : Fault) → IsIn f to_2 → IsIn f to_11 = λ f h. from_3 f (IsIn-left f to_2 f3 h) in
    record {
      rule_1 = no_lines 1 (w1 part) to_11 none (λ f h. from_2 f (IsIn-left f f1 f2 h));
      rule_2 = no_lines 2 (w2 file.decls scope part) to_11 none (λ f h. from_2 f (IsIn-right f f1 f2 h));
      rule_3 = no_lines 3 (w3 file.decls part) to_11 none (λ f h. from_3 f (IsIn-right f to_2 f3 h));
      rule_4 = no_lines 4 (w4 file.decls part) to_11 none (λ f h. from_4 f (IsIn-right f to_3 f4 h));
      rule_5 = no_lines 5 (w5 file.decls part) to_11 none (λ f h. from_5 f (IsIn-right f to_4 f5 h));
      rule_6 = no_lines 6 (w6 file.decls scope part) to_11 none (λ f h. from_6 f (IsIn-right f to_5 f6 h));
      rule_7 = no_lines 7 (w7 scope part) to_11 none (λ f h. from_7 f (IsIn-right f to_6 f7 h));
      rule_8 = no_lines 8 (w8 file.decls part) to_11 none (λ f h. from_8 f (IsIn-right f to_7 f8 h));
      rule_9 = no_lines 9 (w9 file.decls scope part) to_11 none (λ f h. from_9 f (IsIn-right f to_8 f9 h));
    }

-- a place of a declaration is one of the file
pub of_decl : (file : File) (decl : Decl) (place : Place) → Contains file.decls decl → IsIn place (decl_places file.decls decl) → IsIn place (places_in file)
of_decl file decl place stands h =
    let all = flat_map (decl_places file.decls) file.decls in
    let plan = plan_places file.plan.rounds in
    IsIn-left place (declared_places file.decls ++ all) plan
    (IsIn-right place (declared_places file.decls) all (IsIn-flat_map (decl_places file.decls) decl place file.decls (IsIn-from decl file.decls stands) h))

module _ (file : File) (handler : statements.Handler) (stands : Contains file.decls (Handler handler)) where
  handler_place : (place : Place) → IsIn place (handler_places handler) → IsIn place (places_in file)
  handler_place place h = of_decl file (Handler handler) place stands h

  -- where the variables of the handler are bound
  pub variables_place : IsIn (record { scope = no_scope; part = Bound (variables handler) }) (places_in file)
  variables_place = handler_place (record { scope = no_scope; part = Bound (variables handler) }) (inl refl)
