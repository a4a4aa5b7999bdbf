-- When a tuple that a handler seals is one of a declared case, with all its names in scope.
use Rattle.std.specs.Prelude.{◌≡◌, ℕ, true, List, [], ◌∷◌, length, Contains, Some}
use Rattle.dy_syntax.specs.Names.{Nm, UseText, AtomText, KindText}
use Rattle.dy_syntax.specs.Declarations.{Field, CaseDecl}
use Rattle.dy_syntax.specs.Expressions as e
use Rattle.dy_syntax.specs.Expressions.{Expr}
use Rattle.dy_syntax.specs.Files.{Decl}
use Rattle.dy_syntax.specs.LookUps.{case_named}
use Rattle.dy_syntax.specs.Scopes.{Scope, is_name_type, params_named, case_scope}
use Rattle.dy_typing.specs.Demands.{Operation, Seals}
use Rattle.dy_sound.specs.InScope.{IsNamed, AreNamed, TypeIsInScope, AtomIsInScope}
use Rattle.dy_sound.specs.Givens.{case_slots, words_in, AreDistinct}

-- No parameter or field of the case has the word of another, and what its types and events name is in scope.
pub record CaseIsInScope (decls : List Decl) (case : CaseDecl) : Type 0 where
  pub distinct : AreDistinct (words_in (case_slots decls case))
  pub types : (field : Field) → Contains case.fields field → TypeIsInScope (case_scope decls case) field.kind
  pub events : (atom : AtomText) → Contains case.requires_ atom → AtomIsInScope (case_scope decls case) atom

-- In the place of a field that takes a name alone stands a handler's name that is bound.
abbrev pub FillsField : Scope → Field → Expr → Type 0
FillsField scope field expr =
    is_name_type field.kind ≡ true → (name : Nm) × (expr ≡ e.Nm name) × IsNamed scope name

-- So many expressions fill the fields, each its own.
abbrev pub FillFields : Scope → List Field → List Expr → Type 0
FillFields scope [] [] = Unit {0}
FillFields scope (field ∷ fields) (expr ∷ exprs) = FillsField scope field expr × FillFields scope fields exprs
FillFields scope _ _ = ⊥

-- The tuple that is sealed for a usage is one of a case of it.
pub record IsOfCase (decls : List Decl) (scope : Scope) (usage : UseText) (tag : List ℕ) (fields : List Expr)
    : Type 0 where
  pub case : CaseDecl
  pub is_declared : case_named decls usage.usage.word tag ≡ Some case
  pub in_scope : CaseIsInScope decls case
  pub owners_count : length usage.args ≡ length (params_named decls usage.usage.word)
  pub owners : AreNamed scope usage.args
  pub fill : FillFields scope case.fields fields

-- Each tuple that these operations seal is one of a case.
abbrev pub AreOfCases : List Decl → Scope → List Operation → Type 0
AreOfCases decls scope operations =
    (kind : KindText) (key : Nm) (usage : UseText) (tag : List ℕ) (fields : List Expr)
    → Contains operations (Seals kind key usage tag fields) → IsOfCase decls scope usage tag fields
