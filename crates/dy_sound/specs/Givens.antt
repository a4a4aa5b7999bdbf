-- What is given for the parameters and fields of a declaration.
use Rattle.std.specs.Prelude.{◌≡◌, ℕ, Bool, true, false, List, [], ◌∷◌, ◌++◌, map, Option, Some}
use Rattle.dy_term.specs.Terms.{Term}
use Rattle.dy_label.specs.Words.{Choice}
use Rattle.dy_syntax.specs.Names.{Id, Nm}
use Rattle.dy_syntax.specs.Declarations.{Field, Param, CaseDecl}
use Rattle.dy_syntax.specs.Files.{Decl}
use Rattle.dy_syntax.specs.Scopes.{is_name_type, is_among, params_named}
use Rattle.dy_typing.specs.Names.{Setting, name_number}
use Rattle.dy_eval.specs.Names.{Names, bytes_for, principal_in}
use Rattle.dy_sound.specs.Matches.{IsPrincipalOf}

-- a parameter or a field: its word, and whether it takes a name alone
pub record Slot : Type 0 where
  pub word : List ℕ
  pub is_name : Bool

-- the parameters of a usage, which take names alone
abbrev pub usage_slots : List Id → List Slot
usage_slots params = map (λ param. record { word = param.word; is_name = true }) params

abbrev pub field_slots : List Field → List Slot
field_slots fields = map (λ field. record { word = field.name.word; is_name = is_name_type field.kind }) fields

-- the parameters of an event
abbrev pub event_slots : List Param → List Slot
event_slots params = map (λ param. record { word = param.name.word; is_name = param.is_name }) params

-- the parameters of a case's usage, and its fields
abbrev pub case_slots : List Decl → CaseDecl → List Slot
case_slots decls case = usage_slots (params_named decls case.usage.word) ++ field_slots case.fields

abbrev pub words_in : List Slot → List (List ℕ)
words_in slots = map (λ slot. slot.word) slots

-- no word stands twice
abbrev pub AreDistinct : List (List ℕ) → Type 0
AreDistinct [] = Unit {0}
AreDistinct (word ∷ words) = (is_among word words ≡ false) × AreDistinct words

-- What the handler has in the place of a parameter or field, if it is a name or a variable, has this value. Where a
-- name alone may stand, a handler's name stands, and the value is the name of its principal.
pub record IsGiven (setting : Setting) (choice : Choice) (names : Names) (slot : Slot) (stand : Option Nm)
    (value : Term) : Type 0 where
  pub value_is : (given : Nm) → stand ≡ Some given → value ≡ bytes_for names given
  pub name_is : slot.is_name ≡ true
      → (given : Nm) × (stand ≡ Some given) × IsPrincipalOf choice (name_number setting given) (principal_in value)

-- Each of the parameters and fields is so given.
abbrev pub AreGiven : Setting → Choice → Names → List Slot → List (Option Nm) → List Term → Type 0
AreGiven setting choice names [] [] [] = Unit {0}
AreGiven setting choice names (slot ∷ slots) (stand ∷ stands) (value ∷ values) =
    IsGiven setting choice names slot stand value × AreGiven setting choice names slots stands values
AreGiven setting choice names _ _ _ = ⊥
