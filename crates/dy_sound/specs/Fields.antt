-- What a field's type means for a value in a trace.
use Rattle.std.specs.Prelude.{◌≡◌, ◌⊎◌, ℕ, List, [], ◌∷◌, Some}
use Rattle.dy_term.specs.Terms as trees
use Rattle.dy_term.specs.Terms.{Term}
use Rattle.dy_label.specs.Labels.{Label}
use Rattle.dy_label.specs.declared.usages.Usage.{Usage}
use Rattle.dy_syntax.specs.Declarations.{FieldType, Name, Any, Upto, Secret, Key, Pk, Vk, Field}
use Rattle.dy_syntax.specs.Files.{Decl}
use Rattle.dy_entry.specs.Entries.{Entry}
use Rattle.dy_entry.specs.ValueLabels.{label_of}
use Rattle.dy_sound.specs.Usages.{usage_of}
use Rattle.dy_sound.specs.Flows.{Flows, IsShown}
use Rattle.dy_sound.specs.Words.{Words, label_meant, usage_meant}

-- The value has the usage, or all may know it.
abbrev pub HasUse : List Decl → List Entry → Term → Usage → Type 0
HasUse decls T value usage = (usage_of decls T value ≡ Some usage) ⊎ IsShown T (label_of T value)

-- The value is made of a key of this usage, whose label, when open, opens this one.
pub record IsMadeOf (make : Term → Term) (decls : List Decl) (T : List Entry) (value : Term) (label : Label)
    (usage : Usage) : Type 0 where
  pub key : Term
  pub value_is : value ≡ make key
  pub has_usage : usage_of decls T key ≡ Some usage
  pub opens : Flows T (label_of T key) label

-- The value is the public key of such a key, or the label is open.
abbrev pub IsPkFor : List Decl → List Entry → Term → Label → Usage → Type 0
IsPkFor decls T value label usage = IsMadeOf trees.Pk decls T value label usage ⊎ IsShown T label

-- the same of a verification key
abbrev pub IsVkFor : List Decl → List Entry → Term → Label → Usage → Type 0
IsVkFor decls T value label usage = IsMadeOf trees.Vk decls T value label usage ⊎ IsShown T label

-- the value is a principal's name
abbrev pub IsName : Term → Type 0
IsName value = (principal : List ℕ) × (value ≡ trees.Name principal)

-- what a value meets that is in a field of this type, where the declaration's words stand for these
abbrev pub Meets : List Decl → List Entry → Words → Term → FieldType → Type 0
Meets decls T words value Name = IsName value
Meets decls T words value Any = Unit {0}
Meets decls T words value (Upto label) = Flows T (label_meant words label) (label_of T value)
Meets decls T words value (Secret label) =
    Flows T (label_meant words label) (label_of T value) × Flows T (label_of T value) (label_meant words label)
Meets decls T words value (Key label usage) =
    Flows T (label_meant words label) (label_of T value) × Flows T (label_of T value) (label_meant words label)
    × HasUse decls T value (usage_meant decls words usage)
Meets decls T words value (Pk label usage) =
    IsPkFor decls T value (label_meant words label) (usage_meant decls words usage)
Meets decls T words value (Vk label usage) =
    IsVkFor decls T value (label_meant words label) (usage_meant decls words usage)

-- The values are as many as the fields, and each meets the type of its own.
abbrev pub AllMeet : List Decl → List Entry → Words → List Field → List Term → Type 0
AllMeet decls T words [] [] = Unit {0}
AllMeet decls T words (field ∷ fields) (value ∷ values) =
    Meets decls T words value field.kind × AllMeet decls T words fields values
AllMeet decls T words _ _ = ⊥
