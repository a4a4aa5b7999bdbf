-- When the names and words of a label, a usage or a type have a meaning where they stand.
use Rattle.std.specs.Prelude.{◌≡◌, true, List, Contains}
use Rattle.dy_syntax.specs.Names.{Nm, UseText, AtomText}
use Rattle.dy_syntax.specs.Labels as text
use Rattle.dy_syntax.specs.Labels.{LabelText}
use Rattle.dy_syntax.specs.Declarations.{FieldType, Name, Any, Upto, Secret, Key, Pk, Vk}
use Rattle.dy_syntax.specs.Scopes.{Scope, is_name, is_bound}
use Rattle.dy_syntax.specs.Rules.Declared.{is_in_handler}
use Rattle.dy_syntax.specs.Rules.Words.{has_session, has_here, has_versions}

-- The name stands for a principal, and in a handler it is bound.
pub record IsNamed (scope : Scope) (name : Nm) : Type 0 where
  pub stands : is_name scope name ≡ true
  pub binds : is_in_handler scope.place ≡ true → is_bound scope name ≡ true

abbrev pub AreNamed : Scope → List Nm → Type 0
AreNamed scope names = (name : Nm) → Contains names name → IsNamed scope name

-- Each word of the label has a meaning there.
abbrev pub LabelIsInScope : Scope → LabelText → Type 0
LabelIsInScope scope (text.Public line) = Unit {0}
LabelIsInScope scope (text.Nobody line) = Unit {0}
LabelIsInScope scope (text.Session line) = has_session scope.place ≡ true
LabelIsInScope scope (text.Next line) = has_versions scope.place ≡ true
LabelIsInScope scope (text.Prior line) = has_versions scope.place ≡ true
LabelIsInScope scope (text.Here line) = has_here scope.place ≡ true
LabelIsInScope scope (text.One name) = IsNamed scope name
LabelIsInScope scope (text.Join line left right) = LabelIsInScope scope left × LabelIsInScope scope right
LabelIsInScope scope (text.Meet line left right) = LabelIsInScope scope left × LabelIsInScope scope right

-- So does the usage's each argument.
abbrev pub UseIsInScope : Scope → UseText → Type 0
UseIsInScope scope usage = AreNamed scope usage.args

-- Each argument of the event is bound.
abbrev pub AtomIsInScope : Scope → AtomText → Type 0
AtomIsInScope scope atom = (name : Nm) → Contains atom.args name → is_bound scope name ≡ true

-- The label and the usage of a field's type have a meaning there.
abbrev pub TypeIsInScope : Scope → FieldType → Type 0
TypeIsInScope scope Name = Unit {0}
TypeIsInScope scope Any = Unit {0}
TypeIsInScope scope (Upto label) = LabelIsInScope scope label
TypeIsInScope scope (Secret label) = LabelIsInScope scope label
TypeIsInScope scope (Key label usage) = LabelIsInScope scope label × UseIsInScope scope usage
TypeIsInScope scope (Pk label usage) = LabelIsInScope scope label × UseIsInScope scope usage
TypeIsInScope scope (Vk label usage) = LabelIsInScope scope label × UseIsInScope scope usage
