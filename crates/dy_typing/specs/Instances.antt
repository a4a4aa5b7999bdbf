-- Labels, usages and types as they stand in a handler: over its words, and with its names by number.
use Rattle.std.specs.Prelude.{ℕ, Option, filter_map, option_map}
use Rattle.dy_label.specs.Labels.{Public, Nobody, One, Join, Meet, one_or_nobody}
use Rattle.dy_label.specs.Words.{Atom, Name, ThisSession, Next, Prior, StaticLabel}
use Rattle.dy_types.specs.Claims.{StaticUse}
use Rattle.dy_types.specs.FieldTypes as types
use Rattle.dy_types.specs.FieldTypes.{Declared}
use Rattle.dy_syntax.specs.Names.{Nm, UseText}
use Rattle.dy_syntax.specs.Labels as l
use Rattle.dy_syntax.specs.Labels.{LabelText}
use Rattle.dy_syntax.specs.Declarations as d
use Rattle.dy_syntax.specs.Declarations.{FieldType}

-- the label of the name of this number, or `nobody` where there is none
abbrev pub name_label : Option ℕ → StaticLabel
name_label number = one_or_nobody (option_map Name number)

-- A label over the handler's words: `number` numbers the handler's names, and `here` is the version that a state has.
abbrev pub label_in : (Nm → Option ℕ) → Option Atom → LabelText → StaticLabel
label_in number here (l.Public line) = Public
label_in number here (l.Nobody line) = Nobody
label_in number here (l.Session line) = One ThisSession
label_in number here (l.Next line) = One Next
label_in number here (l.Prior line) = One Prior
label_in number here (l.Here line) = one_or_nobody here
label_in number here (l.One name) = name_label (number name)
label_in number here (l.Join line left right) = Join (label_in number here left) (label_in number here right)
label_in number here (l.Meet line left right) = Meet (label_in number here left) (label_in number here right)

abbrev pub use_in : (Nm → Option ℕ) → UseText → StaticUse
use_in number usage = record { usage = usage.usage.word; args = filter_map number usage.args }

-- a field's type
abbrev pub type_in : (Nm → Option ℕ) → Option Atom → FieldType → Declared
type_in number here d.Name = types.Name
type_in number here d.Any = types.Any
type_in number here (d.Upto label) = types.Upto (label_in number here label)
type_in number here (d.Secret label) = types.Secret (label_in number here label)
type_in number here (d.Key label usage) = types.Key (label_in number here label) (use_in number usage)
type_in number here (d.Pk label usage) = types.Pk (label_in number here label) (use_in number usage)
type_in number here (d.Vk label usage) = types.Vk (label_in number here label) (use_in number usage)
