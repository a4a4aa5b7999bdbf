-- Declarations of usages, cases, events and states as plain data.
use Rattle.std.specs.Prelude.{ℕ, Bool, List}
use Rattle.dy_syntax.specs.Names.{Id, Quote, KindText, UseText, AtomText}
use Rattle.dy_syntax.specs.Labels.{LabelText}

-- the type of a field
pub data FieldType : Type 0 where
  Name : FieldType
  Any : FieldType
  Upto : (label : LabelText) → FieldType
  Secret : (label : LabelText) → FieldType
  Key : (label : LabelText) (usage : UseText) → FieldType
  Pk : (label : LabelText) (usage : UseText) → FieldType
  Vk : (label : LabelText) (usage : UseText) → FieldType

-- a field of a case or a state, and the line of the first word of its type
pub record Field : Type 0 where
  pub name : Id
  pub kind : FieldType
  pub kind_line : ℕ

-- a row of a table of derived keys: for this text, a key of this usage
pub record Row : Type 0 where
  pub text : Quote
  pub kind : KindText
  pub kind_line : ℕ
  pub usage : Id

-- a usage, and its table
pub record UsageDecl : Type 0 where
  pub line : ℕ
  pub kind : KindText
  pub kind_line : ℕ
  pub name : Id
  pub params : List Id
  pub rows : List Row

-- a case of a usage: a tag with its fields, and the events that must have happened
pub record CaseDecl : Type 0 where
  pub line : ℕ
  pub usage : Id
  pub tag : Quote
  pub fields : List Field
  pub requires_ : List AtomText

-- a parameter of an event, which takes a name alone where `is_name` says so
pub record Param : Type 0 where
  pub line : ℕ
  pub is_name : Bool
  pub name : Id

-- an event that stands before, unless the label is open
pub record Partner : Type 0 where
  pub atom : AtomText
  pub unless : LabelText

-- an event with its partners
pub record EventDecl : Type 0 where
  pub line : ℕ
  pub name : Id
  pub params : List Param
  pub after : List Partner

-- a state, and what a handler knows that finds it
pub record StateDecl : Type 0 where
  pub line : ℕ
  pub name : Id
  pub lasting : Bool
  pub fields : List Field
  pub knows : List Partner
