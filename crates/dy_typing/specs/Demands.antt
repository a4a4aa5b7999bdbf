-- What a statement demands, in the order in which demands are named. They are ordered by condition, then by operation
-- from the left, the outer one first, then by field, partner or event.
use Rattle.std.specs.Prelude.{ℕ, suc, List, [], ◌∷◌, ◌++◌, map, zip, Option, Some, None}
use Rattle.std.specs.Option.{option_map_or}
use Rattle.std.specs.List.{flat_map}
use Rattle.dy_label.specs.Words.{Atom, Next, StaticLabel}
use Rattle.dy_types.specs.Claims.{StaticUse}
use Rattle.dy_types.specs.FieldTypes.{Declared}
use Rattle.dy_syntax.specs.Names.{Id, KindText, Nm, UseText, AtomText}
use Rattle.dy_syntax.specs.Names as names
use Rattle.dy_syntax.specs.Declarations.{Field, CaseDecl, EventDecl, Partner, StateDecl}
use Rattle.dy_syntax.specs.Expressions.{Expr, Exprs}
use Rattle.dy_syntax.specs.Expressions as e
use Rattle.dy_syntax.specs.Statements.{Act, New, Let, Event, Send, Store, Certify, Find, Recall, Split, Opened, Popened, Verify, Check, Same}
use Rattle.dy_syntax.specs.LookUps.{case_named, event_named, state_named}
use Rattle.dy_typing.specs.Names.{Setting, Stands, name_number, stands_number, case_stands, state_stands, event_stands, exprs_names, atom_names}
use Rattle.dy_typing.specs.Instances.{label_in, use_in, type_in}

-- a tuple under a key, with the usage that is written
pub record Sealing : Type 0 where
  pub kind : KindText
  pub key : Nm
  pub usage : StaticUse
  pub fields : List Expr

-- a field of what is sealed, with its type
pub record Fitted : Type 0 where
  pub number : ℕ
  pub type : Declared
  pub value : Expr

-- an event that must have happened, and the names and variables that are its arguments, if they are such
pub record Required : Type 0 where
  pub number : ℕ
  pub event : List ℕ
  pub args : Option (List Nm)

-- an event that must have happened unless the label is open
pub record Owed : Type 0 where
  pub event : Required
  pub unless : StaticLabel

pub data Demand : Type 0 where
  Sent : (value : Expr) → Demand
  SealedFor : (sealing : Sealing) → Demand
  OpenedBy : (kind : KindText) (key : Nm) (usage : StaticUse) → Demand
  ReadersMayKnow : (sealing : Sealing) → Demand
  FieldFits : (sealing : Sealing) (field : Fitted) → Demand
  EventStands : (sealing : Sealing) (event : Required) → Demand
  PartnerStands : (partner : Owed) → Demand
  StoreKeeps : (field : Fitted) → Demand
  StoreFits : (field : Fitted) → Demand
  Certifies : (key : Nm) (usage : StaticUse) → Demand

-- the number of the condition
abbrev pub condition_of : Demand → ℕ
condition_of (Sent value) = 1
condition_of (SealedFor sealing) = 2
condition_of (OpenedBy kind key usage) = 2
condition_of (ReadersMayKnow sealing) = 3
condition_of (FieldFits sealing field) = 4
condition_of (EventStands sealing event) = 5
condition_of (PartnerStands partner) = 6
condition_of (StoreKeeps field) = 7
condition_of (StoreFits field) = 8
condition_of (Certifies key usage) = 9

-- the number of the field, the event or the partner, or 0
abbrev pub field_of : Demand → ℕ
field_of (Sent value) = 0
field_of (SealedFor sealing) = 0
field_of (OpenedBy kind key usage) = 0
field_of (ReadersMayKnow sealing) = 0
field_of (FieldFits sealing field) = field.number
field_of (EventStands sealing event) = event.number
field_of (PartnerStands partner) = partner.event.number
field_of (StoreKeeps field) = field.number
field_of (StoreFits field) = field.number
field_of (Certifies key usage) = 0

-- numbered from this number on
abbrev pub numbered_from : {A B : Type 0} → ℕ → (ℕ → A → B) → List A → List B
numbered_from number make [] = []
numbered_from number make (x ∷ xs) = make number x ∷ numbered_from (suc number) make xs

-- each field of a declaration with the expression in its place
abbrev pub fitted_fields : (Nm → Option ℕ) → Option Atom → List Field → List Expr → List Fitted
fitted_fields number here fields values =
    numbered_from 1
    (λ n pair. record { number = n; type = type_in number here pair.0.kind; value = pair.1 })
    (zip fields values)

abbrev pub requirement_of : Stands → ℕ → AtomText → Required
requirement_of stands number atom = record { number = number; event = atom.event.word; args = atom_names stands atom }

-- the partners of a declaration, whose words stand for these
abbrev pub partners_owed : Setting → Stands → Option Atom → List Partner → List Owed
partners_owed setting stands here partners =
    numbered_from 1
    (λ n partner. record {
      event = requirement_of stands n partner.atom;
      unless = label_in (stands_number setting stands) here partner.unless;
    })
    partners

-- an operation under a key: a tuple is sealed, or a value is opened or verified
pub data Operation : Type 0 where
  Seals : (kind : KindText) (key : Nm) (usage : UseText) (tag : List ℕ) (fields : List Expr) → Operation
  Opens : (kind : KindText) (key : Nm) (usage : UseText) → Operation

-- the operations of an expression, the outer one first
abbrev mutual
  pub operations_of_expr : Expr → List Operation
  operations_of_expr (e.Nm name) = []
  operations_of_expr (e.Lit quote) = []
  operations_of_expr (e.Tuple tag args) = operations_of_exprs args
  operations_of_expr (e.Pair line first second) = operations_of_expr first ++ operations_of_expr second
  operations_of_expr (e.Pk line key) = []
  operations_of_expr (e.Vk line key) = []
  operations_of_expr (e.Penc line key usage tag args) =
      Seals names.Pke key usage tag.text (e.list_of args) ∷ operations_of_exprs args
  operations_of_expr (e.Aead line key usage tag args ad) =
      Seals names.Aead key usage tag.text (e.list_of args) ∷ (operations_of_exprs args ++ operations_of_expr ad)
  operations_of_expr (e.Sign line key usage tag args) =
      Seals names.Sig key usage tag.text (e.list_of args) ∷ operations_of_exprs args
  operations_of_expr (e.Mac line key usage tag args) =
      Seals names.Mac key usage tag.text (e.list_of args) ∷ operations_of_exprs args
  operations_of_expr (e.Kdf line key context input) = operations_of_expr input
  operations_of_expr (e.Hash line message) = operations_of_expr message

  pub operations_of_exprs : Exprs → List Operation
  operations_of_exprs e.Nil = []
  operations_of_exprs (e.Cons first rest) = operations_of_expr first ++ operations_of_exprs rest

-- the operations of a statement
abbrev pub operations_of : Act → List Operation
operations_of (Let name value) = operations_of_expr value
operations_of (Send value) = operations_of_expr value
operations_of (Store state fields) = flat_map operations_of_expr fields
operations_of (Opened value key usage tag pats ad) = Opens names.Aead (names.Named key) usage ∷ operations_of_expr ad
operations_of (Popened value key usage tag pats) = Opens names.Pke (names.Named key) usage ∷ []
operations_of (Verify value key usage tag pats) = Opens names.Sig (names.Named key) usage ∷ []
operations_of (Check value key usage tag args) = Opens names.Mac (names.Named key) usage ∷ []
operations_of (New name usage label) = []
operations_of (Event atom) = []
operations_of (Certify key usage) = []
operations_of (Find usage owner name) = []
operations_of (Recall state pats) = []
operations_of (Split value tag pats) = []
operations_of (Same left right) = []

abbrev pub sealing_of : Setting → KindText → Nm → UseText → List Expr → Sealing
sealing_of setting kind key usage fields =
    record { kind = kind; key = key; usage = use_in (name_number setting) usage; fields = fields }

-- The key has the usage.
abbrev pub key_demands : Setting → Operation → List Demand
key_demands setting (Seals kind key usage tag fields) = SealedFor (sealing_of setting kind key usage fields) ∷ []
key_demands setting (Opens kind key usage) = OpenedBy kind key (use_in (name_number setting) usage) ∷ []

-- Who has the key may know what is encrypted.
abbrev pub reader_demands : Setting → Operation → List Demand
reader_demands setting (Seals names.Pke key usage tag fields) =
    ReadersMayKnow (sealing_of setting names.Pke key usage fields) ∷ []
reader_demands setting (Seals names.Aead key usage tag fields) =
    ReadersMayKnow (sealing_of setting names.Aead key usage fields) ∷ []
reader_demands setting _ = []

-- Each field fits its type.
abbrev pub case_field_demands : Setting → Sealing → List Nm → CaseDecl → List Demand
case_field_demands setting sealing args case =
    let stands = case_stands setting.decls args case (exprs_names sealing.fields) in
    map (FieldFits sealing) (fitted_fields (stands_number setting stands) None case.fields sealing.fields)

abbrev pub field_demands : Setting → Operation → List Demand
field_demands setting (Seals kind key usage tag fields) =
    option_map_or (case_field_demands setting (sealing_of setting kind key usage fields) usage.args)
    (case_named setting.decls usage.usage.word tag) []
field_demands setting (Opens kind key usage) = []

-- Each event that the case requires has happened.
abbrev pub case_event_demands : Setting → Sealing → List Nm → CaseDecl → List Demand
case_event_demands setting sealing args case =
    let stands = case_stands setting.decls args case (exprs_names sealing.fields) in
    map (EventStands sealing) (numbered_from 1 (requirement_of stands) case.requires_)

abbrev pub event_demands : Setting → Operation → List Demand
event_demands setting (Seals kind key usage tag fields) =
    option_map_or (case_event_demands setting (sealing_of setting kind key usage fields) usage.args)
    (case_named setting.decls usage.usage.word tag) []
event_demands setting (Opens kind key usage) = []

-- conditions 2 to 5
abbrev pub operation_demands : Setting → List Operation → List Demand
operation_demands setting operations =
    flat_map (key_demands setting) operations ++ flat_map (reader_demands setting) operations
    ++ flat_map (field_demands setting) operations ++ flat_map (event_demands setting) operations

-- Each partner of an event has happened, unless its label is open.
abbrev pub after_demands : Setting → List Nm → EventDecl → List Demand
after_demands setting args event = map PartnerStands (partners_owed setting (event_stands event args) None event.after)

abbrev pub partner_demands : Setting → AtomText → List Demand
partner_demands setting atom =
    option_map_or (after_demands setting atom.args) (event_named setting.decls atom.event.word) []

-- What a state knows has happened, and each field may be kept in the version that is stored and fits its type.
abbrev pub state_demands : Setting → List Expr → StateDecl → List Demand
state_demands setting fields state =
    let stands = state_stands state (exprs_names fields) in
    let stored = fitted_fields (stands_number setting stands) (Some Next) state.fields fields in
    map PartnerStands (partners_owed setting stands (Some Next) state.knows)
    ++ map StoreKeeps stored ++ map StoreFits stored

abbrev pub store_demands : Setting → Id → List Expr → List Demand
store_demands setting state fields =
    option_map_or (state_demands setting fields) (state_named setting.decls state.word) []

-- the demands of conditions 6 to 9
abbrev pub other_demands : Setting → Act → List Demand
other_demands setting (Event atom) = partner_demands setting atom
other_demands setting (Store state fields) = store_demands setting state fields
other_demands setting (Certify key usage) =
    Certifies (names.Named key) (record { usage = usage.word; args = 0 ∷ [] }) ∷ []
other_demands setting _ = []

abbrev pub sent_demands : Act → List Demand
sent_demands (Send value) = Sent value ∷ []
sent_demands _ = []

-- all that a statement demands
abbrev pub demands_of : Setting → Act → List Demand
demands_of setting act =
    sent_demands act ++ operation_demands setting (operations_of act) ++ other_demands setting act
