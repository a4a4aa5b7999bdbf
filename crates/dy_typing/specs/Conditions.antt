-- When what a statement demands is met by what is known.
use Rattle.std.specs.Prelude.{◌⊎◌, List, Contains, map}
use Rattle.dy_label.specs.Labels.{Public, One}
use Rattle.dy_label.specs.Words.{StaticLabel, Name, Next, Implies}
use Rattle.dy_types.specs.Claims.{StaticUse, HasUse, HasPk, HasVk}
use Rattle.dy_types.specs.FieldTypes.{Fits}
use Rattle.dy_syntax.specs.Names.{KindText, Pke, Sig, Nm}
use Rattle.dy_syntax.specs.Files.{Decl}
use Rattle.dy_typing.specs.Knowledge.{Knowledge, known_of, Happened}
use Rattle.dy_typing.specs.Expressions.{known_of_expr, known_together}
use Rattle.dy_typing.specs.Demands.{Sealing, Demand, Sent, SealedFor, OpenedBy, ReadersMayKnow, FieldFits, EventStands, PartnerStands, StoreKeeps, StoreFits, Certifies}

-- All may know it.
abbrev pub IsPublic : StaticLabel → Type 0
IsPublic label = Implies Public label

-- where this is open, so is the label of what is sealed
abbrev pub content_hi : List Decl → Knowledge → Sealing → StaticLabel
content_hi decls k sealing = (known_together (map (known_of_expr decls k) sealing.fields)).hi

-- Who may seal such a tuple: for a public key who knows the tuple, else who has the key.
abbrev pub sealer_hi : List Decl → Knowledge → Sealing → StaticLabel
sealer_hi decls k sealing = sealer sealing.kind where
  sealer : KindText → StaticLabel
  sealer Pke = content_hi decls k sealing
  sealer other = (known_of k sealing.key).hi

-- A public key is one of this usage, and any other key has the usage.
abbrev pub IsKeyFor : KindText → Knowledge → Nm → StaticUse → Type 0
IsKeyFor Pke k key usage = HasPk (known_of k key) Public usage
IsKeyFor other k key usage = HasUse (known_of k key) usage

-- A verification key is one of this usage, and any other key has the usage.
abbrev pub IsKeyToOpen : KindText → Knowledge → Nm → StaticUse → Type 0
IsKeyToOpen Sig k key usage = HasVk (known_of k key) Public usage
IsKeyToOpen other k key usage = HasUse (known_of k key) usage

-- Who has the key may know what is encrypted under it. What all may know, anyone may encrypt to a public key.
abbrev pub MayBeRead : KindText → List Decl → Knowledge → Sealing → Type 0
MayBeRead Pke decls k sealing =
    HasPk (known_of k sealing.key) (content_hi decls k sealing) sealing.usage ⊎ IsPublic (content_hi decls k sealing)
MayBeRead other decls k sealing = Implies (known_of k sealing.key).lo (content_hi decls k sealing)

-- What anyone may seal owes nothing to its case.
abbrev pub IsMet : List Decl → Knowledge → Demand → Type 0
IsMet decls k (Sent value) = IsPublic (known_of_expr decls k value).hi
IsMet decls k (SealedFor sealing) =
    IsKeyFor sealing.kind k sealing.key sealing.usage ⊎ IsPublic (sealer_hi decls k sealing)
IsMet decls k (OpenedBy kind key usage) = IsKeyToOpen kind k key usage
IsMet decls k (ReadersMayKnow sealing) = MayBeRead sealing.kind decls k sealing
IsMet decls k (FieldFits sealing field) =
    Fits (known_of_expr decls k field.value) field.type ⊎ IsPublic (sealer_hi decls k sealing)
IsMet decls k (EventStands sealing event) =
    Happened k event.event event.args (sealer_hi decls k sealing) ⊎ IsPublic (sealer_hi decls k sealing)
IsMet decls k (PartnerStands partner) = Happened k partner.event.event partner.event.args partner.unless
IsMet decls k (StoreKeeps field) = Implies (One Next) (known_of_expr decls k field.value).hi
IsMet decls k (StoreFits field) = Fits (known_of_expr decls k field.value) field.type
IsMet decls k (Certifies key usage) =
    HasUse (known_of k key) usage × Implies (known_of k key).lo (One (Name 0))

abbrev pub AreMet : List Decl → Knowledge → List Demand → Type 0
AreMet decls k demands = (demand : Demand) → Contains demands demand → IsMet decls k demand
