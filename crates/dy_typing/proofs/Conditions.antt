-- What weaker knowledge meets, stronger knowledge meets.
use Rattle.std.proofs.Common.{List, [], ◌∷◌, map, inl, inr, ◌⊎◌}
use Rattle.dy_label.specs.Labels.{Public, One}
use Rattle.dy_label.specs.Words.{StaticLabel, Name, Next, Implies}
use Rattle.dy_types.specs.Claims.{StaticUse, Known, HasPk, pk_labels}
use Rattle.dy_types.specs.FieldTypes.{Fits}
use Rattle.dy_syntax.specs.Names.{KindText, Nonce, Pke, Sig, Aead, Mac, Kdf, Nm}
use Rattle.dy_syntax.specs.Files.{Decl}
use Rattle.dy_syntax.specs.Expressions.{Expr}
use Rattle.dy_typing.specs.Knowledge.{Knowledge, known_of, Happened, IsWeakerKnowledge}
use Rattle.dy_typing.specs.Expressions.{known_of_expr}
use Rattle.dy_typing.specs.Demands.{Sealing, Fitted, Required, Demand, Sent, SealedFor, OpenedBy, ReadersMayKnow, FieldFits, EventStands, PartnerStands, StoreKeeps, StoreFits, Certifies}
use Rattle.dy_typing.specs.Conditions.{IsPublic, content_hi, sealer_hi, IsKeyFor, IsKeyToOpen, MayBeRead, IsMet}
use Rattle.dy_typing.proofs.ValueLaws.{Laws}
use Rattle.dy_typing.proofs.Meets.{Implies-onward, MeetImplies-onward}
use Rattle.dy_typing.proofs.Known.{known_of-weaker, Happened-stronger, Happened-onward}
use Rattle.dy_typing.proofs.Expressions.{AreWeaker, known_together-weaker, known_of_expr-weaker}

HasPk-onward : (known : Known) (label weaker : StaticLabel) (usage : StaticUse) → HasPk known label usage
    → Implies label weaker → HasPk known weaker usage
HasPk-onward known label weaker usage h k = MeetImplies-onward (pk_labels known.claims usage) label weaker h k

-- what implies a label or else is for all, by its parts
either_met : {P Q R S : Type 0} → (P → R) → (Q → S) → P ⊎ Q → R ⊎ S
either_met first second (inl p) = inl (first p)
either_met first second (inr q) = inr (second q)

module _ (laws : Laws) (decls : List Decl) (stronger weaker : Knowledge) (h : IsWeakerKnowledge stronger weaker) where
  each_known : (fields : List Expr)
      → AreWeaker (map (known_of_expr decls stronger) fields) (map (known_of_expr decls weaker) fields)
  each_known [] = tt
  each_known (field ∷ fields) = (known_of_expr-weaker laws decls stronger weaker h field, each_known fields)

  -- What is sealed may be known by no fewer.
  pub content_hi-weaker : (sealing : Sealing) → Implies (content_hi decls weaker sealing) (content_hi decls stronger sealing)
  content_hi-weaker sealing =
      (known_together-weaker laws (map (known_of_expr decls stronger) sealing.fields)
      (map (known_of_expr decls weaker) sealing.fields) (each_known sealing.fields)).hi

  key_hi : (key : Nm) → Implies (known_of weaker key).hi (known_of stronger key).hi
  key_hi key = (known_of-weaker laws stronger weaker h key).hi

  sealer_of_kind : (kind : KindText) (key : Nm) (usage : StaticUse) (fields : List Expr)
      → Implies (sealer_hi decls weaker (record { kind = kind; key = key; usage = usage; fields = fields }))
      (sealer_hi decls stronger (record { kind = kind; key = key; usage = usage; fields = fields }))
  sealer_of_kind Pke key usage fields = content_hi-weaker (record { kind = Pke; key = key; usage = usage; fields = fields })
  sealer_of_kind Nonce key usage fields = key_hi key
  sealer_of_kind Sig key usage fields = key_hi key
  sealer_of_kind Aead key usage fields = key_hi key
  sealer_of_kind Mac key usage fields = key_hi key
  sealer_of_kind Kdf key usage fields = key_hi key

  -- No fewer may seal it.
  pub sealer_hi-weaker : (sealing : Sealing) → Implies (sealer_hi decls weaker sealing) (sealer_hi decls stronger sealing)
  sealer_hi-weaker sealing = sealer_of_kind sealing.kind sealing.key sealing.usage sealing.fields

  IsPublic-sealer : (sealing : Sealing) → IsPublic (sealer_hi decls weaker sealing) → IsPublic (sealer_hi decls stronger sealing)
  IsPublic-sealer sealing all =
      Implies-onward Public (sealer_hi decls weaker sealing) (sealer_hi decls stronger sealing) all (sealer_hi-weaker sealing)

  -- A key is known to be one of this usage.
  pub IsKeyFor-stronger : (kind : KindText) (key : Nm) (usage : StaticUse)
      → IsKeyFor kind weaker key usage → IsKeyFor kind stronger key usage
  IsKeyFor-stronger Pke key usage k = (known_of-weaker laws stronger weaker h key).pks Public usage k
  IsKeyFor-stronger Nonce key usage k = (known_of-weaker laws stronger weaker h key).uses usage k
  IsKeyFor-stronger Sig key usage k = (known_of-weaker laws stronger weaker h key).uses usage k
  IsKeyFor-stronger Aead key usage k = (known_of-weaker laws stronger weaker h key).uses usage k
  IsKeyFor-stronger Mac key usage k = (known_of-weaker laws stronger weaker h key).uses usage k
  IsKeyFor-stronger Kdf key usage k = (known_of-weaker laws stronger weaker h key).uses usage k

  -- A key is known to be one that opens what is of this usage.
  pub IsKeyToOpen-stronger : (kind : KindText) (key : Nm) (usage : StaticUse)
      → IsKeyToOpen kind weaker key usage → IsKeyToOpen kind stronger key usage
  IsKeyToOpen-stronger Sig key usage k = (known_of-weaker laws stronger weaker h key).vks Public usage k
  IsKeyToOpen-stronger Nonce key usage k = (known_of-weaker laws stronger weaker h key).uses usage k
  IsKeyToOpen-stronger Pke key usage k = (known_of-weaker laws stronger weaker h key).uses usage k
  IsKeyToOpen-stronger Aead key usage k = (known_of-weaker laws stronger weaker h key).uses usage k
  IsKeyToOpen-stronger Mac key usage k = (known_of-weaker laws stronger weaker h key).uses usage k
  IsKeyToOpen-stronger Kdf key usage k = (known_of-weaker laws stronger weaker h key).uses usage k

  -- Whoever has the public key's other key may know what is encrypted, or all may.
  read_by_public : (sealing : Sealing) → MayBeRead Pke decls weaker sealing → MayBeRead Pke decls stronger sealing
  read_by_public sealing =
      let content = content_hi decls weaker sealing in
      let more = content_hi decls stronger sealing in
      let key = known_of stronger sealing.key in
      either_met
      (λ pk. HasPk-onward key content more sealing.usage
      ((known_of-weaker laws stronger weaker h sealing.key).pks content sealing.usage pk) (content_hi-weaker sealing))
      (λ all. Implies-onward Public content more all (content_hi-weaker sealing))

  read_by_key : (sealing : Sealing) → Implies (known_of weaker sealing.key).lo (content_hi decls weaker sealing)
      → Implies (known_of stronger sealing.key).lo (content_hi decls stronger sealing)
  read_by_key sealing k =
      Implies-onward (known_of stronger sealing.key).lo (known_of weaker sealing.key).lo (content_hi decls stronger sealing)
      (known_of-weaker laws stronger weaker h sealing.key).lo
      (Implies-onward (known_of weaker sealing.key).lo (content_hi decls weaker sealing) (content_hi decls stronger sealing)
      k (content_hi-weaker sealing))

  -- Who has the key may know what is encrypted.
  pub MayBeRead-stronger : (kind : KindText) (sealing : Sealing)
      → MayBeRead kind decls weaker sealing → MayBeRead kind decls stronger sealing
  MayBeRead-stronger Pke sealing k = read_by_public sealing k
  MayBeRead-stronger Nonce sealing k = read_by_key sealing k
  MayBeRead-stronger Sig sealing k = read_by_key sealing k
  MayBeRead-stronger Aead sealing k = read_by_key sealing k
  MayBeRead-stronger Mac sealing k = read_by_key sealing k
  MayBeRead-stronger Kdf sealing k = read_by_key sealing k

  value_hi : (value : Expr) → Implies (known_of_expr decls weaker value).hi (known_of_expr decls stronger value).hi
  value_hi value = (known_of_expr-weaker laws decls stronger weaker h value).hi

  field_fits : (field : Fitted) → Fits (known_of_expr decls weaker field.value) field.type
      → Fits (known_of_expr decls stronger field.value) field.type
  field_fits field k =
      laws.fits (known_of_expr decls stronger field.value) (known_of_expr decls weaker field.value) field.type
      (known_of_expr-weaker laws decls stronger weaker h field.value) k

  -- an event that the case requires stands for whoever may seal it
  event_stands : (sealing : Sealing) (event : Required) → Happened weaker event.event event.args (sealer_hi decls weaker sealing)
      → Happened stronger event.event event.args (sealer_hi decls stronger sealing)
  event_stands sealing event k =
      Happened-onward stronger event.event event.args (sealer_hi decls weaker sealing) (sealer_hi decls stronger sealing)
      (Happened-stronger laws stronger weaker h event.event event.args (sealer_hi decls weaker sealing) k)
      (sealer_hi-weaker sealing)

  -- Each demand that weaker knowledge meets, stronger knowledge meets.
  pub IsMet-stronger : (demand : Demand) → IsMet decls weaker demand → IsMet decls stronger demand
  IsMet-stronger (Sent value) k =
      Implies-onward Public (known_of_expr decls weaker value).hi (known_of_expr decls stronger value).hi k (value_hi value)
  IsMet-stronger (SealedFor sealing) k =
      either_met (IsKeyFor-stronger sealing.kind sealing.key sealing.usage) (IsPublic-sealer sealing) k
  IsMet-stronger (OpenedBy kind key usage) k = IsKeyToOpen-stronger kind key usage k
  IsMet-stronger (ReadersMayKnow sealing) k = MayBeRead-stronger sealing.kind sealing k
  IsMet-stronger (FieldFits sealing field) k = either_met (field_fits field) (IsPublic-sealer sealing) k
  IsMet-stronger (EventStands sealing event) k = either_met (event_stands sealing event) (IsPublic-sealer sealing) k
  IsMet-stronger (PartnerStands partner) k =
      Happened-stronger laws stronger weaker h partner.event.event partner.event.args partner.unless k
  IsMet-stronger (StoreKeeps field) k =
      Implies-onward (One Next) (known_of_expr decls weaker field.value).hi (known_of_expr decls stronger field.value).hi k
      (value_hi field.value)
  IsMet-stronger (StoreFits field) k = field_fits field k
  IsMet-stronger (Certifies key usage) k = (
    (known_of-weaker laws stronger weaker h key).uses usage k.0,
    Implies-onward (known_of stronger key).lo (known_of weaker key).lo (One (Name 0))
        (known_of-weaker laws stronger weaker h key).lo k.1,
  )
