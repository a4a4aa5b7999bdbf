-- What a field's type gives, and what fits it.
use Rattle.std.specs.Prelude.{List, [], ◌∷◌}
use Rattle.dy_label.specs.Labels.{Public, Nobody, Join}
use Rattle.dy_label.specs.Words.{StaticLabel, Implies}
use Rattle.dy_types.specs.Claims.{StaticUse, Claim, Use, Known, HasUse, HasPk, HasVk}
use Rattle.dy_types.specs.Claims as claims

-- a field's type, with its labels and usages over the handler's words
pub data DeclaredOf (L : Type 0) : Type 0 where
  Name : DeclaredOf L
  Any : DeclaredOf L
  Upto : (label : L) → DeclaredOf L
  Secret : (label : L) → DeclaredOf L
  Key : (label : L) (usage : StaticUse) → DeclaredOf L
  Pk : (label : L) (usage : StaticUse) → DeclaredOf L
  Vk : (label : L) (usage : StaticUse) → DeclaredOf L

abbrev pub Declared : Type 0
Declared = DeclaredOf StaticLabel

-- Where this is open, so is the label of a field of this type.
abbrev pub declared_hi : Declared → StaticLabel
declared_hi Name = Public
declared_hi Any = Nobody
declared_hi (Upto label) = label
declared_hi (Secret label) = label
declared_hi (Key label usage) = label
declared_hi (Pk label usage) = Nobody
declared_hi (Vk label usage) = Nobody

-- Where the label of a field of this type is open, so is this.
abbrev pub declared_lo : Declared → StaticLabel
declared_lo (Secret label) = label
declared_lo (Key label usage) = label
declared_lo other = Public

-- What is claimed of a field of this type. Where the guard is open, the field may be forged.
abbrev pub declared_claims : Declared → StaticLabel → List Claim
declared_claims (Key label usage) guard = Use usage ∷ []
declared_claims (Pk label usage) guard = claims.Pk (Join label guard) usage ∷ []
declared_claims (Vk label usage) guard = claims.Vk (Join label guard) usage ∷ []
declared_claims other guard = []

-- The knowledge of a field of what was opened. Who has the key may have the field, and where the guard is open it may
-- be forged.
abbrev pub narrow_by : Declared → StaticLabel → StaticLabel → Known
narrow_by type hi guard = record {
  hi = Join (declared_hi type) hi;
  lo = Join (declared_lo type) guard;
  claims = declared_claims type guard;
}

-- A value of which this is known fits a field of this type.
abbrev pub Fits : Known → Declared → Type 0
Fits known Name = Unit {0}
Fits known Any = Unit {0}
Fits known (Upto label) = Implies label known.hi
Fits known (Secret label) = Implies label known.hi × Implies known.lo label
Fits known (Key label usage) = Implies label known.hi × Implies known.lo label × HasUse known usage
Fits known (Pk label usage) = HasPk known label usage
Fits known (Vk label usage) = HasVk known label usage
