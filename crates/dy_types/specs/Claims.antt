-- What a handler knows of one value. Labels are over the handler's words.
use Rattle.std.specs.Prelude.{ℕ, Bool, ◌&&◌, List, [], ◌∷◌, ◌++◌, Contains, Option, Some, None, if◌then◌else◌}
use Rattle.std.specs.List.{filter_map}
use Rattle.std.specs.Str.{bytes_eq}
use Rattle.dy_label.specs.Labels.{Public, Nobody, Join, Meet}
use Rattle.dy_label.specs.Words.{StaticLabel, Implies}

-- a declared usage, for some of the handler's names: these are named by number
pub record StaticUse : Type 0 where
  pub usage : List ℕ
  pub args : List ℕ

abbrev pub is_same_use : StaticUse → StaticUse → Bool
is_same_use usage other = bytes_eq usage.usage other.usage && bytes_eq usage.args other.args

-- What is claimed of a value. It has a usage, or it is the public (or the verification) key of a key with a usage.
-- The key's label, when open, opens this one.
pub data ClaimOf (L : Type 0) : Type 0 where
  Use : (usage : StaticUse) → ClaimOf L
  Pk : (label : L) (usage : StaticUse) → ClaimOf L
  Vk : (label : L) (usage : StaticUse) → ClaimOf L

-- Where `hi` is open, so is the value's label; where that is open, so is `lo`.
pub record KnownOf (L : Type 0) : Type 0 where
  pub hi : L
  pub lo : L
  pub claims : List (ClaimOf L)

abbrev pub Claim : Type 0
Claim = ClaimOf StaticLabel

abbrev pub Known : Type 0
Known = KnownOf StaticLabel

-- of what nothing is known
abbrev pub unknown : Known
unknown = record { hi = Nobody; lo = Public; claims = [] }

-- of what all may know
abbrev pub plain : Known
plain = record { hi = Public; lo = Public; claims = [] }

-- the usage that is claimed
abbrev pub claimed_use : {L : Type 0} → ClaimOf L → Option StaticUse
claimed_use (Use usage) = Some usage
claimed_use (Pk label usage) = None
claimed_use (Vk label usage) = None

-- the label of a claim on a public key of this usage
abbrev pub pk_label : {L : Type 0} → StaticUse → ClaimOf L → Option L
pk_label usage (Use other) = None
pk_label usage (Pk label other) = if is_same_use other usage then Some label else None
pk_label usage (Vk label other) = None

-- the label of a claim on a verification key of this usage
abbrev pub vk_label : {L : Type 0} → StaticUse → ClaimOf L → Option L
vk_label usage (Use other) = None
vk_label usage (Pk label other) = None
vk_label usage (Vk label other) = if is_same_use other usage then Some label else None

-- the usages that are claimed
abbrev pub uses_in : {L : Type 0} → List (ClaimOf L) → List StaticUse
uses_in claims = filter_map claimed_use claims

-- the labels of the claims on public keys of this usage
abbrev pub pk_labels : {L : Type 0} → List (ClaimOf L) → StaticUse → List L
pk_labels claims usage = filter_map (pk_label usage) claims

-- the labels of the claims on verification keys of this usage
abbrev pub vk_labels : {L : Type 0} → List (ClaimOf L) → StaticUse → List L
vk_labels claims usage = filter_map (vk_label usage) claims

abbrev pub meet_of : StaticLabel → List StaticLabel → StaticLabel
meet_of label [] = label
meet_of label (other ∷ labels) = Meet label (meet_of other labels)

-- There are such labels, and the meet of all of them implies this one.
abbrev pub MeetImplies : List StaticLabel → StaticLabel → Type 0
MeetImplies [] weaker = ⊥
MeetImplies (label ∷ labels) weaker = Implies (meet_of label labels) weaker

-- The value has this usage.
abbrev pub HasUse : Known → StaticUse → Type 0
HasUse known usage = Contains (uses_in known.claims) usage

-- The value is a public key of this usage, of a key whose label, when open, opens this one. Claims on keys of one
-- usage are one, with
-- the meet of their labels.
abbrev pub HasPk : Known → StaticLabel → StaticUse → Type 0
HasPk known label usage = MeetImplies (pk_labels known.claims usage) label

-- the same of a verification key
abbrev pub HasVk : Known → StaticLabel → StaticUse → Type 0
HasVk known label usage = MeetImplies (vk_labels known.claims usage) label

-- the knowledge of two values that are one
abbrev pub identify_with : Known → Known → Known
identify_with first second = record {
  hi = Join first.hi second.hi;
  lo = Meet first.lo second.lo;
  claims = first.claims ++ second.claims;
}

-- The second is weaker than the first, or says the same.
pub record IsWeaker (stronger weaker : Known) : Type 0 where
  pub hi : Implies weaker.hi stronger.hi
  pub lo : Implies stronger.lo weaker.lo
  pub uses : (usage : StaticUse) → HasUse weaker usage → HasUse stronger usage
  pub pks : (label : StaticLabel) (usage : StaticUse) → HasPk weaker label usage → HasPk stronger label usage
  pub vks : (label : StaticLabel) (usage : StaticUse) → HasVk weaker label usage → HasVk stronger label usage
