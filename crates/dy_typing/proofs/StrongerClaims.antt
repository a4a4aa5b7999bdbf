-- Claims that give whatever weaker claims give.
use Rattle.std.proofs.Common.{◌≡◌, Bool, true, List, Contains, Some, None, if◌then◌else◌, refl, ap, subst}
use Rattle.std.proofs.lemmas.Option.{cond_some}
use Rattle.dy_label.specs.Words.{StaticLabel, Implies}
use Rattle.dy_types.specs.Claims.{StaticUse, is_same_use, Claim, Use, Pk, Vk, Known, claimed_use, pk_label, vk_label, uses_in, pk_labels, vk_labels, MeetImplies, IsWeaker}
use Rattle.dy_typing.proofs.Elements.{filter_map-from, Contains-filter_map}
use Rattle.dy_typing.proofs.ValueLaws.{Laws}
use Rattle.dy_typing.proofs.Meets.{Implies-itself, MeetImplies-each, MeetImplies-from_each, MeetImplies-onward}

-- Each weaker claim is made by the stronger ones, for a key of a label that implies the weaker claim's.
pub record HaveClaims (stronger weaker : List Claim) : Type 0 where
  pub uses : (usage : StaticUse) → Contains weaker (Use usage) → Contains stronger (Use usage)
  pub pks : (label : StaticLabel) (usage : StaticUse) → Contains weaker (Pk label usage)
      → (other : StaticLabel) × Contains stronger (Pk other usage) × Implies other label
  pub vks : (label : StaticLabel) (usage : StaticUse) → Contains weaker (Vk label usage)
      → (other : StaticLabel) × Contains stronger (Vk other usage) × Implies other label

-- a claim of a usage
claim_of_use : (claim : Claim) (usage : StaticUse) → claimed_use claim ≡ Some usage → claim ≡ Use usage
claim_of_use (Use other) usage h = cc
claim_of_use (Pk label other) usage h = cc
claim_of_use (Vk label other) usage h = cc

pub use_claimed : (claims : List Claim) (usage : StaticUse) → Contains (uses_in claims) usage → Contains claims (Use usage)
use_claimed claims usage h =
    let found = filter_map-from claimed_use claims usage h in
    subst (λ (claim : Claim). Contains claims claim) (claim_of_use found.0 usage found.2) found.1

pub Contains-use : (claims : List Claim) (usage : StaticUse) → Contains claims (Use usage) → Contains (uses_in claims) usage
Contains-use claims usage h = Contains-filter_map claimed_use claims (Use usage) usage h refl

-- a claim on a public key of this usage
record IsPkClaim (label : StaticLabel) (usage : StaticUse) (claim : Claim) : Type 0 where
  other : StaticUse
  is_claim : claim ≡ Pk label other
  is_same : is_same_use other usage ≡ true

pk_claim : (claim : Claim) (label : StaticLabel) (usage : StaticUse) → pk_label usage claim ≡ Some label
    → IsPkClaim label usage claim
pk_claim (Use other) label usage h = absurd (cc)
pk_claim (Vk guard other) label usage h = absurd (cc)
pk_claim (Pk guard other) label usage h =
    let found = cond_some (is_same_use other usage) guard label h in
    record { other = other; is_claim = ap (λ (l : StaticLabel). Pk l other) found.1; is_same = found.0 }

-- a claim on a verification key of this usage
record IsVkClaim (label : StaticLabel) (usage : StaticUse) (claim : Claim) : Type 0 where
  other : StaticUse
  is_claim : claim ≡ Vk label other
  is_same : is_same_use other usage ≡ true

vk_claim : (claim : Claim) (label : StaticLabel) (usage : StaticUse) → vk_label usage claim ≡ Some label
    → IsVkClaim label usage claim
vk_claim (Use other) label usage h = absurd (cc)
vk_claim (Pk guard other) label usage h = absurd (cc)
vk_claim (Vk guard other) label usage h =
    let found = cond_some (is_same_use other usage) guard label h in
    record { other = other; is_claim = ap (λ (l : StaticLabel). Vk l other) found.1; is_same = found.0 }

module _ (laws : Laws) (stronger weaker : List Claim) (h : HaveClaims stronger weaker) where
  each_pk : (usage : StaticUse) (guard : StaticLabel) → Contains (pk_labels weaker usage) guard
      → MeetImplies (pk_labels stronger usage) guard
  each_pk usage guard has =
      let found = filter_map-from (pk_label usage) weaker guard has in
      let is_pk = pk_claim found.0 guard usage found.2 in
      let claimed = h.pks guard is_pk.other (subst (λ (claim : Claim). Contains weaker claim) is_pk.is_claim found.1) in
      MeetImplies-onward (pk_labels stronger usage) claimed.0 guard
      (MeetImplies-each laws (pk_labels stronger usage) claimed.0
      (Contains-filter_map (pk_label usage) stronger (Pk claimed.0 is_pk.other) claimed.0 claimed.1
      (ap (λ (b : Bool). if b then Some claimed.0 else None) is_pk.is_same)))
      claimed.2

  each_vk : (usage : StaticUse) (guard : StaticLabel) → Contains (vk_labels weaker usage) guard
      → MeetImplies (vk_labels stronger usage) guard
  each_vk usage guard has =
      let found = filter_map-from (vk_label usage) weaker guard has in
      let is_vk = vk_claim found.0 guard usage found.2 in
      let claimed = h.vks guard is_vk.other (subst (λ (claim : Claim). Contains weaker claim) is_vk.is_claim found.1) in
      MeetImplies-onward (vk_labels stronger usage) claimed.0 guard
      (MeetImplies-each laws (vk_labels stronger usage) claimed.0
      (Contains-filter_map (vk_label usage) stronger (Vk claimed.0 is_vk.other) claimed.0 claimed.1
      (ap (λ (b : Bool). if b then Some claimed.0 else None) is_vk.is_same)))
      claimed.2

-- Knowledge is stronger whose labels and claims are.
pub IsWeaker-from_claims : Laws → (stronger weaker : Known) → Implies weaker.hi stronger.hi → Implies stronger.lo weaker.lo
    → HaveClaims stronger.claims weaker.claims → IsWeaker stronger weaker
IsWeaker-from_claims laws stronger weaker hi lo h = record {
  hi = hi;
  lo = lo;
  uses = λ usage has. Contains-use stronger.claims usage (h.uses usage (use_claimed weaker.claims usage has));
  pks = λ label usage.
      MeetImplies-from_each laws (pk_labels stronger.claims usage) (pk_labels weaker.claims usage)
      (each_pk laws stronger.claims weaker.claims h usage) label;
  vks = λ label usage.
      MeetImplies-from_each laws (vk_labels stronger.claims usage) (vk_labels weaker.claims usage)
      (each_vk laws stronger.claims weaker.claims h usage) label;
}

-- The same claims are made.
pub HaveClaims-itself : (claims : List Claim) → HaveClaims claims claims
HaveClaims-itself claims = record {
  uses = λ usage has. has;
  pks = λ label usage has. (label, has, Implies-itself label);
  vks = λ label usage has. (label, has, Implies-itself label);
}
