-- Guards, and what fields are known to be, by stronger knowledge.
use Rattle.std.proofs.Common.{List, [], ◌∷◌, map, refl}
use Rattle.std.proofs.lemmas.Bool.{and_parts, and_from}
use Rattle.dy_label.specs.Labels.{Public, Meet}
use Rattle.dy_label.specs.Words.{StaticLabel, Implies}
use Rattle.dy_types.specs.Claims.{StaticUse, Known, vk_labels, meet_of, MeetImplies, IsWeaker}
use Rattle.dy_types.specs.FieldTypes.{Declared, declared_claims, narrow_by}
use Rattle.dy_syntax.specs.Statements.{Pattern, Bind, Named, Equal}
use Rattle.dy_typing.specs.Knowledge.{Knowledge, known_of, with_claims, IsWeakerKnowledge}
use Rattle.dy_typing.specs.Effects.{guard_of_compared, vouching, shown_by, opened_with, verified_in}
use Rattle.dy_typing.proofs.ValueLaws.{Laws}
use Rattle.dy_typing.proofs.Meets.{opens, Implies-itself}
use Rattle.dy_typing.proofs.Known.{known_of-weaker}
use Rattle.dy_typing.proofs.StrongerClaims.{IsWeaker-from_claims, HaveClaims-itself}
use Rattle.dy_typing.proofs.Expressions.{AreWeaker}

-- A meet implies another, part by part.
pub Implies-Meet : (first second weaker_first weaker_second : StaticLabel) → Implies first weaker_first
    → Implies second weaker_second → Implies (Meet first second) (Meet weaker_first weaker_second)
Implies-Meet first second weaker_first weaker_second h k = λ choice corruptions opened.
    let label = opens choice corruptions in
    let parts = and_parts (label first) (label second) opened in
    and_from (label weaker_first) (label weaker_second) (h choice corruptions parts.0) (k choice corruptions parts.1)

-- The variables that fields are compared with are all open in fewer cases.
pub guard_of_compared-weaker : Laws → (stronger weaker : Knowledge) → IsWeakerKnowledge stronger weaker → (pats : List Pattern)
    → Implies (guard_of_compared stronger pats) (guard_of_compared weaker pats)
guard_of_compared-weaker laws stronger weaker h [] = Implies-itself Public
guard_of_compared-weaker laws stronger weaker h (Bind name ∷ pats) = guard_of_compared-weaker laws stronger weaker h pats
guard_of_compared-weaker laws stronger weaker h (Named line name ∷ pats) = guard_of_compared-weaker laws stronger weaker h pats
guard_of_compared-weaker laws stronger weaker h (Equal line to ∷ pats) =
    Implies-Meet (known_of stronger to).lo (guard_of_compared stronger pats) (known_of weaker to).lo (guard_of_compared weaker pats)
    (known_of-weaker laws stronger weaker h to).lo (guard_of_compared-weaker laws stronger weaker h pats)

-- the meet of all labels, which is for all where there is none
abbrev vouched_label : List StaticLabel → StaticLabel
vouched_label [] = Public
vouched_label (label ∷ labels) = meet_of label labels

vouched_label-weaker : (labels weaker : List StaticLabel) → ((label : StaticLabel) → MeetImplies weaker label → MeetImplies labels label)
    → Implies (vouched_label labels) (vouched_label weaker)
vouched_label-weaker labels [] h = λ choice corruptions opened. refl
vouched_label-weaker [] (label ∷ weaker) h = absurd (h (meet_of label weaker) (Implies-itself (meet_of label weaker)))
vouched_label-weaker (first ∷ labels) (label ∷ weaker) h = h (meet_of label weaker) (Implies-itself (meet_of label weaker))

-- A verification key vouches under a label that is open in fewer cases.
pub vouching-weaker : (stronger weaker : Known) → IsWeaker stronger weaker → (usage : StaticUse)
    → Implies (vouching stronger usage) (vouching weaker usage)
vouching-weaker stronger weaker h usage =
    vouched_label-weaker (vk_labels stronger.claims usage) (vk_labels weaker.claims usage) (λ label. h.vks label usage)

module _ (laws : Laws) where
  -- What all may see of a value has no claims.
  pub shown_by-weaker : (stronger weaker : Known) → IsWeaker stronger weaker → IsWeaker (shown_by stronger []) (shown_by weaker [])
  shown_by-weaker stronger weaker h =
      IsWeaker-from_claims laws (shown_by stronger []) (shown_by weaker []) h.hi (Implies-itself Public) (HaveClaims-itself [])

  -- A field that was opened with a key that is known better, under a guard that is open in fewer cases.
  pub opened_with-weaker : (stronger weaker : Known) (guard weaker_guard : StaticLabel) → IsWeaker stronger weaker
      → Implies guard weaker_guard → (type : Declared)
      → IsWeaker (opened_with stronger guard type) (opened_with weaker weaker_guard type)
  opened_with-weaker stronger weaker guard weaker_guard h k type =
      laws.narrow_by type stronger.hi weaker.hi guard weaker_guard h.hi k

  -- A field that was verified, under a guard that is open in fewer cases.
  pub verified_in-weaker : (stronger weaker : Known) (guard weaker_guard : StaticLabel) → IsWeaker stronger weaker
      → Implies guard weaker_guard → (type : Declared)
      → IsWeaker (verified_in stronger guard type) (verified_in weaker weaker_guard type)
  verified_in-weaker stronger weaker guard weaker_guard h k type =
      let field = laws.narrow_by type Public Public guard weaker_guard (Implies-itself Public) k in
      record { hi = h.hi; lo = Implies-itself Public; uses = field.uses; pks = field.pks; vks = field.vks }

  -- A value is claimed besides to be what a field says, under a guard that is open in fewer cases.
  pub with_claims-weaker : (stronger weaker : Known) (type : Declared) (guard weaker_guard : StaticLabel)
      → IsWeaker stronger weaker → Implies guard weaker_guard
      → IsWeaker (with_claims stronger (declared_claims type guard)) (with_claims weaker (declared_claims type weaker_guard))
  with_claims-weaker stronger weaker type guard weaker_guard h k =
      let field = laws.narrow_by type Public Public guard weaker_guard (Implies-itself Public) k in
      let both = laws.identify_with stronger (narrow_by type Public guard) weaker (narrow_by type Public weaker_guard) h field in
      record { hi = h.hi; lo = h.lo; uses = both.uses; pks = both.pks; vks = both.vks }

  -- Each field is known better, whose type says more.
  pub each_type-weaker : (knowing weaker_knowing : Declared → Known) → ((type : Declared) → IsWeaker (knowing type) (weaker_knowing type))
      → (types : List Declared) → AreWeaker (map knowing types) (map weaker_knowing types)
  each_type-weaker knowing weaker_knowing each [] = tt
  each_type-weaker knowing weaker_knowing each (type ∷ types) =
      (each type, each_type-weaker knowing weaker_knowing each types)

  -- Each field of a tuple that is split is known as the tuple is.
  pub each_shown-weaker : (stronger weaker : Known) → IsWeaker stronger weaker → (pats : List Pattern)
      → AreWeaker (map (λ pat. shown_by stronger []) pats) (map (λ pat. shown_by weaker []) pats)
  each_shown-weaker stronger weaker h [] = tt
  each_shown-weaker stronger weaker h (pat ∷ pats) = (shown_by-weaker stronger weaker h, each_shown-weaker stronger weaker h pats)
