-- What is known of each value, when one more is known and when one is known better.
use Rattle.std.proofs.Common.{◌≡◌, ◌≢◌, ℕ, ◌<◌, ◌≤◌, length, List, [], ◌∷◌, ◌++◌, sym, subst, ◌∙◌, inl, inr, arith}
use Rattle.std.specs.Prelude.{slice_get, slice_set, unwrap_or}
use Rattle.std.proofs.lemmas.Bool.{cases_lt, cases_eq}
use Rattle.std.proofs.lemmas.List.{length-append, length-set, get_or_past, get_or_append_left, get_or_push, get_or-set_same, get_or-set_other}
use Rattle.std.proofs.lemmas.Option.{unwrap_or-slice_get}
use Rattle.dy_types.specs.Claims.{Known, unknown, IsWeaker}
use Rattle.dy_typing.proofs.ValueLaws.{Laws}

-- what is known of the value of this number
abbrev pub value_at : List Known → ℕ → Known
value_at values number = unwrap_or (slice_get values number) unknown

value_at-past : (values : List Known) (number : ℕ) → length values ≤ number → value_at values number ≡ unknown
value_at-past values number past = unwrap_or-slice_get values number unknown ∙ get_or_past values number unknown past

value_at-before : (values : List Known) (known : Known) (number : ℕ) → number < length values
    → value_at (values ++ known ∷ []) number ≡ value_at values number
value_at-before values known number before =
    unwrap_or-slice_get (values ++ known ∷ []) number unknown
    ∙ get_or_append_left values (known ∷ []) unknown number before
    ∙ sym (unwrap_or-slice_get values number unknown)

value_at-push : (values : List Known) (known : Known) (number : ℕ) → length values ≡ number
    → value_at (values ++ known ∷ []) number ≡ known
value_at-push values known number last =
    unwrap_or-slice_get (values ++ known ∷ []) number unknown ∙ get_or_push values known unknown number last

value_at-set_same : (values : List Known) (known : Known) (number : ℕ) → number < length values
    → value_at (slice_set values number known) number ≡ known
value_at-set_same values known number within =
    unwrap_or-slice_get (slice_set values number known) number unknown ∙ get_or-set_same values number known unknown within

value_at-set_other : (values : List Known) (known : Known) (at number : ℕ) → number ≢ at
    → value_at (slice_set values at known) number ≡ value_at values number
value_at-set_other values known at number other =
    unwrap_or-slice_get (slice_set values at known) number unknown
    ∙ get_or-set_other values at number known unknown other
    ∙ sym (unwrap_or-slice_get values number unknown)

-- Of each number, the first values say as much as the second or more.
abbrev pub EachIsWeaker : List Known → List Known → Type 0
EachIsWeaker stronger weaker = (number : ℕ) → IsWeaker (value_at stronger number) (value_at weaker number)

IsWeaker-by : (stronger weaker other other_weaker : Known) → other ≡ stronger → other_weaker ≡ weaker
    → IsWeaker stronger weaker → IsWeaker other other_weaker
IsWeaker-by stronger weaker other other_weaker same weaker_same h =
    subst (λ (known : Known). IsWeaker known other_weaker) (sym same)
    (subst (λ (known : Known). IsWeaker stronger known) (sym weaker_same) h)

both_past : Laws → (stronger weaker : List Known) (number : ℕ) → length stronger ≤ number → length weaker ≤ number
    → IsWeaker (value_at stronger number) (value_at weaker number)
both_past laws stronger weaker number past weaker_past =
    IsWeaker-by unknown unknown (value_at stronger number) (value_at weaker number)
    (value_at-past stronger number past) (value_at-past weaker number weaker_past) (laws.itself unknown)

module _ (laws : Laws) (stronger weaker : List Known) (count : length weaker ≡ length stronger) (each : EachIsWeaker stronger weaker)
    (known weaker_known : Known) (h : IsWeaker known weaker_known) where
  -- One more value is known.
  pub EachIsWeaker-push : EachIsWeaker (stronger ++ known ∷ []) (weaker ++ weaker_known ∷ [])
  EachIsWeaker-push number =
      let more = length-append stronger (known ∷ []) in
      let weaker_more = length-append weaker (weaker_known ∷ []) in
      let one = value_at (stronger ++ known ∷ []) number in
      let weaker_one = value_at (weaker ++ weaker_known ∷ []) number in
      elim (cases_lt number (length stronger)) [
        | inl before ↦
            IsWeaker-by (value_at stronger number) (value_at weaker number) one weaker_one
            (value_at-before stronger known number before) (value_at-before weaker weaker_known number (omega arith)) (each number)
        | inr past ↦ elim (cases_lt (length stronger) number) [
          | inl later ↦ both_past laws (stronger ++ known ∷ []) (weaker ++ weaker_known ∷ []) number (omega arith) (omega arith)
          | inr last ↦
              IsWeaker-by known weaker_known one weaker_one
              (value_at-push stronger known number (omega arith)) (value_at-push weaker weaker_known number (omega arith)) h
        ]
      ]

  set_here : (at : ℕ) → IsWeaker (value_at (slice_set stronger at known) at) (value_at (slice_set weaker at weaker_known) at)
  set_here at =
      let same = length-set stronger at known in
      let weaker_same = length-set weaker at weaker_known in
      elim (cases_lt at (length stronger)) [
        | inl within ↦
            IsWeaker-by known weaker_known (value_at (slice_set stronger at known) at) (value_at (slice_set weaker at weaker_known) at)
            (value_at-set_same stronger known at within) (value_at-set_same weaker weaker_known at (omega arith)) h
        | inr past ↦ both_past laws (slice_set stronger at known) (slice_set weaker at weaker_known) at (omega arith) (omega arith)
      ]

  -- One of the values is known otherwise.
  pub EachIsWeaker-set : (at : ℕ) → EachIsWeaker (slice_set stronger at known) (slice_set weaker at weaker_known)
  EachIsWeaker-set at number = elim (cases_eq number at) [
    | inl here ↦
        subst (λ (n : ℕ). IsWeaker (value_at (slice_set stronger at known) n) (value_at (slice_set weaker at weaker_known) n))
        (sym here) (set_here at)
    | inr other ↦
        IsWeaker-by (value_at stronger number) (value_at weaker number)
        (value_at (slice_set stronger at known) number) (value_at (slice_set weaker at weaker_known) number)
        (value_at-set_other stronger known at number other) (value_at-set_other weaker weaker_known at number other) (each number)
  ]
