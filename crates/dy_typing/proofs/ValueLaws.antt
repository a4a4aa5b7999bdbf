-- The laws of what is known of one value, which hold for any handler.
use Rattle.std.proofs.Common.{◌≡◌, ◌≢◌, ◌↔◌, true, List, []}
use Rattle.std.specs.List.{list_all}
use Rattle.dy_label.specs.Labels.{Place, is_open}
use Rattle.dy_label.specs.Words.{StaticLabel, Choice, meaning_of, Implies}
use Rattle.dy_types.specs.Claims.{Known, MeetImplies, IsWeaker, identify_with}
use Rattle.dy_types.specs.FieldTypes.{Declared, Fits, narrow_by}

pub record Laws : Type 0 where
  pub meet_implies : (labels : List StaticLabel) (weaker : StaticLabel) → MeetImplies labels weaker ↔
      ((labels ≢ []) × ((choice : Choice) (corruptions : List Place) →
      list_all (λ label. is_open corruptions (meaning_of choice label)) labels ≡ true →
      is_open corruptions (meaning_of choice weaker) ≡ true))
  pub itself : (known : Known) → IsWeaker known known
  pub onward : (first second third : Known) → IsWeaker first second → IsWeaker second third → IsWeaker first third
  pub fits : (stronger weaker : Known) (type : Declared) → IsWeaker stronger weaker → Fits weaker type → Fits stronger type
  pub narrow_by : (type : Declared) (hi weaker_hi guard weaker_guard : StaticLabel) →
      Implies weaker_hi hi → Implies guard weaker_guard →
      IsWeaker (narrow_by type hi guard) (narrow_by type weaker_hi weaker_guard)
  pub identify_with : (first second weaker_first weaker_second : Known) →
      IsWeaker first weaker_first → IsWeaker second weaker_second →
      IsWeaker (identify_with first second) (identify_with weaker_first weaker_second)
