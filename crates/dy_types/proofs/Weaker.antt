-- Stronger knowledge gives more.
use Rattle.std.proofs.Common.{◌≡◌, ◌≢◌, ◌↔◌, Bool, true, false, ◌&&◌, List, [], ◌∷◌, ◌++◌, Contains, refl, sym, ap, ◌∙◌, inl, inr}
use Rattle.std.specs.List.{list_all, filter_map}
use Rattle.std.proofs.lemmas.Bool.{true≢false, and_parts, and_from, and_cases, and_left, and_right, or_cases, or_left, or_right}
use Rattle.std.proofs.lemmas.List.Folds.{list_all-append}
use Rattle.std.proofs.lemmas.List.Elements.{filter_map-append}
use Rattle.dy_label.specs.Labels.{Place, Join, Meet, is_open}
use Rattle.dy_label.specs.Words.{StaticLabel, Choice, meaning_of, Implies}
use Rattle.dy_types.specs.Claims.{StaticUse, ClaimOf, Claim, Known, pk_label, vk_label, pk_labels, vk_labels, meet_of, MeetImplies, HasUse, HasPk, HasVk, identify_with, IsWeaker}
use Rattle.dy_types.specs.FieldTypes.{Declared, Name, Any, Upto, Secret, Key, Pk, Vk, Fits}
use Rattle.dy_types.specs.Tables.{is_empty}
use Rattle.dy_types.proofs.MeetLaws.{and-true, is_empty-append}
use Rattle.dy_types.proofs.ClaimLaws.{use_in_either, use_in_first, use_in_second}

abbrev opens : Choice → List Place → StaticLabel → Bool
opens choice corruptions label = is_open corruptions (meaning_of choice label)

open-meet_of : (choice : Choice) (corruptions : List Place) (label : StaticLabel) (labels : List StaticLabel)
    → opens choice corruptions (meet_of label labels) ≡ list_all (opens choice corruptions) (label ∷ labels)
open-meet_of choice corruptions label [] = sym (and-true (opens choice corruptions label))
open-meet_of choice corruptions label (other ∷ labels) = ap (λ b. opens choice corruptions label && b) (open-meet_of choice corruptions other labels)

-- There are labels, and where all of them are open so is the weaker one.
record OpenTogether (labels : List StaticLabel) (weaker : StaticLabel) : Type 0 where
  some : is_empty labels ≡ false
  open_there : (choice : Choice) (corruptions : List Place) → list_all (opens choice corruptions) labels ≡ true → opens choice corruptions weaker ≡ true

together : (labels : List StaticLabel) (weaker : StaticLabel) → MeetImplies labels weaker → OpenTogether labels weaker
together [] weaker h = absurd h
together (label ∷ labels) weaker h = record {
  some = refl;
  open_there = λ choice corruptions k. h choice corruptions (open-meet_of choice corruptions label labels ∙ k);
}

from_together : (labels : List StaticLabel) (weaker : StaticLabel) → OpenTogether labels weaker → MeetImplies labels weaker
from_together [] weaker h = absurd (true≢false h.some)
from_together (label ∷ labels) weaker h = λ choice corruptions k. h.open_there choice corruptions (sym (open-meet_of choice corruptions label labels) ∙ k)

not_none : {A : Type 0} (xs : List A) → is_empty xs ≡ false → xs ≢ []
not_none xs h is = true≢false (sym (ap (λ ys. is_empty ys) is) ∙ h)

some_of : {A : Type 0} (xs : List A) → xs ≢ [] → is_empty xs ≡ false
some_of [] h = absurd (h refl)
some_of (x ∷ xs) h = refl

pub meet_implies : (labels : List StaticLabel) (weaker : StaticLabel) → MeetImplies labels weaker ↔
    ((labels ≢ []) × ((choice : Choice) (corruptions : List Place) → list_all (opens choice corruptions) labels ≡ true → opens choice corruptions weaker ≡ true))
meet_implies labels weaker = (
  λ h. let k = together labels weaker h in (not_none labels k.some, k.open_there),
  λ h. from_together labels weaker (record { some = some_of labels h.0; open_there = h.1 }),
)

-- The first labels imply whatever the second do.
abbrev Stronger : List StaticLabel → List StaticLabel → Type 0
Stronger labels weaker = (label : StaticLabel) → MeetImplies weaker label → MeetImplies labels label

some_stronger : (labels weaker : List StaticLabel) → Stronger labels weaker → is_empty weaker ≡ false → is_empty labels ≡ false
some_stronger labels [] h some = absurd (true≢false some)
some_stronger labels (label ∷ weaker) h some = (together labels (meet_of label weaker) (h (meet_of label weaker) (λ choice corruptions k. k))).some

open_stronger : (labels weaker : List StaticLabel) → Stronger labels weaker → (choice : Choice) (corruptions : List Place)
    → list_all (opens choice corruptions) labels ≡ true → list_all (opens choice corruptions) weaker ≡ true
open_stronger labels [] h choice corruptions k = refl
open_stronger labels (label ∷ weaker) h choice corruptions k =
    sym (open-meet_of choice corruptions label weaker)
    ∙ (together labels (meet_of label weaker) (h (meet_of label weaker) (λ choice corruptions k. k))).open_there choice corruptions k

stronger-append : (labels more weaker others : List StaticLabel) → Stronger labels weaker → Stronger more others → Stronger (labels ++ more) (weaker ++ others)
stronger-append labels more weaker others first second label h =
    let k = together (weaker ++ others) label h in
    from_together (labels ++ more) label (record {
      some = is_empty-append labels more ∙ elim (and_cases (is_empty weaker) (is_empty others) (sym (is_empty-append weaker others) ∙ k.some)) [
        | inl here ↦ and_left (is_empty labels) (is_empty more) (some_stronger labels weaker first here)
        | inr here ↦ and_right (is_empty labels) (is_empty more) (some_stronger more others second here)
      ];
      open_there = λ choice corruptions opened.
          let all = opens choice corruptions in
          let parts = and_parts (list_all all labels) (list_all all more) (sym (list_all-append all labels more) ∙ opened) in
          k.open_there choice corruptions
          (list_all-append all weaker others
          ∙ and_from (list_all all weaker) (list_all all others) (open_stronger labels weaker first choice corruptions parts.0) (open_stronger more others second choice corruptions parts.1));
    })

pub IsWeaker-trans : (first second third : Known) → IsWeaker first second → IsWeaker second third → IsWeaker first third
IsWeaker-trans first second third h k = record {
  hi = λ choice corruptions opened. h.hi choice corruptions (k.hi choice corruptions opened);
  lo = λ choice corruptions opened. k.lo choice corruptions (h.lo choice corruptions opened);
  uses = λ usage has. h.uses usage (k.uses usage has);
  pks = λ label usage has. h.pks label usage (k.pks label usage has);
  vks = λ label usage has. h.vks label usage (k.vks label usage has);
}

implied : (l m n : StaticLabel) → Implies l m → Implies m n → Implies l n
implied l m n h k = λ choice corruptions opened. k choice corruptions (h choice corruptions opened)

pub Fits-stronger : (stronger weaker : Known) (type : Declared) → IsWeaker stronger weaker → Fits weaker type → Fits stronger type
Fits-stronger stronger weaker Name h k = tt
Fits-stronger stronger weaker Any h k = tt
Fits-stronger stronger weaker (Upto label) h k = implied label weaker.hi stronger.hi k h.hi
Fits-stronger stronger weaker (Secret label) h k = (implied label weaker.hi stronger.hi k.0 h.hi, implied stronger.lo weaker.lo label h.lo k.1)
Fits-stronger stronger weaker (Key label usage) h k =
    (implied label weaker.hi stronger.hi k.0 h.hi, implied stronger.lo weaker.lo label h.lo k.1, h.uses usage k.2)
Fits-stronger stronger weaker (Pk label usage) h k = h.pks label usage k
Fits-stronger stronger weaker (Vk label usage) h k = h.vks label usage k

pub identify_with-weaker : (first second weaker_first weaker_second : Known) → IsWeaker first weaker_first → IsWeaker second weaker_second
    → IsWeaker (identify_with first second) (identify_with weaker_first weaker_second)
identify_with-weaker first second weaker_first weaker_second h k = record {
  hi = λ choice corruptions opened. elim (or_cases (opens choice corruptions weaker_first.hi) (opens choice corruptions weaker_second.hi) opened) [
    | inl here ↦ or_left (opens choice corruptions first.hi) (opens choice corruptions second.hi) (h.hi choice corruptions here)
    | inr here ↦ or_right (opens choice corruptions first.hi) (opens choice corruptions second.hi) (k.hi choice corruptions here)
  ];
  lo = λ choice corruptions opened.
      let parts = and_parts (opens choice corruptions first.lo) (opens choice corruptions second.lo) opened in
      and_from (opens choice corruptions weaker_first.lo) (opens choice corruptions weaker_second.lo)
      (h.lo choice corruptions parts.0) (k.lo choice corruptions parts.1);
  uses = λ usage has. elim (use_in_either weaker_first.claims weaker_second.claims usage has) [
    | inl here ↦ use_in_first first.claims second.claims usage (h.uses usage here)
    | inr here ↦ use_in_second first.claims second.claims usage (k.uses usage here)
  ];
  pks = λ label usage.
      rw (filter_map-append (pk_label usage) first.claims second.claims, filter_map-append (pk_label usage) weaker_first.claims weaker_second.claims)
      (stronger-append (pk_labels first.claims usage) (pk_labels second.claims usage) (pk_labels weaker_first.claims usage) (pk_labels weaker_second.claims usage)
      (λ l. h.pks l usage) (λ l. k.pks l usage) label);
  vks = λ label usage.
      rw (filter_map-append (vk_label usage) first.claims second.claims, filter_map-append (vk_label usage) weaker_first.claims weaker_second.claims)
      (stronger-append (vk_labels first.claims usage) (vk_labels second.claims usage) (vk_labels weaker_first.claims usage) (vk_labels weaker_second.claims usage)
      (λ l. h.vks l usage) (λ l. k.vks l usage) label);
}
