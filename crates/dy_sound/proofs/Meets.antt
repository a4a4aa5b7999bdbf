-- What holds under the meet of some labels, where under each of them something stands or the label is open.
use Rattle.std.proofs.Common.{◌≡◌, ◌≢◌, Bool, true, List, [], ◌∷◌, Contains, ◌⊎◌, inl, inr, refl, sym, subst, ◌∙◌}
use Rattle.std.specs.List.{list_all}
use Rattle.std.proofs.lemmas.Bool.{and_from}
use Rattle.dy_term.specs.Terms.{Term}
use Rattle.dy_label.specs.Labels.{Place, is_open}
use Rattle.dy_label.specs.Words.{StaticLabel, Choice, meaning_of}
use Rattle.dy_label.specs.declared.usages.Usage.{Usage}
use Rattle.dy_types.specs.Claims.{MeetImplies}
use Rattle.dy_syntax.specs.Files.{Decl}
use Rattle.dy_entry.specs.Entries.{Entry}
use Rattle.dy_entry.specs.LookUps.{corruptions}
use Rattle.dy_entry.specs.ValueLabels.{label_of}
use Rattle.dy_sound.specs.Flows.{IsShown, IsOver}
use Rattle.dy_sound.specs.Fields.{IsMadeOf}
use Rattle.dy_sound.proofs.Lists.{Contains-none, Contains-first, Contains-later}
use Rattle.dy_sound.proofs.Elements.{list_all-from_each, each_of_list_all}
use Rattle.dy_sound.specs.LawsBelow.{LawsBelow}

abbrev pub opens : Choice → List Place → StaticLabel → Bool
opens choice C label = is_open C (meaning_of choice label)

not_empty : (labels : List StaticLabel) (label : StaticLabel) → Contains labels label → labels ≢ []
not_empty labels label h is = Contains-none label (subst (λ (others : List StaticLabel). Contains others label) is h)

-- The meet of labels implies each of them.
pub meet_implies_each : LawsBelow → (labels : List StaticLabel) (label : StaticLabel) → Contains labels label → MeetImplies labels label
meet_implies_each below labels label h =
    (below.meet_implies labels label).1
    (not_empty labels label h, λ choice C all. each_of_list_all (opens choice C) labels label all h)

module _ (below : LawsBelow) (decls : List Decl) (T : List Entry) (choice : Choice) where
  -- Under some label something stands, or all are open.
  pub one_or_all_shown : (P : StaticLabel → Type 0) (labels : List StaticLabel)
      → ((label : StaticLabel) → Contains labels label → P label ⊎ IsShown T (meaning_of choice label))
      → ((label : StaticLabel) × P label) ⊎ (list_all (opens choice (corruptions T)) labels ≡ true)
  one_or_all_shown P [] each = inr refl
  one_or_all_shown P (label ∷ labels) each = elim (each label (Contains-first label labels)) [
    | inl stands ↦ inl (label, stands)
    | inr shown ↦ elim (one_or_all_shown P labels (λ other h. each other (Contains-later label labels other h))) [
      | inl found ↦ inl found
      | inr rest ↦ inr (and_from _ _ shown.is_open_now rest)
    ]
  ]

  -- Where all labels are open, so is what their meet implies.
  pub shown_by_meet : (labels : List StaticLabel) (label : StaticLabel) → MeetImplies labels label
      → list_all (opens choice (corruptions T)) labels ≡ true → IsShown T (meaning_of choice label)
  shown_by_meet labels label implies all = record { is_open_now = ((below.meet_implies labels label).0 implies).1 choice (corruptions T) all }

  -- Claims on keys of one usage are one, with the meet of their labels.
  module _ (make : Term → Term) (one_key : (key other : Term) → make key ≡ make other → key ≡ other) (value : Term) (usage : Usage) where
    opened_too : (key : Term) → value ≡ make key → (C : List Place) → IsOver T C → is_open C (label_of T key) ≡ true
        → (label : StaticLabel) → (IsMadeOf make decls T value (meaning_of choice label) usage ⊎ IsShown T (meaning_of choice label))
        → opens choice C label ≡ true
    opened_too key is C over opened label (inl made) =
        made.opens.opens C over
        (subst (λ (k : Term). is_open C (label_of T k) ≡ true) (one_key key made.key (sym is ∙ made.value_is)) opened)
    opened_too key is C over opened label (inr shown) =
        below.no_label_closes (corruptions T) C (meaning_of choice label) over.has_all shown.is_open_now

    pub made_by_meet : (labels : List StaticLabel) (label : StaticLabel)
        → ((other : StaticLabel) → Contains labels other → IsMadeOf make decls T value (meaning_of choice other) usage ⊎ IsShown T (meaning_of choice other))
        → MeetImplies labels label
        → IsMadeOf make decls T value (meaning_of choice label) usage ⊎ IsShown T (meaning_of choice label)
    made_by_meet labels label each implies =
        elim (one_or_all_shown (λ other. IsMadeOf make decls T value (meaning_of choice other) usage) labels each) [
          | inl found ↦
              let made = found.1 in
              inl (record {
                key = made.key;
                value_is = made.value_is;
                has_usage = made.has_usage;
                opens = record {
                  opens = λ C over opened. ((below.meet_implies labels label).0 implies).1 choice C
                      (list_all-from_each (opens choice C) labels
                      (λ other h. opened_too made.key made.value_is C over opened other (each other h)));
                };
              })
          | inr all ↦ inr (shown_by_meet labels label implies all)
        ]
