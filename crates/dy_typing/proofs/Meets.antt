-- What the meet of some labels implies.
use Rattle.std.proofs.Common.{◌≢◌, Bool, List, [], ◌∷◌, Contains, subst}
use Rattle.dy_label.specs.Labels.{Place, is_open}
use Rattle.dy_label.specs.Words.{StaticLabel, Choice, meaning_of, Implies}
use Rattle.dy_types.specs.Claims.{MeetImplies}
use Rattle.dy_typing.proofs.Elements.{Contains-none, Contains-first, list_all-from_each, each_of_list_all}
use Rattle.dy_typing.proofs.ValueLaws.{Laws}

abbrev pub opens : Choice → List Place → StaticLabel → Bool
opens choice corruptions label = is_open corruptions (meaning_of choice label)

pub Implies-itself : (label : StaticLabel) → Implies label label
Implies-itself label = λ choice corruptions opened. opened

pub Implies-onward : (first second third : StaticLabel) → Implies first second → Implies second third → Implies first third
Implies-onward first second third h k = λ choice corruptions opened. k choice corruptions (h choice corruptions opened)

pub MeetImplies-onward : (labels : List StaticLabel) (label weaker : StaticLabel) → MeetImplies labels label
    → Implies label weaker → MeetImplies labels weaker
MeetImplies-onward [] label weaker h k = absurd h
MeetImplies-onward (first ∷ labels) label weaker h k = λ choice corruptions opened. k choice corruptions (h choice corruptions opened)

not_empty : (labels : List StaticLabel) (label : StaticLabel) → Contains labels label → labels ≢ []
not_empty labels label h is = Contains-none label (subst (λ (others : List StaticLabel). Contains others label) is h)

module _ (laws : Laws) where
  -- The meet of labels implies each of them.
  pub MeetImplies-each : (labels : List StaticLabel) (label : StaticLabel) → Contains labels label → MeetImplies labels label
  MeetImplies-each labels label h =
      (laws.meet_implies labels label).1
      (not_empty labels label h, λ choice corruptions all. each_of_list_all (opens choice corruptions) labels label all h)

  -- A meet that implies each of some labels implies whatever their meet does.
  pub MeetImplies-from_each : (labels weaker : List StaticLabel)
      → ((guard : StaticLabel) → Contains weaker guard → MeetImplies labels guard)
      → (label : StaticLabel) → MeetImplies weaker label → MeetImplies labels label
  MeetImplies-from_each labels [] each label h = absurd h
  MeetImplies-from_each labels (guard ∷ guards) each label h =
      (laws.meet_implies labels label).1 (
        ((laws.meet_implies labels guard).0 (each guard (Contains-first guard guards))).0,
        λ choice corruptions all.
            ((laws.meet_implies (guard ∷ guards) label).0 h).1 choice corruptions
            (list_all-from_each (opens choice corruptions) (guard ∷ guards)
            (λ other has. ((laws.meet_implies labels other).0 (each other has)).1 choice corruptions all)),
      )
