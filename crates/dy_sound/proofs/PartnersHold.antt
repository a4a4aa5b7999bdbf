-- The partners of a declaration have happened, or their labels are open, where that is demanded and met.
use Rattle.std.proofs.Common.{ℕ, suc, List, [], ◌∷◌, map, Contains, Option, inl, inr, subst}
use Rattle.dy_label.specs.Labels.{Label}
use Rattle.dy_label.specs.Words.{Atom, Choice}
use Rattle.dy_syntax.specs.Declarations.{Partner}
use Rattle.dy_syntax.specs.Scopes.{Scope}
use Rattle.dy_typing.specs.Names.{Setting, Stands, stands_number, atom_names}
use Rattle.dy_typing.specs.Instances.{label_in}
use Rattle.dy_typing.specs.Knowledge.{Knowledge}
use Rattle.dy_typing.specs.Demands.{PartnerStands, Owed, numbered_from, requirement_of, partners_owed}
use Rattle.dy_typing.specs.Conditions.{IsMet, AreMet}
use Rattle.dy_entry.specs.Entries.{Entry}
use Rattle.dy_eval.specs.Names.{Names, bytes_for}
use Rattle.dy_sound.specs.LawsBelow.{LawsBelow}
use Rattle.dy_sound.specs.Flows.{IsShown}
use Rattle.dy_sound.specs.Words.{Words}
use Rattle.dy_sound.specs.Events.{HasPartner}
use Rattle.dy_sound.specs.Knowledge.{Holds}
use Rattle.dy_sound.specs.InScope.{LabelIsInScope, AtomIsInScope}
use Rattle.dy_sound.specs.Matches.{Matches}
use Rattle.dy_sound.proofs.Lists.{Contains-none, Contains-first, Contains-later, Contains-cases}
use Rattle.dy_sound.proofs.WordsMeant.{label_means, args_mean}
use Rattle.dy_sound.proofs.KnownNames.{happened_or_shown}

-- what is made of an element under a number
pub in_numbered : {A B C : Type 0} (wrap : B → C) (make : ℕ → A → B) (number : ℕ) (xs : List A) (x : A) → Contains xs x
    → (own : ℕ) × Contains (map wrap (numbered_from number make xs)) (wrap (make own x))
in_numbered wrap make number [] x h = absurd (Contains-none x h)
in_numbered {A = A} {C = C} wrap make number (y ∷ xs) x h = elim (Contains-cases y xs x h) [
  | inl is ↦ (
    number,
    subst (λ (one : A). Contains (wrap (make number y) ∷ map wrap (numbered_from (suc number) make xs)) (wrap (make number one))) is
        (Contains-first (wrap (make number y)) (map wrap (numbered_from (suc number) make xs))),
  )
  | inr later ↦
      let rest = in_numbered wrap make (suc number) xs x later in
      (rest.0, Contains-later (wrap (make number y)) (map wrap (numbered_from (suc number) make xs)) (wrap (make rest.0 x)) rest.1)
]

module _ (below : LawsBelow) (setting : Setting) (T : List Entry) (choice : Choice) (names : Names) (k : Knowledge) (h : Holds setting.decls T choice names k)
    (scope : Scope) (stands : Stands) (here : Option Atom) (words : Words) (matches : Matches setting choice names scope stands here words) where
  abbrev owed_for : ℕ → Partner → Owed
  owed_for number partner = record {
    event = requirement_of stands number partner.atom;
    unless = label_in (stands_number setting stands) here partner.unless;
  }

  partner_holds : (partner : Partner) → AtomIsInScope scope partner.atom → LabelIsInScope scope partner.unless → (number : ℕ)
      → IsMet setting.decls k (PartnerStands (owed_for number partner)) → HasPartner T words partner
  partner_holds partner atom_read label_read number met =
      elim (happened_or_shown setting.decls T choice names k h below partner.atom.event.word (label_in (stands_number setting stands) here partner.unless) (atom_names stands partner.atom) met) [
        | inl happened ↦
            inl (record {
              args = map (bytes_for names) happened.0;
              args_are = args_mean setting choice names scope stands here words matches partner.atom happened.0 atom_read happened.1;
              has_happened = happened.2;
            })
        | inr shown ↦ inr (subst (λ (l : Label). IsShown T l) (label_means setting choice names scope stands here words matches partner.unless label_read) shown)
      ]

  pub partners_hold : (partners : List Partner) → AreMet setting.decls k (map PartnerStands (partners_owed setting stands here partners)) → (partner : Partner) → Contains partners partner
      → AtomIsInScope scope partner.atom → LabelIsInScope scope partner.unless → HasPartner T words partner
  partners_hold partners met partner has atom_read label_read =
      let at = in_numbered PartnerStands owed_for 1 partners partner has in
      partner_holds partner atom_read label_read at.0 (met (PartnerStands (owed_for at.0 partner)) at.1)
