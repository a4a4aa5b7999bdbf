-- The first demand that is not met, of demands that follow one another.
use Rattle.std.proofs.Common.{◌≡◌, ◌↔◌, Bool, true, false, List, [], ◌∷◌, ◌++◌, Contains, Option, Some, None, refl, sym, ap, ◌∙◌, inl, inr, ◌⊎◌, append_assoc}
use Rattle.std.specs.Bool.{IsTrue}
use Rattle.std.proofs.lemmas.Bool.{true≢false}
use Rattle.std.proofs.lemmas.List.Elements.{Contains-append_cases}
use Rattle.dy_syntax.specs.Files.{Decl}
use Rattle.dy_typing.specs.Knowledge.{Knowledge}
use Rattle.dy_typing.specs.Demands.{Demand, condition_of, field_of}
use Rattle.dy_typing.specs.Conditions.{AreMet}
use Rattle.dy_typing.specs.Strongest.{IsUnmet}
use Rattle.dy_check.specs.declared.settings.Setting as setting
use Rattle.dy_check.specs.declared.knowledge.Knowledge as knowledge
use Rattle.dy_check.specs.declared.conditions.unmet.Unmet.{Unmet}
use Rattle.dy_check.specs.Meaning.{setting_of}
use Rattle.dy_check.specs.MirrorUnmet.{IsFirstUnmet, FindsUnmet, TellsIfMet}
use Rattle.dy_check.proofs.Members.{in_none, in_one}

-- What is said of a conjunction and of a disjunction, by what its parts say.
pub and_second : {P Q : Type 0} (b : Bool) → P → (IsTrue b ↔ Q) → IsTrue b ↔ (P × Q)
and_second b p h = (λ t. (p, h.0 t), λ both. h.1 both.1)

pub and_first : {P Q : Type 0} → (P → ⊥) → IsTrue false ↔ (P × Q)
and_first h = (λ t. absurd (true≢false (sym t)), λ both. absurd (h both.0))

pub or_first : {P Q : Type 0} → P → IsTrue true ↔ (P ⊎ Q)
or_first p = (λ t. inl p, λ either. refl)

pub or_second : {P Q : Type 0} (b : Bool) → (P → ⊥) → (IsTrue b ↔ Q) → IsTrue b ↔ (P ⊎ Q)
or_second b not h = (λ t. inr (h.0 t), λ either. elim either [ inl p ↦ absurd (not p) | inr q ↦ h.1 q ])

pub not_true : {P : Type 0} (b : Bool) → b ≡ false → (IsTrue b ↔ P) → P → ⊥
not_true b is h p = true≢false (sym (h.1 p) ∙ is)

-- no demand at all
pub no_demand : (setting : setting.Setting) (known : knowledge.Knowledge) → FindsUnmet setting known [] None
no_demand setting known = record { first = λ k h. λ demand none. absurd (in_none demand none) }

pub one_met : (setting : setting.Setting) (known : knowledge.Knowledge) (demand : Demand) (met : Bool) → met ≡ true → TellsIfMet setting known demand met
    → FindsUnmet setting known (demand ∷ []) None
one_met setting known demand met is tells = record {
  first = λ k h. λ other among. rw (← in_one demand other among) ((tells.exactly k h).0 is);
}

pub one_unmet : (setting : setting.Setting) (known : knowledge.Knowledge) (demand : Demand) (met : Bool) (unmet : Unmet) → met ≡ false
    → TellsIfMet setting known demand met → unmet.condition ≡ condition_of demand → unmet.field ≡ field_of demand
    → FindsUnmet setting known (demand ∷ []) (Some unmet)
one_unmet setting known demand met unmet is tells condition field = record {
  first = λ k h. record {
    met = [];
    demand = demand;
    others = [];
    demands_are = refl;
    are_met = λ other none. absurd (in_none other none);
    is_unmet = not_true met is (tells.exactly k h);
    is_condition = condition;
    is_field = field;
  };
}

AreMet-append : (decls : List Decl) (k : Knowledge) (demands more : List Demand) → AreMet decls k demands → AreMet decls k more → AreMet decls k (demands ++ more)
AreMet-append decls k demands more h m = λ demand among. elim (Contains-append_cases demands more demand among) [ inl first ↦ h demand first | inr second ↦ m demand second ]

unmet_here : (decls : List Decl) (k : Knowledge) (demands more : List Demand) (unmet : Unmet)
    → IsFirstUnmet decls k demands (Some unmet) → IsFirstUnmet decls k (demands ++ more) (Some unmet)
unmet_here decls k demands more unmet h = record {
  met = h.met;
  demand = h.demand;
  others = h.others ++ more;
  demands_are = ap (λ (ds : List Demand). ds ++ more) h.demands_are ∙ append_assoc h.met (h.demand ∷ h.others) more;
  are_met = h.are_met;
  is_unmet = h.is_unmet;
  is_condition = h.is_condition;
  is_field = h.is_field;
}

unmet_later : (decls : List Decl) (k : Knowledge) (demands more : List Demand) (found : Option Unmet)
    → AreMet decls k demands → IsFirstUnmet decls k more found → IsFirstUnmet decls k (demands ++ more) found
unmet_later decls k demands more None met h = AreMet-append decls k demands more met h
unmet_later decls k demands more (Some unmet) met h = record {
  met = demands ++ h.met;
  demand = h.demand;
  others = h.others;
  demands_are = ap (λ (ds : List Demand). demands ++ ds) h.demands_are ∙ sym (append_assoc demands h.met (h.demand ∷ h.others));
  are_met = AreMet-append decls k demands h.met met h.are_met;
  is_unmet = h.is_unmet;
  is_condition = h.is_condition;
  is_field = h.is_field;
}

-- One of the first demands is not met.
pub found_here : {setting : setting.Setting} {known : knowledge.Knowledge} {demands : List Demand} (more : List Demand) {unmet : Unmet}
    → FindsUnmet setting known demands (Some unmet) → FindsUnmet setting known (demands ++ more) (Some unmet)
found_here {setting} {known} {demands} more {unmet} f = record {
  first = λ k h. unmet_here (setting_of setting).decls k demands more unmet (f.first k h);
}

-- The first demands are met, and so the first of the others that is not met is the first of all.
pub found_later : {setting : setting.Setting} {known : knowledge.Knowledge} {demands more : List Demand} {found : Option Unmet}
    → FindsUnmet setting known demands None → FindsUnmet setting known more found → FindsUnmet setting known (demands ++ more) found
found_later {setting} {known} {demands} {more} {found} f g = record {
  first = λ k h. unmet_later (setting_of setting).decls k demands more found (f.first k h) (g.first k h);
}

-- What is first of the demands that are left is first of all.
pub record StillToFind (setting : setting.Setting) (known : knowledge.Knowledge) (whole left : List Demand) : Type 0 where
  pub first : (found : Option Unmet) → FindsUnmet setting known left found → FindsUnmet setting known whole found

-- The next of those that are left are met.
pub still_later : {setting : setting.Setting} {known : knowledge.Knowledge} {whole left : List Demand} (next later : List Demand)
    → left ≡ next ++ later → StillToFind setting known whole left → FindsUnmet setting known next None → StillToFind setting known whole later
still_later next later is still met = record { first = λ found h. still.first found (rw is (found_later met h)) }

-- One of the next is not.
pub still_here : {setting : setting.Setting} {known : knowledge.Knowledge} {whole left : List Demand} (next later : List Demand) {unmet : Unmet}
    → left ≡ next ++ later → StillToFind setting known whole left → FindsUnmet setting known next (Some unmet) → FindsUnmet setting known whole (Some unmet)
still_here next later {unmet} is still h = still.first (Some unmet) (rw is (found_here later h))

-- None is left.
pub still_none : {setting : setting.Setting} {known : knowledge.Knowledge} {whole left : List Demand}
    → left ≡ [] → StillToFind setting known whole left → FindsUnmet setting known whole None
still_none {setting} {known} is still = still.first None (rw is (no_demand setting known))
