-- Where a file is refused.
use Rattle.std.proofs.Common.{◌≡◌, ℕ, List, [], ◌∷◌, ◌++◌, Contains, inl, inr, refl, sym, ap, subst, ◌∙◌, append_assoc, rules, arith}
use Rattle.std.proofs.lemmas.List.{append-nil}
use Rattle.std.proofs.lemmas.List.Elements.{Contains-append_left, Contains-append_right}
use Rattle.dy_syntax.specs.Statements.{Statement, Handler}
use Rattle.dy_syntax.specs.Files.{Decl}
use Rattle.dy_cases.specs.DeclaredParts.{handlers_in}
use Rattle.dy_typing.specs.Names.{Setting, setting_of}
use Rattle.dy_typing.specs.Knowledge.{Knowledge}
use Rattle.dy_typing.specs.Demands.{Demand, demands_of, condition_of, field_of}
use Rattle.dy_typing.specs.Effects.{start_of}
use Rattle.dy_typing.specs.Typing.{Derives, begins, weakens, goes_on, Reaches, HasDerivation, AreTyped, CanMeet, IsRefusedIn, IsRefusedAt}
use Rattle.dy_typing.proofs.Splits.{two_places, last_or_before}

module _ (setting : Setting) (start : Knowledge) where
  -- What goes on after some statements has passed them.
  shorter : (done before more : List Statement) (k : Knowledge) → Derives setting start done k → done ≡ before ++ more
      → (known : Knowledge) × Derives setting start before known
  shorter done before [] k derived same = (k, subst (λ (d : List Statement). Derives setting start d k) (same ∙ append-nil before) derived)
  shorter done [] (next ∷ more) k derived same = (start, begins)
  shorter [] (first ∷ before) (next ∷ more) k begins same = absurd cc
  shorter done (first ∷ before) (next ∷ more) k (weakens {k = stronger} weaker derived weak) same = shorter done (first ∷ before) (next ∷ more) stronger derived same
  shorter done (first ∷ before) (next ∷ more) k (goes_on {done = prefix} {k = known} statement derived met) same =
      elim (last_or_before prefix statement (first ∷ before) next more same) [
        | inl last ↦ (known, subst (λ (d : List Statement). Derives setting start d known) last derived)
        | inr earlier ↦ shorter prefix (first ∷ before) (next ∷ earlier.0) known derived earlier.1
      ]

-- A handler that is refused has no derivation.
pub refused_has_none : (decls : List Decl) (handler : Handler) (line condition field : ℕ) → IsRefusedIn decls handler line condition field
    → HasDerivation decls handler → ⊥
refused_has_none decls handler line condition field refused derived =
    let prefix = refused.done ++ refused.statement ∷ [] in
    let reached = shorter (setting_of decls handler) (start_of decls handler) handler.body prefix refused.later derived.0 derived.1
    (refused.body ∙ sym (append_assoc refused.done (refused.statement ∷ []) refused.later)) in
    refused.fails reached.0 reached.1

module _ (decls : List Decl) (handler : Handler) where
  -- A demand stands after those that can be met up to it.
  fewer : (done : List Statement) (met : List Demand) (demand : Demand) (more : List Demand)
      → CanMeet decls handler done (met ++ demand ∷ more) → CanMeet decls handler done (met ++ demand ∷ [])
  fewer done met demand more can = (
    can.0,
    can.1,
    λ one has. can.2 one (subst (λ (all : List Demand). Contains all one) (append_assoc met (demand ∷ []) more)
        (Contains-append_left (met ++ demand ∷ []) more one has)),
  )

  -- What can be met up to a demand of a statement, and cannot with it.
  record FirstUnmet (done : List Statement) (demands : List Demand) (condition field : ℕ) : Type 0 where
    met : List Demand
    demand : Demand
    others : List Demand
    demands_are : demands ≡ met ++ demand ∷ others
    can : CanMeet decls handler done met
    cannot : CanMeet decls handler done (met ++ demand ∷ []) → ⊥
    at_condition : condition ≡ condition_of demand
    at_field : field ≡ field_of demand

  one_demand : (done : List Statement) (demands : List Demand) (condition field other_condition other_field : ℕ)
      → FirstUnmet done demands condition field → FirstUnmet done demands other_condition other_field
      → (condition ≡ other_condition) × (field ≡ other_field)
  one_demand done demands condition field other_condition other_field one other =
      elim (two_places one.met one.demand one.others other.met other.demand other.others (sym one.demands_are ∙ other.demands_are)) [
        | inl same ↦ (
          one.at_condition ∙ ap condition_of same.1 ∙ sym other.at_condition,
          one.at_field ∙ ap field_of same.1 ∙ sym other.at_field,
        )
        | inr (inl first) ↦ absurd (one.cannot (fewer done one.met one.demand first.0 (subst (λ (all : List Demand). CanMeet decls handler done all) first.1 other.can)))
        | inr (inr second) ↦ absurd (other.cannot (fewer done other.met other.demand second.0 (subst (λ (all : List Demand). CanMeet decls handler done all) second.1 one.can)))
      ]

  first_unmet : (line condition field : ℕ) (refused : IsRefusedIn decls handler line condition field)
      → FirstUnmet refused.done (demands_of (setting_of decls handler) refused.statement.act) condition field
  first_unmet line condition field refused = record {
    met = refused.met;
    demand = refused.demand;
    others = refused.others;
    demands_are = refused.demands;
    can = refused.can;
    cannot = refused.cannot;
    at_condition = refused.at_condition;
    at_field = refused.at_field;
  }

  -- A place before one that was reached has been passed.
  passed : (done : List Statement) (statement : Statement) (middle longer : List Statement) → longer ≡ done ++ statement ∷ middle
      → (k : Knowledge) × Reaches decls handler longer k
      → ((k : Knowledge) → Reaches decls handler (done ++ statement ∷ []) k → ⊥) → ⊥
  passed done statement middle longer split reached fails =
      let before = shorter (setting_of decls handler) (start_of decls handler) longer (done ++ statement ∷ []) middle reached.0 reached.1
      (split ∙ sym (append_assoc done (statement ∷ []) middle)) in
      fails before.0 before.1

  -- A handler is refused at one place.
  one_place_in : (line condition field other_line other_condition other_field : ℕ)
      → IsRefusedIn decls handler line condition field → IsRefusedIn decls handler other_line other_condition other_field
      → (line ≡ other_line) × (condition ≡ other_condition) × (field ≡ other_field)
  one_place_in line condition field other_line other_condition other_field one other =
      elim (two_places one.done one.statement one.later other.done other.statement other.later (sym one.body ∙ other.body)) [
        | inl same ↦
            let setting = setting_of decls handler in
            let moved = subst (λ (s : Statement). FirstUnmet other.done (demands_of setting s.act) condition field) same.1
            (subst (λ (d : List Statement). FirstUnmet d (demands_of setting one.statement.act) condition field) same.0 (first_unmet line condition field one)) in
            let demand = one_demand other.done (demands_of setting other.statement.act) condition field other_condition other_field moved (first_unmet other_line other_condition other_field other) in
            (one.at_line ∙ ap (λ (s : Statement). s.line) same.1 ∙ sym other.at_line, demand.0, demand.1)
        | inr (inl first) ↦ absurd (passed one.done one.statement first.0 other.done first.1 other.before one.fails)
        | inr (inr second) ↦ absurd (passed other.done other.statement second.0 one.done second.1 one.before other.fails)
      ]

-- A handler stands among the earlier ones.
among : (earlier : List Handler) (handler : Handler) (middle longer : List Handler) → longer ≡ earlier ++ handler ∷ middle → Contains longer handler
among earlier handler middle longer split =
    subst (λ (all : List Handler). Contains all handler) (sym split)
    (Contains-append_right earlier (handler ∷ middle) handler (Contains-append_left (handler ∷ []) middle handler (0, (search (rules, arith)), refl)))

-- A file is refused at one place.
pub one_place : (decls : List Decl) (line condition field other_line other_condition other_field : ℕ)
    → IsRefusedAt decls line condition field → IsRefusedAt decls other_line other_condition other_field
    → (line ≡ other_line) × (condition ≡ other_condition) × (field ≡ other_field)
one_place decls line condition field other_line other_condition other_field one other =
    elim (two_places one.earlier one.handler one.later other.earlier other.handler other.later (sym one.handlers ∙ other.handlers)) [
      | inl same ↦ one_place_in decls other.handler line condition field other_line other_condition other_field
          (subst (λ (h : Handler). IsRefusedIn decls h line condition field) same.1 one.refused) other.refused
      | inr (inl first) ↦ absurd (refused_has_none decls one.handler line condition field one.refused
          (other.typed one.handler (among one.earlier one.handler first.0 other.earlier first.1)))
      | inr (inr second) ↦ absurd (refused_has_none decls other.handler other_line other_condition other_field other.refused
          (one.typed other.handler (among other.earlier other.handler second.0 one.earlier second.1)))
    ]

-- A file that is refused is not typed.
pub untyped : (decls : List Decl) (line condition field : ℕ) → IsRefusedAt decls line condition field → AreTyped decls (handlers_in decls) → ⊥
untyped decls line condition field refused typed =
    refused_has_none decls refused.handler line condition field refused.refused
    (typed refused.handler (among refused.earlier refused.handler refused.later (handlers_in decls) refused.handlers))
