-- The derivation that never weakens knows most.
use Rattle.std.proofs.Common.{◌≡◌, ℕ, List, [], ◌∷◌, ◌++◌, ◌↔◌, Contains, refl, sym, subst, append_assoc, rules, arith}
use Rattle.std.proofs.lemmas.List.{append-nil}
use Rattle.std.proofs.lemmas.List.Sums.{fold-append}
use Rattle.std.proofs.lemmas.List.Elements.{Contains-append_left, Contains-append_right}
use Rattle.dy_syntax.specs.Statements.{Act, Statement, Handler}
use Rattle.dy_syntax.specs.Files.{Decl}
use Rattle.dy_typing.specs.Names.{Setting, setting_of}
use Rattle.dy_typing.specs.Knowledge.{Knowledge, IsWeakerKnowledge, IsWellNumbered}
use Rattle.dy_typing.specs.Demands.{Demand, demands_of}
use Rattle.dy_typing.specs.Conditions.{IsMet, AreMet}
use Rattle.dy_typing.specs.Effects.{after, start_of}
use Rattle.dy_typing.specs.Typing.{Derives, begins, weakens, goes_on, HasDerivation, IsRefusedIn}
use Rattle.dy_typing.specs.Strongest.{after_all, AllMet, IsUnmetAt}

-- Stronger knowledge goes further, by the rules of a setting.
pub record Rises (setting : Setting) : Type 0 where
  pub itself : (k : Knowledge) → IsWeakerKnowledge k k
  pub onward : (first second third : Knowledge) → IsWeakerKnowledge first second → IsWeakerKnowledge second third → IsWeakerKnowledge first third
  pub conditions : (stronger weaker : Knowledge) (demand : Demand) → IsWeakerKnowledge stronger weaker
      → IsMet setting.decls weaker demand → IsMet setting.decls stronger demand
  pub statements : (stronger weaker : Knowledge) (act : Act) → IsWellNumbered stronger → IsWeakerKnowledge stronger weaker
      → IsWeakerKnowledge (after setting stronger act) (after setting weaker act)
  pub numbered : (k : Knowledge) (act : Act) → IsWellNumbered k → IsWellNumbered (after setting k act)

module _ (setting : Setting) where
  after_all-append : (k : Knowledge) (done rest : List Statement) → after_all setting k (done ++ rest) ≡ after_all setting (after_all setting k done) rest
  after_all-append k done rest = fold-append (λ known statement. after setting known statement.act) k done rest

  AllMet-append : (k : Knowledge) (done rest : List Statement) → AllMet setting k done → AllMet setting (after_all setting k done) rest → AllMet setting k (done ++ rest)
  AllMet-append k [] rest first second = second
  AllMet-append k (statement ∷ done) rest first second = (first.0, AllMet-append (after setting k statement.act) done rest first.1 second)

  AllMet-rest : (k : Knowledge) (done rest : List Statement) → AllMet setting k (done ++ rest) → AllMet setting (after_all setting k done) rest
  AllMet-rest k [] rest met = met
  AllMet-rest k (statement ∷ done) rest met = AllMet-rest (after setting k statement.act) done rest met.1

  numbered_after : Rises setting → (k : Knowledge) (done : List Statement) → IsWellNumbered k → IsWellNumbered (after_all setting k done)
  numbered_after rises k [] numbered = numbered
  numbered_after rises k (statement ∷ done) numbered = numbered_after rises (after setting k statement.act) done (rises.numbered k statement.act numbered)

  met_more : Rises setting → (stronger weaker : Knowledge) (demands : List Demand) → IsWeakerKnowledge stronger weaker
      → AreMet setting.decls weaker demands → AreMet setting.decls stronger demands
  met_more rises stronger weaker demands weak met = λ demand has. rises.conditions stronger weaker demand weak (met demand has)

module _ (setting : Setting) (start : Knowledge) where
  -- What was known from the start goes on by statements whose demands are met.
  goes_on_by : (done rest : List Statement) (k : Knowledge) → Derives setting start done k → AllMet setting k rest → Derives setting start (done ++ rest) (after_all setting k rest)
  goes_on_by done [] k derived met = subst (λ (d : List Statement). Derives setting start d k) (sym (append-nil done)) derived
  goes_on_by done (statement ∷ rest) k derived met =
      subst (λ (d : List Statement). Derives setting start d (after_all setting (after setting k statement.act) rest)) (append_assoc done (statement ∷ []) rest)
      (goes_on_by (done ++ statement ∷ []) rest (after setting k statement.act) (goes_on statement derived met.0) met.1)

  -- A derivation is weaker than the strongest, which exists too.
  record IsBelow (done : List Statement) (k : Knowledge) : Type 0 where
    met : AllMet setting start done
    weak : IsWeakerKnowledge (after_all setting start done) k

  below : Rises setting → IsWellNumbered start → (done : List Statement) (k : Knowledge) → Derives setting start done k → IsBelow done k
  below rises numbered [] k begins = record { met = tt; weak = rises.itself start }
  below rises numbered done k (weakens {k = stronger} weaker derived weak) =
      let known = below rises numbered done stronger derived in
      record { met = known.met; weak = rises.onward (after_all setting start done) stronger weaker known.weak weak }
  below rises numbered done k (goes_on {done = prefix} {k = before} statement derived met) =
      let known = below rises numbered prefix before derived in
      let most = after_all setting start prefix in
      record {
        met = AllMet-append setting start prefix (statement ∷ []) known.met
            (met_more setting rises most before (demands_of setting statement.act) known.weak met, tt);
        weak = subst (λ (after_it : Knowledge). IsWeakerKnowledge after_it (after setting before statement.act))
            (sym (after_all-append setting start prefix (statement ∷ [])))
            (rises.statements most before statement.act (numbered_after setting rises start prefix numbered) known.weak);
      }

module _ (decls : List Decl) (handler : Handler) (rises : Rises (setting_of decls handler)) (numbered : IsWellNumbered (start_of decls handler)) where
  pub typed : HasDerivation decls handler ↔ AllMet (setting_of decls handler) (start_of decls handler) handler.body
  typed = (
    λ derived. (below (setting_of decls handler) (start_of decls handler) rises numbered handler.body derived.0 derived.1).met,
    λ met. (
      after_all (setting_of decls handler) (start_of decls handler) handler.body,
      goes_on_by (setting_of decls handler) (start_of decls handler) [] handler.body (start_of decls handler) begins met,
    ),
  )

  pub refused : (line condition field : ℕ)
      → IsUnmetAt (setting_of decls handler) (start_of decls handler) handler.body line condition field
      → IsRefusedIn decls handler line condition field
  refused line condition field at =
      let setting = setting_of decls handler in
      let start = start_of decls handler in
      let most = after_all setting start at.done in
      let reached = goes_on_by setting start [] at.done start begins at.are_met in
      let unmet = at.unmet in
      let has = Contains-append_right unmet.met (unmet.demand ∷ []) unmet.demand (0, (search (rules, arith)), refl) in
      record {
        done = at.done;
        statement = at.statement;
        later = at.later;
        body = at.body_is;
        before = (most, reached);
        fails = λ k derived.
            let known = below setting start rises numbered (at.done ++ at.statement ∷ []) k derived in
            let met = (AllMet-rest setting start at.done (at.statement ∷ []) known.met).0 in
            unmet.is_unmet (met unmet.demand (subst (λ (all : List Demand). Contains all unmet.demand) (sym unmet.demands_are)
            (Contains-append_right unmet.met (unmet.demand ∷ unmet.others) unmet.demand
            (Contains-append_left (unmet.demand ∷ []) unmet.others unmet.demand (0, (search (rules, arith)), refl)))));
        met = unmet.met;
        demand = unmet.demand;
        others = unmet.others;
        demands = unmet.demands_are;
        can = (most, reached, unmet.are_met);
        cannot = λ can.
            let known = below setting start rises numbered at.done can.0 can.1 in
            unmet.is_unmet (rises.conditions most can.0 unmet.demand known.weak (can.2 unmet.demand has));
        at_line = at.at_line;
        at_condition = unmet.is_condition;
        at_field = unmet.is_field;
      }
