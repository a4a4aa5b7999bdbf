-- What holds of each premise of a rule.
use Rattle.std.proofs.Common.{◌≡◌, ℕ, zero, suc, Some, ◌↔◌, refl, sym, subst}
use Rattle.std.specs.List.{slice_get}
use Rattle.std.proofs.lemmas.Option.{same_Some}
use Rattle.dy_chains.specs.declared.rules.Rule.{Rule}
use Rattle.dy_chains.specs.declared.rules.Premises.{Premises}
use Rattle.dy_chains.specs.declared.rules.Premises.TheVariants.{None, One, Two, Three}
use Rattle.dy_chains.specs.Rules.{EachPremise, premises_of}

module _ (P : ℕ → Type 0) where
  -- each of the premises
  abbrev pub Each : Premises → Type 0
  Each premises = (k premise : ℕ) → slice_get (premises_of premises) k ≡ Some premise → P premise

  each_of_none : Each None
  each_of_none k premise has = absurd cc

  each_of_one : (a : ℕ) → P a → Each (One a)
  each_of_one a first zero premise has = subst P (same_Some a premise has) first
  each_of_one a first (suc k) premise has = absurd cc

  each_of_two : (a b : ℕ) → P a → P b → Each (Two a b)
  each_of_two a b first second zero premise has = subst P (same_Some a premise has) first
  each_of_two a b first second (suc zero) premise has = subst P (same_Some b premise has) second
  each_of_two a b first second (suc (suc k)) premise has = absurd cc

  each_of_three : (a b c : ℕ) → P a → P b → P c → Each (Three a b c)
  each_of_three a b c first second third zero premise has = subst P (same_Some a premise has) first
  each_of_three a b c first second third (suc zero) premise has = subst P (same_Some b premise has) second
  each_of_three a b c first second third (suc (suc zero)) premise has = subst P (same_Some c premise has) third
  each_of_three a b c first second third (suc (suc (suc k))) premise has = absurd cc

  pub each_none : (rule : Rule) → rule.premises ≡ None → EachPremise P rule
  each_none rule is = subst Each (sym is) each_of_none

  pub each_one : (rule : Rule) (a : ℕ) → rule.premises ≡ One a → EachPremise P rule ↔ P a
  each_one rule a is =
      (λ each. (subst Each is each) 0 a refl, λ first. subst Each (sym is) (each_of_one a first))

  pub each_two : (rule : Rule) (a b : ℕ) → rule.premises ≡ Two a b → EachPremise P rule ↔ (P a × P b)
  each_two rule a b is = (
    λ each. let both = subst Each is each in (both 0 a refl, both 1 b refl),
    λ both. subst Each (sym is) (each_of_two a b both.0 both.1),
  )

  pub each_three : (rule : Rule) (a b c : ℕ) → rule.premises ≡ Three a b c → EachPremise P rule ↔ (P a × P b × P c)
  each_three rule a b c is = (
    λ each. let all = subst Each is each in (all 0 a refl, all 1 b refl, all 2 c refl),
    λ all. subst Each (sym is) (each_of_three a b c all.0 all.1 all.2),
  )
