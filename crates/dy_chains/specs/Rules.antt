-- Rules over facts that are numbers, and the facts that follow from them.
use Rattle.std.specs.Prelude.{◌≡◌, ℕ, ◌<◌, List, [], ◌∷◌, Some, slice_get}
use Rattle.dy_chains.specs.declared.rules.Premises.{Premises}
use Rattle.dy_chains.specs.declared.rules.Premises.TheVariants.{None, One, Two, Three}
use Rattle.dy_chains.specs.declared.rules.Rule.{Rule}

-- the facts from which a rule concludes another
abbrev pub premises_of : Premises → List ℕ
premises_of None = []
premises_of (One first) = first ∷ []
premises_of (Two first second) = first ∷ second ∷ []
premises_of (Three first second third) = first ∷ second ∷ third ∷ []

-- Each premise of the rule has this property.
abbrev pub EachPremise : (ℕ → Type 0) → Rule → Type 0
EachPremise P rule = (k premise : ℕ) → slice_get (premises_of rule.premises) k ≡ Some premise → P premise

-- A rule speaks of facts below this number alone.
pub record IsBelow (facts : ℕ) (rule : Rule) : Type 0 where
  pub conclusion : rule.conclusion < facts
  pub premises : EachPremise (λ premise. premise < facts) rule

-- The least relation with this case: what a rule concludes from premises that follow.
pub data Follows (rules : List Rule) : ℕ → Type 0 where
  by_rule : (fact number : ℕ) (rule : Rule) → slice_get rules number ≡ Some rule → rule.conclusion ≡ fact
      → ((k premise : ℕ) → slice_get (premises_of rule.premises) k ≡ Some premise → Follows rules premise)
      → Follows rules fact
