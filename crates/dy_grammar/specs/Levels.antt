-- How deep things stand inside each other in a tree: expressions, labels and recipes on levels 1 to MAX_LEVEL.
use Rattle.std.specs.Prelude.{Bool, true, ◌&&◌, nat_lt, List, [], ◌∷◌}
use Rattle.dy_grammar.specs.declared.limits.TheConstants.{TOO_DEEP}
use Rattle.dy_grammar.specs.Parts.{Item, AnInner, AnExpr, ARecipe, Part, One, ManyTo, Commas, PartValue}
use Rattle.dy_grammar.specs.Grammar.{Syms}
use Rattle.dy_grammar.specs.Trees.{Tree, Trees, node, absent, none, leaf, keep, tree, value}

abbrev pub item_is_within : Item → Bool
item_is_within (AnInner level) = nat_lt level TOO_DEEP
item_is_within (AnExpr level) = nat_lt level TOO_DEEP
item_is_within (ARecipe level) = nat_lt level TOO_DEEP
item_is_within _ = true

-- so is a list of items, where it is empty or its items are
abbrev pub list_is_within : {A : Type 0} → Item → List A → Bool
list_is_within x [] = true
list_is_within x (v ∷ vs) = item_is_within x

-- a part with this value is on none but these levels, not counting what stands inside
abbrev pub is_within : (p : Part) → PartValue p → Bool
is_within (One x) v = item_is_within x
is_within (ManyTo x) vs = list_is_within x vs
is_within (Commas x) vs = list_is_within x vs
is_within _ v = true

-- nothing in the tree is on another level
abbrev mutual
  pub is_shallow : {p : Part} → Tree p → Bool
  is_shallow {p} (node rule is_rule t is_first ts) =
      is_within p (value (node rule is_rule t is_first ts)) && are_shallow ts
  is_shallow (absent v is_left_out) = true

  pub are_shallow : {ss : Syms} → Trees ss → Bool
  are_shallow none = true
  are_shallow (leaf t fits ts) = are_shallow ts
  are_shallow (keep t fits ts) = are_shallow ts
  are_shallow (tree x ts) = is_shallow x && are_shallow ts
