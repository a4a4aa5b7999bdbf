-- When tokens spell a part: they are the leaves of a tree of rules.
use Rattle.std.specs.Prelude.{◌≡◌, true, List, [], ◌∷◌, ◌++◌, Some, ◌⊎◌}
use Rattle.dy_lex.specs.Tokens.{Piece}
use Rattle.dy_grammar.specs.Terminals.{Terminal, accepts, token_value}
use Rattle.dy_grammar.specs.Tables.{silent, token, part, Values, apply}
use Rattle.dy_grammar.specs.Parts.{Part, PartValue}
use Rattle.dy_grammar.specs.Grammar.{Syms, RuleOf, rules, left_out}

-- the rule is one of these
abbrev pub IsAmong : {X : Type 0} → RuleOf X → List (RuleOf X) → Type 0
IsAmong rule [] = ⊥
IsAmong rule (r ∷ rs) = (rule ≡ r) ⊎ IsAmong rule rs

mutual
  -- a rule of the part, its first token, and what follows; or the part is left out
  pub data Tree : Part → Type 0 where
    node : {p : Part} (rule : RuleOf (PartValue p)) → IsAmong rule (rules p)
        → (t : Piece) → accepts rule.first t ≡ true → Trees rule.more → Tree p
    absent : {p : Part} (v : PartValue p) → left_out p ≡ Some v → Tree p

  -- a token for each token that is asked for, and a tree for each part
  pub data Trees : Syms → Type 0 where
    none : Trees []
    leaf : {x : Terminal} {ss : Syms} (t : Piece) → accepts x t ≡ true → Trees ss → Trees (silent x ∷ ss)
    keep : {x : Terminal} {ss : Syms} (t : Piece) → accepts x t ≡ true → Trees ss → Trees (token x ∷ ss)
    tree : {p : Part} {ss : Syms} → Tree p → Trees ss → Trees (part p ∷ ss)

-- the tokens from left to right
abbrev mutual
  pub leaves : {p : Part} → Tree p → List Piece
  leaves (node rule is_rule t is_first ts) = t ∷ all_leaves ts
  leaves (absent v is_left_out) = []

  pub all_leaves : {ss : Syms} → Trees ss → List Piece
  all_leaves none = []
  all_leaves (leaf t fits ts) = t ∷ all_leaves ts
  all_leaves (keep t fits ts) = t ∷ all_leaves ts
  all_leaves (tree x ts) = leaves x ++ all_leaves ts

-- what they make
abbrev mutual
  pub value : {p : Part} → Tree p → PartValue p
  value {p} (node rule is_rule t is_first ts) =
      apply PartValue (PartValue p) rule.more (rule.make (token_value rule.first t)) (values ts)
  value (absent v is_left_out) = v

  pub values : {ss : Syms} → Trees ss → Values PartValue ss
  values none = tt
  values (leaf t fits ts) = values ts
  values (keep {x = x} t fits ts) = (token_value x t, values ts)
  values (tree x ts) = (value x, values ts)
