-- Which command the words name.
use Rattle.std.proofs.Common.{◌≡◌, ℕ, List, [], ◌∷◌, Some, inl, inr, refl, sym, ap, ◌∙◌, arith}
use Rattle.dy_tool.specs.declared.commands.Command.{Command}
use Rattle.dy_tool.specs.declared.commands.Command.TheVariants.{Check, Show, Run, Play}
use Rattle.dy_tool.specs.Due.{words_for, AreRefused, IsNamed}

-- the first byte of the first word
abbrev first_byte : List (List ℕ) → ℕ
first_byte [] = 0
first_byte ([] ∷ words) = 0
first_byte ((byte ∷ more) ∷ words) = byte

show_or_play : words_for Show ≡ words_for Play → ⊥
show_or_play same = let bytes : 115 ≡ 112 = ap first_byte same in omega (arith, bytes)

-- a command is named by its words alone
pub one_command : (command other : Command) → words_for command ≡ words_for other → command ≡ other
one_command Check Check same = refl
one_command Check Show same = absurd cc
one_command Check Run same = absurd cc
one_command Check Play same = absurd cc
one_command Show Check same = absurd cc
one_command Show Show same = refl
one_command Show Run same = absurd cc
one_command Show Play same = absurd (show_or_play same)
one_command Run Check same = absurd cc
one_command Run Show same = absurd cc
one_command Run Run same = refl
one_command Run Play same = absurd cc
one_command Play Check same = absurd cc
one_command Play Show same = absurd (show_or_play (sym same))
one_command Play Run same = absurd cc
one_command Play Play same = refl

-- refused words name no command
pub refused_or_named : (commands : List Command) (words : List (List ℕ)) (command : Command) → AreRefused commands words → IsNamed commands words (Some command) → ⊥
refused_or_named [] words command refused named = named.0
refused_or_named (first ∷ commands) words command refused named = elim named.0 [
  | inl same ↦ refused.0 (named.1 ∙ ap words_for same)
  | inr more ↦ refused_or_named commands words command refused.1 (more, named.1)
]
