use Rattle.std.proofs.Common.{◌≡◌, map, drop, ◌++◌}
use Rattle.std.specs.Option.{option_map}
use Rattle.dy_syntax.specs.Meaning.{expr_of}
use Rattle.dy_eval.specs.Values.{value}
use Rattle.dy_eval.specs.MirrorValues.{all_if_small}
use Rattle.dy_eval.specs.NamesMeaning.{names_of}
use Rattle.dy_eval.specs.ValueMeaning.{term_of}
use Rattle.dy_eval.proofs.expressions.+value.Given as goal

-- the values so far, and then the others, if they are small
abbrev pub invariant-values-loop-expr : goal.invariant-values-loop-expr
invariant-values-loop-expr l =
    option_map (λ more. map term_of l.made.items ++ more) (all_if_small (map (value (names_of l.names)) (map expr_of (drop l.expr-index l.exprs)))) ≡ all_if_small (map (value (names_of l.names)) (map expr_of l.exprs))
