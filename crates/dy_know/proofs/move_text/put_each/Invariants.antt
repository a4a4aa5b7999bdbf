use Rattle.std.proofs.Common.{◌≡◌, ◌++◌, take, codes}
use Rattle.std.specs.List.{flat_map}
use Rattle.dy_recipe.specs.Meaning.{move_of}
use Rattle.dy_know.specs.MoveText.{move_text}
use Rattle.dy_know.proofs.move_text.put_each.Given as goal

-- the moves up to here are written, each after a separator
abbrev pub invariant-loop-step : goal.invariant-loop-step
invariant-loop-step l =
    l.text.items ≡ l.initial.text.items ++ flat_map (λ step. codes "; " ++ move_text (move_of step)) (take l.step-index l.more)
