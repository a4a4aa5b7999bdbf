use Rattle.std.proofs.Common.{◌≡◌, ◌++◌, take, codes}
use Rattle.std.specs.List.{flat_map}
use Rattle.dy_trace_text.proofs.list_text.put_items.Given as goal

-- the items up to here are written, each after a comma
abbrev pub invariant-loop-item : goal.invariant-loop-item
invariant-loop-item g l =
    l.page ≡ l.initial.page ++ flat_map (λ item. codes ", " ++ g.T.Written.text item) (take l.item-index l.more)
