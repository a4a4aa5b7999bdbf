use Rattle.std.proofs.Common.{◌≡◌, map, take, if◌then◌else◌, ◌==◌}
use Rattle.dy_check.proofs.knowledge.Knowledge.unite.Given as goal

abbrev pub invariant-loop-number : goal.invariant-loop-number
invariant-loop-number l =
    l.first ≡ map (λ number. if number == l.later then l.earlier else number) (take l.number-index l.number-items)
