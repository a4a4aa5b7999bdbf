use Rattle.std.proofs.Common.{◌≡◌, ◌+◌, ◌-◌, ◌≤◌, ◌++◌, length, take, vec_len, vec_capacity}
use Rattle.dy_derive.specs.MirrorNonces.{nonces_in}
use Rattle.dy_derive.proofs.nonces.push_each.Given as goal

abbrev pub invariant-loop-step : goal.invariant-loop-step
invariant-loop-step l =
    (l.nonces.items ≡ l.initial.nonces.items ++ nonces_in l.nodes.keys (take l.step-index l.steps))
    × (vec_len l.nonces + (length l.steps - l.step-index) ≤ vec_capacity l.nonces)
