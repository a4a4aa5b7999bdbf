use Rattle.std.proofs.Common.{◌≡◌, length, map}
use Rattle.dy_parse.specs.Mirrors.Lists.{with_prefix, rest_at}
use Rattle.dy_parse.proofs.lists.read_rest.Given as goal

-- the items so far, and those that are left, are all
abbrev pub invariant-items : goal.invariant-items
invariant-items g l =
    let part = g.P.Listed in
    with_prefix (map part.view l.found) (rest_at l.kind part.item l.left) ≡ with_prefix (map part.view l.initial.found) (rest_at l.kind part.item l.tokens)

abbrev pub decreases-items : goal.decreases-items
decreases-items g l = length l.left
