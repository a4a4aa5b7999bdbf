use Rattle.std.proofs.Common.{◌≡◌, take}
use Rattle.dy_flat.specs.Meaning.{read_all}
use Rattle.dy_flat.proofs.comparing.have_same_nodes.Given as goal

abbrev pub invariant-loop-at : goal.invariant-loop-at
invariant-loop-at l = read_all l.a.contents.now (take l.at l.a.nodes.now) ≡ read_all l.b.contents.now (take l.at l.b.nodes.now)
