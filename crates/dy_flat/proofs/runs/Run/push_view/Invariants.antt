use Rattle.std.proofs.Common.{◌≡◌, ◌++◌, Some, map, take}
use Rattle.dy_flat.specs.Meaning.{read_all}
use Rattle.dy_flat.proofs.runs.Run.push_view.Given as goal

abbrev pub invariant-loop-node : goal.invariant-loop-node
invariant-loop-node l = map Some l.self ≡ map Some l.fn.self ++ read_all l.view.contents.now (take l.node-index l.view.nodes.now)
