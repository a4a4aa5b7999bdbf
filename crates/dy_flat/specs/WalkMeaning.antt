-- Which steps a walk has left.
use Rattle.std.specs.Prelude.{◌-◌, List, length, drop}
use Rattle.dy_flat.specs.declared.walking.Walk.{Walk}
use Rattle.dy_flat.specs.Views.{tree_of}
use Rattle.dy_flat.specs.Walks.{Step, steps_of}

-- the steps that are not given yet
abbrev pub steps_left : Walk → List Step
steps_left walk = drop (length walk.view.nodes.now - walk.left) (steps_of (tree_of walk.view))
