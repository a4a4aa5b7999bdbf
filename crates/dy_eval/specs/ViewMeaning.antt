-- Which terms lent terms in a row are.
use Rattle.std.specs.Prelude.{List, map}
use Rattle.std.specs.declared.vec.Vec.{Vec}
use Rattle.std.specs.declared.alloc.Global.{Global}
use Rattle.dy_term.specs.Terms.{Term}
use Rattle.dy_flat.specs.declared.views.View.{View}
use Rattle.dy_flat.specs.Views.{tree_of}

abbrev pub trees_of : Vec View Global → List Term
trees_of views = map tree_of views.items
