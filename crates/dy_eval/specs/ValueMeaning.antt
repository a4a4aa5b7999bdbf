-- Which terms values are.
use Rattle.std.specs.Prelude.{List, map}
use Rattle.std.specs.declared.vec.Vec.{Vec}
use Rattle.std.specs.declared.alloc.Global.{Global}
use Rattle.dy_term.specs.Terms.{Term}
use Rattle.dy_flat.specs.Views.{tree_of}
use Rattle.dy_eval.specs.declared.values.Value as value
use Rattle.dy_eval.specs.declared.values.Value.TheVariants as values

-- the term that a value is
abbrev pub term_of : value.Value → Term
term_of (values.Lent view) = tree_of view
term_of (values.Made term) = term

abbrev pub terms_of : Vec value.Value Global → List Term
terms_of values = map term_of values.items
