use Rattle.std.proofs.Common.{◌≡◌, map, take}
use Rattle.dy_syntax.specs.Meaning.{expr_of}
use Rattle.dy_typing.specs.Names.{exprs_names}
use Rattle.dy_check.specs.Meaning.{places_of}
use Rattle.dy_check.proofs.stands.expr_places.Given as goal

abbrev pub invariant-loop-expr : goal.invariant-loop-expr
invariant-loop-expr l = places_of l.places ≡ exprs_names (map expr_of (take l.expr-index l.exprs))
