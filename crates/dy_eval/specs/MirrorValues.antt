-- How the code stops at a value of more than 1,024 nodes.
use Rattle.std.specs.Prelude.{List, [], ◌∷◌, Option, Some, None}
use Rattle.std.specs.Option.{option_map}
use Rattle.dy_term.specs.Terms.{Term}
use Rattle.dy_eval.specs.Values.{if_small}

-- a term before others, if they are there
abbrev pub before : Option Term → Option (List Term) → Option (List Term)
before None more = None
before (Some term) more = option_map (λ terms. term ∷ terms) more

-- terms of at most 1,024 nodes each
abbrev pub all_if_small : List Term → Option (List Term)
all_if_small [] = Some []
all_if_small (term ∷ terms) = before (if_small term) (all_if_small terms)
