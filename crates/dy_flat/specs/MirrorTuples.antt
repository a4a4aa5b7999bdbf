-- How the fields of a tuple are lent. It mirrors the code: `dy_term` defines what a tuple is.
use Rattle.std.specs.Prelude.{ℕ, zero, suc, Bool, true, false, ◌&&◌, List, [], ◌∷◌}
use Rattle.dy_term.specs.Terms.{Term, Lit, Pair}
use Rattle.dy_term.specs.Sameness.{is_same}
use Rattle.dy_flat.specs.declared.tuples.Fields.{Fields}
use Rattle.dy_flat.specs.Views.{tree_of}

-- so many terms that are nested to the right
abbrev pub parts_of_pairs : ℕ → Term → List Term
parts_of_pairs zero term = []
parts_of_pairs (suc zero) term = term ∷ []
parts_of_pairs (suc (suc more)) (Pair first rest) = first ∷ parts_of_pairs (suc more) rest
parts_of_pairs (suc (suc more)) _ = []

-- the fields that are not lent yet
abbrev pub fields_left : Fields → List Term
fields_left fields = parts_of_pairs fields.left (tree_of fields.rest)

-- so many pairs are nested to the right
abbrev pub has_pairs : ℕ → Term → Bool
has_pairs zero term = true
has_pairs (suc count) (Pair first rest) = has_pairs count rest
has_pairs (suc count) _ = false

-- the term is a tuple of this tag and so many fields
abbrev pub is_tuple : List ℕ → ℕ → Term → Bool
is_tuple tag zero term = is_same term (Lit tag)
is_tuple tag (suc more) (Pair first rest) = is_same first (Lit tag) && has_pairs more rest
is_tuple tag (suc more) _ = false
