-- Tuples with a tag.
use Rattle.std.specs.Prelude.{ℕ, List, [], ◌∷◌}
use Rattle.dy_term.specs.Terms.{Term, Lit, Pair}

-- a term and those after it, as pairs that are nested to the right
abbrev pub right_pairs : Term → List Term → Term
right_pairs term [] = term
right_pairs term (next ∷ more) = Pair term (right_pairs next more)

-- `"tag"(field, .., field)`: the tag as a literal, and then the fields. Without fields it is the literal alone.
abbrev pub tagged_tuple : List ℕ → List Term → Term
tagged_tuple tag fields = right_pairs (Lit tag) fields
