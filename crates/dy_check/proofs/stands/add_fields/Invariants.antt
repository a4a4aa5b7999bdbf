use Rattle.std.proofs.Common.{◌≡◌, ◌++◌, map, zip, drop}
use Rattle.dy_syntax.specs.Meaning.{field_of}
use Rattle.dy_syntax.specs.Scopes.{words_of, field_names}
use Rattle.dy_check.specs.Meaning.{places_of, stands_of}
use Rattle.dy_check.proofs.stands.add_fields.Given as goal

-- what is added so far, with what is still to be added, is all
abbrev pub invariant-loop-at : goal.invariant-loop-at
invariant-loop-at l =
    stands_of l.stands ++ zip (words_of (field_names (map field_of (drop l.at l.fields)))) (places_of (drop l.at l.places))
    ≡ stands_of l.initial.stands ++ zip (words_of (field_names (map field_of l.fields))) (places_of l.places)
