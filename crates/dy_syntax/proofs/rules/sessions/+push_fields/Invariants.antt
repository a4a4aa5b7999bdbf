use Rattle.std.proofs.Common.{◌≡◌, ◌++◌, map, drop}
use Rattle.std.specs.List.{flat_map}
use Rattle.dy_syntax.specs.Meaning.{id_of, recipe_of}
use Rattle.dy_syntax.specs.Rules.Plans.{fields_in}
use Rattle.dy_syntax.proofs.rules.sessions.+push_fields.Given as goal

-- those so far and those of the rest are all
abbrev pub invariant-push_all_fields-loop-recipe : goal.invariant-push_all_fields-loop-recipe
invariant-push_all_fields-loop-recipe l =
    map id_of l.ids ++ flat_map fields_in (map recipe_of (drop l.recipe-index l.recipe-items))
    ≡ map id_of l.initial.ids ++ flat_map fields_in (map recipe_of l.recipe-items)
