use Rattle.std.proofs.Common.{rules, ◌≡◌, Some, ◌∙◌, ap, sym}
use Rattle.dy_entry.specs.Meaning.{entries_of}
use Rattle.dy_recipe.specs.Meaning.{recipe_of}
use Rattle.dy_recipe.specs.Values.{recipe_value}
use Rattle.dy_traces.specs.Given.{given_by}
use Rattle.dy_core.specs.BookMeaning.{trace_of}
use Rattle.dy_core.proofs.Longer.{none_of}
use Rattle.dy_core.proofs.books.Book.inject.Goals as goal

pub add-requires-clause-follows : goal.add-requires-clause-follows
add-requires-clause-follows c =
    let moves = recipe_of c.args.recipe.now in
    let gives : recipe_value (given_by (trace_of c.args.self.now)) moves ≡ Some c.in-Ok-Some.value =
    ap (λ es. recipe_value (given_by (entries_of es)) moves) (sym c.as_slice-2.ensures.value) ∙ sym c.in-Ok-Some.ensures ∙ c.in-Ok-Some.field-0-is in
    let fine = c.a_recipe_gives_what_is_derived.ensures (trace_of c.args.self.now) moves c.in-Ok-Some.value gives in
    record { unused = search (rules, none_of c.step_at.result c.in_default.not-Some); derived = fine.0; few_nodes = fine.1 }
