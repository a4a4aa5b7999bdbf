-- What the answers of the code stand for.
use Rattle.dy_label.specs.LabelsMeaning.{place_of_corruption}
use Rattle.dy_recipe.specs.Meaning.{recipe_of}
use Rattle.dy_core.specs.StepMeaning.{step_of}
use Rattle.dy_plan.specs.declared.resolved.Resolved as code
use Rattle.dy_plan.specs.declared.resolved.Resolved.TheVariants as variants
use Rattle.dy_plan.specs.Resolving.{Resolved, Start, Corrupt, Forge, Inject, Unresolved}

abbrev pub resolved_of : code.Resolved → Resolved
resolved_of (variants.Start step) = Start (step_of step)
resolved_of (variants.Corrupt corruption) = Corrupt (place_of_corruption corruption)
resolved_of variants.Forge = Forge
resolved_of (variants.Inject recipe) = Inject (recipe_of recipe)
resolved_of variants.Unresolved = Unresolved
