use Rattle.std.proofs.Common.{◌≡◌, ◌+◌, ◌-◌, ◌*◌, length, map}
use Rattle.dy_syntax.specs.Meaning.{recipe_of}
use Rattle.dy_grammar.specs.Parts.{ARecipe}
use Rattle.dy_parse.specs.declared.lists.Rest.TheVariants as rests
use Rattle.dy_parse.specs.Mirrors.Lists.{with_prefix, rest_at}
use Rattle.dy_grammar.specs.declared.limits.TheConstants.{TOO_DEEP}
use Rattle.dy_parse.proofs.recipes.+recipe.Given as goal

-- the recipes so far, and those that are left, are all
abbrev pub invariant-more_recipes-items : goal.invariant-more_recipes-items
invariant-more_recipes-items l =
    with_prefix (map recipe_of l.found.items) (rest_at rests.Parentheses (ARecipe l.level) l.left)
    ≡ with_prefix (map recipe_of l.initial.found.items) (rest_at rests.Parentheses (ARecipe l.level) l.tokens)

abbrev pub decreases-more_recipes-items : goal.decreases-more_recipes-items
decreases-more_recipes-items l = length l.left

abbrev pub decreases-parts : goal.decreases-parts
decreases-parts l = 9 * (TOO_DEEP - l.level) + 8

abbrev pub decreases-recipes : goal.decreases-recipes
decreases-recipes l = 9 * (TOO_DEEP - l.level) + 7

abbrev pub decreases-more_recipes : goal.decreases-more_recipes
decreases-more_recipes l = 9 * (TOO_DEEP - l.level) + 6

abbrev pub decreases-next_recipe : goal.decreases-next_recipe
decreases-next_recipe l = 9 * (TOO_DEEP - l.level) + 5

abbrev pub decreases-recipe : goal.decreases-recipe
decreases-recipe l = 9 * (TOO_DEEP - l.level) + 4

abbrev pub decreases-built_recipe : goal.decreases-built_recipe
decreases-built_recipe l = 9 * (TOO_DEEP - l.level) + 3

abbrev pub decreases-making : goal.decreases-making
decreases-making l = 9 * (TOO_DEEP - l.level) + 2

abbrev pub decreases-taking : goal.decreases-taking
decreases-taking l = 9 * (TOO_DEEP - l.level) + 1

abbrev pub decreases-text_or_tuple : goal.decreases-text_or_tuple
decreases-text_or_tuple l = 9 * (TOO_DEEP - l.level)

abbrev pub decreases-on_one : goal.decreases-on_one
decreases-on_one l = 9 * (TOO_DEEP - l.level)

abbrev pub decreases-on_two : goal.decreases-on_two
decreases-on_two l = 9 * (TOO_DEEP - l.level)

abbrev pub decreases-aead : goal.decreases-aead
decreases-aead l = 9 * (TOO_DEEP - l.level)

abbrev pub decreases-kdf : goal.decreases-kdf
decreases-kdf l = 9 * (TOO_DEEP - l.level)
