use Rattle.std.proofs.Common.{map, length, List, subst}
use Rattle.dy_term.specs.Meaning.{tree_of}
use Rattle.dy_chains.specs.declared.logs.Step.{Step}
use Rattle.dy_recipe.specs.Meaning.{move_of, recipe_of}
use Rattle.dy_derive.specs.MirrorRecipes.{AreLogMoves, log_values}
use Rattle.dy_derive.proofs.DerivableDecided.{whole_log, found_gives, found_none}
use Rattle.dy_derive.proofs.deductions.Deductions.recipe_of_term.Goals as goal

pub returns-in_default-clause-decided : goal.returns-in_default-clause-decided
returns-in_default-clause-decided c = λ T facts deduced.
    let self = c.args.self.now in
    let chain = c.log-log.ensures.chain in
    let log = self.chain.chain.log in
    let moves = map move_of c.in_ok-moves.moves.items in
    let are = subst (λ (all : List Step). AreLogMoves self.nodes.keys self.chain.chain.rules self.chain.reasons.items log (length all) moves)
    c.log-log.ensures.value c.in_ok-moves.ensures in
    let built = c.in_ok-found.ensures T facts (log_values facts log) chain deduced c.requires (whole_log self T facts chain deduced moves are) in
    found_none self T facts chain deduced (map move_of c.build.new.moves.items) (log_values facts log) (tree_of c.args.term.now) c.in_ok-found.found built c.in_default.is

pub returns-clause-decided : goal.returns-clause-decided
returns-clause-decided c = λ T facts deduced.
    let self = c.args.self.now in
    let chain = c.log-log.ensures.chain in
    let log = self.chain.chain.log in
    let moves = map move_of c.in_ok-moves.moves.items in
    let are = subst (λ (all : List Step). AreLogMoves self.nodes.keys self.chain.chain.rules self.chain.reasons.items log (length all) moves)
    c.log-log.ensures.value c.in_ok-moves.ensures in
    let built = c.in_ok-found.ensures T facts (log_values facts log) chain deduced c.requires (whole_log self T facts chain deduced moves are) in
    found_gives self T facts chain deduced (map move_of c.build.new.moves.items) (recipe_of c.in_ok-recipe_up_to.field-0) (log_values facts log)
    (tree_of c.args.term.now) c.in_ok-found.found c.in-Some.number built c.in-Some.is c.in_ok-recipe_up_to.ensures.value
