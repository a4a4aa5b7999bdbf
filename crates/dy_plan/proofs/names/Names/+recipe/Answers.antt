use Rattle.std.proofs.Common.{◌≡◌, ℕ, ◌+◌, List, ◌++◌, ◌∷◌, [], length, map, drop, Option, ap, sym, ◌∙◌, arith}
use Rattle.std.specs.Prelude.{Err}
use Rattle.std.specs.Option.{option_map}
use Rattle.dy_recipe.specs.Meaning.{move_of}
use Rattle.dy_recipe.specs.Moves as m
use Rattle.dy_recipe.specs.Moves.{Move}
use Rattle.dy_syntax.specs.Meaning.{recipe_of}
use Rattle.dy_syntax.specs.Recipes.{row_of}
use Rattle.dy_plan.specs.MirrorNames.{plan_in, trace_in}
use Rattle.dy_plan.specs.MirrorRecipes.{paired}
use Rattle.dy_plan.specs.Recipes.{add_leaf, add_pairs, with_move}
use Rattle.dy_plan.proofs.Refusals.{same_refusal}
use Rattle.dy_plan.proofs.Tuples.{row_of_args, field_added}
use Rattle.dy_plan.proofs.names.Names.+recipe.Goals as goal

pub last_move-returns-in_err-found-in-Nonce-clause-lacking : goal.last_move-returns-in_err-found-in-Nonce-clause-lacking
last_move-returns-in_err-found-in-Nonce-clause-lacking t c = λ refused.
    let before = map move_of c.args.moves.now in
    let exit = c.from_residual-in_err-found-in-Nonce in
    let why = same_refusal exit.result c.in_err-found-in-Nonce.field-0.0 exit.ensures.1 refused in
    rw c.in-Nonce.is
    (ap (λ (o : Option ℕ). add_leaf m.Forge o before) (sym c.nonce_named.ensures ∙ c.in_err-found-in-Nonce.ensures.lacking (ap Err why)))

pub last_move-returns-in_ok-found-in-Nonce-clause-added : goal.last_move-returns-in_ok-found-in-Nonce-clause-added
last_move-returns-in_ok-found-in-Nonce-clause-added t c =
    let before = map move_of c.args.moves.now in
    rw c.in-Nonce.is
    (ap (λ (o : Option ℕ). add_leaf m.Forge o before) (sym c.nonce_named.ensures ∙ c.in_ok-found-in-Nonce.ensures.found))

pub last_move-returns-in_err-found-in-Field-clause-lacking : goal.last_move-returns-in_err-found-in-Field-clause-lacking
last_move-returns-in_err-found-in-Field-clause-lacking t c = λ refused.
    let before = map move_of c.args.moves.now in
    let leaf = λ (index : ℕ). m.State index c.in-Field.number in
    let exit = c.from_residual-in_err-found-in-Field in
    let why = same_refusal exit.result c.in_err-found-in-Field.field-0.0 exit.ensures.1 refused in
    rw c.in-Field.is
    (ap (λ (o : Option ℕ). add_leaf leaf o before) (sym c.state_named.ensures ∙ c.in_err-found-in-Field.ensures.lacking (ap Err why)))

pub last_move-returns-in_ok-found-in-Field-clause-added : goal.last_move-returns-in_ok-found-in-Field-clause-added
last_move-returns-in_ok-found-in-Field-clause-added t c =
    let before = map move_of c.args.moves.now in
    let leaf = λ (index : ℕ). m.State index c.in-Field.number in
    rw c.in-Field.is
    (ap (λ (o : Option ℕ). add_leaf leaf o before) (sym c.state_named.ensures ∙ c.in_ok-found-in-Field.ensures.found))

pub last_move-returns-in-Tuple-clause-added : goal.last_move-returns-in-Tuple-clause-added
last_move-returns-in-Tuple-clause-added t c =
    rw (c.in-Tuple.is, row_of_args c.in-Tuple.args, ← c.as_slice.ensures.value) c.tuple_move.ensures.added

pub last_move-returns-in-Tuple-clause-lacking : goal.last_move-returns-in-Tuple-clause-lacking
last_move-returns-in-Tuple-clause-lacking t c =
    rw (c.in-Tuple.is, row_of_args c.in-Tuple.args, ← c.as_slice.ensures.value) c.tuple_move.ensures.lacking

pub tuple_move-loop-arg-preserved : goal.tuple_move-loop-arg-preserved
tuple_move-loop-arg-preserved t c =
    let plan = plan_in c.args.self.now in
    let T = trace_in c.args.self.now in
    let args = c.args.args.now in
    let i = c.loop-arg.arg-index in
    let lefts = c.loop-arg.lefts in
    let made = map move_of c.push.new.moves in
    let after = with_move (map move_of c.last_move.new.moves) (move_of c.in_ok-step.step) in
    let lefts_are : c.push-in-loop-arg.new.self ≡ lefts ++ length made ∷ [] =
    c.in_ok-push-2.ensures.ok ∙ ap (λ (n : ℕ). lefts ++ n ∷ []) c.in_ok-push.ensures.number in
    ap (λ (xs : List ℕ). option_map (paired xs) (add_pairs plan T (row_of (map recipe_of (drop (i + 1) args))) after)) lefts_are
    ∙ field_added plan T args i c.arg-item.result (omega arith) c.arg-item.is lefts made after c.in_ok-step.ensures.added
    ∙ ap (λ (before : List Move). option_map (paired lefts) (add_pairs plan T (row_of (map recipe_of (drop i args))) before)) c.in_ok-push.ensures.added
    ∙ c.loop-arg.invariant
