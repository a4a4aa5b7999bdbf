use Rattle.std.proofs.Common.{◌≡◌, ℕ, ◌+◌, ◌-◌, ◌<◌, false, Some, map, length, get_or, ap, subst, sym, ◌∙◌, arith}
use Rattle.std.proofs.lemmas.List.{length-map}
use Rattle.std.specs.Prelude.{slice_get}
use Rattle.std.proofs.lemmas.Option.{slice_get-get_or}
use Rattle.dy_recipe.specs.Meaning.{move_of}
use Rattle.dy_recipe.specs.MirrorTrimming.{IsMarked, AreClosedFrom}
use Rattle.dy_recipe.proofs.Marking.{closed_marked, closed_unmarked, get_map, other_default}
use Rattle.dy_recipe.proofs.trimming.marks.Goals as goal

pub index-requires : goal.index-requires
index-requires c =
    omega (arith, c.loop-left.invariant.within, c.loop-left.invariant.closed.each, length-map c.args.moves.now move_of, c.loop-left.marks.ok.0, c.loop-left-test.true)

pub offset_bounds-moves-left : goal.offset_bounds-moves-left
offset_bounds-moves-left c = omega (arith, c.loop-left.invariant.within, c.well_formed)

pub bounds-moves-left : goal.bounds-moves-left
bounds-moves-left c = omega (arith, c.loop-left.invariant.within, c.loop-left-test.true)

pub loop-left-preserved-then-index : goal.loop-left-preserved-then-index
loop-left-preserved-then-index c =
    let moves = map move_of c.args.moves.now in
    let left = c.loop-left.left in
    let old = c.loop-left.marks.items in
    let inside = c.loop-left.invariant in
    let next : left ≡ left - 1 + 1 = omega (arith, c.loop-left-test.true) in
    let From : ℕ → Type 0 = λ n. AreClosedFrom n moves old in
    let within : left - 1 < length c.args.moves.now = omega (arith, inside.within, c.loop-left-test.true) in
    let step = c.index-moves-left.result in
    let stands : slice_get moves (left - 1) ≡ Some (move_of step) =
    get_map move_of c.args.moves.now (left - 1) step (slice_get-get_or c.args.moves.now (left - 1) step within ∙ ap Some (sym c.index-moves-left.is)) in
    let few : left - 1 < length old = omega (arith, within, inside.closed.each, length-map c.args.moves.now move_of) in
    let marked : IsMarked old (left - 1) = other_default old (left - 1) false c.index.result.now few ∙ sym c.index.ensures ∙ c.if-index.true in
    record {
      closed = closed_marked moves old c.mark_named.new.marks.items (left - 1) (move_of step) stands marked (omega (arith, within, length-map c.args.moves.now move_of)) (subst From next inside.closed) c.mark_named.ensures;
      within = omega (arith, inside.within);
    }

pub loop-left-preserved : goal.loop-left-preserved
loop-left-preserved c =
    let moves = map move_of c.args.moves.now in
    let left = c.loop-left.left in
    let old = c.loop-left.marks.items in
    let inside = c.loop-left.invariant in
    let next : left ≡ left - 1 + 1 = omega (arith, c.loop-left-test.true) in
    let From : ℕ → Type 0 = λ n. AreClosedFrom n moves old in
    let few : left - 1 < length old = omega (arith, inside.within, c.loop-left-test.true, inside.closed.each, length-map c.args.moves.now move_of) in
    let unmarked : get_or old (left - 1) false ≡ false = other_default old (left - 1) false c.index.result.now few ∙ sym c.index.ensures ∙ c.if-index.false in
    record {
      closed = closed_unmarked moves old (left - 1) unmarked (subst From next inside.closed);
      within = omega (arith, inside.within);
    }

pub returns : goal.returns
returns c =
    let none : c.loop-left.left ≡ 0 = omega (arith, c.loop-left-test.false) in
    let From : ℕ → Type 0 = λ n. AreClosedFrom n (map move_of c.args.moves.now) c.loop-left.marks.items in
    subst From none c.loop-left.invariant.closed
