use Rattle.std.proofs.Common.{◌∙◌, sym, true, false, map, arith}
use Rattle.std.proofs.lemmas.List.{length-map}
use Rattle.dy_flat.specs.Views.{tree_of}
use Rattle.dy_syntax.specs.Meaning.{pattern_of}
use Rattle.dy_eval.specs.NamesMeaning.{names_of}
use Rattle.dy_eval.proofs.Matching.{other_number, fits_from}
use Rattle.dy_eval.proofs.patterns.fits.Goals as goal

pub returns-then-patterns-fields : goal.returns-then-patterns-fields
returns-then-patterns-fields c =
    other_number (names_of c.args.names.now) (map pattern_of c.args.patterns.now) (map tree_of c.args.fields.now) (λ same. c.if-patterns-fields.true (sym (length-map c.args.patterns.now pattern_of) ∙ same ∙ length-map c.args.fields.now tree_of))

pub returns-then-not-fits_one : goal.returns-then-not-fits_one
returns-then-not-fits_one c =
    sym (fits_from (names_of c.args.names.now) pattern_of tree_of c.args.patterns.now c.args.fields.now c.loop-at.at c.index-patterns-at.result c.index-fields-at.result false c.loop-at-test.true (omega (arith, c.if-patterns-fields.false)) c.index-patterns-at.is c.index-fields-at.is (sym c.if-not-fits_one.true ∙ c.fits_one.ensures))
    ∙ c.loop-at.invariant

pub loop-at-preserved : goal.loop-at-preserved
loop-at-preserved c =
    sym (fits_from (names_of c.args.names.now) pattern_of tree_of c.args.patterns.now c.args.fields.now c.loop-at.at c.index-patterns-at.result c.index-fields-at.result true c.loop-at-test.true (omega (arith, c.if-patterns-fields.false)) c.index-patterns-at.is c.index-fields-at.is (sym c.if-not-fits_one.false ∙ c.fits_one.ensures))
    ∙ c.loop-at.invariant
