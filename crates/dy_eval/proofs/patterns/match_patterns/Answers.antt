use Rattle.std.proofs.Common.{◌∙◌, sym, map}
use Rattle.std.proofs.lemmas.List.{length-map}
use Rattle.dy_flat.specs.Views.{tree_of}
use Rattle.dy_syntax.specs.Meaning.{pattern_of}
use Rattle.dy_eval.specs.NamesMeaning.{names_of}
use Rattle.dy_eval.proofs.Matching.{as_many}
use Rattle.dy_eval.proofs.patterns.match_patterns.Goals as goal

pub written_by-requires : goal.written_by-requires
written_by-requires c =
    sym (length-map c.args.patterns.now pattern_of)
    ∙ as_many (names_of c.args.names.now) (map pattern_of c.args.patterns.now) (map tree_of c.args.fields.now) (sym c.fits.ensures ∙ c.if-fits.true)
    ∙ length-map c.args.fields.now tree_of
