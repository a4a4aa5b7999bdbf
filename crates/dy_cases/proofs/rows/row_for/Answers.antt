use Rattle.std.proofs.Common.{◌+◌, find, map, drop, List, ◌∷◌, Some, sym, ap, ◌∙◌}
use Rattle.std.specs.Str.{bytes_eq}
use Rattle.std.proofs.lemmas.Bool.{cond-true}
use Rattle.std.proofs.lemmas.List.{drop_more}
use Rattle.dy_syntax.specs.declared.declarations.Row.{Row}
use Rattle.dy_syntax.specs.Meaning.{row_of}
use Rattle.dy_cases.proofs.rows.row_for.Goals as goal

pub returns-then-same : goal.returns-then-same
returns-then-same c =
    let rows = c.args.rows.now in
    let i = c.loop-row.row-index in
    let item = c.row-item.result in
    let first = λ (rs : List Row). find (λ row. bytes_eq row.text.text c.args.text.now) (map row_of rs) in
    sym (cond-true (bytes_eq item.text.text c.args.text.now) (Some (row_of item)) (first (drop (i + 1) rows)) (sym c.same.ensures ∙ c.if-same.true))
    ∙ sym (ap first (drop_more rows i item c.loop-row-test.true ∙ ap (λ (y : Row). y ∷ drop (i + 1) rows) (sym c.row-item.is)))
    ∙ c.loop-row.invariant
