use Rattle.std.proofs.Common.{Bool, length, drop, ap, sym, ◌∙◌}
use Rattle.std.specs.List.{list_any}
use Rattle.std.specs.Str.{bytes_eq}
use Rattle.dy_flat.proofs.Indexed.{any_split, none_by}
use Rattle.dy_flat.proofs.places.place_by.Goals as goal

pub returns-in-None-clause-new : goal.returns-in-None-clause-new
returns-in-None-clause-new g c =
    let bytes = g.C.Content.bytes in
    let is_wanted : g.row.C.Denot → Bool = λ other. bytes_eq (bytes other) (bytes c.args.wanted.now) in
    let kept = c.args.kept.now in
    none_by c.place_from.result c.place_from.ensures.new (λ later.
    any_split is_wanted (length c.args.index.now.links.items) kept c.in-None.ensures.new (ap (λ n. list_any is_wanted (drop n kept)) (sym c.len.ensures) ∙ later))
