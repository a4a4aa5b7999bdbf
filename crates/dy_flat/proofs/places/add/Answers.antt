use Rattle.std.proofs.Common.{ap, ◌∙◌, is_ok}
use Rattle.std.specs.List.{list_any}
use Rattle.std.specs.Str.{bytes_eq}
use Rattle.dy_flat.proofs.Differences.{differ_added}
use Rattle.dy_flat.proofs.places.add.Goals as goal

pub returns-clause-once : goal.returns-clause-once
returns-clause-once g c = λ once.
    let bytes = g.C.Content.bytes in
    let old = c.args.kept.now.items in
    let none = ap (λ one. list_any (λ other. bytes_eq (bytes other) (bytes one)) old) c.again.ensures ∙ c.requires in
    differ_added bytes old _ c.again.result (is_ok c.push.result) c.push.ensures.items once none
