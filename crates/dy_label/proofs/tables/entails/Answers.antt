use Rattle.std.proofs.Common.{arith}
use Rattle.dy_label.specs.WordsMeaning.{static_label_of}
use Rattle.dy_label.proofs.WordsOpen.{uses_names_below-more}
use Rattle.dy_label.proofs.tables.entails.Goals as goal

pub returns : goal.returns
returns c =
    let l = static_label_of c.args.l.now in
    let m = static_label_of c.args.m.now in
    let names = c.args.scope.now in
    let uses_l = uses_names_below-more names 9 (omega arith) l c.requires.first in
    let uses_m = uses_names_below-more names 9 (omega arith) m c.requires.second in
    c.within.ensures.labels l m uses_l uses_m c.table_of.ensures c.table_of-2.ensures
