use Rattle.std.proofs.Common.{◌<◌, length, arith, sym}
use Rattle.std.proofs.lemmas.List.{take_more}
use Rattle.std.proofs.lemmas.Slice.Eq.{bytes_eq-Decides}
use Rattle.dy_label.proofs.word_lists.same_words.Goals as goal

pub loop-i-preserved : goal.loop-i-preserved
loop-i-preserved c =
    let words = c.args.words.now in
    let others = c.args.others.now in
    let first : c.loop-i.i < length words = omega arith in
    let second : c.loop-i.i < length others = omega arith in
    let same = (bytes_eq-Decides c.index-words-i.result c.index-others-i.result).0 (sym c.if-not-same.ensures) in
    let more = take_more words c.loop-i.i c.index-words-i.result first in
    let more' = take_more others c.loop-i.i c.index-others-i.result second in
    cc
