use Rattle.std.proofs.Common.{◌≡◌, ◌<◌, ◌-◌, Some, length, ap, sym, ◌∙◌, arith}
use Rattle.std.proofs.lemmas.Option.{slice_get-get_or}
use Rattle.std.proofs.lemmas.Slice.Eq.{bytes_eq-Decides}
use Rattle.dy_flat.proofs.Indexed.{passed_link, passed_all}
use Rattle.dy_flat.proofs.indexing.Index.find.Goals as goal

pub returns-then-is_same-clause-found : goal.returns-then-is_same-clause-found
returns-then-is_same-clause-found g c =
    let bytes = g.C.Content.bytes in
    let kept = c.index-kept-place.result in
    let wanted = c.args.wanted.now in
    let within : c.loop-at.at - 1 < length c.args.kept.now = omega (arith, c.loop-at.invariant.order, c.requires.within, c.loop-at-test.true) in
    let same : kept ≡ wanted = g.met.C.Content.told_by_bytes kept wanted ((bytes_eq-Decides (bytes kept) (bytes wanted)).0 (sym c.is_same.ensures ∙ c.if-is_same.true)) in
    slice_get-get_or c.args.kept.now (c.loop-at.at - 1) kept within ∙ ap Some (sym c.index-kept-place.is ∙ same)

pub loop-at-smaller : goal.loop-at-smaller
loop-at-smaller g c =
    let kept = c.index-kept-place.result in
    let within : c.loop-at.at - 1 < length c.args.kept.now = omega (arith, c.loop-at.invariant.order, c.requires.within, c.loop-at-test.true) in
    let here = slice_get-get_or c.args.kept.now (c.loop-at.at - 1) kept within ∙ ap Some (sym c.index-kept-place.is) in
    (passed_link g.C.Content.bytes c.args.kept.now c.args.wanted.now kept c.args.self.now.lasts.items c.args.self.now.links.items c.loop-at.at c.index-at.result.now c.requires
    c.loop-at-test.true c.loop-at.invariant here (sym c.is_same.ensures ∙ c.if-is_same.false) c.index-at.ensures).0

pub loop-at-preserved : goal.loop-at-preserved
loop-at-preserved g c =
    let kept = c.index-kept-place.result in
    let within : c.loop-at.at - 1 < length c.args.kept.now = omega (arith, c.loop-at.invariant.order, c.requires.within, c.loop-at-test.true) in
    let here = slice_get-get_or c.args.kept.now (c.loop-at.at - 1) kept within ∙ ap Some (sym c.index-kept-place.is) in
    (passed_link g.C.Content.bytes c.args.kept.now c.args.wanted.now kept c.args.self.now.lasts.items c.args.self.now.links.items c.loop-at.at c.index-at.result.now c.requires
    c.loop-at-test.true c.loop-at.invariant here (sym c.is_same.ensures ∙ c.if-is_same.false) c.index-at.ensures).1

pub returns-clause-new : goal.returns-clause-new
returns-clause-new g c =
    passed_all g.C.Content.bytes c.args.kept.now c.args.wanted.now c.loop-at.at (length c.args.self.now.links.items) (omega (arith, c.loop-at-test.false)) c.loop-at.invariant
