use Rattle.std.proofs.Common.{◌≡◌, false, Some, take, ◌∙◌, ap, sym, arith}
use Rattle.std.specs.List.{list_any}
use Rattle.std.specs.Str.{bytes_eq}
use Rattle.std.proofs.lemmas.List.{take_more, take_all}
use Rattle.std.proofs.lemmas.Option.{slice_get-get_or}
use Rattle.std.proofs.lemmas.Slice.Eq.{bytes_eq-Decides}
use Rattle.dy_flat.proofs.Differences.{any_push}
use Rattle.dy_flat.proofs.places.place_of.Goals as goal

pub returns-then-is_same-clause-found : goal.returns-then-is_same-clause-found
returns-then-is_same-clause-found g c =
    let bytes = g.C.Content.bytes in
    let kept = c.index-kept-place.result in
    let wanted = c.args.wanted.now in
    let same : kept ≡ wanted = g.met.C.Content.told_by_bytes kept wanted ((bytes_eq-Decides (bytes kept) (bytes wanted)).0 (sym c.is_same.ensures ∙ c.if-is_same.true)) in
    slice_get-get_or c.args.kept.now c.loop-place.place kept (omega arith) ∙ ap Some (sym c.index-kept-place.is ∙ same)

pub loop-place-preserved : goal.loop-place-preserved
loop-place-preserved g c =
    let bytes = g.C.Content.bytes in
    let kept = c.index-kept-place.result in
    let differs : bytes_eq (bytes kept) (bytes c.args.wanted.now) ≡ false = sym c.is_same.ensures ∙ c.if-is_same.false in
    rw (take_more c.args.kept.now c.loop-place.place kept c.loop-place-test.true, ← c.index-kept-place.is)
    (any_push (λ other. bytes_eq (bytes other) (bytes c.args.wanted.now)) (take c.loop-place.place c.args.kept.now) kept c.loop-place.invariant differs)

pub returns-clause-new : goal.returns-clause-new
returns-clause-new g c =
    let bytes = g.C.Content.bytes in
    ap (list_any (λ other. bytes_eq (bytes other) (bytes c.args.wanted.now))) (sym (take_all c.loop-place.place c.args.kept.now (omega arith))) ∙ c.loop-place.invariant
