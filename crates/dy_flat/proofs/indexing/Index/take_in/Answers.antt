use Rattle.std.proofs.Common.{◌≡◌, ◌<◌, Some, length, ap, sym, ◌∙◌, arith}
use Rattle.std.proofs.lemmas.Option.{slice_get-get_or}
use Rattle.dy_flat.proofs.Indexed.{covers_pushed}
use Rattle.dy_flat.proofs.indexing.Index.take_in.Goals as goal

pub returns-clause-covers : goal.returns-clause-covers
returns-clause-covers g c =
    let kept = c.args.kept.now in
    let links = c.args.self.now.links.items in
    let one = c.index-kept-place.result in
    let place = c.len-place.result in
    let at : place ≡ length links = omega (arith, c.len-place.ensures, c.args.self.now.links.ok.0) in
    let within : place < length kept = omega (arith, at, c.requires.more) in
    let here = slice_get-get_or kept place one within ∙ ap Some (sym c.index-kept-place.is) in
    covers_pushed g.C.Content.bytes kept one c.args.self.now.lasts.items links c.push.new.self.items c.class-class.result place c.index.result.now at here c.requires.more
    c.requires.classes c.class-class.ensures.few c.class-class.ensures.class c.index.ensures c.in_ok-push.ensures.items c.requires.covers
