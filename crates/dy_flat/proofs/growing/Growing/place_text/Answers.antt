use Rattle.std.proofs.Common.{refl}
use Rattle.dy_flat.proofs.Lookups.{extends_same}
use Rattle.dy_flat.proofs.growing.Growing.place_text.Goals as goal

pub returns-clause-kept : goal.returns-clause-kept
returns-clause-kept c = record { texts = c.place.ensures.grown; names = extends_same _ _ refl }

pub invariant_of-self : goal.invariant_of-self
invariant_of-self c =
    let contents = c.args.self.now.contents in
    ((c.place.ensures.once contents.texts_once, (contents.names_once, tt)), (c.place.ensures.covers, (c.args.self.now.names_found, tt)))
