use Rattle.std.proofs.Common.{refl}
use Rattle.dy_flat.proofs.Lookups.{extends_same}
use Rattle.dy_flat.proofs.growing.Growing.place_name.Goals as goal

pub returns-clause-kept : goal.returns-clause-kept
returns-clause-kept c = record { texts = extends_same _ _ refl; names = c.place.ensures.grown }

pub invariant_of-self : goal.invariant_of-self
invariant_of-self c =
    let contents = c.args.self.now.contents in
    ((contents.texts_once, (c.place.ensures.once contents.names_once, tt)), (c.args.self.now.texts_found, (c.place.ensures.covers, tt)))
