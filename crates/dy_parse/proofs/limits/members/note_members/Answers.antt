use Rattle.std.proofs.Common.{◌≡◌, Some, None, sym, refl}
use Rattle.std.specs.Prelude.{slice_get}
use Rattle.dy_parse.specs.Limits.{most}
use Rattle.dy_parse.proofs.LimitLaws.Folds.{counts_at}
use Rattle.dy_parse.proofs.limits.members.note_members.Goals as goal

pub returns-in-Some : goal.returns-in-Some
returns-in-Some g c =
    let part = g.T.Placed in
    let found : slice_get c.args.members.now (most c.args.which) ≡ Some c.in-Some.past.now = sym (rw c.most.ensures at c.in-Some.ensures) in
    rw (counts_at c.args.which part.place part.plain c.args.members.now (Some c.in-Some.past.now) found, ← c.line.ensures) c.note.ensures

pub returns-in-None : goal.returns-in-None
returns-in-None g c =
    let part = g.T.Placed in
    let found : slice_get c.args.members.now (most c.args.which) ≡ None = sym (rw c.most.ensures at c.in-None.ensures) in
    rw (counts_at c.args.which part.place part.plain c.args.members.now None found) refl
