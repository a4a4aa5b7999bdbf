use Rattle.std.proofs.Common.{◌+◌, [], ◌∷◌, refl}
use Rattle.dy_syntax.specs.Meaning.{atom_of}
use Rattle.dy_typing.specs.Demands.{EventStands, requirement_of}
use Rattle.dy_check.specs.MirrorMembers.{stands_in}
use Rattle.dy_check.proofs.FirstUnmet.{still_later, still_here, still_none}
use Rattle.dy_check.proofs.MembersLeft.{events_left, events_step, events_none}
use Rattle.dy_check.proofs.conditions.events.unmet_among_events.Goals as goal

pub loop-at-preserved : goal.loop-at-preserved
loop-at-preserved c = λ setting sealing sealer.
    let r = c.args.reading.now in
    let at = c.loop-at.at in
    let atoms = c.args.atoms.now in
    let atom = c.index-atoms-at.result in
    let demand = EventStands sealing (requirement_of (stands_in r) (at + 1) (atom_of atom)) in
    let now = rw c.in_default.is at (c.unless_met.ensures setting c.args.known.now demand (c.in_ok-met.ensures setting sealing (at + 1) sealer) refl refl) in
    still_later (demand ∷ []) (events_left r sealing (at + 1) atoms) (events_step r sealing at atoms atom c.loop-at-test.true c.index-atoms-at.is) (c.loop-at.invariant setting sealing sealer) now

pub returns-in-Some : goal.returns-in-Some
returns-in-Some c = λ setting sealing sealer.
    let r = c.args.reading.now in
    let at = c.loop-at.at in
    let atoms = c.args.atoms.now in
    let atom = c.index-atoms-at.result in
    let demand = EventStands sealing (requirement_of (stands_in r) (at + 1) (atom_of atom)) in
    let now = rw c.in-Some.is at (c.unless_met.ensures setting c.args.known.now demand (c.in_ok-met.ensures setting sealing (at + 1) sealer) refl refl) in
    still_here (demand ∷ []) (events_left r sealing (at + 1) atoms) (events_step r sealing at atoms atom c.loop-at-test.true c.index-atoms-at.is) (c.loop-at.invariant setting sealing sealer) now

pub returns : goal.returns
returns c = λ setting sealing sealer.
    still_none (events_none c.args.reading.now sealing c.loop-at.at c.args.atoms.now c.loop-at-test.false) (c.loop-at.invariant setting sealing sealer)
