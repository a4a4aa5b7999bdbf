use Rattle.dy_types.specs.Facts.{guards_of}
use Rattle.dy_types.specs.Meaning.{facts_of}
use Rattle.dy_types.proofs.FactLaws.{guards_have}
use Rattle.dy_types.proofs.MeetLaws.{IsTableOfMeet-from_met}
use Rattle.dy_types.proofs.facts.has_fact.Goals as goal

pub returns : goal.returns
returns c = λ known label h has.
    let first = c.args.first.now in
    let event = c.args.event.now in
    let values = c.args.values.now in
    let labels = guards_of first known event values in
    let tables = guards_of first (facts_of c.args.facts.now) event values in
    c.meet_implies.ensures labels label
    (IsTableOfMeet-from_met labels tables c.guards_table.result (guards_have first event values known (facts_of c.args.facts.now) h) c.guards_table.ensures) has
