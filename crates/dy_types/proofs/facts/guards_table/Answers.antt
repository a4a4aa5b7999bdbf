use Rattle.std.proofs.Common.{◌≡◌, ◌+◌, take, Option, Some, None, sym, ap, ◌∙◌}
use Rattle.std.specs.Option.{option_copied}
use Rattle.dy_types.specs.Facts.{guard_of, guards_of}
use Rattle.dy_types.specs.Meaning.{fact_of, facts_of}
use Rattle.dy_types.proofs.Steps.{filter_map_more}
use Rattle.dy_types.proofs.MeetLaws.{met_more, met_same}
use Rattle.dy_types.proofs.facts.guards_table.Goals as goal
use Rattle.dy_types.proofs.facts.guards_table.Goals.{in-Some, in_default}

pub loop-fact-preserved : goal.loop-fact-preserved
loop-fact-preserved c =
    let facts = c.args.facts.now in
    let i = c.loop-fact.fact-index in
    let pick = guard_of c.args.first.now c.args.event.now c.args.values.now in
    let before = guards_of c.args.first.now (facts_of (take i facts)) c.args.event.now c.args.values.now in
    let tables = guards_of c.args.first.now (facts_of (take (i + 1) facts)) c.args.event.now c.args.values.now in
    let more = filter_map_more pick fact_of facts i c.fact-item.result c.loop-fact-test.true c.fact-item.is in
    let met = c.match-guard_for.met in
    elim c.match-guard_for.branch [
      | in-Some w ↦
          met_more before tables (pick (fact_of c.fact-item.result)) w.in-Some.guard.now met more
          (sym c.guard_for.ensures ∙ ap option_copied w.in-Some.is)
          (rw w.met-is (w.meet_with.ensures before c.loop-fact.invariant))
      | in_default w ↦
          met_same before tables (pick (fact_of c.fact-item.result)) met more
          (sym c.guard_for.ensures ∙ ap option_copied w.in_default.is)
          (rw w.met-is c.loop-fact.invariant)
    ]
