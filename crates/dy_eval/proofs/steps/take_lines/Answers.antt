use Rattle.std.proofs.Common.{◌∙◌, ap, sym, map, drop, ◌+◌}
use Rattle.dy_eval.specs.Names.{Names}
use Rattle.dy_eval.specs.Runs.{runs}
use Rattle.dy_eval.specs.EffectMeaning.{as_effect}
use Rattle.dy_eval.specs.NamesMeaning.{names_of}
use Rattle.dy_eval.specs.LineMeaning.{line_of}
use Rattle.dy_eval.proofs.LinesTaken.{puts_next, writes_next, fails_next, none_next, keeps_more}
use Rattle.dy_eval.proofs.steps.take_lines.Goals as goal

pub returns-in-Puts-clause-next : goal.returns-in-Puts-clause-next
returns-in-Puts-clause-next g c =
    puts_next (g.P.Past.trace c.args.past.now) (names_of c.loop-at.names) c.args.first c.args.lines.now c.loop-at.at c.index-lines-at.result c.in-Puts.item c.in-Puts.binds
    c.loop-at-test.true c.index-lines-at.is (sym (ap as_effect c.in-Puts.is) ∙ c.in_ok-item.ensures)
    ∙ c.loop-at.invariant.0

pub returns-in-Fails-clause-next : goal.returns-in-Fails-clause-next
returns-in-Fails-clause-next g c =
    fails_next (g.P.Past.trace c.args.past.now) (names_of c.loop-at.names) c.args.first c.args.lines.now c.loop-at.at c.index-lines-at.result
    c.loop-at-test.true c.index-lines-at.is (sym (ap as_effect c.in-Fails.is) ∙ c.in_ok-item.ensures)
    ∙ c.loop-at.invariant.0

pub loop-at-preserved : goal.loop-at-preserved
loop-at-preserved g c =
    let X = g.P.Past.trace c.args.past.now in (
      ap (λ (n : Names). runs X n (c.args.first + (c.loop-at.at + 1)) (drop (c.loop-at.at + 1) (map line_of c.args.lines.now))) c.in_ok-append_written-in-Writes.ensures.ok
          ∙ writes_next X (names_of c.loop-at.names) c.args.first c.args.lines.now c.loop-at.at c.index-lines-at.result c.in-Writes.more.items
          c.loop-at-test.true c.index-lines-at.is (sym (ap as_effect c.in-Writes.is) ∙ c.in_ok-item.ensures)
          ∙ c.loop-at.invariant.0,
      keeps_more c.args.names.now c.loop-at.names c.append_written.new.names c.in-Writes.more.items c.loop-at.invariant.1 c.in_ok-append_written-in-Writes.ensures.ok,
    )

pub returns-clause-next : goal.returns-clause-next
returns-clause-next g c =
    none_next (g.P.Past.trace c.args.past.now) (names_of c.loop-at.names) (c.args.first + c.loop-at.at) c.args.lines.now c.loop-at.at c.loop-at-test.false
    ∙ c.loop-at.invariant.0
