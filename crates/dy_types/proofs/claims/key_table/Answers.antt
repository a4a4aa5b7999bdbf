use Rattle.std.proofs.Common.{◌≡◌, ◌+◌, take, Option, Some, None, sym, ap, ◌∙◌}
use Rattle.std.specs.Option.{option_copied}
use Rattle.dy_types.specs.Meaning.{use_of, claim_of, claims_of}
use Rattle.dy_types.specs.MirrorMeets.{key_label, key_labels}
use Rattle.dy_types.proofs.Steps.{filter_map_more}
use Rattle.dy_types.proofs.MeetLaws.{met_more, met_same}
use Rattle.dy_types.proofs.claims.key_table.Goals as goal
use Rattle.dy_types.proofs.claims.key_table.Goals.{in-Some, in_default}

pub loop-claim-preserved : goal.loop-claim-preserved
loop-claim-preserved c =
    let claims = c.args.claims.now in
    let i = c.loop-claim.claim-index in
    let pick = key_label c.args.side (use_of c.args.usage.now) in
    let before = key_labels c.args.side (claims_of (take i claims)) (use_of c.args.usage.now) in
    let tables = key_labels c.args.side (claims_of (take (i + 1) claims)) (use_of c.args.usage.now) in
    let more = filter_map_more pick claim_of claims i c.claim-item.result c.loop-claim-test.true c.claim-item.is in
    let met = c.match-table_for.met in
    elim c.match-table_for.branch [
      | in-Some w ↦
          met_more before tables (pick (claim_of c.claim-item.result)) w.in-Some.table.now met more
          (sym c.table_for.ensures ∙ ap option_copied w.in-Some.is)
          (rw w.met-is (w.meet_with.ensures before c.loop-claim.invariant))
      | in_default w ↦
          met_same before tables (pick (claim_of c.claim-item.result)) met more
          (sym c.table_for.ensures ∙ ap option_copied w.in_default.is)
          (rw w.met-is c.loop-claim.invariant)
    ]
