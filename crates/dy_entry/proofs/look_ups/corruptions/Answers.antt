use Rattle.std.proofs.Common.{◌≡◌, ◌∷◌, [], ◌++◌, ◌∙◌, ap, arith}
use Rattle.std.proofs.lemmas.List.{map-append, append-nil}
use Rattle.std.proofs.lemmas.List.Elements.{filter_map-append}
use Rattle.std.proofs.lemmas.Grind.{common_steps}
use Rattle.dy_label.specs.LabelsMeaning.{place_of_corruption}
use Rattle.dy_entry.proofs.Traces.{one_more, takes_nothing}
use Rattle.dy_entry.proofs.look_ups.corruptions.Goals.{in-Corrupt+in_ok-push, in_default}
use Rattle.dy_entry.proofs.look_ups.corruptions.Goals as goal

pub loop-entry-preserved : goal.loop-entry-preserved
loop-entry-preserved c =
    let more = one_more c.args.entries.now c.loop-entry.entry-index c.entry-item.result c.loop-entry-test.true c.entry-item.is in
    rw more (rw filter_map-append (elim c.match-entry.branch [
      | in-Corrupt+in_ok-push w ↦
          let pushed : c.match-entry.found.items ≡ c.loop-entry.found.items ++ w.in-Corrupt.corruption ∷ [] =
          grind (arith, common_steps, w.in_ok-push.ensures, w.copy.ensures, w.found-is) in
          rw (pushed, w.in-Corrupt.is) (map-append place_of_corruption c.loop-entry.found.items (w.in-Corrupt.corruption ∷ [])
          ∙ ap (λ before. before ++ place_of_corruption w.in-Corrupt.corruption ∷ []) c.loop-entry.invariant)
      | in_default w ↦
          rw (w.found-is, takes_nothing c.entry-item.result w.in_default.not-Corrupt, append-nil) c.loop-entry.invariant
    ]))
