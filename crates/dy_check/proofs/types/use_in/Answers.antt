use Rattle.std.proofs.Common.{◌≡◌, ◌++◌, ◌∷◌, [], ℕ, List, Option, map, take, sym, ap, ◌∙◌}
use Rattle.std.specs.List.{filter_map, cons_option}
use Rattle.std.proofs.lemmas.List.{append-nil}
use Rattle.dy_syntax.specs.Meaning.{nm_of}
use Rattle.dy_types.proofs.Steps.{filter_map_more}
use Rattle.dy_check.specs.MirrorNames.{numbers_of}
use Rattle.dy_check.proofs.types.use_in.Goals as goal
use Rattle.dy_check.proofs.types.use_in.Goals.{in-Some+in_ok-push, in_default}

pub loop-arg-preserved : goal.loop-arg-preserved
loop-arg-preserved c =
    let pick = numbers_of c.args.naming.now in
    let items = c.as_slice-arg-items.result.now in
    let i = c.loop-arg.arg-index in
    let before = filter_map pick (map nm_of (take i items)) in
    let more = filter_map_more pick nm_of items i c.arg-item.result c.loop-arg-test.true c.arg-item.is in
    let found : pick (nm_of c.arg-item.result) ≡ c.number.result = sym (c.number.ensures.number ∙ ap pick c.of.ensures) in
    let joined = λ (one : Option ℕ). before ++ cons_option one [] in
    elim c.match-number.branch [
      | in-Some+in_ok-push w ↦
          w.args-is ∙ w.in_ok-push.ensures.ok ∙ ap (λ (args : List ℕ). args ++ w.in-Some.number ∷ []) c.loop-arg.invariant
          ∙ ap joined (sym (found ∙ w.in-Some.is)) ∙ sym more
      | in_default w ↦ w.args-is ∙ c.loop-arg.invariant ∙ sym (append-nil before) ∙ ap joined (sym (found ∙ w.in_default.is)) ∙ sym more
    ]
