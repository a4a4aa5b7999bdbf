use Rattle.std.proofs.Common.{◌≡◌, ◌+◌, Some, None, ◌∷◌, [], ◌++◌, take, length, ◌∙◌, ap, sym, arith}
use Rattle.std.proofs.lemmas.List.{take_all}
use Rattle.dy_entry.specs.Meaning.{entry_of, entries_of}
use Rattle.dy_entry.specs.LookUps.{place_of_state}
use Rattle.dy_entry.specs.MirrorLookUps.{Candidate, earlier_of}
use Rattle.dy_entry.proofs.Traces.{one_more, length-prefix}
use Rattle.dy_entry.proofs.BestCandidates.{stands_still, stands_earlier_of, stands_as, next_of_best}
use Rattle.dy_entry.proofs.look_ups.find_state.Goals.{in-Some, in_default}
use Rattle.dy_entry.proofs.look_ups.find_state.Goals as goal

pub loop-index-preserved : goal.loop-index-preserved
loop-index-preserved c =
    let entries = c.args.entries.now in
    let index = c.loop-index.index in
    let T = entries_of (take index entries) in
    let e = entry_of c.index-entries-index.result in
    let p = c.args.principal.now in
    let tag = c.args.tag.now in
    let from = c.args.from in
    let found = c.loop-index.found in
    let more = one_more entries index c.index-entries-index.result c.loop-index-test.true c.index-entries-index.is in
    let length_is = length-prefix entries index (omega arith) in
    elim c.match-place_of_state.branch [
      | in-Some w ↦
          let at = w.in-Some.at in
          let stored : place_of_state p tag e ≡ Some at = sym c.place_of_state.ensures ∙ w.in-Some.is in
          let found_is : c.match-place_of_state.found ≡ earlier_of from found (length T, at) = w.found-is ∙ w.earlier_of-found.ensures ∙ ap (λ n. earlier_of from found (n, at)) (sym length_is) in
          stands_as (T ++ e ∷ []) (entries_of (take (index + 1) entries)) p tag from (earlier_of from found (length T, at)) c.match-place_of_state.found more found_is
          (stands_earlier_of T e p tag from at stored found c.loop-index.invariant)
      | in_default w ↦
          stands_as (T ++ e ∷ []) (entries_of (take (index + 1) entries)) p tag from found c.match-place_of_state.found more w.found-is
          (stands_still T e p tag from found c.loop-index.invariant (λ at s comes_after. w.in_default.not-Some at (c.place_of_state.ensures ∙ s)))
    ]

pub returns-in_err-index : goal.returns-in_err-index
returns-in_err-index c =
    let entries = c.args.entries.now in
    let all : take c.loop-index.index entries ≡ entries = take_all c.loop-index.index entries (omega arith) in
    rw c.from_residual.ensures (stands_as (entries_of (take c.loop-index.index entries)) (entries_of entries) c.args.principal.now c.args.tag.now c.args.from
    c.loop-index.found None (ap entries_of (sym all)) (sym c.in_err-index.was) c.loop-index.invariant)

pub returns : goal.returns
returns c =
    let entries = c.args.entries.now in
    let all : take c.loop-index.index entries ≡ entries = take_all c.loop-index.index entries (omega arith) in
    let found : Candidate = (c.in_ok-index.index, c.in_ok-index.field-0-1) in
    next_of_best (entries_of entries) c.args.principal.now c.args.tag.now c.args.from found
    (stands_as (entries_of (take c.loop-index.index entries)) (entries_of entries) c.args.principal.now c.args.tag.now c.args.from
    c.loop-index.found (Some found) (ap entries_of (sym all)) (sym c.in_ok-index.was) c.loop-index.invariant)
