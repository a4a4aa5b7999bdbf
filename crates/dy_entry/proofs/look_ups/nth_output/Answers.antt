use Rattle.std.proofs.Common.{◌≡◌, take, ◌∙◌, ap, sym, arith}
use Rattle.std.specs.List.{count_by}
use Rattle.std.proofs.lemmas.List.{take_all}
use Rattle.dy_entry.specs.Meaning.{entry_of, entries_of}
use Rattle.dy_entry.specs.MirrorLookUps.{is_output}
use Rattle.dy_entry.proofs.Numbers.{none_has_number, nth_is_found, count_by-map}
use Rattle.dy_entry.proofs.look_ups.nth_output.Goals as goal

pub returns-then-seen-before : goal.returns-then-seen-before
returns-then-seen-before c =
    nth_is_found (is_output c.args.output c.args.instance) c.args.entries.now c.args.number c.loop-index.index c.index-entries-index.result
    c.loop-index-test.true c.index-entries-index.is (sym c.if-is_output.ensures) (rw (← c.loop-index.invariant.counted) (omega arith))

pub returns : goal.returns
returns c =
    let test = is_output c.args.output c.args.instance in
    let entries = c.args.entries.now in
    let all : take c.loop-index.index entries ≡ entries = take_all c.loop-index.index entries (omega arith) in
    let counted : c.loop-index.seen ≡ count_by test (entries_of entries) =
    c.loop-index.invariant.counted ∙ ap (count_by (λ entry. test (entry_of entry))) all ∙ sym (count_by-map entry_of test entries) in
    let before = c.loop-index.invariant.before in
    none_has_number test (entries_of entries) c.args.number (omega arith)
