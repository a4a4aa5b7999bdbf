use Rattle.std.proofs.Common.{◌≡◌, List, sym, subst, IfOk, OnOk}
use Rattle.dy_entry.specs.Entries.{Entry}
use Rattle.dy_entry.specs.Meaning.{entry_of}
use Rattle.dy_eval.specs.Past.{HasEachVersionOnce}
use Rattle.dy_eval.specs.Meaning.{standing_of}
use Rattle.dy_eval.specs.Turns.{emit_of, next_asked, standing_after, HasRoomForVersions}
use Rattle.dy_core.proofs.Mapped.{take-map}
use Rattle.dy_core.proofs.advancing.take_turn.Goals as goal

pub next-requires-clause-once : goal.next-requires-clause-once
next-requires-clause-once c =
    subst (λ (X : List Entry). HasEachVersionOnce X) (sym (take-map entry_of c.args.kept.now.start c.args.entries.now)) c.requires.once

pub next-requires-clause-room : goal.next-requires-clause-room
next-requires-clause-room c =
    subst (λ (X : List Entry). HasRoomForVersions X) (sym (take-map entry_of c.args.kept.now.start c.args.entries.now)) c.requires.room

pub returns-clause-emit : goal.returns-clause-emit
returns-clause-emit c =
    let kept = c.args.kept.now in
    subst (λ (X : List Entry). IfOk c.next.result (λ emit. emit ≡ emit_of (next_asked X (standing_of kept.instance) kept.landed)))
    (take-map entry_of kept.start c.args.entries.now) c.next.ensures.emit

pub returns-clause-stands : goal.returns-clause-stands
returns-clause-stands c =
    let kept = c.args.kept.now in
    subst (λ (X : List Entry). OnOk c.next.result (standing_of c.next.new.self ≡ standing_after (next_asked X (standing_of kept.instance) kept.landed)))
    (take-map entry_of kept.start c.args.entries.now) c.next.ensures.stands
