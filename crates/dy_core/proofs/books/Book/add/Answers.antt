use Rattle.std.proofs.Math.Logic.{∥∥₁_elim, ∥∥₁_prop}
use Rattle.std.specs.Result.{is_ok}
use Rattle.dy_syntax.specs.Meaning.{file_of}
use Rattle.dy_entry.specs.Meaning.{entry_of, entries_of}
use Rattle.dy_core.proofs.Longer.{book_with_other, grown, grown_interleaving}
use Rattle.dy_core.proofs.books.Book.add.Goals as goal

pub invariant_of-self-clause-holds : goal.invariant_of-self-clause-holds
invariant_of-self-clause-holds c =
    let file = file_of c.args.self.now.file in
    let entries = c.args.self.now.entries.items in
    let T = entries_of entries in
    let e = entry_of c.args.entry in
    ∥∥₁_elim c.args.self.now.holds ∥∥₁_prop (λ book. ∣ grown file entries c.push.new.self.items c.args.entry c.args.self.now.running.items (is_ok c.push.result) c.push.ensures.items
    (book_with_other T e file c.args.self.now.running.items c.requires.other (λ bytes is_one. c.a_longer_interleaving.ensures.longer bytes file T e is_one c.requires.follows)
    (λ short. c.a_longer_short_trace.ensures T e short c.requires.low)) book ∣₁)

pub returns-clause-interleaves : goal.returns-clause-interleaves
returns-clause-interleaves c = λ bytes is_one.
    let file = file_of c.args.self.now.file in
    let entries = c.args.self.now.entries.items in
    grown_interleaving bytes file entries c.push.new.self.items c.args.entry (is_ok c.push.result) c.push.ensures.items
    (c.a_longer_interleaving.ensures.longer bytes file (entries_of entries) (entry_of c.args.entry) is_one c.requires.follows) is_one
