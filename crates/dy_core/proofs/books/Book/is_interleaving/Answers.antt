use Rattle.std.proofs.Common.{arith}
use Rattle.std.proofs.Math.Bridge.{le_prop}
use Rattle.std.proofs.Math.Logic.{∥∥₁_elim, ∥∥₁_prop}
use Rattle.std.proofs.lemmas.List.{length-map}
use Rattle.dy_entry.specs.Meaning.{entry_of}
use Rattle.dy_core.proofs.books.Book.is_interleaving.Goals as goal

pub returns-clause-interleaves : goal.returns-clause-interleaves
returns-clause-interleaves c = ∥∥₁_elim c.args.self.now.holds ∥∥₁_prop (λ book. ∣ (book.bytes, book.interleaves) ∣₁)

pub returns-clause-short : goal.returns-clause-short
returns-clause-short c = λ i step e at is. ∥∥₁_elim c.args.self.now.holds le_prop (λ book. book.short i step e at is)

pub returns-clause-few : goal.returns-clause-few
returns-clause-few c = let same = length-map c.args.self.now.entries.items entry_of in omega (arith, same, c.args.self.now.few)
