use Rattle.std.proofs.Common.{◌≡◌, ℕ, List, Err, ap, subst}
use Rattle.std.specs.Prelude.{IsErrOf}
use Rattle.dy_syntax.specs.Meaning.{file_of}
use Rattle.dy_parse.specs.Reading.{Reads}
use Rattle.dy_entry.specs.Meaning.{entries_of}
use Rattle.dy_core.specs.declared.books.Book.{Book}
use Rattle.dy_core.specs.declared.answers.OpenError.{OpenError}
use Rattle.dy_core.specs.declared.answers.OpenError.TheVariants.{BadInput}
use Rattle.dy_core.specs.Answers.{IsBadInput}
use Rattle.dy_core.proofs.Longer.{opening_book}
use Rattle.dy_core.proofs.books.Book.open.Goals as goal

same_error : (a b : OpenError) → IsErrOf {T = Book} (Err a) b → a ≡ b
same_error a b same = cc

pub returns-in-Err-clause-bad : goal.returns-in-Err-clause-bad
returns-in-Err-clause-bad c = λ line same.
    subst (λ (bytes : List ℕ). IsBadInput bytes line) c.as_slice.ensures.value (c.in-Err.ensures.bad line (ap Err (same_error c.in-Err.error (BadInput line) same)))

pub invariant_of-result-clause-holds : goal.invariant_of-result-clause-holds
invariant_of-result-clause-holds c =
    let bytes = c.args.input.items in
    let file = file_of c.in-Ok.file in
    let reads : Reads bytes file = subst (λ (b : List ℕ). Reads b file) c.as_slice.ensures.value c.in-Ok.ensures.file.reads in
    ∣ opening_book bytes file (entries_of c.in-Ok-setup_alone.entries.items) c.new.result.items c.in-Ok-setup_alone.ensures.trace c.new.ensures.items
    (c.opening_trace.ensures.interleaves bytes file reads c.in-Ok.ensures.file.well_formed) (c.opening_trace.ensures.short bytes) ∣₁
