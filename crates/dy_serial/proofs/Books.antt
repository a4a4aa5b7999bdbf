-- How a Book grows.
use Rattle.std.proofs.Common.{◌≡◌, List, [], ◌∷◌, ◌++◌, ap, sym, ◌∙◌, append_assoc}
use Rattle.std.proofs.lemmas.List.{append-nil}
use Rattle.dy_syntax.specs.Meaning.{file_of}
use Rattle.dy_entry.specs.Entries.{Entry}
use Rattle.dy_core.specs.declared.books.Book.{Book}
use Rattle.dy_core.specs.BookMeaning.{trace_of, StaysInterleaved}
use Rattle.dy_serial.specs.Running.{Begins, GrowsTo}

module _ (old new : Book) (file : new.file ≡ old.file) (interleaves : StaysInterleaved old new) where
  -- a Book whose trace is as it was
  pub grows_by_none : trace_of new ≡ trace_of old → GrowsTo old new
  grows_by_none same = record {
    file = ap file_of file;
    begins = ([], same ∙ sym (append-nil (trace_of old)));
    interleaves = interleaves;
  }

  -- a Book whose trace has one more entry
  pub grows_by_one : (e : Entry) → trace_of new ≡ trace_of old ++ e ∷ [] → GrowsTo old new
  grows_by_one e same = record {
    file = ap file_of file;
    begins = (e ∷ [], same);
    interleaves = interleaves;
  }

begins_then : (T U V : List Entry) → Begins T U → Begins U V → Begins T V
begins_then T U V first second = (first.0 ++ second.0, second.1 ∙ ap (λ (X : List Entry). X ++ second.0) first.1 ∙ append_assoc T first.0 second.0)

-- a Book that grows and grows again
pub grows_then : (old middle new : Book) → GrowsTo old middle → GrowsTo middle new → GrowsTo old new
grows_then old middle new first second = record {
  file = second.file ∙ first.file;
  begins = begins_then (trace_of old) (trace_of middle) (trace_of new) first.begins second.begins;
  interleaves = λ bytes old_is. second.interleaves bytes (first.interleaves bytes old_is);
}
