-- Lines that are taken, one after another.
use Rattle.std.proofs.Common.{◌≡◌, ◌∙◌, ap, sym, ℕ, ◌+◌, ◌<◌, ◌≤◌, Option, List, ◌∷◌, length, map, take, drop, get_or, arith}
use Rattle.std.specs.List.{drop-map}
use Rattle.std.proofs.lemmas.List.{drop_all, take-append-le, length-append}
use Rattle.std.proofs.Math.Seq.{take-length}
use Rattle.dy_label.specs.declared.usages.Outcome.TheVariants.{Done, Stopped}
use Rattle.dy_entry.specs.Entries.{Entry}
use Rattle.dy_eval.specs.declared.items.Item.{Item}
use Rattle.dy_eval.specs.declared.lines.Line as code
use Rattle.dy_eval.specs.declared.names.Names as code_names
use Rattle.dy_eval.specs.declared.written.Written.{Written}
use Rattle.dy_eval.specs.Doings as doings
use Rattle.dy_eval.specs.Names.{Names, write}
use Rattle.dy_eval.specs.Effects.{effect}
use Rattle.dy_eval.specs.Runs.{Puts, Ends, next_by, runs}
use Rattle.dy_eval.specs.NamesMeaning.{names_of}
use Rattle.dy_eval.specs.LineMeaning.{line_of}
use Rattle.dy_eval.specs.TakenMeaning.{KeepsWritten}
use Rattle.dy_eval.proofs.Drops.{drop_next}

lines_next : (lines : List code.Line) (i : ℕ) (line : code.Line) → i < length lines → line ≡ get_or lines i line
    → drop i (map line_of lines) ≡ line_of line ∷ drop (i + 1) (map line_of lines)
lines_next lines i line within is =
    drop-map line_of i lines ∙ ap (map line_of) (drop_next lines i line within is) ∙ ap (λ more. line_of line ∷ more) (sym (drop-map line_of (i + 1) lines))

line_taken : (X : List Entry) (names : Names) (number : ℕ) (lines : List code.Line) (i : ℕ) (line : code.Line) (done : doings.Effect)
    → i < length lines → line ≡ get_or lines i line → done ≡ effect X names (line_of line)
    → next_by done names number (drop (i + 1) (map line_of lines)) (λ then. runs X then (number + 1) (drop (i + 1) (map line_of lines)))
    ≡ runs X names number (drop i (map line_of lines))
line_taken X names number lines i line done within is done_is =
    ap (λ (e : doings.Effect). next_by e names number (drop (i + 1) (map line_of lines)) (λ then. runs X then (number + 1) (drop (i + 1) (map line_of lines)))) done_is
    ∙ sym (ap (runs X names number) (lines_next lines i line within is))

one_later : (first i : ℕ) → first + i + 1 ≡ first + (i + 1)
one_later first i = omega arith

-- a line that puts an item
pub puts_next : (X : List Entry) (names : Names) (first : ℕ) (lines : List code.Line) (i : ℕ) (line : code.Line) (item : Item) (binds : Option (List ℕ))
    → i < length lines → line ≡ get_or lines i line → doings.Puts item binds ≡ effect X names (line_of line)
    → Puts item binds (record { names = names; number = first + (i + 1); lines = drop (i + 1) (map line_of lines) }) ≡ runs X names (first + i) (drop i (map line_of lines))
puts_next X names first lines i line item binds within is done =
    sym (ap (λ number. Puts item binds (record { names = names; number = number; lines = drop (i + 1) (map line_of lines) })) (one_later first i))
    ∙ line_taken X names (first + i) lines i line (doings.Puts item binds) within is done

-- a line after which more is written
pub writes_next : (X : List Entry) (names : Names) (first : ℕ) (lines : List code.Line) (i : ℕ) (line : code.Line) (more : List Written)
    → i < length lines → line ≡ get_or lines i line → doings.Writes more ≡ effect X names (line_of line)
    → runs X (write names more) (first + (i + 1)) (drop (i + 1) (map line_of lines)) ≡ runs X names (first + i) (drop i (map line_of lines))
writes_next X names first lines i line more within is done =
    sym (ap (λ number. runs X (write names more) number (drop (i + 1) (map line_of lines))) (one_later first i))
    ∙ line_taken X names (first + i) lines i line (doings.Writes more) within is done

-- a line that fails
pub fails_next : (X : List Entry) (names : Names) (first : ℕ) (lines : List code.Line) (i : ℕ) (line : code.Line)
    → i < length lines → line ≡ get_or lines i line → doings.Fails ≡ effect X names (line_of line)
    → Ends (Stopped (first + i)) ≡ runs X names (first + i) (drop i (map line_of lines))
fails_next X names first lines i line within is done = line_taken X names (first + i) lines i line doings.Fails within is done

-- no line is left
pub none_next : (X : List Entry) (names : Names) (number : ℕ) (lines : List code.Line) (i : ℕ) → length lines ≤ i
    → Ends Done ≡ runs X names number (drop i (map line_of lines))
none_next X names number lines i past = sym (ap (runs X names number) (drop-map line_of i lines ∙ ap (map line_of) (drop_all i lines past)))

pub keeps_same : (old new : code_names.Names) → names_of new ≡ names_of old → KeepsWritten old new
keeps_same old new same = record {
  principal = ap (λ n. n.principal) same;
  session = ap (λ n. n.session) same;
  longer = omega (arith, ap (λ n. length n.written) same);
  written = ap (λ n. take (length old.written.items) n.written) same ∙ take-length old.written.items;
}

-- what is written after what was kept is after it too
pub keeps_more : (old between new : code_names.Names) (more : List Written) → KeepsWritten old between → names_of new ≡ write (names_of between) more → KeepsWritten old new
keeps_more old between new more keeps is =
    let longer : length old.written.items ≤ length between.written.items = keeps.longer in
    record {
      principal = ap (λ n. n.principal) is ∙ keeps.principal;
      session = ap (λ n. n.session) is ∙ keeps.session;
      longer = omega (arith, keeps.longer, ap (λ n. length n.written) is, length-append between.written.items more);
      written = ap (λ n. take (length old.written.items) n.written) is ∙ take-append-le (length old.written.items) between.written.items more longer ∙ keeps.written;
    }

pub keeps_as : (old between new : code_names.Names) → KeepsWritten old between → names_of new ≡ names_of between → KeepsWritten old new
keeps_as old between new keeps is = record {
  principal = ap (λ n. n.principal) is ∙ keeps.principal;
  session = ap (λ n. n.session) is ∙ keeps.session;
  longer = omega (arith, keeps.longer, ap (λ n. length n.written) is);
  written = ap (λ n. take (length old.written.items) n.written) is ∙ keeps.written;
}
