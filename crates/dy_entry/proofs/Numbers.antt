-- Entries that pass a test, and the number of one among them.
use Rattle.std.proofs.Common.{◌≡◌, ℕ, ◌+◌, ◌≤◌, ◌<◌, Bool, true, cond, Some, List, [], ◌∷◌, map, take, length, get_or, refl, ap, sym, ◌∙◌, arith}
use Rattle.std.specs.List.{slice_get, count_by}
use Rattle.std.specs.Option.{option_map}
use Rattle.std.proofs.lemmas.List.{take-map}
use Rattle.std.proofs.lemmas.List.Sums.{sum_by-cons, sum_by_more_le}
use Rattle.std.proofs.lemmas.Option.{slice_get-map, slice_get_read, slice_get_within, get_or_from_slice_get}
use Rattle.dy_entry.specs.Entries.{Entry}
use Rattle.dy_entry.specs.declared.entries.Entry as declared
use Rattle.dy_entry.specs.Meaning.{entry_of, entries_of}
use Rattle.dy_entry.specs.LookUps.{IsNth, HasNoNth}

pub count_by-map : {X Y : Type 0} (f : X → Y) (test : Y → Bool) (xs : List X) → count_by test (map f xs) ≡ count_by (λ x. test (f x)) xs
count_by-map f test [] = refl
count_by-map f test (x ∷ xs) =
    sum_by-cons (λ y. cond (test y) 1 0) (f x) (map f xs)
    ∙ ap (λ n. cond (test (f x)) 1 0 + n) (count_by-map f test xs)
    ∙ sym (sum_by-cons (λ y. cond (test (f y)) 1 0) x xs)

with_one : (before this all : ℕ) → this ≡ 1 → before + this ≤ all → before + 1 ≤ all
with_one before this all one within = omega arith

-- so many entries of the code stand before an index
pub counted_before : (test : Entry → Bool) (entries : List declared.Entry) (index : ℕ)
    → count_by test (take index (entries_of entries)) ≡ count_by (λ x. test (entry_of x)) (take index entries)
counted_before test entries index = ap (count_by test) (take-map entry_of index entries) ∙ count_by-map entry_of test (take index entries)

module _ (test : Entry → Bool) where
  -- fewer stand before one of them than there are
  fewer_before : (T : List Entry) (index : ℕ) (e : Entry) → slice_get T index ≡ Some e → test e ≡ true
      → count_by test (take index T) + 1 ≤ count_by test T
  fewer_before T index e at passes =
      with_one (count_by test (take index T)) (cond (test (get_or T index e)) 1 0) (count_by test T)
      (rw (get_or_from_slice_get T index e e at, passes) refl)
      (sum_by_more_le (λ x. cond (test x) 1 0) T index e (slice_get_within T index e at))

  -- Where fewer entries pass, none has this number.
  pub none_has_number : (T : List Entry) (number : ℕ) → count_by test T < number → HasNoNth test T number
  none_has_number T number fewer = λ index nth.
      let before = fewer_before T index nth.entry nth.stands nth.passes in
      let number_is = nth.number_is in
      omega arith

  -- An entry of the code's trace that passes has this number where so many stand before it.
  pub nth_is_found : (entries : List declared.Entry) (number index : ℕ) (x : declared.Entry) → index < length entries → x ≡ get_or entries index x
      → test (entry_of x) ≡ true → count_by (λ e. test (entry_of e)) (take index entries) + 1 ≡ number → IsNth test (entries_of entries) number index
  nth_is_found entries number index x within at passes number_is = record {
    entry = entry_of x;
    stands = slice_get-map entry_of entries index ∙ ap (option_map entry_of) (slice_get_read entries (length entries) index x refl within at);
    passes = passes;
    number_is = ap (λ n. n + 1) (counted_before test entries index) ∙ number_is;
  }
