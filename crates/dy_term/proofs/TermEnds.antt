-- Where a term at the beginning of bytes ends.
use Rattle.std.proofs.Common.{◌≡◌, ℕ, ◌<◌, ◌≤◌, Bool, true, false, not, ◌==◌, List, [], ◌∷◌, ◌++◌, length, get_or, take, Some, None, refl, sym, ap, subst, ◌∙◌, inl, inr, arith}
use Rattle.std.proofs.lemmas.Bool.{cases_lt}
use Rattle.std.proofs.lemmas.Bool.Decides.{nat_tests}
use Rattle.std.proofs.lemmas.List.{append-nil, length-append, take_all}
use Rattle.dy_term.specs.Characters.{begins_with_word_byte, is_word, is_word_byte}
use Rattle.dy_term.specs.Terms.{Term}
use Rattle.dy_term.specs.TermReading.{IsTextOf, BeginsText, IsBadFrom, StartsWithTerm, StartsWithNone}
use Rattle.dy_term.specs.MirrorSteps.{State, Begun, Reading, Due, Constructor, Chars, At, Letters, Sharp, Digits, After, CommaDue, SpaceDue, ContextSpaceDue, ContextDue, ContextChars, Stops, state, step, run, start, end, goes_on, ends_before}
use Rattle.dy_term.proofs.TextReads.{reads}
use Rattle.dy_term.proofs.ReadTerms.{along, one_term, starts_with_none}

-- ---- the reader

-- a constructor is begun
some_begun : (maker : Begun) (begun : List Begun) → (length (maker ∷ begun) == 0) ≡ false
some_begun maker begun = grind (arith, nat_tests)

not_true : (a : Bool) → not a ≡ true → a ≡ false
not_true true h = absurd cc
not_true false h = refl

not_false : (a : Bool) → not a ≡ false → a ≡ true
not_false true h = refl
not_false false h = absurd cc

module _ (limit : ℕ) where
  -- where the term ends before a byte, nothing goes on with it
  ends_at : (reading : Reading) (begun : List Begun) (nodes b : ℕ) → ends_before (state reading begun nodes) b ≡ true → step limit (state reading begun nodes) b ≡ None
  ends_at (After part) [] nodes b ends = refl
  ends_at (Letters word) [] nodes b ends = rw (not_true (is_word (word ++ b ∷ [])) ends) refl
  ends_at (Digits number) [] nodes b ends = rw (not_true (goes_on number b) ends) refl
  ends_at Due [] nodes b ends = absurd cc
  ends_at (Constructor letters) [] nodes b ends = absurd cc
  ends_at (Chars text) [] nodes b ends = absurd cc
  ends_at At [] nodes b ends = absurd cc
  ends_at Sharp [] nodes b ends = absurd cc
  ends_at CommaDue [] nodes b ends = absurd cc
  ends_at SpaceDue [] nodes b ends = absurd cc
  ends_at (ContextSpaceDue key) [] nodes b ends = absurd cc
  ends_at (ContextDue key) [] nodes b ends = absurd cc
  ends_at (ContextChars key text) [] nodes b ends = absurd cc
  ends_at reading (maker ∷ begun) nodes b ends = let none : false ≡ true = rw (some_begun maker begun) at ends in absurd cc

  ends_here : (s : State) (b : ℕ) → ends_before s b ≡ true → step limit s b ≡ None
  ends_here s b ends = ends_at s.reading s.begun s.nodes b ends

  -- where it does not, and nothing goes on with the byte, no term was read whole
  bad_at : (reading : Reading) (begun : List Begun) (nodes b : ℕ) → ends_before (state reading begun nodes) b ≡ false → step limit (state reading begun nodes) b ≡ None → end limit (state reading begun nodes) ≡ None
  bad_at (After part) [] nodes b goes none = absurd cc
  bad_at (Letters word) [] nodes b goes none = let some = rw (not_false (is_word (word ++ b ∷ [])) goes) at none in absurd cc
  bad_at (Digits number) [] nodes b goes none = let some = rw (not_false (goes_on number b) goes) at none in absurd cc
  bad_at Due [] nodes b goes none = refl
  bad_at (Constructor letters) [] nodes b goes none = refl
  bad_at (Chars text) [] nodes b goes none = refl
  bad_at At [] nodes b goes none = refl
  bad_at Sharp [] nodes b goes none = refl
  bad_at CommaDue [] nodes b goes none = refl
  bad_at SpaceDue [] nodes b goes none = refl
  bad_at (ContextSpaceDue key) [] nodes b goes none = refl
  bad_at (ContextDue key) [] nodes b goes none = refl
  bad_at (ContextChars key text) [] nodes b goes none = refl
  bad_at reading (maker ∷ begun) nodes b goes none = rw (some_begun maker begun) refl

  -- before such a byte, the bytes begin with no term
  pub bad_here : (bytes : List ℕ) (at : ℕ) (s : State) → at < length bytes → run limit start (take at bytes) ≡ Some s → ends_before s (get_or bytes at 0) ≡ false → step limit s (get_or bytes at 0) ≡ None → StartsWithNone bytes at
  bad_here bytes at s within ran goes none =
      let stop : Stops limit bytes at s = record { within = omega arith; ran = ran; stops = λ inside. none } in
      starts_with_none limit bytes at s stop (bad_at s.reading s.begun s.nodes (get_or bytes at 0) goes none)

  pub stops_before : (bytes : List ℕ) (at : ℕ) (s : State) → at < length bytes → run limit start (take at bytes) ≡ Some s → ends_before s (get_or bytes at 0) ≡ true → Stops limit bytes at s
  stops_before bytes at s within ran ends = record { within = omega arith; ran = ran; stops = λ inside. ends_here s (get_or bytes at 0) ends }

  pub stops_at_end : (bytes : List ℕ) (at : ℕ) (s : State) → length bytes ≤ at → run limit start (take at bytes) ≡ Some s → Stops limit bytes (length bytes) s
  stops_at_end bytes at s over ran = record {
    within = omega arith;
    ran = ap (run limit start) (take_all (length bytes) bytes (omega arith) ∙ sym (take_all at bytes over)) ∙ ran;
    stops = λ inside. absurd (omega arith);
  }

-- ---- the definitions

-- a text begins one
begins_whole : (term : Term) (text : List ℕ) → IsTextOf term text → BeginsText text
begins_whole term text is = (term, [], rw append-nil is)

take_text : (text rest : List ℕ) → take (length text) (text ++ rest) ≡ text
take_text [] rest = refl
take_text (b ∷ text) rest = ap (λ (more : List ℕ). b ∷ more) (take_text text rest)

next_byte : (text rest : List ℕ) → get_or (text ++ rest) (length text) 0 ≡ get_or rest 0 0
next_byte [] rest = refl
next_byte (b ∷ text) rest = next_byte text rest

no_word_next : (rest : List ℕ) → begins_with_word_byte rest ≡ false → 0 < length rest → is_word_byte (get_or rest 0 0) ≡ false
no_word_next [] none some = absurd (omega arith)
no_word_next (b ∷ rest) none some = none

-- the text of a term ends where no letter, digit or `_` stands after it
pub text_ends : (term : Term) (text rest : List ℕ) → IsTextOf term text → begins_with_word_byte rest ≡ false → StartsWithTerm (text ++ rest) term (length text)
text_ends term text rest is none =
    let whole = reads 0 term is.made [] 0 in
    let same : take (length text) (text ++ rest) ≡ text = take_text text rest in
    let stop : Stops 0 (text ++ rest) (length text) whole.after = record {
      within = omega (arith, length-append text rest);
      ran = rw (same, is.spelled) whole.runs;
      stops = λ inside. rw (next_byte text rest) (whole.finishes.goes (get_or rest 0 0) (no_word_next rest none (omega (arith, inside, length-append text rest))));
    } in
    record { along = along 0 (text ++ rest) (length text) whole.after stop; text = rw same is }

no_longer : (bytes : List ℕ) (a b : Term) (m n : ℕ) → StartsWithTerm bytes a m → StartsWithTerm bytes b n → m < n → ⊥
no_longer bytes a b m n first second less = first.along.longest n less second.along.within (begins_whole b (take n bytes) second.text)

pub one_place : (bytes : List ℕ) (a b : Term) (m n : ℕ) → StartsWithTerm bytes a m → StartsWithTerm bytes b n → m ≡ n
one_place bytes a b m n first second =
    let below : m < n → ⊥ = no_longer bytes a b m n first second in
    let above : n < m → ⊥ = no_longer bytes b a n m second first in
    omega (arith, below, above)

pub one_start : (bytes : List ℕ) (a b : Term) (m n : ℕ) → StartsWithTerm bytes a m → StartsWithTerm bytes b n → a ≡ b
one_start bytes a b m n first second =
    let same = one_place bytes a b m n first second in
    one_term (take m bytes) a b first.text (rw same second.text)

-- a term that ends with the bytes is theirs
pub whole_bytes : (bytes : List ℕ) (term : Term) (end : ℕ) → end ≡ length bytes → StartsWithTerm bytes term end → IsTextOf term bytes
whole_bytes bytes term end all starts = subst (IsTextOf term) (take_all end bytes (omega (arith, all))) starts.text

-- bytes after a term make no text
pub bad_after : (bytes : List ℕ) (term : Term) (end : ℕ) → (end ≡ length bytes → ⊥) → StartsWithTerm bytes term end → IsBadFrom bytes end
bad_after bytes term end more starts = record {
  along = starts.along;
  no_text = λ other text. starts.along.longest (length bytes) (omega (arith, more, starts.along.within)) (omega arith) (begins_whole other (take (length bytes) bytes) (rw (take_all (length bytes) bytes (omega arith)) text));
}

-- bytes that begin with no term are no text
pub bad_bytes : (bytes : List ℕ) (at : ℕ) → StartsWithNone bytes at → IsBadFrom bytes at
bad_bytes bytes at starts = record { along = starts.along; no_text = none }
  where
    all : length bytes ≤ at → take at bytes ≡ bytes
    all over = take_all at bytes over

    none : (term : Term) → IsTextOf term bytes → ⊥
    none term text = elim (cases_lt at (length bytes)) [
      | inr over ↦ starts.no_text term (rw (all over) text)
      | inl less ↦ starts.along.longest (length bytes) less (omega arith) (begins_whole term (take (length bytes) bytes) (rw (take_all (length bytes) bytes (omega arith)) text))
    ]
