-- What was found so far is what a look-up prefers, as the trace grows at its end.
use Rattle.std.proofs.Common.{◌≡◌, ℕ, ◌≤◌, Bool, true, false, ◌&&◌, Option, Some, None, List, [], ◌∷◌, ◌++◌, ◌⊎◌, inl, inr, if◌then◌else◌, length, refl, ap, ◌∙◌, arith}
use Rattle.std.proofs.lemmas.Option.{slice_get_within}
use Rattle.std.proofs.lemmas.Bool.Decides.{nat_tests}
use Rattle.dy_entry.specs.Entries.{Entry}
use Rattle.dy_entry.specs.LookUps.{place_of_state, Fits, IsNext, HasNoNext}
use Rattle.dy_label.specs.StateOrder.{comes_before, is_after}
use Rattle.dy_entry.specs.MirrorLookUps.{Candidate, earlier_of}
use Rattle.dy_entry.proofs.Traces.{slice_get-prefix, slice_get-end, slice_get_split}

-- The candidate fits, no other comes before it, and none that fits alike has a smaller index.
pub record IsBest (T : List Entry) (principal tag : List ℕ) (from : Option (ℕ × ℕ)) (found : Candidate) : Type 0 where
  pub fits : Fits T principal tag from found.0 found.1
  pub first : (other : ℕ) (other_at : ℕ × ℕ) → Fits T principal tag from other other_at → comes_before other_at found.1 ≡ false
  pub least : (other : ℕ) → Fits T principal tag from other found.1 → found.0 ≤ other

-- What was found is the best candidate, or there is none.
abbrev pub Stands : List Entry → List ℕ → List ℕ → Option (ℕ × ℕ) → Option Candidate → Type 0
Stands T principal tag from None = HasNoNext T principal tag from
Stands T principal tag from (Some found) = IsBest T principal tag from found

same_not_before : (at : ℕ × ℕ) → comes_before at at ≡ false
same_not_before (s, v) = grind (arith, nat_tests)

before_before : (a b c : ℕ × ℕ) → comes_before a b ≡ true → comes_before b c ≡ true → comes_before a c ≡ true
before_before (s, v) (t, w) (u, x) = grind (arith, nat_tests)

-- what does not come before a place comes before none that stands before it
not_before : (other at found : ℕ × ℕ) → comes_before at found ≡ true → comes_before other found ≡ false → comes_before other at ≡ false
not_before other at found before after = by_cases (comes_before other at) refl where
  by_cases : (b : Bool) → comes_before other at ≡ b → comes_before other at ≡ false
  by_cases true e = let chain : comes_before other found ≡ true = before_before other at found e before in absurd (cc)
  by_cases false e = e

module _ (T : List Entry) (e : Entry) (principal tag : List ℕ) (from : Option (ℕ × ℕ)) where
  abbrev IsLast : ℕ → ℕ × ℕ → Type 0
  IsLast index at = (index ≡ length T) × (place_of_state principal tag e ≡ Some at) × (is_after from at ≡ true)

  fits_still : (index : ℕ) (at : ℕ × ℕ) → Fits T principal tag from index at → Fits (T ++ e ∷ []) principal tag from index at
  fits_still index at f = (f.0, slice_get-prefix T (e ∷ []) index f.0 f.1, f.2, f.3)

  fits_split : (index : ℕ) (at : ℕ × ℕ) → Fits (T ++ e ∷ []) principal tag from index at → Fits T principal tag from index at ⊎ IsLast index at
  fits_split index at f =
      elim (slice_get_split T e f.0 index f.1) [ inl before ↦ inl (f.0, before, f.2, f.3) | inr last ↦ inr (last.0, ap (place_of_state principal tag) last.1 ∙ f.2, f.3) ]

  -- An entry that does not fit changes nothing.
  pub stands_still : (found : Option Candidate) → Stands T principal tag from found → ((at : ℕ × ℕ) → place_of_state principal tag e ≡ Some at → is_after from at ≡ true → ⊥)
      → Stands (T ++ e ∷ []) principal tag from found
  stands_still None none other = λ index at f. elim (fits_split index at f) [ inl before ↦ none index at before | inr last ↦ other at last.1 last.2 ]
  stands_still (Some found) best other = record {
    fits = fits_still found.0 found.1 best.fits;
    first = λ index at f. elim (fits_split index at f) [ inl before ↦ best.first index at before | inr last ↦ absurd (other at last.1 last.2) ];
    least = λ index f. elim (fits_split index found.1 f) [ inl before ↦ best.least index before | inr last ↦ absurd (other found.1 last.1 last.2) ];
  }

  module _ (at : ℕ × ℕ) (stored : place_of_state principal tag e ≡ Some at) where
    same_place : (other : ℕ × ℕ) → place_of_state principal tag e ≡ Some other → other ≡ at
    same_place other s = cc

    -- The last entry is the best where those that come before it do not fit, nor those that are alike.
    last_is_best : is_after from at ≡ true → ((index : ℕ) (other : ℕ × ℕ) → Fits T principal tag from index other → comes_before other at ≡ false)
        → ((index : ℕ) → Fits T principal tag from index at → ⊥) → IsBest (T ++ e ∷ []) principal tag from (length T, at)
    last_is_best comes_after first alike = record {
      fits = (e, slice_get-end T e, stored, comes_after);
      first = λ index other f. elim (fits_split index other f) [ inl before ↦ first index other before | inr last ↦ ap (λ place. comes_before place at) (same_place other last.1) ∙ same_not_before at ];
      least = λ index f. elim (fits_split index at f) [ inl before ↦ absurd (alike index before) | inr last ↦ omega arith ];
    }

    after_none : (b : Bool) → is_after from at ≡ b → HasNoNext T principal tag from → Stands (T ++ e ∷ []) principal tag from (if b then Some (length T, at) else None)
    after_none true comes_after none = last_is_best comes_after (λ index other f. absurd (none index other f)) (λ index f. none index at f)
    after_none false comes_after none = stands_still None none (λ other s b. let same : other ≡ at = same_place other s in cc)

    earlier : (found : Candidate) → IsBest T principal tag from found → is_after from at ≡ true → comes_before at found.1 ≡ true → IsBest (T ++ e ∷ []) principal tag from (length T, at)
    earlier found best comes_after before =
        last_is_best comes_after
        (λ index other f. not_before other at found.1 before (best.first index other f))
        (λ index f. let first : comes_before at found.1 ≡ false = best.first index at f in cc)

    later : (found : Candidate) → IsBest T principal tag from found → comes_before at found.1 ≡ false → IsBest (T ++ e ∷ []) principal tag from found
    later found best after = record {
      fits = fits_still found.0 found.1 best.fits;
      first = λ index other f. elim (fits_split index other f) [ inl before ↦ best.first index other before | inr last ↦ ap (λ place. comes_before place found.1) (same_place other last.1) ∙ after ];
      least = λ index f. elim (fits_split index found.1 f) [ inl before ↦ best.least index before | inr last ↦ (let within = slice_get_within T found.0 _ best.fits.1 in omega arith) ];
    }

    after_some : (found : Candidate) (b c : Bool) → is_after from at ≡ b → comes_before at found.1 ≡ c → IsBest T principal tag from found
        → Stands (T ++ e ∷ []) principal tag from (if b && c then Some (length T, at) else Some found)
    after_some found true true comes_after before best = earlier found best comes_after before
    after_some found true false comes_after before best = later found best before
    after_some found false true comes_after before best = stands_still (Some found) best (λ other s b. let same : other ≡ at = same_place other s in cc)
    after_some found false false comes_after before best = later found best before

    pub stands_earlier_of : (found : Option Candidate) → Stands T principal tag from found → Stands (T ++ e ∷ []) principal tag from (earlier_of from found (length T, at))
    stands_earlier_of None none = after_none (is_after from at) refl none
    stands_earlier_of (Some found) best = after_some found (is_after from at) (comes_before at found.1) refl refl best

pub next_of_best : (T : List Entry) (principal tag : List ℕ) (from : Option (ℕ × ℕ)) (found : Candidate) → IsBest T principal tag from found → IsNext T principal tag from found.0
next_of_best T principal tag from found best = record { at = found.1; fits = best.fits; first = best.first; least = best.least }

-- the same trace and the same candidate, written otherwise
pub stands_as : (T U : List Entry) (principal tag : List ℕ) (from : Option (ℕ × ℕ)) (found other : Option Candidate) → U ≡ T → other ≡ found
    → Stands T principal tag from found → Stands U principal tag from other
stands_as T U principal tag from found other trace candidate stands = rw (trace, candidate) stands
