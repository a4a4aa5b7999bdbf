-- Parts of a file that are within the limits.
use Rattle.std.proofs.Common.{ℕ, zero, suc, ◌≤◌, List, [], ◌∷◌, ◌++◌, length, ◌⊎◌, inl, inr, refl, arith}
use Rattle.std.specs.Prelude.{slice_get}
use Rattle.std.specs.Option.{option_to_list}
use Rattle.dy_parse.specs.declared.errors.LimitName.{LimitName}
use Rattle.dy_parse.specs.Limits.{Excess, IsIn, breaks}

abbrev pub excess_at : LimitName → ℕ → Excess
excess_at which line = record { which = which; line = line }

-- none of these is a limit that is broken
abbrev pub IsWithin : List Excess → Type 0
IsWithin excess = (which : LimitName) (line : ℕ) → IsIn (excess_at which line) excess → ⊥

pub in_either : (x : Excess) (xs ys : List Excess) → IsIn x (xs ++ ys) → IsIn x xs ⊎ IsIn x ys
in_either x [] ys is_in = inr is_in
in_either x (z ∷ xs) ys (inl here) = inl (inl here)
in_either x (z ∷ xs) ys (inr later) = elim (in_either x xs ys later) [ inl first ↦ inl (inr first) | inr second ↦ inr second ]

-- a list none of whose lines is the one after so many has no more
pub few_lines : (which : LimitName) (lines : List ℕ) (k : ℕ) → IsWithin (breaks which (option_to_list (slice_get lines k))) → length lines ≤ k
few_lines which [] k free = omega arith
few_lines which (line ∷ lines) zero free = absurd (free which line (inl refl))
few_lines which (line ∷ lines) (suc k) free = omega (arith, few_lines which lines k free)
