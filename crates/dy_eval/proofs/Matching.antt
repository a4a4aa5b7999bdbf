-- Patterns beside fields, from one place on.
use Rattle.std.proofs.Common.{◌≡◌, ℕ, ◌+◌, ◌<◌, Bool, true, false, List, [], ◌∷◌, ◌++◌, map, drop, length, get_or, append_assoc, arith, refl, ◌&&◌}
use Rattle.dy_term.specs.Terms.{Term}
use Rattle.dy_syntax.specs.Statements.{Pattern}
use Rattle.dy_eval.specs.declared.written.Written.{Written}
use Rattle.dy_eval.specs.Names.{Names}
use Rattle.dy_eval.specs.Patterns.{fits_one, fits, written_by_one, written_by}
use Rattle.dy_eval.proofs.Drops.{drop_next}

-- patterns and fields fit where they are as many
pub as_many : (names : Names) (patterns : List Pattern) (fields : List Term) → fits names patterns fields ≡ true → length patterns ≡ length fields
as_many names [] [] fit = refl
as_many names [] (field ∷ fields) fit = grind arith
as_many names (pattern ∷ patterns) [] fit = grind arith
as_many names (pattern ∷ patterns) (field ∷ fields) fit = grind (arith, as_many names patterns fields)

pub other_number : (names : Names) (patterns : List Pattern) (fields : List Term) → (length patterns ≡ length fields → ⊥) → false ≡ fits names patterns fields
other_number names patterns fields other = grind (arith, as_many names patterns fields)

pub fits_from : {A B : Type 0} (names : Names) (f : A → Pattern) (g : B → Term) (ps : List A) (fs : List B) (i : ℕ) (p : A) (x : B) (test : Bool)
    → i < length ps → i < length fs → p ≡ get_or ps i p → x ≡ get_or fs i x → test ≡ fits_one names (f p) (g x)
    → fits names (map f (drop i ps)) (map g (drop i fs)) ≡ (test && fits names (map f (drop (i + 1) ps)) (map g (drop (i + 1) fs)))
fits_from names f g ps fs i p x test in_ps in_fs p_is x_is test_is =
    rw (drop_next ps i p in_ps p_is, drop_next fs i x in_fs x_is, test_is) refl

pub written_from : {A B : Type 0} (f : A → Pattern) (g : B → Term) (ps : List A) (fs : List B) (i : ℕ) (p : A) (x : B) (made : List Written)
    → i < length ps → i < length fs → p ≡ get_or ps i p → x ≡ get_or fs i x
    → (made ++ written_by_one (f p) (g x)) ++ written_by (map f (drop (i + 1) ps)) (map g (drop (i + 1) fs))
    ≡ made ++ written_by (map f (drop i ps)) (map g (drop i fs))
written_from f g ps fs i p x made in_ps in_fs p_is x_is =
    rw (drop_next ps i p in_ps p_is, drop_next fs i x in_fs x_is) (append_assoc made (written_by_one (f p) (g x)) _)
