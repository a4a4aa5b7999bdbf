-- How marks grow, as moves are marked from the last on.
use Rattle.std.proofs.Common.{◌≡◌, ◌≢◌, ℕ, zero, suc, ◌+◌, ◌-◌, ◌<◌, ◌≤◌, ◌⊎◌, inl, inr, Bool, true, false, Some, List, [], ◌∷◌, map, length, get_or, refl, sym, ◌∙◌, ap, arith}
use Rattle.std.specs.Prelude.{slice_get, replicate, nat_lt}
use Rattle.std.proofs.lemmas.List.{get_or-set_other, get_or-set_same, get_or-replicate, get_or_past, length-replicate, length-set}
use Rattle.std.proofs.Math.ListN.{set}
use Rattle.std.proofs.lemmas.Bool.{cases_Bool, ltb-true, ltb-false}
use Rattle.dy_recipe.specs.Moves.{Move}
use Rattle.dy_recipe.specs.Trimming.{numbers_of}
use Rattle.dy_recipe.specs.MirrorTrimming.{IsMarked, IsNamedLater, AreClosedFrom, Marks}

one_of : (number other k : ℕ) → slice_get (number ∷ []) k ≡ Some other → number ≡ other
one_of number other zero at = cc
one_of number other (suc zero) at = absurd (cc)
one_of number other (suc (suc k)) at = absurd (cc)

-- nothing to mark
pub marks_none : (marks : List Bool) (number most : ℕ) → (0 < number → number ≤ most → most ≤ length marks → ⊥) → Marks marks marks most (number ∷ [])
marks_none marks number most none = record {
  each = refl;
  kept = λ place marked. marked;
  done = λ k other at some few fits. let is = one_of number other k at in absurd (none (omega (arith, is, some)) (omega (arith, is, few)) fits);
  only = λ place marked. inl marked;
}

same_or_not : (m n : ℕ) → (m ≡ n) ⊎ (m ≢ n)
same_or_not zero zero = inl refl
same_or_not zero (suc n) = inr (λ e. omega (arith, e))
same_or_not (suc m) zero = inr (λ e. omega (arith, e))
same_or_not (suc m) (suc n) = elim (same_or_not m n) [ inl e ↦ inl (ap suc e) | inr d ↦ inr (λ e. d (omega (arith, e))) ]

-- one mark
pub marks_one : (marks : List Bool) (number most : ℕ) → 0 < number → number ≤ most → number ≤ length marks → Marks marks (set marks (number - 1) true) most (number ∷ [])
marks_one marks number most some few fits = record {
  each = length-set marks (number - 1) true;
  kept = λ place marked. elim (same_or_not place (number - 1)) [
    | inl is ↦ ap (λ k. get_or (set marks (number - 1) true) k false) is ∙ get_or-set_same marks (number - 1) true false (omega (arith, some, fits))
    | inr other ↦ get_or-set_other marks (number - 1) place true false other ∙ marked
  ];
  done = λ k other at less within long.
      let is = one_of number other k at in
      ap (λ n. get_or (set marks (number - 1) true) (n - 1) false) (sym is) ∙ get_or-set_same marks (number - 1) true false (omega (arith, some, fits));
  only = λ place marked. elim (same_or_not place (number - 1)) [
    | inl is ↦ inr (omega (arith, is, some, few), (0, ap Some (omega (arith, is, some))))
    | inr other ↦ inl (sym (get_or-set_other marks (number - 1) place true false other) ∙ marked)
  ];
}

done_three : (m0 m1 m2 m3 : List Bool) (most a b c : ℕ) → Marks m0 m1 most (a ∷ []) → Marks m1 m2 most (b ∷ []) → Marks m2 m3 most (c ∷ [])
    → (k number : ℕ) → slice_get (a ∷ b ∷ c ∷ []) k ≡ Some number → 0 < number → number ≤ most → most ≤ length m0 → IsMarked m3 (number - 1)
done_three m0 m1 m2 m3 most a b c one two three zero number at some few fits = three.kept _ (two.kept _ (one.done 0 number at some few fits))
done_three m0 m1 m2 m3 most a b c one two three (suc zero) number at some few fits = three.kept _ (two.done 0 number at some few (omega (arith, one.each, fits)))
done_three m0 m1 m2 m3 most a b c one two three (suc (suc zero)) number at some few fits = three.done 0 number at some few (omega (arith, one.each, two.each, fits))
done_three m0 m1 m2 m3 most a b c one two three (suc (suc (suc zero))) number at some few fits = absurd (cc)
done_three m0 m1 m2 m3 most a b c one two three (suc (suc (suc (suc k)))) number at some few fits = absurd (cc)

-- three marks, one after another
pub marks_three : (m0 m1 m2 m3 : List Bool) (most a b c : ℕ) → Marks m0 m1 most (a ∷ []) → Marks m1 m2 most (b ∷ []) → Marks m2 m3 most (c ∷ []) → Marks m0 m3 most (a ∷ b ∷ c ∷ [])
marks_three m0 m1 m2 m3 most a b c one two three = record {
  each = three.each ∙ two.each ∙ one.each;
  kept = λ place marked. three.kept place (two.kept place (one.kept place marked));
  done = done_three m0 m1 m2 m3 most a b c one two three;
  only = λ place marked. elim (three.only place marked) [
    | inr here ↦ inr (here.0, (2, ap Some (one_of c (place + 1) here.1.0 here.1.1)))
    | inl before ↦ elim (two.only place before) [
      | inr here ↦ inr (here.0, (1, ap Some (one_of b (place + 1) here.1.0 here.1.1)))
      | inl first ↦ elim (one.only place first) [
        | inr here ↦ inr (here.0, (0, ap Some (one_of a (place + 1) here.1.0 here.1.1)))
        | inl old ↦ inl old
      ]
    ]
  ];
}

-- ---- from the last move on

unmarked : (n place : ℕ) → IsMarked (replicate n false) place → ⊥
unmarked n place marked =
    elim (cases_Bool (nat_lt place n)) [
      | inl less ↦ let is : get_or (replicate n false) place false ≡ false = get_or-replicate n place false false (ltb-true place n less) in cc
      | inr over ↦
          let is : get_or (replicate n false) place false ≡ false = get_or_past (replicate n false) place false (omega (arith, ltb-false place n over, length-replicate n false)) in cc
    ]

-- The last move alone is marked.
pub closed_first : (moves : List Move) (old new : List Bool) → old ≡ replicate (length moves) false → Marks old new (length moves) (length moves ∷ []) → AreClosedFrom (length moves) moves new
closed_first moves old new fresh marks =
    let none = λ (place : ℕ) (marked : IsMarked old place). unmarked (length moves) place (sym (ap (λ m. get_or m place false) fresh) ∙ marked) in
    let long : length old ≡ length moves = ap length fresh ∙ length-replicate (length moves) false in
    record {
      each = marks.each ∙ long;
      named = λ place move k number left stands marked at some few. elim (marks.only place marked) [
        | inl was ↦ absurd (none place was)
        | inr here ↦ let less = here.0 in absurd (omega (arith, less, left))
      ];
      last = λ some. marks.done 0 (length moves) refl some (omega arith) (omega (arith, long));
      needed = λ place marked less. elim (marks.only place marked) [
        | inl was ↦ absurd (none place was)
        | inr here ↦ let is = one_of (length moves) (place + 1) here.1.0 here.1.1 in absurd (omega (arith, is, less))
      ];
    }

later_marks : (moves : List Move) (old new : List Bool) (place : ℕ) → ((p : ℕ) → IsMarked old p → IsMarked new p) → IsNamedLater moves old place → IsNamedLater moves new place
later_marks moves old new place kept named = record { later = named.later; move = named.move; after = named.after; marked = kept named.later named.marked; stands = named.stands; names = named.names }

-- One move more, which is marked.
pub closed_marked : (moves : List Move) (old new : List Bool) (place : ℕ) (move : Move) → slice_get moves place ≡ Some move → IsMarked old place → place < length moves
    → AreClosedFrom (place + 1) moves old → Marks old new place (numbers_of move) → AreClosedFrom place moves new
closed_marked moves old new here move stands is_marked within closed marks = record {
  each = marks.each ∙ closed.each;
  named = λ place m k number left at marked names some few. elim (same_or_not place here) [
    | inl same ↦
        let is : Some m ≡ Some move = sym at ∙ ap (slice_get moves) same ∙ stands in
        let one : m ≡ move = cc in
        marks.done k number (ap (λ x. slice_get (numbers_of x) k) (sym one) ∙ names) some (omega (arith, same, few)) (omega (arith, closed.each, within))
    | inr other ↦ elim (marks.only place marked) [
      | inl was ↦ marks.kept (number - 1) (closed.named place m k number (omega (arith, left, other)) at was names some few)
      | inr new_one ↦ let less = new_one.0 in absurd (omega (arith, less, left))
    ]
  ];
  last = λ some. marks.kept _ (closed.last some);
  needed = λ place marked less. elim (marks.only place marked) [
    | inl was ↦ later_marks moves old new place marks.kept (closed.needed place was less)
    | inr new_one ↦ record { later = here; move = move; after = new_one.0; marked = marks.kept here is_marked; stands = stands; names = new_one.1 }
  ];
}

-- One move more, which is not marked.
pub closed_unmarked : (moves : List Move) (marks : List Bool) (place : ℕ) → get_or marks place false ≡ false → AreClosedFrom (place + 1) moves marks → AreClosedFrom place moves marks
closed_unmarked moves marks here unmarked closed = record {
  each = closed.each;
  named = λ place m k number left at marked names some few. elim (same_or_not place here) [
    | inl same ↦ let is : get_or marks place false ≡ false = ap (λ p. get_or marks p false) same ∙ unmarked in absurd (cc)
    | inr other ↦ closed.named place m k number (omega (arith, left, other)) at marked names some few
  ];
  last = closed.last;
  needed = closed.needed;
}

pub get_map : {A : Type 0} (f : A → Move) (xs : List A) (k : ℕ) (x : A) → slice_get xs k ≡ Some x → slice_get (map f xs) k ≡ Some (f x)
get_map f [] k x at = absurd (cc)
get_map f (y ∷ xs) zero x at = let is : y ≡ x = cc in ap (λ z. Some (f z)) is
get_map f (y ∷ xs) (suc k) x at = get_map f xs k x at

pub other_default : (xs : List Bool) (i : ℕ) (d e : Bool) → i < length xs → get_or xs i d ≡ get_or xs i e
other_default [] i d e less = absurd (omega (arith, less))
other_default (x ∷ xs) zero d e less = refl
other_default (x ∷ xs) (suc i) d e less = other_default xs i d e (omega (arith, less))
