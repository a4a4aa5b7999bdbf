-- What the code keeps is the first of all faults of the file.
use Rattle.std.proofs.Common.{◌≡◌, ◌∙◌, sym, ap, subst, refl, ℕ, ◌<◌, ◌≤◌, ◌⊎◌, inl, inr, Bool, true, false, ◌&&◌, ◌||◌, ◌==◌, Option, Some, None, List, [], ◌∷◌, ◌++◌, cond, arith}
use Rattle.std.specs.Prelude.{nat_lt}
use Rattle.std.specs.List.{flat_map}
use Rattle.std.proofs.lemmas.Bool.{ltb-true, ltb-false, eqb-true, eqb-false}
use Rattle.dy_syntax.specs.Files.{File}
use Rattle.dy_syntax.specs.Scopes.{Scope}
use Rattle.dy_syntax.specs.Parts.{Part}
use Rattle.dy_syntax.specs.Places.{Place, places_in}
use Rattle.dy_syntax.specs.Rules.{Fault, faults_of, faults_at, IsIn, Breaks, IsWellFormed, IsFirst}
use Rattle.dy_syntax.specs.MirrorFaults.{is_before, note, note_lines, note_part, note_places}

-- with all of these faults
abbrev note_all : List Fault → Option Fault → Option Fault
note_all [] least = least
note_all (fault ∷ faults) least = note_all faults (note fault least)

note_all_append : (xs ys : List Fault) (least : Option Fault) → note_all (xs ++ ys) least ≡ note_all ys (note_all xs least)
note_all_append [] ys least = refl
note_all_append (x ∷ xs) ys least = note_all_append xs ys (note x least)

note_lines_all : (rule : ℕ) (lines : List ℕ) (least : Option Fault) → note_lines rule lines least ≡ note_all (faults_of rule lines) least
note_lines_all rule [] least = refl
note_lines_all rule (line ∷ lines) least = note_lines_all rule lines (note (record { line = line; rule = rule }) least)

note_part_all : (file : File) (scope : Scope) (part : Part) (least : Option Fault)
    → note_part file scope part least ≡ note_all (faults_at file (record { scope = scope; part = part })) least
unfolding note_part
note_part_all file scope part least = simp (note_all_append, note_lines_all)

note_places_all : (file : File) (places : List Place) (least : Option Fault) → note_places file places least ≡ note_all (flat_map (faults_at file) places) least
note_places_all file [] least = refl
note_places_all file (place ∷ places) least =
    note_places_all file places (note_part file place.scope place.part least)
    ∙ ap (note_all (flat_map (faults_at file) places)) (note_part_all file place.scope place.part least)
    ∙ sym (note_all_append (faults_at file place) (flat_map (faults_at file) places) least)

-- the first fault comes not after the second
IsNotAfter : Fault → Fault → Type 0
IsNotAfter a b = (a.line < b.line) ⊎ ((a.line ≡ b.line) × (a.rule ≤ b.rule))

not_after_itself : (a : Fault) → IsNotAfter a a
unfolding IsNotAfter
not_after_itself a = inr (refl, omega arith)

not_after_through : (a b c : Fault) → IsNotAfter a b → IsNotAfter b c → IsNotAfter a c
unfolding IsNotAfter
not_after_through a b c (inl l) (inl m) = inl (omega arith)
not_after_through a b c (inl l) (inr m) = inl (omega (arith, m.0))
not_after_through a b c (inr l) (inl m) = inl (omega (arith, l.0))
not_after_through a b c (inr l) (inr m) = inr (l.0 ∙ m.0, omega (arith, l.1, m.1))

from_before : (a b : Fault) → is_before a b ≡ true → IsNotAfter a b
unfolding IsNotAfter
from_before a b h = go (nat_lt a.line b.line) (a.line == b.line) (nat_lt a.rule b.rule) refl refl refl h
  where
    go : (p q r : Bool) → nat_lt a.line b.line ≡ p → (a.line == b.line) ≡ q → nat_lt a.rule b.rule ≡ r → (p || (q && r)) ≡ true
        → (a.line < b.line) ⊎ ((a.line ≡ b.line) × (a.rule ≤ b.rule))
    go true q r e f g t = inl (ltb-true a.line b.line e)
    go false true true e f g t = inr (eqb-true a.line b.line f, omega (arith, ltb-true a.rule b.rule g))
    go false true false e f g t = absurd (cc)
    go false false r e f g t = absurd (cc)

from_not_before : (a b : Fault) → is_before a b ≡ false → IsNotAfter b a
unfolding IsNotAfter
from_not_before a b h = go (nat_lt a.line b.line) (a.line == b.line) (nat_lt a.rule b.rule) refl refl refl h
  where
    go : (p q r : Bool) → nat_lt a.line b.line ≡ p → (a.line == b.line) ≡ q → nat_lt a.rule b.rule ≡ r → (p || (q && r)) ≡ false
        → (b.line < a.line) ⊎ ((b.line ≡ a.line) × (b.rule ≤ a.rule))
    go true q r e f g t = absurd (cc)
    go false true true e f g t = absurd (cc)
    go false true false e f g t = inr (sym (eqb-true a.line b.line f), ltb-false a.rule b.rule g)
    go false false r e f g t = inl (omega (arith, ltb-false a.line b.line e, eqb-false a.line b.line f))

-- a fault among these or the one at the start, and none of them before it
record IsLeast (start : Option Fault) (faults : List Fault) (least : Fault) : Type 0 where
  among : (start ≡ Some least) ⊎ IsIn least faults
  of_start : (s : Fault) → start ≡ Some s → IsNotAfter least s
  of_list : (f : Fault) → IsIn f faults → IsNotAfter least f

least_none : (x : Fault) (xs : List Fault) (f : Fault) → IsLeast (Some x) xs f → IsLeast None (x ∷ xs) f
least_none x xs f rest =
    record {
      among = elim rest.among as (λ _. (None ≡ Some f) ⊎ IsIn f (x ∷ xs)) [ inl e ↦ inr (inl (cc)) | inr i ↦ inr (inr i) ];
      of_start = λ s e. absurd (cc);
      of_list = λ g i. elim i as (λ _. IsNotAfter f g) [ inl e ↦ subst (IsNotAfter f) e (rest.of_start x refl) | inr j ↦ rest.of_list g j ];
    }

least_taken : (x s : Fault) (xs : List Fault) (f : Fault) → is_before x s ≡ true → IsLeast (Some x) xs f → IsLeast (Some s) (x ∷ xs) f
least_taken x s xs f before rest =
    record {
      among = elim rest.among as (λ _. (Some s ≡ Some f) ⊎ IsIn f (x ∷ xs)) [ inl e ↦ inr (inl (cc)) | inr i ↦ inr (inr i) ];
      of_start = λ t e. not_after_through f x t (rest.of_start x refl) (let st : s ≡ t = cc in subst (IsNotAfter x) st (from_before x s before));
      of_list = λ g i. elim i as (λ _. IsNotAfter f g) [ inl e ↦ subst (IsNotAfter f) e (rest.of_start x refl) | inr j ↦ rest.of_list g j ];
    }

least_kept : (x s : Fault) (xs : List Fault) (f : Fault) → is_before x s ≡ false → IsLeast (Some s) xs f → IsLeast (Some s) (x ∷ xs) f
least_kept x s xs f not_before rest =
    record {
      among = elim rest.among as (λ _. (Some s ≡ Some f) ⊎ IsIn f (x ∷ xs)) [ inl e ↦ inl e | inr i ↦ inr (inr i) ];
      of_start = rest.of_start;
      of_list = λ g i. elim i as (λ _. IsNotAfter f g) [
        | inl e ↦ subst (IsNotAfter f) e (not_after_through f s x (rest.of_start s refl) (from_not_before x s not_before))
        | inr j ↦ rest.of_list g j
      ];
    }

least_by : (x s : Fault) (xs : List Fault) (f : Fault) → ((start : Option Fault) → note_all xs start ≡ Some f → IsLeast start xs f)
    → (b : Bool) → is_before x s ≡ b → note_all xs (cond b (Some x) (Some s)) ≡ Some f → IsLeast (Some s) (x ∷ xs) f
least_by x s xs f rest true e h = least_taken x s xs f e (rest (Some x) h)
least_by x s xs f rest false e h = least_kept x s xs f e (rest (Some s) h)

least_of_all : (faults : List Fault) (start : Option Fault) (f : Fault) → note_all faults start ≡ Some f → IsLeast start faults f
least_of_all [] start f h =
    record {
      among = inl h;
      of_start = λ s e. let same : f ≡ s = cc in subst (IsNotAfter f) same (not_after_itself f);
      of_list = λ g i. absurd i;
    }
least_of_all (x ∷ xs) None f h = least_none x xs f (least_of_all xs (Some x) f h)
least_of_all (x ∷ xs) (Some s) f h = least_by x s xs f (λ start. least_of_all xs start f) (is_before x s) refl h

stays_by : (x s : Fault) (xs : List Fault) → ((t : Fault) → note_all xs (Some t) ≡ None → ⊥) → (b : Bool) → note_all xs (cond b (Some x) (Some s)) ≡ None → ⊥
stays_by x s xs rest true h = rest x h
stays_by x s xs rest false h = rest s h

-- one that is kept stays kept, or gives way to another
stays : (faults : List Fault) (s : Fault) → note_all faults (Some s) ≡ None → ⊥
stays [] s h = cc
stays (x ∷ xs) s h = stays_by x s xs (stays xs) (is_before x s) h

none_of_all : (faults : List Fault) → note_all faults None ≡ None → (f : Fault) → IsIn f faults → ⊥
none_of_all [] h f i = i
none_of_all (x ∷ xs) h f i = stays xs x h

in_append_left : {A : Type 0} (x : A) (xs ys : List A) → IsIn x xs → IsIn x (xs ++ ys)
in_append_left x [] ys i = absurd i
in_append_left x (y ∷ xs) ys (inl e) = inl e
in_append_left x (y ∷ xs) ys (inr i) = inr (in_append_left x xs ys i)

in_append_right : {A : Type 0} (x : A) (xs ys : List A) → IsIn x ys → IsIn x (xs ++ ys)
in_append_right x [] ys i = i
in_append_right x (y ∷ xs) ys i = inr (in_append_right x xs ys i)

in_either : {A : Type 0} (x : A) (xs ys : List A) → IsIn x (xs ++ ys) → IsIn x xs ⊎ IsIn x ys
in_either x [] ys i = inr i
in_either x (y ∷ xs) ys (inl e) = inl (inl e)
in_either x (y ∷ xs) ys (inr i) = elim (in_either x xs ys i) [ inl j ↦ inl (inr j) | inr j ↦ inr j ]

in_flat_map : {A B : Type 0} (g : A → List B) (xs : List A) (x : A) (y : B) → IsIn x xs → IsIn y (g x) → IsIn y (flat_map g xs)
in_flat_map g [] x y i j = absurd i
in_flat_map g (z ∷ xs) x y (inl e) j = in_append_left y (g z) (flat_map g xs) (subst (λ w. IsIn y (g w)) (sym e) j)
in_flat_map g (z ∷ xs) x y (inr i) j = in_append_right y (g z) (flat_map g xs) (in_flat_map g xs x y i j)

from_flat_map : {A B : Type 0} (g : A → List B) (xs : List A) (y : B) → IsIn y (flat_map g xs) → (x : A) × IsIn x xs × IsIn y (g x)
from_flat_map g [] y i = absurd i
from_flat_map g (z ∷ xs) y i =
    elim (in_either y (g z) (flat_map g xs) i) [
      | inl j ↦ (z, inl refl, j)
      | inr j ↦ (let m = from_flat_map g xs y j in (m.0, inr m.1, m.2))
    ]

-- a fault of the file stands among those of its places
fault_among : (file : File) (rule line : ℕ) → Breaks file rule line → IsIn (record { line = line; rule = rule }) (flat_map (faults_at file) (places_in file))
fault_among file rule line b = in_flat_map (faults_at file) (places_in file) b.place _ b.of_file b.fault

breaks_there : (file : File) (f : Fault) → IsIn f (flat_map (faults_at file) (places_in file)) → Breaks file f.rule f.line
breaks_there file f i =
    let m = from_flat_map (faults_at file) (places_in file) f i in
    record { place = m.0; of_file = m.1; fault = m.2 }

-- where no fault is kept, the file is well formed
pub well_formed_at_none : (file : File) → note_places file (places_in file) None ≡ None → IsWellFormed file
well_formed_at_none file h rule line b = none_of_all _ (sym (note_places_all file (places_in file) None) ∙ h) _ (fault_among file rule line b)

first_line : (a b : Fault) → IsNotAfter a b → a.line ≤ b.line
unfolding IsNotAfter
first_line a b (inl l) = omega arith
first_line a b (inr l) = omega (arith, l.0)

first_rule : (a b : Fault) → a.line ≡ b.line → IsNotAfter a b → a.rule ≤ b.rule
unfolding IsNotAfter
first_rule a b e (inl l) = absurd (omega arith)
first_rule a b e (inr l) = l.1

-- what is kept is the first fault
pub first_at_some : (file : File) (f : Fault) → note_places file (places_in file) None ≡ Some f → IsFirst file f.rule f.line
first_at_some file f h =
    let least : IsLeast None (flat_map (faults_at file) (places_in file)) f = least_of_all _ None f (sym (note_places_all file (places_in file) None) ∙ h) in
    let among : IsIn f (flat_map (faults_at file) (places_in file)) = elim least.among [ inl e ↦ absurd (cc) | inr i ↦ i ] in
    record {
      breaks = breaks_there file f among;
      line_is_least = λ other before b. first_line f (record { line = before; rule = other }) (least.of_list _ (fault_among file other before b));
      rule_is_least = λ other b. first_rule f (record { line = f.line; rule = other }) refl (least.of_list _ (fault_among file other f.line b));
    }
