-- What the code keeps is the first of all limits that are broken.
use Rattle.std.proofs.Common.{◌≡◌, ◌∙◌, sym, ap, subst, refl, ℕ, ◌<◌, ◌≤◌, ◌⊎◌, inl, inr, Bool, true, false, ◌&&◌, ◌||◌, ◌==◌, Option, Some, None, List, [], ◌∷◌, cond, arith}
use Rattle.std.specs.Prelude.{nat_lt, slice_get, unwrap_or}
use Rattle.std.proofs.lemmas.Bool.{ltb-true, ltb-false, eqb-true, eqb-false}
use Rattle.dy_lex.specs.Tokens.{Piece}
use Rattle.dy_syntax.specs.Files.{File}
use Rattle.dy_parse.specs.declared.errors.LimitName.{LimitName}
use Rattle.dy_parse.specs.declared.errors.LimitName.TheVariants.{Word, Text, Nesting, Usages, Cases, Events, States, Handlers, Statements, Names, Fields, Leaves, Partners, Rows, Rounds, Steps, Principals}
use Rattle.dy_parse.specs.Limits.{Excess, number, IsIn, excess_in, BreaksLimit, IsFirstLimit}
use Rattle.dy_parse.specs.Mirrors.Limits.{is_before, note_all}

-- the first fault comes not after the second
IsNotAfter : Excess → Excess → Type 0
IsNotAfter a b = (a.line < b.line) ⊎ ((a.line ≡ b.line) × (number a.which ≤ number b.which))

not_after_itself : (a : Excess) → IsNotAfter a a
unfolding IsNotAfter
not_after_itself a = inr (refl, omega arith)

not_after_through : (a b c : Excess) → IsNotAfter a b → IsNotAfter b c → IsNotAfter a c
unfolding IsNotAfter
not_after_through a b c (inl l) (inl m) = inl (omega arith)
not_after_through a b c (inl l) (inr m) = inl (omega (arith, m.0))
not_after_through a b c (inr l) (inl m) = inl (omega (arith, l.0))
not_after_through a b c (inr l) (inr m) = inr (l.0 ∙ m.0, omega (arith, l.1, m.1))

from_before : (a b : Excess) → is_before a b ≡ true → IsNotAfter a b
unfolding IsNotAfter
from_before a b h = go (nat_lt a.line b.line) (a.line == b.line) (nat_lt (number a.which) (number b.which)) refl refl refl h
  where
    go : (p q r : Bool) → nat_lt a.line b.line ≡ p → (a.line == b.line) ≡ q → nat_lt (number a.which) (number b.which) ≡ r → (p || (q && r)) ≡ true
        → (a.line < b.line) ⊎ ((a.line ≡ b.line) × (number a.which ≤ number b.which))
    go true q r e f g t = inl (ltb-true a.line b.line e)
    go false true true e f g t = inr (eqb-true a.line b.line f, omega (arith, ltb-true (number a.which) (number b.which) g))
    go false true false e f g t = absurd (cc)
    go false false r e f g t = absurd (cc)

from_not_before : (a b : Excess) → is_before a b ≡ false → IsNotAfter b a
unfolding IsNotAfter
from_not_before a b h = go (nat_lt a.line b.line) (a.line == b.line) (nat_lt (number a.which) (number b.which)) refl refl refl h
  where
    go : (p q r : Bool) → nat_lt a.line b.line ≡ p → (a.line == b.line) ≡ q → nat_lt (number a.which) (number b.which) ≡ r → (p || (q && r)) ≡ false
        → (b.line < a.line) ⊎ ((b.line ≡ a.line) × (number b.which ≤ number a.which))
    go true q r e f g t = absurd (cc)
    go false true true e f g t = absurd (cc)
    go false true false e f g t = inr (sym (eqb-true a.line b.line f), ltb-false (number a.which) (number b.which) g)
    go false false r e f g t = inl (omega (arith, ltb-false a.line b.line e, eqb-false a.line b.line f))

-- a fault among these or the one at the start, and none of them before it
record IsLeast (start : Option Excess) (faults : List Excess) (least : Excess) : Type 0 where
  among : (start ≡ Some least) ⊎ IsIn least faults
  of_start : (s : Excess) → start ≡ Some s → IsNotAfter least s
  of_list : (f : Excess) → IsIn f faults → IsNotAfter least f

least_none : (x : Excess) (xs : List Excess) (f : Excess) → IsLeast (Some x) xs f → IsLeast None (x ∷ xs) f
least_none x xs f rest =
    record {
      among = elim rest.among as (λ _. (None ≡ Some f) ⊎ IsIn f (x ∷ xs)) [ inl e ↦ inr (inl (cc)) | inr i ↦ inr (inr i) ];
      of_start = λ s e. absurd (cc);
      of_list = λ g i. elim i as (λ _. IsNotAfter f g) [ inl e ↦ subst (IsNotAfter f) e (rest.of_start x refl) | inr j ↦ rest.of_list g j ];
    }

least_taken : (x s : Excess) (xs : List Excess) (f : Excess) → is_before x s ≡ true → IsLeast (Some x) xs f → IsLeast (Some s) (x ∷ xs) f
least_taken x s xs f before rest =
    record {
      among = elim rest.among as (λ _. (Some s ≡ Some f) ⊎ IsIn f (x ∷ xs)) [ inl e ↦ inr (inl (cc)) | inr i ↦ inr (inr i) ];
      of_start = λ t e. not_after_through f x t (rest.of_start x refl) (let st : s ≡ t = cc in subst (IsNotAfter x) st (from_before x s before));
      of_list = λ g i. elim i as (λ _. IsNotAfter f g) [ inl e ↦ subst (IsNotAfter f) e (rest.of_start x refl) | inr j ↦ rest.of_list g j ];
    }

least_kept : (x s : Excess) (xs : List Excess) (f : Excess) → is_before x s ≡ false → IsLeast (Some s) xs f → IsLeast (Some s) (x ∷ xs) f
least_kept x s xs f not_before rest =
    record {
      among = elim rest.among as (λ _. (Some s ≡ Some f) ⊎ IsIn f (x ∷ xs)) [ inl e ↦ inl e | inr i ↦ inr (inr i) ];
      of_start = rest.of_start;
      of_list = λ g i. elim i as (λ _. IsNotAfter f g) [
        | inl e ↦ subst (IsNotAfter f) e (not_after_through f s x (rest.of_start s refl) (from_not_before x s not_before))
        | inr j ↦ rest.of_list g j
      ];
    }

least_by : (x s : Excess) (xs : List Excess) (f : Excess) → ((start : Option Excess) → note_all xs start ≡ Some f → IsLeast start xs f)
    → (b : Bool) → is_before x s ≡ b → note_all xs (cond b (Some x) (Some s)) ≡ Some f → IsLeast (Some s) (x ∷ xs) f
least_by x s xs f rest true e h = least_taken x s xs f e (rest (Some x) h)
least_by x s xs f rest false e h = least_kept x s xs f e (rest (Some s) h)

least_of_all : (faults : List Excess) (start : Option Excess) (f : Excess) → note_all faults start ≡ Some f → IsLeast start faults f
least_of_all [] start f h =
    record {
      among = inl h;
      of_start = λ s e. let same : f ≡ s = cc in subst (IsNotAfter f) same (not_after_itself f);
      of_list = λ g i. absurd i;
    }
least_of_all (x ∷ xs) None f h = least_none x xs f (least_of_all xs (Some x) f h)
least_of_all (x ∷ xs) (Some s) f h = least_by x s xs f (λ start. least_of_all xs start f) (is_before x s) refl h

stays_by : (x s : Excess) (xs : List Excess) → ((t : Excess) → note_all xs (Some t) ≡ None → ⊥) → (b : Bool) → note_all xs (cond b (Some x) (Some s)) ≡ None → ⊥
stays_by x s xs rest true h = rest x h
stays_by x s xs rest false h = rest s h

-- one that is kept stays kept, or gives way to another
stays : (faults : List Excess) (s : Excess) → note_all faults (Some s) ≡ None → ⊥
stays [] s h = cc
stays (x ∷ xs) s h = stays_by x s xs (stays xs) (is_before x s) h

none_of_all : (faults : List Excess) → note_all faults None ≡ None → (f : Excess) → IsIn f faults → ⊥
none_of_all [] h f i = i
none_of_all (x ∷ xs) h f i = stays xs x h

first_line : (a b : Excess) → IsNotAfter a b → a.line ≤ b.line
unfolding IsNotAfter
first_line a b (inl l) = omega arith
first_line a b (inr l) = omega (arith, l.0)

first_number : (a b : Excess) → a.line ≡ b.line → IsNotAfter a b → number a.which ≤ number b.which
unfolding IsNotAfter
first_number a b e (inl l) = absurd (omega arith)
first_number a b e (inr l) = l.1

-- where nothing is kept no limit is broken
pub fits_at_none : (file : File) (tokens : List Piece) → note_all (excess_in file tokens) None ≡ None → (which : LimitName) (line : ℕ) → BreaksLimit which line file tokens → ⊥
fits_at_none file tokens h which line b = none_of_all (excess_in file tokens) h (record { which = which; line = line }) b

-- what is kept is the first limit that is broken
pub first_at_some : (file : File) (tokens : List Piece) (f : Excess) → note_all (excess_in file tokens) None ≡ Some f → IsFirstLimit f.which f.line file tokens
first_at_some file tokens f h =
    let least : IsLeast None (excess_in file tokens) f = least_of_all (excess_in file tokens) None f h in
    let among : IsIn f (excess_in file tokens) = elim least.among [ inl e ↦ absurd (cc) | inr i ↦ i ] in
    record {
      breaks = among;
      line_is_least = λ other before b. first_line f (record { which = other; line = before }) (least.of_list _ b);
      number_is_least = λ other b. first_number f (record { which = other; line = f.line }) refl (least.of_list _ b);
    }

-- ---- one first limit

-- a limit by its number
abbrev limit_numbered : ℕ → LimitName
limit_numbered n = unwrap_or (slice_get (Word ∷ Word ∷ Text ∷ Nesting ∷ Usages ∷ Cases ∷ Events ∷ States ∷ Handlers ∷ Statements ∷ Names ∷ Fields ∷ Leaves ∷ Partners ∷ Rows ∷ Rounds ∷ Steps ∷ Principals ∷ []) n) Word

limit_numbered-number : (which : LimitName) → limit_numbered (number which) ≡ which
limit_numbered-number Word = refl
limit_numbered-number Text = refl
limit_numbered-number Nesting = refl
limit_numbered-number Usages = refl
limit_numbered-number Cases = refl
limit_numbered-number Events = refl
limit_numbered-number States = refl
limit_numbered-number Handlers = refl
limit_numbered-number Statements = refl
limit_numbered-number Names = refl
limit_numbered-number Fields = refl
limit_numbered-number Leaves = refl
limit_numbered-number Partners = refl
limit_numbered-number Rows = refl
limit_numbered-number Rounds = refl
limit_numbered-number Steps = refl
limit_numbered-number Principals = refl

pub one_first : (file : File) (tokens : List Piece) (which other : LimitName) (line other_line : ℕ)
    → IsFirstLimit which line file tokens → IsFirstLimit other other_line file tokens → (line ≡ other_line) × (which ≡ other)
one_first file tokens which other line other_line a b = (same_line, sym (limit_numbered-number which) ∙ ap limit_numbered same_number ∙ limit_numbered-number other) where
  same_line : line ≡ other_line
  same_line = omega (arith, a.line_is_least other other_line b.breaks, b.line_is_least which line a.breaks)

  there : IsFirstLimit other line file tokens
  there = subst (λ (n : ℕ). IsFirstLimit other n file tokens) (sym same_line) b

  same_number : number which ≡ number other
  same_number = omega (arith, a.number_is_least other there.breaks, there.number_is_least which a.breaks)
