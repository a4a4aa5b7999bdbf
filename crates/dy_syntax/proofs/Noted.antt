-- Taking note of faults, one list of them after another.
use Rattle.std.proofs.Common.{◌≡◌, sym, ℕ, Bool, filter, ◌+◌, ◌<◌, ◌≤◌, ◌⊎◌, inl, inr, Option, List, [], ◌∷◌, ◌++◌, map, drop, length, get_or, min, refl, arith}
use Rattle.std.specs.List.{flat_map}
use Rattle.std.proofs.lemmas.Bool.{cases_lt}
use Rattle.std.proofs.lemmas.List.{drop_more, drop_all}
use Rattle.dy_syntax.specs.Files.{File}
use Rattle.dy_syntax.specs.Scopes.{Scope}
use Rattle.dy_syntax.specs.Parts.{Part}
use Rattle.dy_syntax.specs.Places.{Place, within}
use Rattle.dy_syntax.specs.Rules.{Fault}
use Rattle.dy_syntax.specs.Rules.Lines.{lines_of_pairs, lines_of_repeated}
use Rattle.dy_syntax.specs.MirrorFaults.{note, note_lines, note_part, note_parts, note_places}

pub note_lines_append : (rule : ℕ) (xs ys : List ℕ) (least : Option Fault) → note_lines rule (xs ++ ys) least ≡ note_lines rule ys (note_lines rule xs least)
note_lines_append rule [] ys least = refl
note_lines_append rule (x ∷ xs) ys least = note_lines_append rule xs ys (note (record { line = x; rule = rule }) least)

pub note_parts_append : (file : File) (scope : Scope) (xs ys : List Part) (least : Option Fault)
    → note_parts file scope (xs ++ ys) least ≡ note_parts file scope ys (note_parts file scope xs least)
note_parts_append file scope [] ys least = refl
note_parts_append file scope (x ∷ xs) ys least = note_parts_append file scope xs ys (note_part file scope x least)

pub note_places_append : (file : File) (xs ys : List Place) (least : Option Fault) → note_places file (xs ++ ys) least ≡ note_places file ys (note_places file xs least)
note_places_append file [] ys least = refl
note_places_append file (x ∷ xs) ys least = note_places_append file xs ys (note_part file x.scope x.part least)

-- places in one scope are its parts
pub note_within : (file : File) (scope : Scope) (parts : List Part) (least : Option Fault) → note_places file (within scope parts) least ≡ note_parts file scope parts least
note_within file scope [] least = refl
note_within file scope (part ∷ parts) least = note_within file scope parts (note_part file scope part least)

-- two lists side by side, from one place on
pub pairs_more : {A B C D : Type 0} (lines : C → D → List ℕ) (f : A → C) (g : B → D) (rule : ℕ) (xs : List A) (ys : List B) (i : ℕ) (x : A) (y : B) (least : Option Fault)
    → i < length xs → i < length ys → x ≡ get_or xs i x → y ≡ get_or ys i y
    → note_lines rule (lines_of_pairs lines (map f (drop i xs)) (map g (drop i ys))) least
    ≡ note_lines rule (lines_of_pairs lines (map f (drop (i + 1) xs)) (map g (drop (i + 1) ys))) (note_lines rule (lines (f x) (g y)) least)
pairs_more lines f g rule xs ys i x y least in_xs in_ys x_is y_is =
    rw (drop_more xs i x in_xs, drop_more ys i y in_ys, ← x_is, ← y_is, note_lines_append rule (lines (f x) (g y))) refl

pairs_none : {C D : Type 0} (lines : C → D → List ℕ) (xs : List C) → lines_of_pairs lines xs [] ≡ []
pairs_none lines [] = refl
pairs_none lines (x ∷ xs) = refl

-- and where one of them has ended
pub pairs_end : {A B C D : Type 0} (lines : C → D → List ℕ) (f : A → C) (g : B → D) (xs : List A) (ys : List B) (i : ℕ)
    → (length xs ≤ i) ⊎ (length ys ≤ i) → lines_of_pairs lines (map f (drop i xs)) (map g (drop i ys)) ≡ []
pairs_end lines f g xs ys i (inl ended) = rw (drop_all i xs ended) refl
pairs_end lines f g xs ys i (inr ended) = rw (drop_all i ys ended) (pairs_none lines (map f (drop i xs)))

one_ended : (a b i : ℕ) → min a b ≤ i → (a ≤ i) ⊎ (b ≤ i)
one_ended a b i h = elim (cases_lt a b) [ inl less ↦ inl (omega arith) | inr more ↦ inr (omega arith) ]

-- no line is left where one of the two has ended
pub note_pairs_end : {A B C D : Type 0} (lines : C → D → List ℕ) (f : A → C) (g : B → D) (rule : ℕ) (xs : List A) (ys : List B) (i : ℕ) (least : Option Fault)
    → min (length xs) (length ys) ≤ i → note_lines rule (lines_of_pairs lines (map f (drop i xs)) (map g (drop i ys))) least ≡ least
note_pairs_end lines f g rule xs ys i least h = rw (pairs_end lines f g xs ys i (one_ended (length xs) (length ys) i h)) refl

-- what stands again, from one place on
pub repeated_more : {A C : Type 0} (same : C → C → Bool) (line : C → ℕ) (f : A → C) (rule : ℕ) (xs : List A) (i : ℕ) (x : A) (least : Option Fault)
    → i < length xs → x ≡ get_or xs i x
    → note_lines rule (lines_of_repeated same line (map f (drop i xs))) least
    ≡ note_lines rule (lines_of_repeated same line (map f (drop (i + 1) xs))) (note_lines rule (map line (filter (same (f x)) (map f (drop (i + 1) xs)))) least)
repeated_more same line f rule xs i x least in_xs x_is =
    rw (drop_more xs i x in_xs, ← x_is, note_lines_append rule (map line (filter (same (f x)) (map f (drop (i + 1) xs))))) refl

-- the parts of each of a list, from one place on
pub parts_more : {A C : Type 0} (parts : C → List Part) (f : A → C) (file : File) (scope : Scope) (xs : List A) (i : ℕ) (x : A) (least : Option Fault)
    → i < length xs → x ≡ get_or xs i x
    → note_parts file scope (flat_map parts (map f (drop i xs))) least
    ≡ note_parts file scope (flat_map parts (map f (drop (i + 1) xs))) (note_parts file scope (parts (f x)) least)
parts_more parts f file scope xs i x least in_xs x_is = rw (drop_more xs i x in_xs, ← x_is, note_parts_append file scope (parts (f x))) refl

-- parts one after another
pub parts_then : (file : File) (scope : Scope) (xs ys : List Part) (a b c : Option Fault)
    → b ≡ note_parts file scope xs a → c ≡ note_parts file scope ys b → c ≡ note_parts file scope (xs ++ ys) a
parts_then file scope xs ys a b c first second = rw (second, first) (sym (note_parts_append file scope xs ys a))

-- the parts of each of a list, at its end
pub parts_done : {A C : Type 0} (parts : C → List Part) (f : A → C) (file : File) (scope : Scope) (xs : List A) (i : ℕ) (least first : Option Fault)
    → length xs ≤ i
    → note_parts file scope (flat_map parts (map f (drop i xs))) least ≡ note_parts file scope (flat_map parts (map f xs)) first
    → least ≡ note_parts file scope (flat_map parts (map f xs)) first
parts_done parts f file scope xs i least first ended kept = rw (drop_all i xs ended) at kept

-- one part of each of a list, from one place on
pub mapped_more : {A C : Type 0} (part : C → Part) (f : A → C) (file : File) (scope : Scope) (xs : List A) (i : ℕ) (x : A) (least : Option Fault)
    → i < length xs → x ≡ get_or xs i x
    → note_parts file scope (map part (map f (drop i xs))) least
    ≡ note_parts file scope (map part (map f (drop (i + 1) xs))) (note_part file scope (part (f x)) least)
mapped_more part f file scope xs i x least in_xs x_is = rw (drop_more xs i x in_xs, ← x_is) refl

-- the places of each of a list, from one place on
pub places_more : {A C : Type 0} (places : C → List Place) (f : A → C) (file : File) (xs : List A) (i : ℕ) (x : A) (least : Option Fault)
    → i < length xs → x ≡ get_or xs i x
    → note_places file (flat_map places (map f (drop i xs))) least
    ≡ note_places file (flat_map places (map f (drop (i + 1) xs))) (note_places file (places (f x)) least)
places_more places f file xs i x least in_xs x_is = rw (drop_more xs i x in_xs, ← x_is, note_places_append file (places (f x))) refl

-- the lines of each of a list, from one place on
pub lines_more : {A C : Type 0} (lines : C → List ℕ) (f : A → C) (rule : ℕ) (xs : List A) (i : ℕ) (x : A) (least : Option Fault)
    → i < length xs → x ≡ get_or xs i x
    → note_lines rule (flat_map lines (map f (drop i xs))) least
    ≡ note_lines rule (flat_map lines (map f (drop (i + 1) xs))) (note_lines rule (lines (f x)) least)
lines_more lines f rule xs i x least in_xs x_is = rw (drop_more xs i x in_xs, ← x_is, note_lines_append rule (lines (f x))) refl
