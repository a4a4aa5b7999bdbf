-- Writing tokens, one list after another.
use Rattle.std.proofs.Common.{◌≡◌, ℕ, ◌+◌, ◌<◌, ◌≤◌, Bool, true, false, List, [], ◌∷◌, ◌++◌, map, drop, length, get_or, refl, append_assoc, sym, arith}
use Rattle.std.specs.Prelude.{codes}
use Rattle.std.specs.List.{flat_map}
use Rattle.std.proofs.lemmas.List.{drop_more, drop_all, append-nil}
use Rattle.dy_show.specs.Spacing.{Lexeme, text_after}
use Rattle.dy_syntax.specs.Declarations.{Row}
use Rattle.dy_syntax.specs.Plans.{Round}
use Rattle.dy_show.specs.Canonical as c
use Rattle.dy_show.specs.Canonical.{more_to, comma_list, left_brace, right_brace, last_brace, semicolon, many_to}
use Rattle.dy_show.specs.MirrorPages.{Page, put, put_all, separator, rest_of}

pub put_all_append : (page : Page) (xs ys : List Lexeme) → put_all page (xs ++ ys) ≡ put_all (put_all page xs) ys
put_all_append page [] ys = refl
put_all_append page (x ∷ xs) ys = put_all_append (put page x) xs ys

-- a list from one item on
pub listed_more : {A C : Type 0} (end : Lexeme) (item : C → List Lexeme) (view : A → C) (is_first : Bool) (xs : List A) (i : ℕ) (x : A) (page : Page)
    → i < length xs → x ≡ get_or xs i x
    → put_all page (rest_of is_first end item (map view (drop i xs)))
    ≡ put_all (put_all (put_all page (separator is_first)) (item (view x))) (rest_of false end item (map view (drop (i + 1) xs)))
unfolding comma_list more_to
listed_more end item view true xs i x page in_xs x_is = rw (drop_more xs i x in_xs, ← x_is, put_all_append page (item (view x))) refl
listed_more end item view false xs i x page in_xs x_is = rw (drop_more xs i x in_xs, ← x_is, put_all_append _ (item (view x))) refl

pub listed_done : {A C : Type 0} (end : Lexeme) (item : C → List Lexeme) (view : A → C) (is_first : Bool) (xs : List A) (i : ℕ) (page : Page) (total : Page)
    → length xs ≤ i → put_all page (rest_of is_first end item (map view (drop i xs))) ≡ total → put page end ≡ total
unfolding comma_list more_to
listed_done end item view true xs i page total ended kept = rw (drop_all i xs ended) at kept
listed_done end item view false xs i page total ended kept = rw (drop_all i xs ended) at kept

-- items from one on
pub all_more : {A C : Type 0} (item : C → List Lexeme) (view : A → C) (xs : List A) (i : ℕ) (x : A) (page : Page)
    → i < length xs → x ≡ get_or xs i x
    → put_all page (flat_map item (map view (drop i xs))) ≡ put_all (put_all page (item (view x))) (flat_map item (map view (drop (i + 1) xs)))
all_more item view xs i x page in_xs x_is = rw (drop_more xs i x in_xs, ← x_is, put_all_append page (item (view x))) refl

pub all_done : {A C : Type 0} (item : C → List Lexeme) (view : A → C) (xs : List A) (i : ℕ) (page : Page) (total : Page)
    → length xs ≤ i → put_all page (flat_map item (map view (drop i xs))) ≡ total → page ≡ total
all_done item view xs i page total ended kept = rw (drop_all i xs ended) at kept

-- the bytes of a page are its tokens with blanks between them
pub bytes_are : (page : Page) (xs : List Lexeme) → (put_all page xs).bytes ≡ page.bytes ++ text_after page.ending xs
unfolding put
bytes_are page [] = sym (append-nil page.bytes)
bytes_are page (x ∷ xs) = rw (bytes_are (put page x) xs) (simp append_assoc)

-- a table that has rows
pub table_with_rows : {A : Type 0} (row : A → Row) (rows : List A) → 0 < length rows →
    c.table (map row rows) ≡ left_brace ∷ (many_to right_brace c.row (map row rows) ++ semicolon ∷ [])
unfolding c.table
table_with_rows row [] some = absurd (let bad : ⊥ = omega arith in bad)
table_with_rows row (x ∷ rows) some = refl

-- a plan that has rounds
pub plan_with_rounds : {A : Type 0} (round : A → Round) (rounds : List A) → 0 < length rounds →
    c.rounds (map round rounds) ≡ c.line (codes "plan") ∷ left_brace ∷ many_to last_brace c.round (map round rounds)
unfolding c.rounds
plan_with_rounds round [] some = absurd (let bad : ⊥ = omega arith in bad)
plan_with_rounds round (x ∷ rounds) some = refl
