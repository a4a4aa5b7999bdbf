-- Taking note of limits, counting and meeting principals: one list after another.
use Rattle.std.proofs.Common.{◌≡◌, ℕ, zero, suc, ◌+◌, ◌-◌, ◌==◌, ◌||◌, ◌<◌, Bool, true, false, cond, List, [], ◌∷◌, ◌++◌, length, map, drop, get_or, Option, Some, None, refl, sym, ◌∙◌, ap, arith}
use Rattle.std.specs.Prelude.{slice_get}
use Rattle.std.specs.Option.{option_map, option_to_list}
use Rattle.std.specs.List.{flat_map, list_any}
use Rattle.std.specs.Str.{bytes_eq}
use Rattle.std.proofs.lemmas.Bool.{eqb-true}
use Rattle.std.proofs.lemmas.List.{drop_more}
use Rattle.std.proofs.lemmas.Option.{slice_get-map}
use Rattle.dy_syntax.specs.Names.{Id}
use Rattle.dy_parse.specs.declared.errors.LimitName.{LimitName}
use Rattle.dy_parse.specs.declared.limits.counts.Count.{Count}
use Rattle.dy_parse.specs.declared.limits.counts.Count.TheVariants.{Room, Past}
use Rattle.dy_parse.specs.Limits.{Excess, breaks, counts, most, others}
use Rattle.dy_parse.specs.Mirrors.Limits.{note, note_all, count_one, count_all, past, is_past, Met, meet, meet_all}

pub note_all_append : (xs ys : List Excess) (first : Option Excess) → note_all (xs ++ ys) first ≡ note_all ys (note_all xs first)
note_all_append [] ys first = refl
note_all_append (x ∷ xs) ys first = note_all_append xs ys (note x first)

pub count_all_append : (xs ys : List ℕ) (count : Count) → count_all (xs ++ ys) count ≡ count_all ys (count_all xs count)
count_all_append [] ys count = refl
count_all_append (x ∷ xs) ys count = count_all_append xs ys (count_one x count)

pub meet_all_append : (xs ys : List Id) (met : Met) → meet_all (xs ++ ys) met ≡ meet_all ys (meet_all xs met)
meet_all_append [] ys met = refl
meet_all_append (x ∷ xs) ys met = meet_all_append xs ys (meet x met)

-- what is done with the parts of each of a list, from one place on
pub fold_more : {A B C S : Type 0} (go : List B → S → S) → ((xs ys : List B) (s : S) → go (xs ++ ys) s ≡ go ys (go xs s))
    → (parts : C → List B) (f : A → C) (xs : List A) (i : ℕ) (x : A) (s : S) → i < length xs → x ≡ get_or xs i x
    → go (flat_map parts (map f (drop i xs))) s ≡ go (flat_map parts (map f (drop (i + 1) xs))) (go (parts (f x)) s)
fold_more go append parts f xs i x s in_xs x_is = rw (drop_more xs i x in_xs, ← x_is, append (parts (f x))) refl

pub slice_get_map : {A B : Type 0} (f : A → B) (xs : List A) (n : ℕ) → slice_get (map f xs) n ≡ option_map f (slice_get xs n)
slice_get_map f xs n = slice_get-map f xs n

-- ---- counting

past-stays : (lines : List ℕ) (first : ℕ) → count_all lines (Past first) ≡ Past first
past-stays [] first = refl
past-stays (line ∷ lines) first = past-stays lines first

one_less : (n line : ℕ) → count_one line (Room (suc n)) ≡ Room n
one_less n line = by_test (suc n == 0) refl where
  by_test : (b : Bool) → (suc n == 0) ≡ b → cond b (Past line) (Room (suc n - 1)) ≡ Room n
  by_test true e = absurd (let bad : suc n ≡ 0 = eqb-true (suc n) 0 e in omega arith)
  by_test false e = let same : suc n - 1 ≡ n = omega arith in ap Room same

-- the first member past the limit is found
past_is : (lines : List ℕ) (n : ℕ) → past (count_all lines (Room n)) ≡ option_to_list (slice_get lines n)
past_is [] n = refl
past_is (line ∷ lines) zero = ap past (past-stays lines line)
past_is (line ∷ lines) (suc n) = ap (λ c. past (count_all lines c)) (one_less n line) ∙ past_is lines n

-- a list that is counted from its limit on
pub counted : (which : LimitName) (lines : List ℕ) (n : ℕ) → n ≡ most which → breaks which (past (count_all lines (Room n))) ≡ counts which lines
counted which lines n same = ap (breaks which) (past_is lines n ∙ ap (λ k. option_to_list (slice_get lines k)) same)

-- ---- principals

abbrev lines_of : List Id → List ℕ
lines_of ids = map (λ id. id.line) ids

stays-past : (count : Count) → is_past count ≡ true → (lines more : List ℕ) → count_all lines count ≡ count_all more count
stays-past (Room n) past lines more = absurd (cc)
stays-past (Past first) past lines more = past-stays lines first ∙ sym (past-stays more first)

meet_step : (id : Id) (ids : List Id) (met : Met)
    → (meet_all ids met).count ≡ count_all (lines_of (others met.words ids)) met.count
    → (meet_all ids (record { words = met.words ++ id.word ∷ []; count = count_one id.line met.count })).count ≡ count_all (lines_of (others (met.words ++ id.word ∷ []) ids)) (count_one id.line met.count)
    → (p q : Bool) → is_past met.count ≡ p → list_any (λ word. bytes_eq word id.word) met.words ≡ q
    → (meet_all ids (cond (p || q) met (record { words = met.words ++ id.word ∷ []; count = count_one id.line met.count }))).count
    ≡ count_all (lines_of (cond q (others met.words ids) (id ∷ others (met.words ++ id.word ∷ []) ids))) met.count
meet_step id ids met same longer true q past among = same ∙ stays-past met.count past (lines_of (others met.words ids)) (lines_of (cond q (others met.words ids) (id ∷ others (met.words ++ id.word ∷ []) ids)))
meet_step id ids met same longer false true past among = same
meet_step id ids met same longer false false past among = longer

-- those that were met are counted
met_count : (ids : List Id) (met : Met) → (meet_all ids met).count ≡ count_all (lines_of (others met.words ids)) met.count
met_count [] met = refl
met_count (id ∷ ids) met = meet_step id ids met (met_count ids met) (met_count ids (record { words = met.words ++ id.word ∷ []; count = count_one id.line met.count })) (is_past met.count) (list_any (λ word. bytes_eq word id.word) met.words) refl refl

pub met_are : (ids : List Id) (n : ℕ) → (meet_all ids (record { words = []; count = Room n })).count ≡ count_all (lines_of (others [] ids)) (Room n)
met_are ids n = met_count ids (record { words = []; count = Room n })

-- ---- one list after another

option_twice : {A B C : Type 0} (g : B → C) (f : A → B) (o : Option A) → option_map g (option_map f o) ≡ option_map (λ x. g (f x)) o
option_twice g f None = refl
option_twice g f (Some x) = refl

-- a list of parts that are counted, by its first member past the limit
pub counts_at : {A B : Type 0} (which : LimitName) (place : B → ℕ) (plain : A → B) (xs : List A) (o : Option A) → slice_get xs (most which) ≡ o
    → counts which (map place (map plain xs)) ≡ breaks which (option_to_list (option_map (λ x. place (plain x)) o))
counts_at which place plain xs o found = ap (λ k. breaks which (option_to_list k))
    (slice_get-map place (map plain xs) (most which) ∙ ap (option_map place) (slice_get-map plain xs (most which)) ∙ ap (λ k. option_map place (option_map plain k)) found ∙ option_twice place plain o)

-- four lists, of which the middle two are noted together
pub noted_in_turn : (xs ys zs us : List Excess) (a b c d : Option Excess) → b ≡ note_all xs a → c ≡ note_all (ys ++ zs) b → d ≡ note_all us c
    → d ≡ note_all (xs ++ ys ++ zs ++ us) a
noted_in_turn xs ys zs us a b c d first second third =
    third ∙ ap (note_all us) (second ∙ ap (note_all (ys ++ zs)) first ∙ note_all_append ys zs (note_all xs a))
    ∙ sym (note_all_append (xs ++ ys ++ zs) us a ∙ ap (note_all us) (note_all_append (xs ++ ys) zs a ∙ ap (note_all zs) (note_all_append xs ys a)))
