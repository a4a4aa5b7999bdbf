-- Reserved words are looked for among those of a length.
use Rattle.std.proofs.Common.{◌≡◌, ℕ, ◌≤◌, Bool, true, false, ◌&&◌, nat_eq, nat_le, List, length, refl, sym, ◌∙◌, ap}
use Rattle.std.specs.List.{list_any, filter}
use Rattle.std.specs.Str.{bytes_eq}
use Rattle.std.proofs.lemmas.Map.Views.{any-filter_same}
use Rattle.std.proofs.lemmas.Slice.Eq.{bytes_eq-Decides}
use Rattle.std.proofs.lemmas.Bool.{eq-eqb, leb-true}
use Rattle.dy_grammar.specs.Words.{reserved_words, is_reserved}

-- a test that looks at nothing but the word, over all reserved words
among_these : (p : List ℕ → Bool) (word : List ℕ) → list_any (λ r. bytes_eq r word) (filter p reserved_words) ≡ (p word && is_reserved word)
unfolding is_reserved
among_these p word = any-filter_same (λ r. bytes_eq r word) p (p word) (λ r found. ap p ((bytes_eq-Decides r word).0 found)) reserved_words

-- those of its own length are enough
pub by_length : (n : ℕ) (word : List ℕ) → length word ≡ n → is_reserved word ≡ list_any (λ r. bytes_eq r word) (filter (λ r. nat_eq (length r) n) reserved_words)
by_length n word same =
    sym (among_these (λ r. nat_eq (length r) n) word ∙ ap (λ (b : Bool). b && is_reserved word) (eq-eqb (length word) n same))

both_false : (a b : Bool) → (a ≡ true → b ≡ true → ⊥) → (a && b) ≡ false
both_false true true not_both = absurd (not_both refl refl)
both_false true false not_both = refl
both_false false b not_both = refl

-- a shorter or longer one is none
pub of_no_length : (word : List ℕ) → (2 ≤ length word → length word ≤ 8 → ⊥) → is_reserved word ≡ false
unfolding is_reserved
of_no_length word outside =
    let fits = λ (r : List ℕ). nat_le 2 (length r) && nat_le (length r) 8 in
    let none : fits word ≡ false = both_false (nat_le 2 (length word)) (nat_le (length word) 8)
    (λ low high. outside (leb-true 2 (length word) low) (leb-true (length word) 8 high)) in
    among_these fits word ∙ ap (λ (b : Bool). b && is_reserved word) none
