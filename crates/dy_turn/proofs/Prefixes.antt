-- Prefixes of one history.
use Rattle.std.proofs.Common.{◌≡◌, ◌≤◌, List, [], ◌∷◌, ◌++◌, length, refl, ap, sym, ◌∙◌, arith, append_assoc, length-append}
use mathlib.Core.List.{IsPrefix}
use Rattle.std.specs.Prelude.{Bool, true, false, nat_lt, ◌<◌, if◌then◌else◌}
use Rattle.std.proofs.lemmas.Bool.Decides.{nat_tests}
use Rattle.dy_turn.specs.Histories.{longer_of, shorter_of}

module _ {A : Type 0} where
  pub prefix_self : (xs : List A) → IsPrefix xs xs
  prefix_self [] = ([], refl)
  prefix_self (x ∷ xs) = (let r = prefix_self xs in r.0, ap (λ ys. x ∷ ys) (prefix_self xs).1)

  pub prefix_trans : (xs ys zs : List A) → IsPrefix xs ys → IsPrefix ys zs → IsPrefix xs zs
  prefix_trans xs ys zs p q = (p.0 ++ q.0, sym (append_assoc xs p.0 q.0) ∙ (ap (λ w. w ++ q.0) p.1 ∙ q.1))

  -- of two prefixes of one list the shorter is a prefix of the longer
  pub prefix_shorter : (xs ys zs : List A) → IsPrefix xs zs → IsPrefix ys zs → length xs ≤ length ys → IsPrefix xs ys
  prefix_shorter [] ys zs p q le = (ys, refl)
  prefix_shorter (x ∷ xs) [] zs p q le = absurd (omega arith)
  prefix_shorter (x ∷ xs) (y ∷ ys) [] p q le = absurd (cc (p.1))
  prefix_shorter (x ∷ xs) (y ∷ ys) (z ∷ zs) p q le =
      let heads : x ≡ y = cc (p.1, q.1) in
      let rest = prefix_shorter xs ys zs (p.0, cc (p.1)) (q.0, cc (q.1)) (omega arith) in
      (rest.0, cc (heads, rest.1))

  -- a prefix as long as the whole is the whole
  pub prefix_whole : (xs ys : List A) → IsPrefix xs ys → length ys ≤ length xs → xs ≡ ys
  prefix_whole [] [] p le = refl
  prefix_whole [] (y ∷ ys) p le = absurd (omega arith)
  prefix_whole (x ∷ xs) [] p le = absurd (cc (p.1))
  prefix_whole (x ∷ xs) (y ∷ ys) p le =
      let rest = prefix_whole xs ys (p.0, cc (p.1)) (omega arith) in cc (p.1, rest)

  pub prefix_length : (xs ys : List A) → IsPrefix xs ys → length xs ≤ length ys
  prefix_length xs ys p = omega (arith, sym (ap length p.1) ∙ length-append xs p.0)

  -- the longer of two prefixes of one list
  pub record LongerFits (xs ys zs : List A) : Type 0 where
    pub begins : IsPrefix (longer_of xs ys) zs
    pub told : IsPrefix (shorter_of xs ys) (longer_of xs ys)
    pub first : length xs ≤ length (longer_of xs ys)
    pub second : length ys ≤ length (longer_of xs ys)

  pub longer_fits : (xs ys zs : List A) → IsPrefix xs zs → IsPrefix ys zs → LongerFits xs ys zs
  longer_fits xs ys zs p q =
      let fits = at (nat_lt (length xs) (length ys)) refl in record { begins = fits.0; told = fits.1; first = fits.2; second = fits.3 }
    where
      at : (b : Bool) → nat_lt (length xs) (length ys) ≡ b
          → IsPrefix (if b then ys else xs) zs × IsPrefix (if b then xs else ys) (if b then ys else xs) × (length xs ≤ length (if b then ys else xs)) × (length ys ≤ length (if b then ys else xs))
      at true is = let less : length xs < length ys = grind (arith, nat_tests) in (q, prefix_shorter xs ys zs p q (omega arith), omega arith, omega arith)
      at false is = let more : length ys ≤ length xs = grind (arith, nat_tests) in (p, prefix_shorter ys xs zs q p more, omega arith, omega arith)

  -- where the shorter of two lists begins the longer, both begin it
  pub both_begin : (xs ys : List A) → IsPrefix (shorter_of xs ys) (longer_of xs ys) → IsPrefix xs (longer_of xs ys) × IsPrefix ys (longer_of xs ys)
  both_begin xs ys told = at (nat_lt (length xs) (length ys)) told
    where
      at : (b : Bool) → IsPrefix (if b then xs else ys) (if b then ys else xs) → IsPrefix xs (if b then ys else xs) × IsPrefix ys (if b then ys else xs)
      at true p = (p, prefix_self ys)
      at false p = (prefix_self xs, p)
