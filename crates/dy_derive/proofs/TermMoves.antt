-- What is found of a term, where its parts were found.
use Rattle.std.proofs.Common.{◌≡◌, ℕ, zero, suc, ◌+◌, ◌-◌, ◌<◌, ◌≤◌, ◌==◌, ◌⊎◌, Bool, true, false, List, [], ◌∷◌, ◌++◌, Option, Some, None, if◌then◌else◌, inl, inr, refl, sym, arith, length, take, ap, ◌∙◌}
use Rattle.std.specs.Option.{option_map}
use Rattle.std.specs.List.{slice_get}
use Rattle.std.proofs.lemmas.Option.{slice_get-map, slice_get_within}
use Rattle.std.proofs.lemmas.List.{length-append}
use Rattle.dy_term.specs.Terms as terms
use Rattle.dy_term.specs.Terms.{Term, size}
use Rattle.dy_flat.specs.Parts.{parts_of}
use Rattle.dy_entry.specs.Entries.{Entry}
use Rattle.dy_entry.proofs.Traces.{slice_get-prefix, slice_get-end, slice_get_split}
use Rattle.dy_recipe.specs.Moves as moves
use Rattle.dy_recipe.specs.Moves.{Move, Leaves}
use Rattle.dy_recipe.specs.Values.{value_at, made_by, move_value}
use Rattle.dy_traces.specs.Given.{given_by}
use Rattle.dy_chains.specs.declared.rules.Rule.{Rule}
use Rattle.dy_chains.specs.declared.logs.Step.{Step}
use Rattle.dy_chains.specs.Logs.{place_of, IsLog}
use Rattle.dy_derive.specs.declared.term_moves.Found.{Found}
use Rattle.dy_derive.specs.Facts.{Fact}
use Rattle.dy_derive.specs.Nodes.{term_at, IsTermAt}
use Rattle.dy_derive.specs.Saturation.{Built, IsHad}
use Rattle.dy_derive.specs.MirrorRecipes.{HaveValues, log_values}
use Rattle.dy_derive.specs.MirrorTerms.{of_two, of_three, move_over, log_number, HasNumber, HasMove, HaveMoves, IsFound}
use Rattle.dy_derive.proofs.InferredValues.{one_of, two_of, three_of, value_after}
use Rattle.dy_derive.proofs.LogValues.{place_is, stands_at, step_at}
use Rattle.dy_derive.proofs.TermNumbers.{term_found}

inside : {A : Type 0} (a b : A) → Some a ≡ Some b → a ≡ b
inside a b same = cc

-- ---- values after which more stand

value_at_more : (earlier more : List Term) (number : ℕ) (x : Term) → value_at earlier number ≡ Some x → value_at (earlier ++ more) number ≡ Some x
value_at_more earlier more number x at = by (number == 0) at where
  by : (b : Bool) → (if b then None else slice_get earlier (number - 1)) ≡ Some x → (if b then None else slice_get (earlier ++ more) (number - 1)) ≡ Some x
  by true e = absurd cc
  by false e = slice_get-prefix earlier more (number - 1) x e

has_move_more : (facts : List Fact) (log : List Step) (earlier more : List Term) (term : Term) (o : Option ℕ) → HasMove facts log earlier term o → HasMove facts log (earlier ++ more) term o
has_move_more facts log earlier more term None none = none
has_move_more facts log earlier more term (Some number) at = value_at_more earlier more number term at

-- What was found of a term stays after more values.
pub found_more : (facts : List Fact) (log : List Step) (earlier more : List Term) (term : Term) (found : Found) → IsFound facts log earlier term found → IsFound facts log (earlier ++ more) term found
found_more facts log earlier more term found is = record { node = is.node; number = has_move_more facts log earlier more term found.number is.number }

take_prefix : (xs ys : List Term) (i : ℕ) → i ≤ length xs → take i (xs ++ ys) ≡ take i xs
take_prefix xs ys zero within = refl
take_prefix [] ys (suc i) within = absurd (omega arith)
take_prefix (x ∷ xs) ys (suc i) within = ap (λ zs. x ∷ zs) (take_prefix xs ys i (omega arith))

take_whole : (xs ys : List Term) → take (length xs) (xs ++ ys) ≡ xs
take_whole [] ys = refl
take_whole (x ∷ xs) ys = ap (λ zs. x ∷ zs) (take_whole xs ys)

within_more : (xs ys : List Term) (i : ℕ) → i < length xs → slice_get (xs ++ ys) i ≡ slice_get xs i
within_more [] ys i within = absurd (omega arith)
within_more (x ∷ xs) ys zero within = refl
within_more (x ∷ xs) ys (suc i) within = within_more xs ys i (omega arith)

-- One move more has its value after the others.
pub values_push : (leaves : Leaves) (old : List Move) (vs : List Term) (move : Move) (value : Term) → HaveValues leaves old vs → move_value leaves vs move ≡ Some value
    → HaveValues leaves (old ++ move ∷ []) (vs ++ value ∷ [])
values_push leaves old vs move value have is = record {
  each = length-append vs (value ∷ []) ∙ ap (λ n. n + 1) have.each ∙ sym (length-append old (move ∷ []));
  over = over;
} where
  over : (i : ℕ) (m : Move) → slice_get (old ++ move ∷ []) i ≡ Some m → slice_get (vs ++ value ∷ []) i ≡ move_value leaves (take i (vs ++ value ∷ [])) m
  over i m at = elim (slice_get_split old move m i at) [
    | inl before ↦
        let low : i ≤ length vs = omega (arith, slice_get_within old i m before, have.each) in
        within_more vs (value ∷ []) i (omega (arith, slice_get_within old i m before, have.each)) ∙ have.over i m before
        ∙ ap (λ xs. move_value leaves xs m) (sym (take_prefix vs (value ∷ []) i low))
    | inr last ↦
        let place : i ≡ length vs = last.0 ∙ sym have.each in
        ap (slice_get (vs ++ value ∷ [])) place ∙ slice_get-end vs value ∙ sym is
        ∙ ap (move_value leaves vs) last.1 ∙ ap (λ xs. move_value leaves xs m) (sym (take_whole vs (value ∷ []))) ∙ ap (λ n. move_value leaves (take n (vs ++ value ∷ [])) m) (sym place)
  ]

-- ---- the move over the moves of the parts

module _ (facts : List Fact) (log : List Step) (T : List Entry) (vs : List Term) where
  abbrev Has : Term → Option ℕ → Type 0
  Has term o = HasMove facts log vs term o

  abbrev pub Makes : Option Move → Term → Type 0
  Makes None term = Unit {0}
  Makes (Some move) term = made_by (given_by T) vs move ≡ Some term

  one_makes : (make : ℕ → Move) (build : Term → Term) (x : Term) (a : Option ℕ) → Has x a
      → ((p : ℕ) → value_at vs p ≡ Some x → made_by (given_by T) vs (make p) ≡ Some (build x)) → Makes (option_map make a) (build x)
  one_makes make build x None has makes = tt
  one_makes make build x (Some p) has makes = makes p has

  two_make : (make : ℕ → ℕ → Move) (build : Term → Term → Term) (x y : Term) (a b : Option ℕ) → Has x a → Has y b
      → ((p q : ℕ) → value_at vs p ≡ Some x → value_at vs q ≡ Some y → made_by (given_by T) vs (make p q) ≡ Some (build x y)) → Makes (of_two make a b) (build x y)
  two_make make build x y None b has other makes = tt
  two_make make build x y (Some p) None has other makes = tt
  two_make make build x y (Some p) (Some q) has other makes = makes p q has other

  three_make : (make : ℕ → ℕ → ℕ → Move) (build : Term → Term → Term → Term) (x y z : Term) (a b c : Option ℕ) → Has x a → Has y b → Has z c
      → ((p q r : ℕ) → value_at vs p ≡ Some x → value_at vs q ≡ Some y → value_at vs r ≡ Some z → made_by (given_by T) vs (make p q r) ≡ Some (build x y z))
      → Makes (of_three make a b c) (build x y z)
  three_make make build x y z None b c has other third makes = tt
  three_make make build x y z (Some p) None c has other third makes = tt
  three_make make build x y z (Some p) (Some q) None has other third makes = tt
  three_make make build x y z (Some p) (Some q) (Some r) has other third makes = makes p q r has other third

  makes_pair : (x y : Term) (p q : ℕ) → value_at vs p ≡ Some x → value_at vs q ≡ Some y → made_by (given_by T) vs (moves.Pair p q) ≡ Some (terms.Pair x y)
  makes_pair x y p q e g = two_of (λ v w. Some (terms.Pair v w)) (value_at vs p) (value_at vs q) x y e g

  makes_penc : (x y : Term) (p q : ℕ) → value_at vs p ≡ Some x → value_at vs q ≡ Some y → made_by (given_by T) vs (moves.Penc p q) ≡ Some (terms.Penc x y)
  makes_penc x y p q e g = two_of (λ v w. Some (terms.Penc v w)) (value_at vs p) (value_at vs q) x y e g

  makes_sign : (x y : Term) (p q : ℕ) → value_at vs p ≡ Some x → value_at vs q ≡ Some y → made_by (given_by T) vs (moves.Sign p q) ≡ Some (terms.Sign x y)
  makes_sign x y p q e g = two_of (λ v w. Some (terms.Sign v w)) (value_at vs p) (value_at vs q) x y e g

  makes_mac : (x y : Term) (p q : ℕ) → value_at vs p ≡ Some x → value_at vs q ≡ Some y → made_by (given_by T) vs (moves.Mac p q) ≡ Some (terms.Mac x y)
  makes_mac x y p q e g = two_of (λ v w. Some (terms.Mac v w)) (value_at vs p) (value_at vs q) x y e g

  makes_kdf : (context : List ℕ) (x y : Term) (p q : ℕ) → value_at vs p ≡ Some x → value_at vs q ≡ Some y → made_by (given_by T) vs (moves.Kdf p context q) ≡ Some (terms.Kdf x context y)
  makes_kdf context x y p q e g = two_of (λ v w. Some (terms.Kdf v context w)) (value_at vs p) (value_at vs q) x y e g

  makes_aead : (x y z : Term) (p q r : ℕ) → value_at vs p ≡ Some x → value_at vs q ≡ Some y → value_at vs r ≡ Some z
      → made_by (given_by T) vs (moves.Aead p q r) ≡ Some (terms.Aead x y z)
  makes_aead x y z p q r e g h = three_of (λ u v w. Some (terms.Aead u v w)) (value_at vs p) (value_at vs q) (value_at vs r) x y z e g h

  -- The move over the moves of the parts makes the term.
  pub move_makes : (term : Term) (a b c : Option ℕ) → HaveMoves facts log vs (parts_of term) (a ∷ b ∷ c ∷ []) → Makes (move_over term a b c) term
  move_makes (terms.Lit text) a b c has = refl
  move_makes (terms.Name principal) a b c has = refl
  move_makes (terms.Nonce index) a b c has = tt
  move_makes (terms.Pair x y) a b c has = two_make moves.Pair terms.Pair x y a b has.0 has.1.0 (makes_pair x y)
  move_makes (terms.Pk k) a b c has = one_makes moves.Pk terms.Pk k a has.0 (λ p e. one_of terms.Pk (value_at vs p) k e)
  move_makes (terms.Vk k) a b c has = one_makes moves.Vk terms.Vk k a has.0 (λ p e. one_of terms.Vk (value_at vs p) k e)
  move_makes (terms.Penc x y) a b c has = two_make moves.Penc terms.Penc x y a b has.0 has.1.0 (makes_penc x y)
  move_makes (terms.Aead x y z) a b c has = three_make moves.Aead terms.Aead x y z a b c has.0 has.1.0 has.1.1.0 (makes_aead x y z)
  move_makes (terms.Sign x y) a b c has = two_make moves.Sign terms.Sign x y a b has.0 has.1.0 (makes_sign x y)
  move_makes (terms.Mac x y) a b c has = two_make moves.Mac terms.Mac x y a b has.0 has.1.0 (makes_mac x y)
  move_makes (terms.Kdf x context y) a b c has = two_make (λ k i. moves.Kdf k context i) (λ k i. terms.Kdf k context i) x y a b has.0 has.1.0 (makes_kdf context x y)
  move_makes (terms.Hash m) a b c has = one_makes moves.Hash terms.Hash m a has.0 (λ p e. one_of terms.Hash (value_at vs p) m e)

  -- ---- where there is none, the term is not built

  abbrev pub Is : Term → Type 0
  Is term = Built (IsHad facts log) term

  no_one : (make : ℕ → Move) (x : Term) (a : Option ℕ) → Has x a → option_map make a ≡ None → Is x → ⊥
  no_one make x None has none built = has built
  no_one make x (Some p) has none built = cc

  no_two : (make : ℕ → ℕ → Move) (x y : Term) (a b : Option ℕ) → Has x a → Has y b → of_two make a b ≡ None → Is x → Is y → ⊥
  no_two make x y None b has other none one two = has one
  no_two make x y (Some p) None has other none one two = other two
  no_two make x y (Some p) (Some q) has other none one two = cc

  no_three : (make : ℕ → ℕ → ℕ → Move) (x y z : Term) (a b c : Option ℕ) → Has x a → Has y b → Has z c → of_three make a b c ≡ None → Is x → Is y → Is z → ⊥
  no_three make x y z None b c has other third none one two three = has one
  no_three make x y z (Some p) None c has other third none one two three = other two
  no_three make x y z (Some p) (Some q) None has other third none one two three = third three
  no_three make x y z (Some p) (Some q) (Some r) has other third none one two three = cc

  either : {A : Type 0} {B : Type 0} → A ⊎ B → (A → ⊥) → (B → ⊥) → ⊥
  either o f g = elim o [ inl a ↦ f a | inr b ↦ g b ]

  -- Where the term is not had and no move is over those of its parts, it is not built.
  pub no_move_over : (term : Term) (a b c : Option ℕ) → HaveMoves facts log vs (parts_of term) (a ∷ b ∷ c ∷ []) → move_over term a b c ≡ None → (IsHad facts log term → ⊥) → Is term → ⊥
  no_move_over (terms.Lit text) a b c has none lacks built = cc
  no_move_over (terms.Name principal) a b c has none lacks built = cc
  no_move_over (terms.Nonce index) a b c has none lacks built = lacks built
  no_move_over (terms.Pair x y) a b c has none lacks built = either built lacks (λ both. no_two moves.Pair x y a b has.0 has.1.0 none both.0 both.1)
  no_move_over (terms.Pk k) a b c has none lacks built = either built lacks (no_one moves.Pk k a has.0 none)
  no_move_over (terms.Vk k) a b c has none lacks built = either built lacks (no_one moves.Vk k a has.0 none)
  no_move_over (terms.Penc x y) a b c has none lacks built = either built lacks (λ both. no_two moves.Penc x y a b has.0 has.1.0 none both.0 both.1)
  no_move_over (terms.Aead x y z) a b c has none lacks built = either built lacks (λ all. no_three moves.Aead x y z a b c has.0 has.1.0 has.1.1.0 none all.0 all.1 all.2)
  no_move_over (terms.Sign x y) a b c has none lacks built = either built lacks (λ both. no_two moves.Sign x y a b has.0 has.1.0 none both.0 both.1)
  no_move_over (terms.Mac x y) a b c has none lacks built = either built lacks (λ both. no_two moves.Mac x y a b has.0 has.1.0 none both.0 both.1)
  no_move_over (terms.Kdf x context y) a b c has none lacks built = either built lacks (λ both. no_two (λ k i. moves.Kdf k context i) x y a b has.0 has.1.0 none both.0 both.1)
  no_move_over (terms.Hash m) a b c has none lacks built = either built lacks (no_one moves.Hash m a has.0 none)

-- ---- what follows has a move in the log

module _ (rules : List Rule) (log : List Step) (logged : IsLog rules log) (facts : List Fact) (term : Term) where
  pub log_value : (fact place : ℕ) → IsTermAt facts fact term → place_of log fact ≡ Some place → slice_get (log_values facts log) place ≡ Some term
  log_value fact place at found =
      let step = step_at fact log place (stands_at rules log logged place fact found) in
      slice_get-map (λ s. term_at facts s.fact) log place ∙ ap (option_map (λ s. term_at facts s.fact)) step.1
      ∙ ap (λ n. Some (term_at facts n)) step.2 ∙ ap Some (term_found facts fact term at)

  -- The number of the move of a term that follows names it.
  pub log_number_names : (vs extra : List Term) (node : Option ℕ) (number : ℕ) → vs ≡ log_values facts log ++ extra → HasNumber facts term node
      → log_number log node ≡ Some number → value_at vs number ≡ Some term
  log_number_names vs extra None number begins at found = absurd cc
  log_number_names vs extra (Some fact) number begins at found =
      elim (place_of log fact) as (λ o. place_of log fact ≡ o → option_map (λ place. place + 1) o ≡ Some number → value_at vs number ≡ Some term) [
        | None ↦ λ none is. absurd cc
        | Some place ↦ λ there is.
            ap (λ n. value_at vs n) (sym (inside (place + 1) number is))
            ∙ value_after vs place term (ap (λ xs. slice_get xs place) begins ∙ slice_get-prefix (log_values facts log) extra place term (log_value fact place at there))
      ] refl found

  -- A term whose number has no move in the log does not follow.
  pub log_number_lacks : (table_once : (number other : ℕ) → IsTermAt facts number term → IsTermAt facts other term → number ≡ other)
      → (node : Option ℕ) → HasNumber facts term node → log_number log node ≡ None → IsHad facts log term → ⊥
  log_number_lacks once None none is had = none (had.0, had.1)
  log_number_lacks once (Some fact) at is had =
      let same : had.0 ≡ fact = once had.0 fact had.1 at in
      let place : place_of log fact ≡ Some had.2.0 = ap (place_of log) (sym same) ∙ place_is rules log logged had.2.0 had.0 had.2.1 in
      let some : option_map (λ place. place + 1) (place_of log fact) ≡ Some (had.2.0 + 1) = ap (option_map (λ place. place + 1)) place in cc
