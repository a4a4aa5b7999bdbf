-- The nodes of the steps of a walk, interned one after another.
use Rattle.std.proofs.Common.{◌≡◌, ℕ, zero, suc, ◌<◌, ◌≤◌, inl, inr, List, [], ◌∷◌, ◌++◌, length, map, Option, Some, None, refl, ap, sym, ◌∙◌, subst, arith}
use Rattle.std.specs.List.{slice_get, All}
use Rattle.std.specs.Option.{option_and_then}
use Rattle.std.proofs.lemmas.List.{map-append}
use Rattle.dy_term.specs.Terms as trees
use Rattle.dy_term.specs.Terms.{Term, size}
use Rattle.dy_term.specs.declared.limits.TheConstants.{MAX_NODES}
use Rattle.dy_flat.specs.Walks.{Step, term_of_step, terms_by_steps, walk_of}
use Rattle.dy_entry.proofs.Traces.{slice_get-prefix, slice_get-end}
use Rattle.dy_derive.specs.declared.deductions.Deductions.{Deductions}
use Rattle.dy_derive.specs.Facts.{Fact, Derived}
use Rattle.dy_derive.specs.Nodes.{IsSmall}
use Rattle.dy_derive.specs.MirrorKnowledge.{Interns, IsUnchanged, Grows, AreAny, AreAt, AreTermsAt}
use Rattle.dy_derive.specs.MirrorSteps.{node_of_step, IsNext}
use Rattle.dy_derive.proofs.AddedInferences.{in_either, premises_longer}
use Rattle.dy_derive.proofs.GrownDeductions.{grows_interned, grows_unchanged}
use Rattle.dy_derive.proofs.StepNodes.{step_parts, step_says}

-- one number more
pub at_more : (facts more : List Fact) (numbers : List ℕ) (said : List Fact) (number : ℕ) (fact : Fact) → AreAt numbers said facts
    → slice_get (facts ++ more) number ≡ Some fact → AreAt (numbers ++ number ∷ []) (said ++ fact ∷ []) (facts ++ more)
at_more facts more numbers said number fact are at =
    let old = premises_longer facts more numbers said are in
    map-append (slice_get (facts ++ more)) numbers (number ∷ [])
    ∙ ap (λ list. list ++ map (slice_get (facts ++ more)) (number ∷ [])) old
    ∙ ap (λ one. map Some said ++ one ∷ []) at
    ∙ sym (map-append Some said (fact ∷ []))

-- A step is interned.
pub step_added : (start old new : Deductions) (numbers : List ℕ) (terms : List Term) (step : Step) (term : Term) (number : ℕ)
    → IsNext start old numbers terms step term → Interns old new (node_of_step numbers step) number
    → Grows start new (AreTermsAt (numbers ++ number ∷ []) (terms ++ term ∷ []))
step_added start old new numbers terms step term number next interns =
    let node = node_of_step numbers step in
    let same = sym (map-append Derived terms (term ∷ [])) in
    grows_interned start old new node number (AreTermsAt numbers terms) (AreTermsAt (numbers ++ number ∷ []) (terms ++ term ∷ [])) next.grown interns
    (λ facts are. (
      step_parts facts numbers terms step term are next.each next.is,
      subst IsSmall (sym (step_says facts numbers terms step term are next.each next.is)) next.small,
    ))
    (λ facts more are at.
    let says = step_says facts numbers terms step term are next.each next.is in
    let one = at_more facts more numbers (map Derived terms) number (Derived term) are (at ∙ ap Some says) in
    subst (λ (said : List Fact). AreAt (numbers ++ number ∷ []) said (facts ++ more)) same one)

-- growth without more
pub grows_any : (start new : Deductions) (AreSuch : List Fact → Type 0) → Grows start new AreSuch → Grows start new AreAny
grows_any start new AreSuch grown = record {
  nodes = grown.nodes;
  log = grown.log;
  deduced = λ facts T deduced. let one = grown.deduced facts T deduced in (one.0, one.1, tt);
}

-- A step is not interned.
pub step_kept : (start old new : Deductions) (numbers : List ℕ) (terms : List Term) (step : Step) (term : Term)
    → IsNext start old numbers terms step term → IsUnchanged old new → Grows start new AreAny
step_kept start old new numbers terms step term next is = grows_unchanged start old new (AreTermsAt numbers terms) AreAny next.grown is (λ facts are. tt)

-- what a chain of options gives
and_then_is : {A B : Type 0} (f : A → Option B) (o : Option A) (r : B) → option_and_then f o ≡ Some r → (x : A) × (o ≡ Some x) × (f x ≡ Some r)
and_then_is f (Some x) r is = (x, refl, is)
and_then_is f None r is = absurd (cc)

-- the next step of a walk
pub walk_next : (earlier : List Term) (step : Step) (rest : List Step) (all : List Term) → terms_by_steps earlier (step ∷ rest) ≡ Some all
    → (t : Term) × (term_of_step earlier step ≡ Some t) × (terms_by_steps (earlier ++ t ∷ []) rest ≡ Some all)
walk_next earlier step rest all is = and_then_is (λ t. terms_by_steps (earlier ++ t ∷ []) rest) (term_of_step earlier step) all is

-- earlier terms stay
pub walk_keeps : (earlier : List Term) (steps : List Step) (all : List Term) (k : ℕ) (x : Term) → terms_by_steps earlier steps ≡ Some all
    → slice_get earlier k ≡ Some x → slice_get all k ≡ Some x
walk_keeps earlier [] all k x is at = let same : earlier ≡ all = cc in ap (λ list. slice_get list k) (sym same) ∙ at
walk_keeps earlier (step ∷ rest) all k x is at =
    let next = walk_next earlier step rest all is in
    walk_keeps (earlier ++ next.0 ∷ []) rest all k x next.2 (slice_get-prefix earlier (next.0 ∷ []) k x at)

-- Each of the terms has at most so many nodes.
abbrev Small : ℕ → List Term → Type 0
Small n terms = (k : ℕ) (x : Term) → slice_get terms k ≡ Some x → size x ≤ n

small_both : (n : ℕ) (xs ys : List Term) → Small n xs → Small n ys → Small n (xs ++ ys)
small_both n xs ys left right k x at = elim (in_either xs ys k x at) [ inl one ↦ left k x one | inr other ↦ right other.0 x other.2 ]

small_more : (m n : ℕ) (xs : List Term) → m ≤ n → Small m xs → Small n xs
small_more m n xs order small k x at = omega (arith, order, small k x at)

small_one : (n : ℕ) (t : Term) → size t ≤ n → Small n (t ∷ [])
small_one n t small zero x at = subst (λ (u : Term). size u ≤ n) (let same : t ≡ x = cc in same) small
small_one n t small (suc k) x at = absurd (cc)

one_part : (t a : Term) → size a ≤ size t → Small (size a) (walk_of a) → Small (size t) (walk_of a ++ t ∷ [])
one_part t a order small =
    small_both (size t) (walk_of a) (t ∷ []) (small_more (size a) (size t) (walk_of a) order small) (small_one (size t) t (omega arith))

two_parts : (t a b : Term) → size a ≤ size t → size b ≤ size t → Small (size a) (walk_of a) → Small (size b) (walk_of b)
    → Small (size t) (walk_of b ++ (walk_of a ++ t ∷ []))
two_parts t a b first second left right =
    small_both (size t) (walk_of b) (walk_of a ++ t ∷ []) (small_more (size b) (size t) (walk_of b) second right) (one_part t a first left)

-- The terms of a walk have no more nodes than the whole.
pub walk_small : (t : Term) → Small (size t) (walk_of t)
walk_small (trees.Lit text) = small_one 1 (trees.Lit text) (omega arith)
walk_small (trees.Name name) = small_one 1 (trees.Name name) (omega arith)
walk_small (trees.Nonce index) = small_one 1 (trees.Nonce index) (omega arith)
walk_small (trees.Pair a b) = two_parts (trees.Pair a b) a b (omega arith) (omega arith) (walk_small a) (walk_small b)
walk_small (trees.Pk a) = one_part (trees.Pk a) a (omega arith) (walk_small a)
walk_small (trees.Vk a) = one_part (trees.Vk a) a (omega arith) (walk_small a)
walk_small (trees.Penc a b) = two_parts (trees.Penc a b) a b (omega arith) (omega arith) (walk_small a) (walk_small b)
walk_small (trees.Aead a b c) =
    let t = trees.Aead a b c in
    small_both (size t) (walk_of c) (walk_of b ++ (walk_of a ++ t ∷ [])) (small_more (size c) (size t) (walk_of c) (omega arith) (walk_small c))
    (two_parts t a b (omega arith) (omega arith) (walk_small a) (walk_small b))
walk_small (trees.Sign a b) = two_parts (trees.Sign a b) a b (omega arith) (omega arith) (walk_small a) (walk_small b)
walk_small (trees.Mac a b) = two_parts (trees.Mac a b) a b (omega arith) (omega arith) (walk_small a) (walk_small b)
walk_small (trees.Kdf a context b) = two_parts (trees.Kdf a context b) a b (omega arith) (omega arith) (walk_small a) (walk_small b)
walk_small (trees.Hash a) = one_part (trees.Hash a) a (omega arith) (walk_small a)

-- How far a walk has come.
pub record IsWalked (start now : Deductions) (numbers : List ℕ) (rest : List Step) (whole : Term) : Type 0 where
  pub terms : List Term
  pub each : length terms ≡ length numbers
  pub rest_is : terms_by_steps terms rest ≡ Some (walk_of whole)
  pub below : All (λ number. number < length now.nodes.keys) numbers
  pub grown : Grows start now (AreTermsAt numbers terms)

-- the next step of it
pub next_step : (start now : Deductions) (numbers : List ℕ) (step : Step) (rest : List Step) (whole : Term) → size whole ≤ MAX_NODES
    → (walked : IsWalked start now numbers (step ∷ rest) whole)
    → (t : Term) × (IsNext start now numbers walked.terms step t × (terms_by_steps (walked.terms ++ t ∷ []) rest ≡ Some (walk_of whole)))
next_step start now numbers step rest whole small walked =
    let next = walk_next walked.terms step rest (walk_of whole) walked.rest_is in
    let at = walk_keeps (walked.terms ++ next.0 ∷ []) rest (walk_of whole) (length walked.terms) next.0 next.2 (slice_get-end walked.terms next.0) in
    let few = walk_small whole (length walked.terms) next.0 at in
    (next.0, (record { is = next.1; small = omega (arith, few, small); each = walked.each; grown = walked.grown }, next.2))
