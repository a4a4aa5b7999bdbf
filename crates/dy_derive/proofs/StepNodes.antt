-- The node of a step of a walk says the term of the step.
use Rattle.std.proofs.Common.{◌≡◌, ℕ, zero, suc, ◌<◌, inl, inr, List, [], ◌∷◌, length, map, Option, Some, None, refl, ap, sym, ◌∙◌, subst, arith}
use Rattle.std.specs.List.{slice_get, All}
use Rattle.std.specs.Prelude.{slice_index}
use Rattle.std.specs.Option.{option_map}
use Rattle.std.proofs.lemmas.Option.{get_or_from_slice_get, slice_get_cases, slice_get_within, slice_get-map}
use Rattle.dy_term.specs.Terms as trees
use Rattle.dy_term.specs.Terms.{Term}
use Rattle.dy_flat.specs.Walks as walks
use Rattle.dy_flat.specs.Walks.{Step, of_two, of_three, term_of_step}
use Rattle.dy_derive.specs.Facts.{Fact, Derived}
use Rattle.dy_derive.specs.Nodes.{numbers_of, term_at, fact_of, IsTermAt, HasParts}
use Rattle.dy_derive.specs.MirrorKnowledge.{AreTermsAt}
use Rattle.dy_derive.specs.MirrorSteps.{parts_of_step, AreEarlier, node_of_step}
use Rattle.dy_derive.proofs.Tables.{term_at_is}

-- the parts of the node of a step
pub numbers_of-node : (numbers : List ℕ) (step : Step) → numbers_of (node_of_step numbers step) ≡ map (slice_index numbers) (parts_of_step step)
numbers_of-node numbers (walks.Lit text) = refl
numbers_of-node numbers (walks.Name principal) = refl
numbers_of-node numbers (walks.Nonce index) = refl
numbers_of-node numbers (walks.Pair a b) = refl
numbers_of-node numbers (walks.Pk a) = refl
numbers_of-node numbers (walks.Vk a) = refl
numbers_of-node numbers (walks.Penc a b) = refl
numbers_of-node numbers (walks.Aead a b c) = refl
numbers_of-node numbers (walks.Sign a b) = refl
numbers_of-node numbers (walks.Mac a b) = refl
numbers_of-node numbers (walks.Kdf a context b) = refl
numbers_of-node numbers (walks.Hash a) = refl

one_is : (make : Term → Term) (o : Option Term) (t : Term) → option_map make o ≡ Some t → (x : Term) × (o ≡ Some x) × (t ≡ make x)
one_is make (Some x) t is = (x, refl, cc)
one_is make None t is = absurd (cc)

two_is : (make : Term → Term → Term) (o r : Option Term) (t : Term) → of_two make o r ≡ Some t
    → (x y : Term) × (o ≡ Some x) × (r ≡ Some y) × (t ≡ make x y)
two_is make (Some x) (Some y) t is = (x, y, refl, refl, cc)
two_is make (Some x) None t is = absurd (cc)
two_is make None r t is = absurd (cc)

three_is : (make : Term → Term → Term → Term) (o r s : Option Term) (t : Term) → of_three make o r s ≡ Some t
    → (x y z : Term) × (o ≡ Some x) × (r ≡ Some y) × (s ≡ Some z) × (t ≡ make x y z)
three_is make (Some x) (Some y) (Some z) t is = (x, y, z, refl, refl, refl, cc)
three_is make (Some x) (Some y) None t is = absurd (cc)
three_is make (Some x) None s t is = absurd (cc)
three_is make None r s t is = absurd (cc)

-- A place among the terms.
abbrev Has : List Term → ℕ → Type 0
Has terms a = (x : Term) × (slice_get terms a ≡ Some x)

has_one : (terms : List Term) (a : ℕ) → Has terms a → (k part : ℕ) → slice_get (a ∷ []) k ≡ Some part → Has terms part
has_one terms a one zero part at = subst (Has terms) (let same : a ≡ part = cc in same) one
has_one terms a one (suc k) part at = absurd (cc)

has_two : (terms : List Term) (a b : ℕ) → Has terms a → Has terms b → (k part : ℕ) → slice_get (a ∷ b ∷ []) k ≡ Some part → Has terms part
has_two terms a b one two zero part at = subst (Has terms) (let same : a ≡ part = cc in same) one
has_two terms a b one two (suc k) part at = has_one terms b two k part at

has_three : (terms : List Term) (a b c : ℕ) → Has terms a → Has terms b → Has terms c → (k part : ℕ) → slice_get (a ∷ b ∷ c ∷ []) k ≡ Some part → Has terms part
has_three terms a b c one two three zero part at = subst (Has terms) (let same : a ≡ part = cc in same) one
has_three terms a b c one two three (suc k) part at = has_two terms b c two three k part at

-- each part of a step that has a term is among the earlier terms
pub has_parts : (terms : List Term) (step : Step) (t : Term) → term_of_step terms step ≡ Some t
    → (k part : ℕ) → slice_get (parts_of_step step) k ≡ Some part → Has terms part
has_parts terms (walks.Lit text) t is k part at = absurd (cc)
has_parts terms (walks.Name principal) t is k part at = absurd (cc)
has_parts terms (walks.Nonce index) t is k part at = absurd (cc)
has_parts terms (walks.Pair a b) t is k part at =
    let w = two_is trees.Pair (slice_get terms a) (slice_get terms b) t is in has_two terms a b (w.0, w.2) (w.1, w.3) k part at
has_parts terms (walks.Pk a) t is k part at = let w = one_is trees.Pk (slice_get terms a) t is in has_one terms a (w.0, w.1) k part at
has_parts terms (walks.Vk a) t is k part at = let w = one_is trees.Vk (slice_get terms a) t is in has_one terms a (w.0, w.1) k part at
has_parts terms (walks.Penc a b) t is k part at =
    let w = two_is trees.Penc (slice_get terms a) (slice_get terms b) t is in has_two terms a b (w.0, w.2) (w.1, w.3) k part at
has_parts terms (walks.Aead a b c) t is k part at =
    let w = three_is trees.Aead (slice_get terms a) (slice_get terms b) (slice_get terms c) t is in
    has_three terms a b c (w.0, w.3) (w.1, w.4) (w.2, w.5) k part at
has_parts terms (walks.Sign a b) t is k part at =
    let w = two_is trees.Sign (slice_get terms a) (slice_get terms b) t is in has_two terms a b (w.0, w.2) (w.1, w.3) k part at
has_parts terms (walks.Mac a b) t is k part at =
    let w = two_is trees.Mac (slice_get terms a) (slice_get terms b) t is in has_two terms a b (w.0, w.2) (w.1, w.3) k part at
has_parts terms (walks.Kdf a context b) t is k part at =
    let w = two_is (λ x y. trees.Kdf x context y) (slice_get terms a) (slice_get terms b) t is in has_two terms a b (w.0, w.2) (w.1, w.3) k part at
has_parts terms (walks.Hash a) t is k part at = let w = one_is trees.Hash (slice_get terms a) t is in has_one terms a (w.0, w.1) k part at

-- so the parts are among so many steps
pub are_earlier : (terms : List Term) (count : ℕ) (step : Step) (t : Term) → length terms ≡ count → term_of_step terms step ≡ Some t → AreEarlier count step
are_earlier terms count step t each is k part at =
    let has = has_parts terms step t is k part at in omega (arith, each, slice_get_within terms part has.0 has.1)

-- the number of a term
pub number_term : (facts : List Fact) (numbers : List ℕ) (terms : List Term) → AreTermsAt numbers terms facts → length terms ≡ length numbers
    → (a : ℕ) (x : Term) → slice_get terms a ≡ Some x → IsTermAt facts (slice_index numbers a) x
number_term facts numbers terms are each a x at =
    let within = slice_get_within terms a x at in
    elim (slice_get_cases numbers a).1 [
      | inl found ↦
          let number : slice_index numbers a ≡ found.0 = get_or_from_slice_get numbers a found.0 0 found.2 in
          let left : slice_get (map (slice_get facts) numbers) a ≡ Some (slice_get facts found.0) =
          slice_get-map (slice_get facts) numbers a ∙ ap (option_map (slice_get facts)) found.2 in
          let right : slice_get (map Some (map Derived terms)) a ≡ Some (Some (Derived x)) =
          slice_get-map Some (map Derived terms) a
          ∙ ap (option_map Some) (slice_get-map Derived terms a ∙ ap (option_map Derived) at) in
          let both : Some (slice_get facts found.0) ≡ Some (Some (Derived x)) = sym left ∙ ap (λ list. slice_get list a) are ∙ right in
          let same : slice_get facts found.0 ≡ Some (Derived x) = cc in
          ap (slice_get facts) number ∙ same
      | inr past ↦ absurd (omega (arith, past.0, each, within))
    ]

-- part by part
from_map : (f : ℕ → ℕ) (P : ℕ → Type 0) (xs : List ℕ) → ((k part : ℕ) → slice_get xs k ≡ Some part → P (f part))
    → (k part : ℕ) → slice_get (map f xs) k ≡ Some part → P part
from_map f P [] all k part at = absurd (cc)
from_map f P (x ∷ xs) all zero part at = subst P (let same : f x ≡ part = cc in same) (all 0 x refl)
from_map f P (x ∷ xs) all (suc k) part at = from_map f P xs (λ j p here. all (suc j) p here) k part at

node_parts : (numbers : List ℕ) (step : Step) (P : ℕ → Type 0) → ((k part : ℕ) → slice_get (parts_of_step step) k ≡ Some part → P (slice_index numbers part))
    → (k part : ℕ) → slice_get (numbers_of (node_of_step numbers step)) k ≡ Some part → P part
node_parts numbers step P all k part at =
    from_map (slice_index numbers) P (parts_of_step step) all k part (ap (λ list. slice_get list k) (sym (numbers_of-node numbers step)) ∙ at)

-- The node of a step has its parts.
pub step_parts : (facts : List Fact) (numbers : List ℕ) (terms : List Term) (step : Step) (t : Term)
    → AreTermsAt numbers terms facts → length terms ≡ length numbers → term_of_step terms step ≡ Some t
    → HasParts facts (length facts) (node_of_step numbers step)
step_parts facts numbers terms step t are each is =
    node_parts numbers step (λ part. (part < length facts) × ((term : Term) × IsTermAt facts part term))
    (λ k part at.
    let has = has_parts terms step t is k part at in
    let term = number_term facts numbers terms are each part has.0 has.1 in
    (slice_get_within facts (slice_index numbers part) (Derived has.0) term, (has.0, term)))

-- Its parts have numbers below those of the nodes.
pub step_below : (count : ℕ) (numbers : List ℕ) (step : Step) → All (λ number. number < count) numbers → AreEarlier (length numbers) step
    → (k part : ℕ) → slice_get (numbers_of (node_of_step numbers step)) k ≡ Some part → part < count
step_below count numbers step all earlier =
    node_parts numbers step (λ part. part < count) (λ k part at. all part 0 (earlier k part at))

looked_up : (facts : List Fact) (numbers : List ℕ) (terms : List Term) → AreTermsAt numbers terms facts → length terms ≡ length numbers
    → (a : ℕ) (x : Term) → slice_get terms a ≡ Some x → term_at facts (slice_index numbers a) ≡ x
looked_up facts numbers terms are each a x at = term_at_is facts (slice_index numbers a) x (number_term facts numbers terms are each a x at)

-- It says the term of the step.
pub step_says : (facts : List Fact) (numbers : List ℕ) (terms : List Term) (step : Step) (t : Term)
    → AreTermsAt numbers terms facts → length terms ≡ length numbers → term_of_step terms step ≡ Some t
    → fact_of facts (node_of_step numbers step) ≡ Derived t
step_says facts numbers terms (walks.Lit text) t are each is = cc
step_says facts numbers terms (walks.Name principal) t are each is = cc
step_says facts numbers terms (walks.Nonce index) t are each is = cc
step_says facts numbers terms (walks.Pair a b) t are each is =
    let w = two_is trees.Pair (slice_get terms a) (slice_get terms b) t is in
    let one = looked_up facts numbers terms are each a w.0 w.2 in let two = looked_up facts numbers terms are each b w.1 w.3 in
    let same = w.4 in cc
step_says facts numbers terms (walks.Pk a) t are each is =
    let w = one_is trees.Pk (slice_get terms a) t is in
    let one = looked_up facts numbers terms are each a w.0 w.1 in let same = w.2 in cc
step_says facts numbers terms (walks.Vk a) t are each is =
    let w = one_is trees.Vk (slice_get terms a) t is in
    let one = looked_up facts numbers terms are each a w.0 w.1 in let same = w.2 in cc
step_says facts numbers terms (walks.Penc a b) t are each is =
    let w = two_is trees.Penc (slice_get terms a) (slice_get terms b) t is in
    let one = looked_up facts numbers terms are each a w.0 w.2 in let two = looked_up facts numbers terms are each b w.1 w.3 in
    let same = w.4 in cc
step_says facts numbers terms (walks.Aead a b c) t are each is =
    let w = three_is trees.Aead (slice_get terms a) (slice_get terms b) (slice_get terms c) t is in
    let one = looked_up facts numbers terms are each a w.0 w.3 in let two = looked_up facts numbers terms are each b w.1 w.4 in
    let three = looked_up facts numbers terms are each c w.2 w.5 in let same = w.6 in cc
step_says facts numbers terms (walks.Sign a b) t are each is =
    let w = two_is trees.Sign (slice_get terms a) (slice_get terms b) t is in
    let one = looked_up facts numbers terms are each a w.0 w.2 in let two = looked_up facts numbers terms are each b w.1 w.3 in
    let same = w.4 in cc
step_says facts numbers terms (walks.Mac a b) t are each is =
    let w = two_is trees.Mac (slice_get terms a) (slice_get terms b) t is in
    let one = looked_up facts numbers terms are each a w.0 w.2 in let two = looked_up facts numbers terms are each b w.1 w.3 in
    let same = w.4 in cc
step_says facts numbers terms (walks.Kdf a context b) t are each is =
    let w = two_is (λ x y. trees.Kdf x context y) (slice_get terms a) (slice_get terms b) t is in
    let one = looked_up facts numbers terms are each a w.0 w.2 in let two = looked_up facts numbers terms are each b w.1 w.3 in
    let same = w.4 in cc
step_says facts numbers terms (walks.Hash a) t are each is =
    let w = one_is trees.Hash (slice_get terms a) t is in
    let one = looked_up facts numbers terms are each a w.0 w.1 in let same = w.2 in cc
