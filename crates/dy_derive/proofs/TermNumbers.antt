-- The number of a term is that of the node over the numbers of its parts.
use Rattle.std.proofs.Common.{◌≡◌, ℕ, List, [], ◌∷◌, Option, Some, None, refl, sym, subst, ap, ◌∙◌}
use Rattle.std.specs.Option.{option_map, IfSome, IfNone}
use Rattle.std.specs.List.{slice_get}
use Rattle.std.proofs.lemmas.Option.{get_or_from_slice_get}
use Rattle.dy_term.specs.Terms as terms
use Rattle.dy_term.specs.Terms.{Term}
use Rattle.dy_flat.specs.Parts.{parts_of}
use Rattle.dy_derive.specs.declared.nodes.Node.{Node}
use Rattle.dy_derive.specs.declared.nodes.Node.TheVariants as code
use Rattle.dy_derive.specs.Facts.{Fact, Derived}
use Rattle.dy_derive.specs.Nodes.{term_in, term_at, numbers_of, fact_of, IsTermAt, IsTable}
use Rattle.dy_derive.specs.Saturation.{IsPart}
use Rattle.dy_derive.specs.MirrorTerms.{of_two, of_three, node_over, HasNumber, HaveNumbers}
use Rattle.dy_derive.proofs.FactsSaturated.{also_there}

inside : {A : Type 0} (a b : A) → Some a ≡ Some b → a ≡ b
inside a b same = cc

module _ (facts : List Fact) where
  pub term_found : (number : ℕ) (term : Term) → IsTermAt facts number term → term_at facts number ≡ term
  term_found number term at = ap term_in (get_or_from_slice_get facts number (Derived term) (Derived (terms.Lit [])) at)

  -- ---- what a node over numbers says

  one_says : (make : ℕ → Node) (build : Term → Term) (x : Term) (a : Option ℕ) (node : Node)
      → ((p : ℕ) → fact_of facts (make p) ≡ Derived (build (term_at facts p))) → HasNumber facts x a → option_map make a ≡ Some node → fact_of facts node ≡ Derived (build x)
  one_says make build x None node says has is = absurd cc
  one_says make build x (Some p) node says has is =
      ap (fact_of facts) (sym (inside (make p) node is)) ∙ says p ∙ ap (λ t. Derived (build t)) (term_found p x has)

  two_says : (make : ℕ → ℕ → Node) (build : Term → Term → Term) (x y : Term) (a b : Option ℕ) (node : Node)
      → ((p q : ℕ) → fact_of facts (make p q) ≡ Derived (build (term_at facts p) (term_at facts q))) → HasNumber facts x a → HasNumber facts y b
      → of_two make a b ≡ Some node → fact_of facts node ≡ Derived (build x y)
  two_says make build x y None b node says has other is = absurd cc
  two_says make build x y (Some p) None node says has other is = absurd cc
  two_says make build x y (Some p) (Some q) node says has other is =
      ap (fact_of facts) (sym (inside (make p q) node is)) ∙ says p q ∙ ap (λ t. Derived (build t (term_at facts q))) (term_found p x has) ∙ ap (λ t. Derived (build x t)) (term_found q y other)

  three_says : (make : ℕ → ℕ → ℕ → Node) (build : Term → Term → Term → Term) (x y z : Term) (a b c : Option ℕ) (node : Node)
      → ((p q r : ℕ) → fact_of facts (make p q r) ≡ Derived (build (term_at facts p) (term_at facts q) (term_at facts r)))
      → HasNumber facts x a → HasNumber facts y b → HasNumber facts z c → of_three make a b c ≡ Some node → fact_of facts node ≡ Derived (build x y z)
  three_says make build x y z None b c node says has other third is = absurd cc
  three_says make build x y z (Some p) None c node says has other third is = absurd cc
  three_says make build x y z (Some p) (Some q) None node says has other third is = absurd cc
  three_says make build x y z (Some p) (Some q) (Some r) node says has other third is =
      ap (fact_of facts) (sym (inside (make p q r) node is)) ∙ says p q r
      ∙ ap (λ t. Derived (build t (term_at facts q) (term_at facts r))) (term_found p x has)
      ∙ ap (λ t. Derived (build x t (term_at facts r))) (term_found q y other) ∙ ap (λ t. Derived (build x y t)) (term_found r z third)

  pub node_says : (term : Term) (a b c : Option ℕ) (node : Node) → HaveNumbers facts (parts_of term) (a ∷ b ∷ c ∷ []) → node_over term a b c ≡ Some node → fact_of facts node ≡ Derived term
  node_says (terms.Lit text) a b c node has is = ap (fact_of facts) (sym (inside (code.Lit text) node is))
  node_says (terms.Name principal) a b c node has is = ap (fact_of facts) (sym (inside (code.Name principal) node is))
  node_says (terms.Nonce index) a b c node has is = ap (fact_of facts) (sym (inside (code.Nonce index) node is))
  node_says (terms.Pair x y) a b c node has is = two_says code.Pair terms.Pair x y a b node (λ p q. refl) has.0 has.1.0 is
  node_says (terms.Pk k) a b c node has is = one_says code.Pk terms.Pk k a node (λ p. refl) has.0 is
  node_says (terms.Vk k) a b c node has is = one_says code.Vk terms.Vk k a node (λ p. refl) has.0 is
  node_says (terms.Penc x y) a b c node has is = two_says code.Penc terms.Penc x y a b node (λ p q. refl) has.0 has.1.0 is
  node_says (terms.Aead x y z) a b c node has is = three_says code.Aead terms.Aead x y z a b c node (λ p q r. refl) has.0 has.1.0 has.1.1.0 is
  node_says (terms.Sign x y) a b c node has is = two_says code.Sign terms.Sign x y a b node (λ p q. refl) has.0 has.1.0 is
  node_says (terms.Mac x y) a b c node has is = two_says code.Mac terms.Mac x y a b node (λ p q. refl) has.0 has.1.0 is
  node_says (terms.Kdf x context y) a b c node has is = two_says (λ k i. code.Kdf k context i) (λ k i. terms.Kdf k context i) x y a b node (λ p q. refl) has.0 has.1.0 is
  node_says (terms.Hash m) a b c node has is = one_says code.Hash terms.Hash m a node (λ p. refl) has.0 is

module _ (nodes : List Node) (facts : List Fact) (table : IsTable nodes facts) where
  -- a part that has a number has no other
  number_is : (p : ℕ) (o : Option ℕ) → ((term : Term) × IsTermAt facts p term) → HasNumber facts (term_at facts p) o → o ≡ Some p
  number_is p o at has = by o (at.1 ∙ ap (λ t. Some (Derived t)) (sym (term_found facts p at.0 at.1))) has where
    by : (n : Option ℕ) → IsTermAt facts p (term_at facts p) → HasNumber facts (term_at facts p) n → n ≡ Some p
    by None here none = absurd (none (p, here))
    by (Some n) here there = ap Some (table.once n p (Derived (term_at facts p)) there here)

  one_over : (make : ℕ → Node) (p : ℕ) (a : Option ℕ) → a ≡ Some p → option_map make a ≡ Some (make p)
  one_over make p a is = ap (option_map make) is

  two_over : (make : ℕ → ℕ → Node) (p q : ℕ) (a b : Option ℕ) → a ≡ Some p → b ≡ Some q → of_two make a b ≡ Some (make p q)
  two_over make p q a b is other = ap (λ o. of_two make o b) is ∙ ap (of_two make (Some p)) other

  three_over : (make : ℕ → ℕ → ℕ → Node) (p q r : ℕ) (a b c : Option ℕ) → a ≡ Some p → b ≡ Some q → c ≡ Some r → of_three make a b c ≡ Some (make p q r)
  three_over make p q r a b c is other third = ap (λ o. of_three make o b c) is ∙ ap (λ o. of_three make (Some p) o c) other ∙ ap (of_three make (Some p) (Some q)) third

  over_numbers : (node : Node) (term : Term) (a b c : Option ℕ) → fact_of facts node ≡ Derived term
      → ((k part : ℕ) → slice_get (numbers_of node) k ≡ Some part → (t : Term) × IsTermAt facts part t)
      → HaveNumbers facts (parts_of (term_in (fact_of facts node))) (a ∷ b ∷ c ∷ []) → node_over (term_in (fact_of facts node)) a b c ≡ Some node
  over_numbers (code.Lit text) term a b c says parts has = refl
  over_numbers (code.Name principal) term a b c says parts has = refl
  over_numbers (code.Nonce index) term a b c says parts has = refl
  over_numbers (code.Pair p q) term a b c says parts has = two_over code.Pair p q a b (number_is p a (parts 0 p refl) has.0) (number_is q b (parts 1 q refl) has.1.0)
  over_numbers (code.Pk p) term a b c says parts has = one_over code.Pk p a (number_is p a (parts 0 p refl) has.0)
  over_numbers (code.Vk p) term a b c says parts has = one_over code.Vk p a (number_is p a (parts 0 p refl) has.0)
  over_numbers (code.Penc p q) term a b c says parts has = two_over code.Penc p q a b (number_is p a (parts 0 p refl) has.0) (number_is q b (parts 1 q refl) has.1.0)
  over_numbers (code.Aead p q r) term a b c says parts has =
      three_over code.Aead p q r a b c (number_is p a (parts 0 p refl) has.0) (number_is q b (parts 1 q refl) has.1.0) (number_is r c (parts 2 r refl) has.1.1.0)
  over_numbers (code.Sign p q) term a b c says parts has = two_over code.Sign p q a b (number_is p a (parts 0 p refl) has.0) (number_is q b (parts 1 q refl) has.1.0)
  over_numbers (code.Mac p q) term a b c says parts has = two_over code.Mac p q a b (number_is p a (parts 0 p refl) has.0) (number_is q b (parts 1 q refl) has.1.0)
  over_numbers (code.Kdf p context q) term a b c says parts has =
      two_over (λ k i. code.Kdf k context i) p q a b (number_is p a (parts 0 p refl) has.0) (number_is q b (parts 1 q refl) has.1.0)
  over_numbers (code.Hash p) term a b c says parts has = one_over code.Hash p a (number_is p a (parts 0 p refl) has.0)
  over_numbers node term a b c says parts has = absurd cc

  -- The node over the numbers of a part's parts is the part's own.
  pub part_over : (term : Term) (a b c : Option ℕ) → IsPart facts term → HaveNumbers facts (parts_of term) (a ∷ b ∷ c ∷ [])
      → (number : ℕ) × (node : Node) × (slice_get nodes number ≡ Some node) × (node_over term a b c ≡ Some node)
  part_over term a b c part has =
      let node = also_there facts nodes part.0 (Derived term) (sym table.each) part.1 in
      let says : fact_of facts node.0 ≡ Derived term = inside (fact_of facts node.0) (Derived term) (sym (table.says part.0 node.0 node.1) ∙ part.1) in
      let parts = table.parts part.0 node.0 node.1 in (
        part.0,
        node.0,
        node.1,
        by term (ap term_in says) has (λ h. over_numbers node.0 term a b c says (λ k p at. (parts k p at).1) h),
      ) where
        by : {n : Node} (t : Term) → term_in (fact_of facts n) ≡ t → HaveNumbers facts (parts_of t) (a ∷ b ∷ c ∷ [])
            → (HaveNumbers facts (parts_of (term_in (fact_of facts n))) (a ∷ b ∷ c ∷ []) → node_over (term_in (fact_of facts n)) a b c ≡ Some n) → node_over t a b c ≡ Some n
        by {n} t same h then = subst (λ (u : Term). node_over u a b c ≡ Some n) same (then (subst (λ (u : Term). HaveNumbers facts (parts_of u) (a ∷ b ∷ c ∷ [])) (sym same) h))

  -- Where a part has no number, the term has none.
  pub none_over : (term : Term) (a b c : Option ℕ) → node_over term a b c ≡ None → HaveNumbers facts (parts_of term) (a ∷ b ∷ c ∷ []) → HasNumber facts term None
  none_over term a b c none has part = let over = part_over term a b c part has in let there : node_over term a b c ≡ Some over.1 = over.3 in cc

  -- The number of the node over the numbers of the parts is that of the term.
  pub some_over : (term : Term) (a b c : Option ℕ) (node : Node) (found : Option ℕ) → node_over term a b c ≡ Some node
      → IfSome found (λ n. slice_get nodes n ≡ Some node) → IfNone found ((n : ℕ) → slice_get nodes n ≡ Some node → ⊥)
      → HaveNumbers facts (parts_of term) (a ∷ b ∷ c ∷ []) → HasNumber facts term found
  some_over term a b c node None is found lacks has =
      λ part. (let over = part_over term a b c part has in lacks over.0 (over.2 ∙ sym over.3 ∙ is))
  some_over term a b c node (Some number) is found lacks has = table.says number node found ∙ ap Some (node_says facts term a b c node has is)
