-- Nodes in order, and the numbers of which rules speak.
use Rattle.std.proofs.Common.{◌≡◌, ℕ, zero, suc, ◌+◌, ◌<◌, List, [], ◌∷◌, ◌++◌, length, Option, Some, None, inl, inr, refl, ap, sym, ◌∙◌, subst, arith}
use Rattle.std.specs.List.{slice_get, All}
use Rattle.std.proofs.lemmas.List.Elements.{All-nil, All-cons}
use Rattle.std.proofs.lemmas.Option.{slice_get_cases}
use Rattle.std.specs.Option.{option_and_then}
use Rattle.dy_chains.specs.declared.rules.Rule.{Rule}
use Rattle.dy_chains.specs.declared.rules.Premises.TheVariants as premises
use Rattle.dy_chains.specs.Rules.{IsBelow}
use Rattle.dy_entry.proofs.Traces.{slice_get_split}
use Rattle.dy_derive.specs.declared.nodes.Node.{Node}
use Rattle.dy_derive.specs.declared.nodes.Node.TheVariants as code
use Rattle.dy_derive.specs.Nodes.{numbers_of, AreBelow, AreOrdered}
use Rattle.dy_derive.specs.MirrorRules.{rules_of, rules_in, decryption_key, key_of_public, decrypted}

-- one node more, whose parts are there
pub ordered_more : (nodes : List Node) (node : Node) → AreOrdered nodes → AreBelow (length nodes) node → AreOrdered (nodes ++ node ∷ [])
ordered_more nodes node ordered below number other at = elim (slice_get_split nodes node other number at) [
  | inl before ↦ ordered number other before
  | inr last ↦ λ k part is.
      let here = below k part (ap (λ n. slice_get (numbers_of n) k) last.1 ∙ is) in
      omega (arith, here, last.0)
]

-- a key that is found is a node
pub key_below : (nodes : List Node) (node : Node) → AreOrdered nodes → AreBelow (length nodes) node
    → (key : ℕ) → decryption_key nodes node ≡ Some key → key < length nodes
key_below nodes (code.Penc to message) ordered below key is =
    let first = below 0 to refl in
    elim (slice_get_cases nodes to).1 [
      | inl found ↦
          let one : key_of_public found.0 ≡ Some key = sym (ap (λ (o : Option Node). option_and_then key_of_public o) found.2) ∙ is in
          key_of to found.0 (ordered to found.0 found.2) key one first
      | inr past ↦ absurd (omega (arith, past.0, first))
    ]
  where
    key_of : (a : ℕ) (public : Node) → AreBelow a public → (k : ℕ) → key_of_public public ≡ Some k → a < length nodes → k < length nodes
    key_of a (code.Pk x) parts k same within =
        let part = parts 0 x refl in let one : x ≡ k = cc in omega (arith, part, one, within)
    key_of a public parts k same within = absurd (cc)
key_below nodes node ordered below key is = absurd (cc)

rule_none : (n : ℕ) → IsBelow (n + 1) (record { premises = premises.None; conclusion = n })
rule_none n = record { conclusion = omega arith; premises = λ k premise at. absurd (cc) }

rule_one : (n c a : ℕ) → c < n + 1 → a < n + 1 → IsBelow (n + 1) (record { premises = premises.One a; conclusion = c })
rule_one n c a last one = record { conclusion = last; premises = in_one n a one }
  where
    in_one : (n a : ℕ) → a < n + 1 → (k premise : ℕ) → slice_get (a ∷ []) k ≡ Some premise → premise < n + 1
    in_one n a one zero premise at = let same : a ≡ premise = cc in omega (arith, one, same)
    in_one n a one (suc k) premise at = absurd (cc)

rule_two : (n c a b : ℕ) → c < n + 1 → a < n + 1 → b < n + 1 → IsBelow (n + 1) (record { premises = premises.Two a b; conclusion = c })
rule_two n c a b last one two = record { conclusion = last; premises = in_two n a b one two }
  where
    in_two : (n a b : ℕ) → a < n + 1 → b < n + 1 → (k premise : ℕ) → slice_get (a ∷ b ∷ []) k ≡ Some premise → premise < n + 1
    in_two n a b one two zero premise at = let same : a ≡ premise = cc in omega (arith, one, same)
    in_two n a b one two (suc zero) premise at = let same : b ≡ premise = cc in omega (arith, two, same)
    in_two n a b one two (suc (suc k)) premise at = absurd (cc)

rule_three : (n d a b c : ℕ) → d < n + 1 → a < n + 1 → b < n + 1 → c < n + 1 → IsBelow (n + 1) (record { premises = premises.Three a b c; conclusion = d })
rule_three n d a b c last one two three = record { conclusion = last; premises = in_three n a b c one two three }
  where
    in_three : (n a b c : ℕ) → a < n + 1 → b < n + 1 → c < n + 1 → (k premise : ℕ) → slice_get (a ∷ b ∷ c ∷ []) k ≡ Some premise → premise < n + 1
    in_three n a b c one two three zero premise at = let same : a ≡ premise = cc in omega (arith, one, same)
    in_three n a b c one two three (suc zero) premise at = let same : b ≡ premise = cc in omega (arith, two, same)
    in_three n a b c one two three (suc (suc zero)) premise at = let same : c ≡ premise = cc in omega (arith, three, same)
    in_three n a b c one two three (suc (suc (suc k))) premise at = absurd (cc)

abbrev AllBelow : ℕ → List Rule → Type 0
AllBelow n rules = All (IsBelow n) rules

only : (n : ℕ) (rule : Rule) → IsBelow n rule → AllBelow n (rule ∷ [])
only n rule one = All-cons (IsBelow n) rule [] one (All-nil (IsBelow n))

two_of : (n : ℕ) (r s : Rule) → IsBelow n r → IsBelow n s → AllBelow n (r ∷ s ∷ [])
two_of n r s one two = All-cons (IsBelow n) r (s ∷ []) one (only n s two)

three_of : (n : ℕ) (r s t : Rule) → IsBelow n r → IsBelow n s → IsBelow n t → AllBelow n (r ∷ s ∷ t ∷ [])
three_of n r s t one two three = All-cons (IsBelow n) r (s ∷ t ∷ []) one (two_of n s t two three)

-- a number is below the next one
next : (a n : ℕ) → a < n → a < n + 1
next a n below = omega (arith, below)

-- a rule of one premise, and of two
abbrev from_one : ℕ → ℕ → Rule
from_one a c = record { premises = premises.One a; conclusion = c }

abbrev from_two : ℕ → ℕ → ℕ → Rule
from_two a b c = record { premises = premises.Two a b; conclusion = c }

decrypted_below : (n m : ℕ) (opening : Option ℕ) → m < n → ((key : ℕ) → opening ≡ Some key → key < n)
    → AllBelow (n + 1) (rules_in (decrypted n m opening))
decrypted_below n m None below key = All-nil (IsBelow (n + 1))
decrypted_below n m (Some k) below key =
    only (n + 1) (from_two n k m) (rule_two n m n k (next m n below) (omega arith) (next k n (key k refl)))

-- The rules of a node speak of it and of nodes before it.
pub rules_below : (n : ℕ) (opening : Option ℕ) (node : Node) → AreBelow n node → ((key : ℕ) → opening ≡ Some key → key < n)
    → All (IsBelow (n + 1)) (rules_in (rules_of n opening node))
rules_below n opening (code.Lit text) below key = only (n + 1) (record { premises = premises.None; conclusion = n }) (rule_none n)
rules_below n opening (code.Name name) below key = only (n + 1) (record { premises = premises.None; conclusion = n }) (rule_none n)
rules_below n opening (code.Nonce index) below key = All-nil (IsBelow (n + 1))
rules_below n opening (code.Pair a b) below key =
    let one = next a n (below 0 a refl) in let two = next b n (below 1 b refl) in
    three_of (n + 1) (from_two a b n) (from_one n a) (from_one n b)
    (rule_two n n a b (omega arith) one two) (rule_one n a n one (omega arith)) (rule_one n b n two (omega arith))
rules_below n opening (code.Pk a) below key = only (n + 1) (from_one a n) (rule_one n n a (omega arith) (next a n (below 0 a refl)))
rules_below n opening (code.Vk a) below key = only (n + 1) (from_one a n) (rule_one n n a (omega arith) (next a n (below 0 a refl)))
rules_below n opening (code.Penc a b) below key =
    All-cons (IsBelow (n + 1)) (from_two a b n) (rules_in (decrypted n b opening))
    (rule_two n n a b (omega arith) (next a n (below 0 a refl)) (next b n (below 1 b refl)))
    (decrypted_below n b opening (below 1 b refl) key)
rules_below n opening (code.Aead a b c) below key =
    let one = next a n (below 0 a refl) in let two = next b n (below 1 b refl) in let three = next c n (below 2 c refl) in
    three_of (n + 1) (record { premises = premises.Three a b c; conclusion = n }) (from_two n a b) (from_one n c)
    (rule_three n n a b c (omega arith) one two three) (rule_two n b n a two (omega arith) one) (rule_one n c n three (omega arith))
rules_below n opening (code.Sign a b) below key =
    let one = next a n (below 0 a refl) in let two = next b n (below 1 b refl) in
    two_of (n + 1) (from_two a b n) (from_one n b) (rule_two n n a b (omega arith) one two) (rule_one n b n two (omega arith))
rules_below n opening (code.Mac a b) below key =
    only (n + 1) (from_two a b n) (rule_two n n a b (omega arith) (next a n (below 0 a refl)) (next b n (below 1 b refl)))
rules_below n opening (code.Kdf a c b) below key =
    only (n + 1) (from_two a b n) (rule_two n n a b (omega arith) (next a n (below 0 a refl)) (next b n (below 1 b refl)))
rules_below n opening (code.Hash a) below key = only (n + 1) (from_one a n) (rule_one n n a (omega arith) (next a n (below 0 a refl)))
rules_below n opening (code.Principal p) below key = All-nil (IsBelow (n + 1))
rules_below n opening (code.Session p s) below key = All-nil (IsBelow (n + 1))
rules_below n opening (code.Version p s v) below key = All-nil (IsBelow (n + 1))

-- so do the rules that are added with a node
pub added_below : (facts n : ℕ) (nodes : List Node) (node : Node) (opening : Option ℕ) (rules : List Rule) → facts ≡ length nodes → n ≡ length nodes
    → opening ≡ decryption_key nodes node → rules ≡ rules_in (rules_of n opening node) → AreOrdered nodes → AreBelow (length nodes) node
    → All (IsBelow (facts + 1)) rules
added_below facts n nodes node opening rules count last found are ordered below =
    let key = λ (k : ℕ) (is : opening ≡ Some k). key_below nodes node ordered below k (sym found ∙ is) in
    let mine = rules_below (length nodes) opening node below key in
    let placed = subst (λ (m : ℕ). All (IsBelow (length nodes + 1)) (rules_in (rules_of m opening node))) (sym last) mine in
    let counted = subst (λ (m : ℕ). All (IsBelow (m + 1)) (rules_in (rules_of n opening node))) (sym count) placed in
    subst (λ (rs : List Rule). All (IsBelow (facts + 1)) rs) (sym are) counted
