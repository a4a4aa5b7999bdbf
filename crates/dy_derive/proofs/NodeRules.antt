-- The rules of a node stand for the inferences of what it says.
use Rattle.std.proofs.Common.{◌≡◌, ℕ, ◌<◌, List, [], ◌∷◌, ◌++◌, length, Option, Some, None, inl, inr, refl, ap, sym, ◌∙◌, subst, arith}
use Rattle.std.specs.List.{slice_get}
use Rattle.std.specs.Option.{option_and_then}
use Rattle.std.proofs.lemmas.Option.{get_or_from_slice_get, slice_get_cases}
use Rattle.dy_entry.proofs.Traces.{slice_get-prefix}
use Rattle.dy_term.specs.Terms as terms
use Rattle.dy_chains.specs.declared.rules.Premises.TheVariants as premises
use Rattle.dy_derive.specs.declared.nodes.Node.{Node}
use Rattle.dy_derive.specs.declared.nodes.Node.TheVariants as code
use Rattle.dy_derive.specs.declared.reasons.Reason.{Reason}
use Rattle.dy_derive.specs.declared.reasons.Reason.TheVariants as reasons
use Rattle.dy_derive.specs.Facts.{Fact, Derived, inferences_of_fact, decryptions}
use Rattle.dy_derive.specs.Nodes.{term_in, term_at, fact_of, IsTermAt, HasParts, IsTable}
use Rattle.dy_derive.specs.Rules.{StandsFor}
use Rattle.dy_derive.specs.MirrorRules.{rules_of, rules_in, reasons_in, decryption_key, key_of_public, decrypted, StandForAll}
use Rattle.dy_derive.proofs.Tables.{term_at_is}

-- a number of a term has the term that is looked up there
pub here : (facts : List Fact) (number : ℕ) → ((term : terms.Term) × IsTermAt facts number term)
    → slice_get facts number ≡ Some (Derived (term_at facts number))
here facts number part = part.1 ∙ ap (λ term. Some (Derived term)) (sym (term_at_is facts number part.0 part.1))

-- rules by what they conclude of no facts, one, two and three
by_none : (facts : List Fact) (n : ℕ) (said : Fact) (reason : Reason) → slice_get facts n ≡ Some said
    → StandsFor facts (record { premises = premises.None; conclusion = n }) reason (record { premises = []; conclusion = said; reason = reason })
by_none facts n said reason at = record { premises = refl; conclusion = at; why = refl }

by_one : (facts : List Fact) (n a : ℕ) (said first : Fact) (reason : Reason) → slice_get facts n ≡ Some said → slice_get facts a ≡ Some first
    → StandsFor facts (record { premises = premises.One a; conclusion = n }) reason (record { premises = first ∷ []; conclusion = said; reason = reason })
by_one facts n a said first reason at one = record { premises = cc; conclusion = at; why = refl }

by_two : (facts : List Fact) (n a b : ℕ) (said first second : Fact) (reason : Reason) → slice_get facts n ≡ Some said
    → slice_get facts a ≡ Some first → slice_get facts b ≡ Some second
    → StandsFor facts (record { premises = premises.Two a b; conclusion = n }) reason (record { premises = first ∷ second ∷ []; conclusion = said; reason = reason })
by_two facts n a b said first second reason at one two = record { premises = cc; conclusion = at; why = refl }

by_three : (facts : List Fact) (n a b c : ℕ) (said first second third : Fact) (reason : Reason) → slice_get facts n ≡ Some said
    → slice_get facts a ≡ Some first → slice_get facts b ≡ Some second → slice_get facts c ≡ Some third
    → StandsFor facts (record { premises = premises.Three a b c; conclusion = n }) reason (record { premises = first ∷ second ∷ third ∷ []; conclusion = said; reason = reason })
by_three facts n a b c said first second third reason at one two three = record { premises = cc; conclusion = at; why = refl }

-- how a message is opened
abbrev Opens : List Fact → ℕ → ℕ → Option ℕ → terms.Term → Type 0
Opens facts n message opening to =
    StandForAll facts (rules_in (decrypted n message opening)) (reasons_in (decrypted n message opening)) (decryptions to (term_at facts message))

opens_with : (facts : List Fact) (n m k : ℕ) (to key : terms.Term) → to ≡ terms.Pk key
    → IsTermAt facts n (terms.Penc to (term_at facts m)) → IsTermAt facts m (term_at facts m) → IsTermAt facts k key
    → Opens facts n m (Some k) to
opens_with facts n m k to key is at message known =
    let P : terms.Term → Type 0 = λ t. IsTermAt facts n (terms.Penc t (term_at facts m)) → Opens facts n m (Some k) t in
    subst P (sym is) (λ here'. (by_two facts m n k (Derived (term_at facts m)) (Derived (terms.Penc (terms.Pk key) (term_at facts m))) (Derived key) reasons.Decrypted message here' known, tt)) at

-- nothing is opened with no key, where the term has no decryption
closed : (facts : List Fact) (n m : ℕ) (to is : terms.Term) → to ≡ is
    → Opens facts n m None is → Opens facts n m None to
closed facts n m to is same none = let P : terms.Term → Type 0 = Opens facts n m None in subst P (sym same) none

-- A message is opened where the node of its key is a public key, and not where it is another.
opens_by : (facts : List Fact) (n a m : ℕ) (public : Node) → HasParts facts a public
    → term_at facts a ≡ term_in (fact_of facts public)
    → IsTermAt facts n (terms.Penc (term_at facts a) (term_at facts m)) → IsTermAt facts m (term_at facts m)
    → Opens facts n m (key_of_public public) (term_at facts a)
opens_by facts n a m (code.Lit text) parts is at message = closed facts n m (term_at facts a) (terms.Lit text) is tt
opens_by facts n a m (code.Name name) parts is at message = closed facts n m (term_at facts a) (terms.Name name) is tt
opens_by facts n a m (code.Nonce index) parts is at message = closed facts n m (term_at facts a) (terms.Nonce index) is tt
opens_by facts n a m (code.Pair x y) parts is at message =
    closed facts n m (term_at facts a) (terms.Pair (term_at facts x) (term_at facts y)) is tt
opens_by facts n a m (code.Pk k) parts is at message =
    opens_with facts n m k (term_at facts a) (term_at facts k) is at message (here facts k (parts 0 k refl).1)
opens_by facts n a m (code.Vk x) parts is at message = closed facts n m (term_at facts a) (terms.Vk (term_at facts x)) is tt
opens_by facts n a m (code.Penc x y) parts is at message =
    closed facts n m (term_at facts a) (terms.Penc (term_at facts x) (term_at facts y)) is tt
opens_by facts n a m (code.Aead x y z) parts is at message =
    closed facts n m (term_at facts a) (terms.Aead (term_at facts x) (term_at facts y) (term_at facts z)) is tt
opens_by facts n a m (code.Sign x y) parts is at message =
    closed facts n m (term_at facts a) (terms.Sign (term_at facts x) (term_at facts y)) is tt
opens_by facts n a m (code.Mac x y) parts is at message =
    closed facts n m (term_at facts a) (terms.Mac (term_at facts x) (term_at facts y)) is tt
opens_by facts n a m (code.Kdf x c y) parts is at message =
    closed facts n m (term_at facts a) (terms.Kdf (term_at facts x) c (term_at facts y)) is tt
opens_by facts n a m (code.Hash x) parts is at message = closed facts n m (term_at facts a) (terms.Hash (term_at facts x)) is tt
opens_by facts n a m (code.Principal p) parts is at message = closed facts n m (term_at facts a) (terms.Lit []) is tt
opens_by facts n a m (code.Session p s) parts is at message = closed facts n m (term_at facts a) (terms.Lit []) is tt
opens_by facts n a m (code.Version p s v) parts is at message = closed facts n m (term_at facts a) (terms.Lit []) is tt

-- the same, by the node that is found
opens_found : (nodes : List Node) (facts : List Fact) (node : Node) → IsTable (nodes ++ node ∷ []) facts
    → (n a m : ℕ) → a < length nodes → IsTermAt facts n (terms.Penc (term_at facts a) (term_at facts m))
    → IsTermAt facts m (term_at facts m)
    → Opens facts n m (option_and_then key_of_public (slice_get nodes a)) (term_at facts a)
opens_found nodes facts node table n a m below at message =
    elim (slice_get_cases nodes a).1 [
      | inl found ↦
          let stands = slice_get-prefix nodes (node ∷ []) a found.0 found.2 in
          let is = ap term_in (get_or_from_slice_get facts a (fact_of facts found.0) (Derived (terms.Lit [])) (table.says a found.0 stands)) in
          let P : Option Node → Type 0 = λ one. Opens facts n m (option_and_then key_of_public one) (term_at facts a) in
          subst P (sym found.2) (opens_by facts n a m found.0 (table.parts a found.0 stands) is at message)
      | inr past ↦ absurd (omega (arith, past.0, below))
    ]

-- The rules of a node that was added last.
pub rules_stand : (nodes : List Node) (facts : List Fact) (n : ℕ) (node : Node) → n ≡ length nodes
    → HasParts facts n node → slice_get facts n ≡ Some (fact_of facts node) → IsTable (nodes ++ node ∷ []) facts
    → StandForAll facts (rules_in (rules_of n (decryption_key nodes node) node))
    (reasons_in (rules_of n (decryption_key nodes node) node)) (inferences_of_fact (fact_of facts node))
rules_stand nodes facts n (code.Lit text) last parts at table = (by_none facts n (Derived (terms.Lit text)) reasons.Built at, tt)
rules_stand nodes facts n (code.Name name) last parts at table = (by_none facts n (Derived (terms.Name name)) reasons.Built at, tt)
rules_stand nodes facts n (code.Nonce index) last parts at table = tt
rules_stand nodes facts n (code.Pair a b) last parts at table =
    let one = here facts a (parts 0 a refl).1 in
    let two = here facts b (parts 1 b refl).1 in
    let whole : Fact = Derived (terms.Pair (term_at facts a) (term_at facts b)) in (
      by_two facts n a b whole (Derived (term_at facts a)) (Derived (term_at facts b)) reasons.Built at one two,
      (
        by_one facts a n (Derived (term_at facts a)) whole reasons.First one at,
        (by_one facts b n (Derived (term_at facts b)) whole reasons.Second two at, tt),
      ),
    )
rules_stand nodes facts n (code.Pk a) last parts at table =
    (by_one facts n a (Derived (terms.Pk (term_at facts a))) (Derived (term_at facts a)) reasons.Built at (here facts a (parts 0 a refl).1), tt)
rules_stand nodes facts n (code.Vk a) last parts at table =
    (by_one facts n a (Derived (terms.Vk (term_at facts a))) (Derived (term_at facts a)) reasons.Built at (here facts a (parts 0 a refl).1), tt)
rules_stand nodes facts n (code.Penc a b) last parts at table =
    let one = here facts a (parts 0 a refl).1 in
    let two = here facts b (parts 1 b refl).1 in
    let whole : Fact = Derived (terms.Penc (term_at facts a) (term_at facts b)) in
    let below : a < length nodes = omega (arith, (parts 0 a refl).0, last) in (
      by_two facts n a b whole (Derived (term_at facts a)) (Derived (term_at facts b)) reasons.Built at one two,
      opens_found nodes facts (code.Penc a b) table n a b below at two,
    )
rules_stand nodes facts n (code.Aead a b c) last parts at table =
    let one = here facts a (parts 0 a refl).1 in
    let two = here facts b (parts 1 b refl).1 in
    let three = here facts c (parts 2 c refl).1 in
    let whole : Fact = Derived (terms.Aead (term_at facts a) (term_at facts b) (term_at facts c)) in (
      by_three facts n a b c whole (Derived (term_at facts a)) (Derived (term_at facts b)) (Derived (term_at facts c)) reasons.Built at one two three,
      (
        by_two facts b n a (Derived (term_at facts b)) whole (Derived (term_at facts a)) reasons.Opened two at one,
        (by_one facts c n (Derived (term_at facts c)) whole reasons.Associated three at, tt),
      ),
    )
rules_stand nodes facts n (code.Sign a b) last parts at table =
    let one = here facts a (parts 0 a refl).1 in
    let two = here facts b (parts 1 b refl).1 in
    let whole : Fact = Derived (terms.Sign (term_at facts a) (term_at facts b)) in (
      by_two facts n a b whole (Derived (term_at facts a)) (Derived (term_at facts b)) reasons.Built at one two,
      (by_one facts b n (Derived (term_at facts b)) whole reasons.Signed two at, tt),
    )
rules_stand nodes facts n (code.Mac a b) last parts at table = (
  by_two facts n a b (Derived (terms.Mac (term_at facts a) (term_at facts b))) (Derived (term_at facts a)) (Derived (term_at facts b)) reasons.Built at
      (here facts a (parts 0 a refl).1) (here facts b (parts 1 b refl).1),
  tt,
)
rules_stand nodes facts n (code.Kdf a c b) last parts at table = (
  by_two facts n a b (Derived (terms.Kdf (term_at facts a) c (term_at facts b))) (Derived (term_at facts a)) (Derived (term_at facts b)) reasons.Built at
      (here facts a (parts 0 a refl).1) (here facts b (parts 1 b refl).1),
  tt,
)
rules_stand nodes facts n (code.Hash a) last parts at table =
    (by_one facts n a (Derived (terms.Hash (term_at facts a))) (Derived (term_at facts a)) reasons.Built at (here facts a (parts 0 a refl).1), tt)
rules_stand nodes facts n (code.Principal p) last parts at table = tt
rules_stand nodes facts n (code.Session p s) last parts at table = tt
rules_stand nodes facts n (code.Version p s v) last parts at table = tt
