-- A table with one more node.
use Rattle.std.proofs.Common.{◌≡◌, ℕ, ◌<◌, ◌≤◌, List, [], ◌∷◌, ◌++◌, length, Some, inl, inr, refl, ap, sym, ◌∙◌, subst, arith, length-append}
use Rattle.std.specs.List.{slice_get}
use Rattle.std.proofs.lemmas.Option.{get_or_from_slice_get, slice_get_within, slice_get_cases}
use Rattle.dy_term.specs.Terms as terms
use Rattle.dy_term.specs.Terms.{Term}
use Rattle.dy_entry.proofs.Traces.{slice_get-prefix, slice_get-end, slice_get_split}
use Rattle.dy_derive.specs.declared.nodes.Node.{Node}
use Rattle.dy_derive.specs.declared.nodes.Node.TheVariants as code
use Rattle.dy_derive.specs.Facts.{Fact, Derived}
use Rattle.dy_derive.specs.Nodes.{term_in, term_at, fact_of, IsSmall, IsTermAt, HasParts, IsTable}

-- each number is of one fact
abbrev pub Once : List Fact → Type 0
Once facts = (number other : ℕ) (fact : Fact) → slice_get facts number ≡ Some fact → slice_get facts other ≡ Some fact → number ≡ other

-- the term of a number
pub term_at_is : (facts : List Fact) (number : ℕ) (term : Term) → IsTermAt facts number term → term_at facts number ≡ term
term_at_is facts number term at = ap term_in (get_or_from_slice_get facts number (Derived term) (Derived (terms.Lit [])) at)

-- a part keeps its term where facts are added
pub term_at_longer : (facts more : List Fact) (number : ℕ) → ((term : Term) × IsTermAt facts number term) → term_at (facts ++ more) number ≡ term_at facts number
term_at_longer facts more number part =
    term_at_is (facts ++ more) number part.0 (slice_get-prefix facts more number (Derived part.0) part.1)
    ∙ sym (term_at_is facts number part.0 part.1)

-- a node says the same where facts are added
pub fact_of-longer : (facts more : List Fact) (n : ℕ) (node : Node) → HasParts facts n node → fact_of (facts ++ more) node ≡ fact_of facts node
fact_of-longer facts more n (code.Lit text) parts = refl
fact_of-longer facts more n (code.Name principal) parts = refl
fact_of-longer facts more n (code.Nonce index) parts = refl
fact_of-longer facts more n (code.Pair a b) parts =
    let one = term_at_longer facts more a (parts 0 a refl).1 in
    let two = term_at_longer facts more b (parts 1 b refl).1 in cc
fact_of-longer facts more n (code.Pk a) parts = let one = term_at_longer facts more a (parts 0 a refl).1 in cc
fact_of-longer facts more n (code.Vk a) parts = let one = term_at_longer facts more a (parts 0 a refl).1 in cc
fact_of-longer facts more n (code.Penc a b) parts =
    let one = term_at_longer facts more a (parts 0 a refl).1 in
    let two = term_at_longer facts more b (parts 1 b refl).1 in cc
fact_of-longer facts more n (code.Aead a b c) parts =
    let one = term_at_longer facts more a (parts 0 a refl).1 in
    let two = term_at_longer facts more b (parts 1 b refl).1 in
    let three = term_at_longer facts more c (parts 2 c refl).1 in cc
fact_of-longer facts more n (code.Sign a b) parts =
    let one = term_at_longer facts more a (parts 0 a refl).1 in
    let two = term_at_longer facts more b (parts 1 b refl).1 in cc
fact_of-longer facts more n (code.Mac a b) parts =
    let one = term_at_longer facts more a (parts 0 a refl).1 in
    let two = term_at_longer facts more b (parts 1 b refl).1 in cc
fact_of-longer facts more n (code.Kdf a text b) parts =
    let one = term_at_longer facts more a (parts 0 a refl).1 in
    let two = term_at_longer facts more b (parts 1 b refl).1 in cc
fact_of-longer facts more n (code.Hash a) parts = let one = term_at_longer facts more a (parts 0 a refl).1 in cc
fact_of-longer facts more n (code.Principal principal) parts = refl
fact_of-longer facts more n (code.Session principal session) parts = refl
fact_of-longer facts more n (code.Version principal session version) parts = refl

-- parts of the same term are one
pub one_part : (facts : List Fact) → Once facts → (a b : ℕ)
    → ((term : Term) × IsTermAt facts a term) → ((term : Term) × IsTermAt facts b term)
    → term_at facts a ≡ term_at facts b → a ≡ b
one_part facts once a b left right is =
    let same : left.0 ≡ right.0 = sym (term_at_is facts a left.0 left.1) ∙ is ∙ term_at_is facts b right.0 right.1 in
    once a b (Derived right.0) (left.1 ∙ ap (λ term. Some (Derived term)) same) right.1

-- Nodes that say the same are the same.
pub same_fact : (facts : List Fact) → Once facts → (n k : ℕ) (one other : Node)
    → HasParts facts n one → HasParts facts k other → fact_of facts one ≡ fact_of facts other → one ≡ other
same_fact facts once n k (code.Lit s) (code.Lit t) left right is = cc
same_fact facts once n k (code.Name s) (code.Name t) left right is = cc
same_fact facts once n k (code.Nonce i) (code.Nonce j) left right is = cc
same_fact facts once n k (code.Pair a b) (code.Pair c d) left right is =
    let one = one_part facts once a c (left 0 a refl).1 (right 0 c refl).1 (cc) in
    let two = one_part facts once b d (left 1 b refl).1 (right 1 d refl).1 (cc) in cc
same_fact facts once n k (code.Pk a) (code.Pk c) left right is =
    let one = one_part facts once a c (left 0 a refl).1 (right 0 c refl).1 (cc) in cc
same_fact facts once n k (code.Vk a) (code.Vk c) left right is =
    let one = one_part facts once a c (left 0 a refl).1 (right 0 c refl).1 (cc) in cc
same_fact facts once n k (code.Penc a b) (code.Penc c d) left right is =
    let one = one_part facts once a c (left 0 a refl).1 (right 0 c refl).1 (cc) in
    let two = one_part facts once b d (left 1 b refl).1 (right 1 d refl).1 (cc) in cc
same_fact facts once n k (code.Aead a b e) (code.Aead c d f) left right is =
    let one = one_part facts once a c (left 0 a refl).1 (right 0 c refl).1 (cc) in
    let two = one_part facts once b d (left 1 b refl).1 (right 1 d refl).1 (cc) in
    let three = one_part facts once e f (left 2 e refl).1 (right 2 f refl).1 (cc) in cc
same_fact facts once n k (code.Sign a b) (code.Sign c d) left right is =
    let one = one_part facts once a c (left 0 a refl).1 (right 0 c refl).1 (cc) in
    let two = one_part facts once b d (left 1 b refl).1 (right 1 d refl).1 (cc) in cc
same_fact facts once n k (code.Mac a b) (code.Mac c d) left right is =
    let one = one_part facts once a c (left 0 a refl).1 (right 0 c refl).1 (cc) in
    let two = one_part facts once b d (left 1 b refl).1 (right 1 d refl).1 (cc) in cc
same_fact facts once n k (code.Kdf a s b) (code.Kdf c t d) left right is =
    let one = one_part facts once a c (left 0 a refl).1 (right 0 c refl).1 (cc) in
    let two = one_part facts once b d (left 1 b refl).1 (right 1 d refl).1 (cc) in cc
same_fact facts once n k (code.Hash a) (code.Hash c) left right is =
    let one = one_part facts once a c (left 0 a refl).1 (right 0 c refl).1 (cc) in cc
same_fact facts once n k (code.Principal p) (code.Principal q) left right is = cc
same_fact facts once n k (code.Session p s) (code.Session q t) left right is = cc
same_fact facts once n k (code.Version p s v) (code.Version q t w) left right is = cc
same_fact facts once n k one other left right is = cc

-- parts stay where facts are added, at a later number too
pub parts_longer : (facts more : List Fact) (n k : ℕ) (node : Node) → n ≤ k → HasParts facts n node → HasParts (facts ++ more) k node
parts_longer facts more n k node later parts place part is =
    let old = parts place part is in
    (omega (arith, old.0, later), (old.1.0, slice_get-prefix facts more part (Derived old.1.0) old.1.1))

-- The facts that a node adds are new where the node is.
is_new : (nodes : List Node) (facts : List Fact) (node : Node) → IsTable nodes facts
    → HasParts facts (length facts) node → ((k : ℕ) → slice_get nodes k ≡ Some node → ⊥)
    → (number : ℕ) → slice_get facts number ≡ Some (fact_of facts node) → ⊥
is_new nodes facts node table parts new number at =
    let below : number < length facts = slice_get_within facts number (fact_of facts node) at in
    let one = slice_get_cases nodes number in
    elim one.1 [
      | inl found ↦
          let said = table.says number found.0 found.2 in
          let same = same_fact facts table.once number (length facts) found.0 node (table.parts number found.0 found.2) parts (cc (said, at)) in
          new number (found.2 ∙ ap Some same)
      | inr past ↦ absurd (omega (arith, table.each, past.0, below))
    ]

-- what a number says in a table with one more node
says_more : (nodes : List Node) (facts : List Fact) (node : Node) → IsTable nodes facts
    → HasParts facts (length facts) node → (number : ℕ) (other : Node) → slice_get (nodes ++ node ∷ []) number ≡ Some other
    → HasParts (facts ++ fact_of facts node ∷ []) number other
    × (slice_get (facts ++ fact_of facts node ∷ []) number ≡ Some (fact_of (facts ++ fact_of facts node ∷ []) other))
says_more nodes facts node table parts number other at =
    let more = fact_of facts node ∷ [] in
    elim (slice_get_split nodes node other number at) [
      | inl before ↦
          let old = table.parts number other before in (
            parts_longer facts more number number other (omega arith) old,
            slice_get-prefix facts more number (fact_of facts other) (table.says number other before)
                ∙ ap Some (sym (fact_of-longer facts more number other old)),
          )
      | inr last ↦
          let here : number ≡ length facts = omega (arith, last.0, table.each) in
          let mine : HasParts facts number other = subst (λ (n : Node). HasParts facts number n) last.1 (subst (λ (k : ℕ). HasParts facts k node) (sym here) parts) in (
            parts_longer facts more number number other (omega arith) mine,
            ap (slice_get (facts ++ more)) here ∙ slice_get-end facts (fact_of facts node)
                ∙ ap Some (ap (fact_of facts) last.1 ∙ sym (fact_of-longer facts more number other mine)),
          )
    ]

once_more : (facts : List Fact) (fact : Fact) → Once facts → ((number : ℕ) → slice_get facts number ≡ Some fact → ⊥)
    → Once (facts ++ fact ∷ [])
once_more facts fact once new number other said at at' =
    elim (slice_get_split facts fact said number at) [
      | inl before ↦ elim (slice_get_split facts fact said other at') [
        | inl before' ↦ once number other said before before'
        | inr last ↦ absurd (new number (before ∙ ap Some (sym last.1)))
      ]
      | inr last ↦ elim (slice_get_split facts fact said other at') [
        | inl before' ↦ absurd (new other (before' ∙ ap Some (sym last.1)))
        | inr last' ↦ last.0 ∙ sym last'.0
      ]
    ]

small_more : (facts : List Fact) (fact : Fact) → ((number : ℕ) (said : Fact) → slice_get facts number ≡ Some said → IsSmall said)
    → IsSmall fact → (number : ℕ) (said : Fact) → slice_get (facts ++ fact ∷ []) number ≡ Some said → IsSmall said
small_more facts fact small is number said at =
    elim (slice_get_split facts fact said number at) [
      | inl before ↦ small number said before
      | inr last ↦ subst IsSmall last.1 is
    ]

-- A table with one more node, which is new and has its parts in it.
pub table_more : (nodes : List Node) (facts : List Fact) (node : Node) → IsTable nodes facts
    → HasParts facts (length facts) node → IsSmall (fact_of facts node)
    → ((k : ℕ) → slice_get nodes k ≡ Some node → ⊥) → IsTable (nodes ++ node ∷ []) (facts ++ fact_of facts node ∷ [])
table_more nodes facts node table parts small new = record {
  each = simp length-append (omega (arith, table.each));
  says = λ number other at. (says_more nodes facts node table parts number other at).1;
  parts = λ number other at. (says_more nodes facts node table parts number other at).0;
  once = once_more facts (fact_of facts node) table.once (is_new nodes facts node table parts new);
  small = small_more facts (fact_of facts node) table.small small;
}

-- the table of no nodes
pub empty_table : IsTable [] []
empty_table = record {
  each = refl;
  says = λ number node at. absurd (cc);
  parts = λ number node at. absurd (cc);
  once = λ number other fact at. absurd (cc);
  small = λ number fact at. absurd (cc);
}
