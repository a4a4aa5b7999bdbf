-- Nodes compare as equal exactly where they are.
use Rattle.std.proofs.Common.{◌≡◌, ℕ, Bool, true, false, ◌&&◌, List, refl, ap, arith}
use Rattle.std.proofs.lemmas.Bool.Decides.{nat_tests}
use Rattle.std.specs.Cmp.Lexicographic.{bytes_decides, pointwise}
use Rattle.std.specs.Prelude.{nat_eq}
use Rattle.dy_derive.specs.declared.nodes.Node.{Node}
use Rattle.dy_derive.specs.declared.nodes.Node.TheVariants.{Lit, Name, Nonce, Pair, Pk, Vk, Penc, Aead, Sign, Mac, Kdf, Hash, Principal, Session, Version}
use Rattle.dy_derive.specs.contracts.nodes.NodePartialEq.TheImpl.{eq-value}
use Rattle.dy_derive.specs.contracts.nodes.NodeEq.TheImpl.Laws.{laws-law}

abbrev pub same : Node → Node → Bool
same = eq-value.it

number : (a b : ℕ) → nat_eq a b ≡ true → a ≡ b
number a b h = grind (arith, nat_tests)

bytes : (s t : List ℕ) → pointwise nat_eq s t ≡ true → s ≡ t
bytes s t h = (bytes_decides s t).0 h

both : (a b : Bool) → (a && b) ≡ true → (a ≡ true) × (b ≡ true)
both true b h = (refl, h)
both false b h = absurd (cc)

two : (a b c d : ℕ) → (nat_eq a c && nat_eq b d) ≡ true → (a ≡ c) × (b ≡ d)
two a b c d h = let each = both (nat_eq a c) (nat_eq b d) h in (number a c each.0, number b d each.1)

three : (a b c d e f : ℕ) → (nat_eq a d && (nat_eq b e && nat_eq c f)) ≡ true → (a ≡ d) × (b ≡ e) × (c ≡ f)
three a b c d e f h =
    let each = both (nat_eq a d) (nat_eq b e && nat_eq c f) h in
    let rest = two b c e f each.1 in (number a d each.0, rest.0, rest.1)

pub same_is_equal : (m n : Node) → same m n ≡ true → m ≡ n
same_is_equal (Lit s) (Lit t) h = ap Lit (bytes s t h)
same_is_equal (Name s) (Name t) h = ap Name (bytes s t h)
same_is_equal (Nonce i) (Nonce j) h = ap Nonce (number i j h)
same_is_equal (Pair a b) (Pair c d) h = let each = two a b c d h in cc
same_is_equal (Pk a) (Pk b) h = ap Pk (number a b h)
same_is_equal (Vk a) (Vk b) h = ap Vk (number a b h)
same_is_equal (Penc a b) (Penc c d) h = let each = two a b c d h in cc
same_is_equal (Aead a b c) (Aead d e f) h = let each = three a b c d e f h in cc
same_is_equal (Sign a b) (Sign c d) h = let each = two a b c d h in cc
same_is_equal (Mac a b) (Mac c d) h = let each = two a b c d h in cc
same_is_equal (Kdf a s b) (Kdf c t d) h =
    let each = both (nat_eq a c) (pointwise nat_eq s t && nat_eq b d) h in
    let rest = both (pointwise nat_eq s t) (nat_eq b d) each.1 in
    let first = number a c each.0 in let text = bytes s t rest.0 in let last = number b d rest.1 in cc
same_is_equal (Hash a) (Hash b) h = ap Hash (number a b h)
same_is_equal (Principal p) (Principal q) h = ap Principal (bytes p q h)
same_is_equal (Session p s) (Session q t) h =
    let each = both (pointwise nat_eq p q) (nat_eq s t) h in
    let name = bytes p q each.0 in let session = number s t each.1 in cc
same_is_equal (Version p s v) (Version q t w) h =
    let each = both (pointwise nat_eq p q) (nat_eq s t && nat_eq v w) h in
    let name = bytes p q each.0 in let rest = two s v t w each.1 in cc
same_is_equal m n h = cc

pub same_as_itself : (n : Node) → same n n ≡ true
same_as_itself n = laws-law.refl n
