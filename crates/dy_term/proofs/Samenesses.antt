-- Terms are the same, part by part, exactly where they are equal.
use Rattle.std.proofs.Common.{◌≡◌, ◌≢◌, Bool, true, false, ◌&&◌, refl, ap, sym, ◌∙◌, inl, inr, bytes_eq, arith}
use Rattle.std.proofs.lemmas.Slice.Eq.{bytes_eq-Decides}
use Rattle.std.proofs.lemmas.Bool.{and_parts, and_from, cases_Bool, eqb-true}
use Rattle.dy_term.specs.Terms.{Term, Lit, Name, Nonce, Pair, Pk, Vk, Penc, Aead, Sign, Mac, Kdf, Hash}
use Rattle.dy_term.specs.Sameness.{is_same}

pub is_same-refl : (a : Term) → is_same a a ≡ true
is_same-refl (Lit text) = (bytes_eq-Decides text text).1 refl
is_same-refl (Name principal) = (bytes_eq-Decides principal principal).1 refl
is_same-refl (Nonce index) = grind arith
is_same-refl (Pair a b) = and_from _ _ (is_same-refl a) (is_same-refl b)
is_same-refl (Pk a) = is_same-refl a
is_same-refl (Vk a) = is_same-refl a
is_same-refl (Penc a b) = and_from _ _ (is_same-refl a) (is_same-refl b)
is_same-refl (Aead a b c) = and_from _ _ (is_same-refl a) (and_from _ _ (is_same-refl b) (is_same-refl c))
is_same-refl (Sign a b) = and_from _ _ (is_same-refl a) (is_same-refl b)
is_same-refl (Mac a b) = and_from _ _ (is_same-refl a) (is_same-refl b)
is_same-refl (Kdf a context b) = and_from _ _ (is_same-refl a) (and_from _ _ ((bytes_eq-Decides context context).1 refl) (is_same-refl b))
is_same-refl (Hash a) = is_same-refl a

two : (make : Term → Term → Term) (a b c d : Term) → a ≡ c → b ≡ d → make a b ≡ make c d
two make a b c d e f = ap (λ x. make x b) e ∙ ap (λ y. make c y) f

pub is_same-equal : (a b : Term) → is_same a b ≡ true → a ≡ b
is_same-equal (Lit text) (Lit other) same = ap Lit ((bytes_eq-Decides text other).0 same)
is_same-equal (Name principal) (Name other) same = ap Name ((bytes_eq-Decides principal other).0 same)
is_same-equal (Nonce index) (Nonce other) same = ap Nonce (eqb-true index other same)
is_same-equal (Pair a b) (Pair c d) same =
    let both = and_parts (is_same a c) (is_same b d) same in two Pair a b c d (is_same-equal a c both.0) (is_same-equal b d both.1)
is_same-equal (Pk a) (Pk c) same = ap Pk (is_same-equal a c same)
is_same-equal (Vk a) (Vk c) same = ap Vk (is_same-equal a c same)
is_same-equal (Penc a b) (Penc c d) same =
    let both = and_parts (is_same a c) (is_same b d) same in two Penc a b c d (is_same-equal a c both.0) (is_same-equal b d both.1)
is_same-equal (Aead a b e) (Aead c d f) same =
    let parts = and_parts (is_same a c) (is_same b d && is_same e f) same in
    let after = and_parts (is_same b d) (is_same e f) parts.1 in
    two (λ x y. Aead x y e) a b c d (is_same-equal a c parts.0) (is_same-equal b d after.0) ∙ ap (Aead c d) (is_same-equal e f after.1)
is_same-equal (Sign a b) (Sign c d) same =
    let both = and_parts (is_same a c) (is_same b d) same in two Sign a b c d (is_same-equal a c both.0) (is_same-equal b d both.1)
is_same-equal (Mac a b) (Mac c d) same =
    let both = and_parts (is_same a c) (is_same b d) same in two Mac a b c d (is_same-equal a c both.0) (is_same-equal b d both.1)
is_same-equal (Kdf a context b) (Kdf c other d) same =
    let parts = and_parts (is_same a c) (bytes_eq context other && is_same b d) same in
    let after = and_parts (bytes_eq context other) (is_same b d) parts.1 in
    two (λ x y. Kdf x context y) a b c d (is_same-equal a c parts.0) (is_same-equal b d after.1) ∙ ap (λ z. Kdf c z d) ((bytes_eq-Decides context other).0 after.0)
is_same-equal (Hash a) (Hash c) same = ap Hash (is_same-equal a c same)
is_same-equal a b same = (cc)

-- A test of equality is the same as `is_same`.
pub is_same-test : (test : Bool) (a b : Term) → (test ≡ true → a ≡ b) → (test ≡ false → a ≢ b) → test ≡ is_same a b
is_same-test true a b equal other = sym (ap (is_same a) (sym (equal refl)) ∙ is_same-refl a)
is_same-test false a b equal other = elim (cases_Bool (is_same a b)) [ inl same ↦ absurd (other refl (is_same-equal a b same)) | inr differ ↦ sym differ ]
