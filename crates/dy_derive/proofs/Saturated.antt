-- In saturated knowledge that is given all, what is derived is what is built of what is had.
use Rattle.std.proofs.Common.{◌≡◌, ℕ, zero, suc, ◌⊎◌, inl, inr, List, [], ◌∷◌, Some, refl, subst}
use Rattle.std.specs.List.{slice_get}
use Rattle.dy_term.specs.Terms.{Term, Lit, Name, Nonce, Pair, Pk, Vk, Penc, Aead, Sign, Mac, Kdf, Hash}
use Rattle.dy_flat.specs.Parts.{parts_of}
use Rattle.dy_entry.specs.Entries.{Entry}
use Rattle.dy_entry.specs.Attacker as by
use Rattle.dy_entry.specs.Attacker.{Derives}
use Rattle.dy_derive.specs.Saturation.{Built, IsSaturated, IsGivenAll, IsDerived}

inside : (a b : Term) → Some a ≡ Some b → a ≡ b
inside a b same = cc

-- What is had is built.
pub had_is_built : (Had : Term → Type 0) (term : Term) → Had term → Built Had term
had_is_built Had (Lit text) had = tt
had_is_built Had (Name principal) had = tt
had_is_built Had (Nonce index) had = had
had_is_built Had (Pair a b) had = inl had
had_is_built Had (Pk k) had = inl had
had_is_built Had (Vk k) had = inl had
had_is_built Had (Penc p m) had = inl had
had_is_built Had (Aead k m a) had = inl had
had_is_built Had (Sign k m) had = inl had
had_is_built Had (Mac k m) had = inl had
had_is_built Had (Kdf k c x) had = inl had
had_is_built Had (Hash m) had = inl had

module _ (Part Had : Term → Type 0) (saturated : IsSaturated Part Had) where
  none_is_had : (term : Term) → parts_of term ≡ [] → (part : Term) (number : ℕ) → slice_get (parts_of term) number ≡ Some part → Had part
  none_is_had term none part number at = absurd cc

  -- of one, two and three parts
  one_is_had : (a : Term) → Had a → (part : Term) (number : ℕ) → slice_get (a ∷ []) number ≡ Some part → Had part
  one_is_had a had part zero at = subst (λ (t : Term). Had t) (inside a part at) had
  one_is_had a had part (suc number) at = absurd cc

  two_are_had : (a b : Term) → Had a → Had b → (part : Term) (number : ℕ) → slice_get (a ∷ b ∷ []) number ≡ Some part → Had part
  two_are_had a b had_a had_b part zero at = subst (λ (t : Term). Had t) (inside a part at) had_a
  two_are_had a b had_a had_b part (suc number) at = one_is_had b had_b part number at

  three_are_had : (a b c : Term) → Had a → Had b → Had c → (part : Term) (number : ℕ) → slice_get (a ∷ b ∷ c ∷ []) number ≡ Some part → Had part
  three_are_had a b c had_a had_b had_c part zero at = subst (λ (t : Term). Had t) (inside a part at) had_a
  three_are_had a b c had_a had_b had_c part (suc number) at = two_are_had b c had_b had_c part number at

  first_part : (whole a : Term) → Part whole → slice_get (parts_of whole) 0 ≡ Some a → Part a
  first_part whole a of at = saturated.parts whole a 0 of at

  second_part : (whole a : Term) → Part whole → slice_get (parts_of whole) 1 ≡ Some a → Part a
  second_part whole a of at = saturated.parts whole a 1 of at

  third_part : (whole a : Term) → Part whole → slice_get (parts_of whole) 2 ≡ Some a → Part a
  third_part whole a of at = saturated.parts whole a 2 of at

  either : {A : Type 0} {B : Type 0} {C : Type 0} → A ⊎ B → (A → C) → (B → C) → C
  either o f g = elim o [ inl a ↦ f a | inr b ↦ g b ]

  -- A part that is built is had.
  pub built_part_is_had : (term : Term) → Part term → Built Had term → Had term
  built_part_is_had (Lit text) of built = saturated.built (Lit text) of (λ index same. absurd cc) (none_is_had (Lit text) refl)
  built_part_is_had (Name principal) of built = saturated.built (Name principal) of (λ index same. absurd cc) (none_is_had (Name principal) refl)
  built_part_is_had (Nonce index) of built = built
  built_part_is_had (Pair a b) of built = either built (λ had. had) (λ both. saturated.built (Pair a b) of (λ index same. absurd cc)
      (two_are_had a b (built_part_is_had a (first_part (Pair a b) a of refl) both.0) (built_part_is_had b (second_part (Pair a b) b of refl) both.1)))
  built_part_is_had (Pk k) of built = either built (λ had. had) (λ one. saturated.built (Pk k) of (λ index same. absurd cc)
      (one_is_had k (built_part_is_had k (first_part (Pk k) k of refl) one)))
  built_part_is_had (Vk k) of built = either built (λ had. had) (λ one. saturated.built (Vk k) of (λ index same. absurd cc)
      (one_is_had k (built_part_is_had k (first_part (Vk k) k of refl) one)))
  built_part_is_had (Penc p m) of built = either built (λ had. had) (λ both. saturated.built (Penc p m) of (λ index same. absurd cc)
      (two_are_had p m (built_part_is_had p (first_part (Penc p m) p of refl) both.0) (built_part_is_had m (second_part (Penc p m) m of refl) both.1)))
  built_part_is_had (Aead k m a) of built = either built (λ had. had) (λ all. saturated.built (Aead k m a) of (λ index same. absurd cc)
      (three_are_had k m a (built_part_is_had k (first_part (Aead k m a) k of refl) all.0) (built_part_is_had m (second_part (Aead k m a) m of refl) all.1)
      (built_part_is_had a (third_part (Aead k m a) a of refl) all.2)))
  built_part_is_had (Sign k m) of built = either built (λ had. had) (λ both. saturated.built (Sign k m) of (λ index same. absurd cc)
      (two_are_had k m (built_part_is_had k (first_part (Sign k m) k of refl) both.0) (built_part_is_had m (second_part (Sign k m) m of refl) both.1)))
  built_part_is_had (Mac k m) of built = either built (λ had. had) (λ both. saturated.built (Mac k m) of (λ index same. absurd cc)
      (two_are_had k m (built_part_is_had k (first_part (Mac k m) k of refl) both.0) (built_part_is_had m (second_part (Mac k m) m of refl) both.1)))
  built_part_is_had (Kdf k c x) of built = either built (λ had. had) (λ both. saturated.built (Kdf k c x) of (λ index same. absurd cc)
      (two_are_had k x (built_part_is_had k (first_part (Kdf k c x) k of refl) both.0) (built_part_is_had x (second_part (Kdf k c x) x of refl) both.1)))
  built_part_is_had (Hash m) of built = either built (λ had. had) (λ one. saturated.built (Hash m) of (λ index same. absurd cc)
      (one_is_had m (built_part_is_had m (first_part (Hash m) m of refl) one)))

  in_built : (term : Term) → Had term → Built Had term
  in_built term had = had_is_built Had term had

  module _ (T : List Entry) (given : IsGivenAll T Had) where
    -- What is derived is built.
    pub derived_is_built : (term : Term) → Derives T term → Built Had term
    derived_is_built _ (by.literal text) = tt
    derived_is_built _ (by.name principal) = tt
    derived_is_built _ (by.sent index instance value at) = in_built value (given.sent index instance value at)
    derived_is_built _ (by.injected index step value at) = in_built value (given.injected index step value at)
    derived_is_built _ (by.certified index instance principal usage key at) = in_built key (given.certified index instance principal usage key at)
    derived_is_built _ (by.forged index step at) = given.forged index step at
    derived_is_built _ (by.corrupted index instance principal session version tag fields field at covered within) =
        in_built field (given.corrupted index instance principal session version tag fields field at covered within)
    derived_is_built _ (by.pair a b da db) = inr (derived_is_built a da, derived_is_built b db)
    derived_is_built _ (by.pk k dk) = inr (derived_is_built k dk)
    derived_is_built _ (by.vk k dk) = inr (derived_is_built k dk)
    derived_is_built _ (by.penc p m dp dm) = inr (derived_is_built p dp, derived_is_built m dm)
    derived_is_built _ (by.aead k m a dk dm da) = inr (derived_is_built k dk, derived_is_built m dm, derived_is_built a da)
    derived_is_built _ (by.sign k m dk dm) = inr (derived_is_built k dk, derived_is_built m dm)
    derived_is_built _ (by.mac k m dk dm) = inr (derived_is_built k dk, derived_is_built m dm)
    derived_is_built _ (by.kdf k c x dk dx) = inr (derived_is_built k dk, derived_is_built x dx)
    derived_is_built _ (by.hash m dm) = inr (derived_is_built m dm)
    derived_is_built _ (by.fst a b d) = either (derived_is_built (Pair a b) d) (λ had. in_built a (saturated.first a b had)) (λ both. both.0)
    derived_is_built _ (by.snd a b d) = either (derived_is_built (Pair a b) d) (λ had. in_built b (saturated.second a b had)) (λ both. both.1)
    derived_is_built _ (by.pdec k m d dk) = either (derived_is_built (Penc (Pk k) m) d)
        (λ had. in_built m (saturated.decrypted k m had (built_part_is_had k
        (first_part (Pk k) k (first_part (Penc (Pk k) m) (Pk k) (saturated.had (Penc (Pk k) m) had) refl) refl) (derived_is_built k dk))))
        (λ both. both.1)
    derived_is_built _ (by.adec k m a d dk) = either (derived_is_built (Aead k m a) d)
        (λ had. in_built m (saturated.opened k m a had (built_part_is_had k (first_part (Aead k m a) k (saturated.had (Aead k m a) had) refl) (derived_is_built k dk))))
        (λ all. all.1)
    derived_is_built _ (by.ad k m a d) = either (derived_is_built (Aead k m a) d) (λ had. in_built a (saturated.associated k m a had)) (λ all. all.2)
    derived_is_built _ (by.body k m d) = either (derived_is_built (Sign k m) d) (λ had. in_built m (saturated.signed k m had)) (λ both. both.1)

module _ (T : List Entry) (Had : Term → Type 0) (derived : IsDerived T Had) where
  -- What is built of what is derived is derived.
  pub built_is_derived : (term : Term) → Built Had term → Derives T term
  built_is_derived (Lit text) built = by.literal text
  built_is_derived (Name principal) built = by.name principal
  built_is_derived (Nonce index) built = derived (Nonce index) built
  built_is_derived (Pair a b) built = elim built [
    | inl had ↦ derived (Pair a b) had
    | inr both ↦ by.pair a b (built_is_derived a both.0) (built_is_derived b both.1)
  ]
  built_is_derived (Pk k) built = elim built [ inl had ↦ derived (Pk k) had | inr one ↦ by.pk k (built_is_derived k one) ]
  built_is_derived (Vk k) built = elim built [ inl had ↦ derived (Vk k) had | inr one ↦ by.vk k (built_is_derived k one) ]
  built_is_derived (Penc p m) built = elim built [
    | inl had ↦ derived (Penc p m) had
    | inr both ↦ by.penc p m (built_is_derived p both.0) (built_is_derived m both.1)
  ]
  built_is_derived (Aead k m a) built = elim built [
    | inl had ↦ derived (Aead k m a) had
    | inr all ↦ by.aead k m a (built_is_derived k all.0) (built_is_derived m all.1) (built_is_derived a all.2)
  ]
  built_is_derived (Sign k m) built = elim built [
    | inl had ↦ derived (Sign k m) had
    | inr both ↦ by.sign k m (built_is_derived k both.0) (built_is_derived m both.1)
  ]
  built_is_derived (Mac k m) built = elim built [
    | inl had ↦ derived (Mac k m) had
    | inr both ↦ by.mac k m (built_is_derived k both.0) (built_is_derived m both.1)
  ]
  built_is_derived (Kdf k c x) built = elim built [
    | inl had ↦ derived (Kdf k c x) had
    | inr both ↦ by.kdf k c x (built_is_derived k both.0) (built_is_derived x both.1)
  ]
  built_is_derived (Hash m) built = elim built [ inl had ↦ derived (Hash m) had | inr one ↦ by.hash m (built_is_derived m one) ]
