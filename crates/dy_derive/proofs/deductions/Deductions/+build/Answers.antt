use Rattle.std.proofs.Common.{◌≡◌, ◌∷◌, [], inl, inr, sym, ap, ◌∙◌}
use Rattle.std.proofs.lemmas.Result.{IfOk-weaker}
use Rattle.dy_term.specs.declared.terms.Term.{Term}
use Rattle.dy_term.specs.Meaning.{tree_of}
use Rattle.dy_flat.specs.Parts.{parts_of}
use Rattle.dy_derive.proofs.TermsBuilt.{built_one, built_two, built_three}
use Rattle.dy_derive.proofs.deductions.Deductions.+build.Goals as goal

pub returns-in_ok-associated-in-Aead : goal.returns-in_ok-associated-in-Aead
returns-in_ok-associated-in-Aead t c =
    let parts : parts_of (tree_of c.args.term.now) ≡ tree_of c.deref.result.now ∷ tree_of c.deref-in-Aead.result.now ∷ tree_of c.deref-in-Aead-2.result.now ∷ [] =
    ap (λ term. parts_of (tree_of term)) c.in-Aead.is
    ∙ sym (ap (λ x. tree_of x ∷ tree_of c.deref-in-Aead.result.now ∷ tree_of c.deref-in-Aead-2.result.now ∷ []) c.deref.ensures
    ∙ ap (λ x. tree_of c.in-Aead.key.value ∷ tree_of x ∷ tree_of c.deref-in-Aead-2.result.now ∷ []) c.deref-in-Aead.ensures
    ∙ ap (λ x. tree_of c.in-Aead.key.value ∷ tree_of c.in-Aead.message.value ∷ tree_of x ∷ []) c.deref-in-Aead-2.ensures) in
    IfOk-weaker c.join.result _ _ (λ found joins.
    built_three c.args.self.now (tree_of c.args.term.now) _ found _ _ _ _ _ _ _ _ _ _ parts
    c.in_ok-key-in-Aead.ensures c.in_ok-message-in-Aead.ensures c.in_ok-associated-in-Aead.ensures joins) c.join.ensures

pub returns-in_ok-second-in-Pair : goal.returns-in_ok-second-in-Pair
returns-in_ok-second-in-Pair t c =
    let of = λ (term : Term). parts_of (tree_of term) in
    let parts : parts_of (tree_of c.args.term.now) ≡ tree_of c.in-Pair.first.value ∷ tree_of c.in-Pair.second.value ∷ [] =
    elim c.in-Pair.is [
      | inl pair ↦ ap of pair
      | inr rest ↦ elim rest [
        | inl encrypted ↦ ap of encrypted
        | inr rest ↦ elim rest [
          | inl signed ↦ ap of signed
          | inr rest ↦ elim rest [
            | inl mac ↦ ap of mac
            | inr derived ↦ ap of derived.1
          ]
        ]
      ]
    ] in
    let lent : tree_of c.deref-in-Pair.result.now ∷ tree_of c.deref-in-Pair-2.result.now ∷ [] ≡ tree_of c.in-Pair.first.value ∷ tree_of c.in-Pair.second.value ∷ [] =
    ap (λ x. tree_of x ∷ tree_of c.deref-in-Pair-2.result.now ∷ []) c.deref-in-Pair.ensures
    ∙ ap (λ x. tree_of c.in-Pair.first.value ∷ tree_of x ∷ []) c.deref-in-Pair-2.ensures in
    IfOk-weaker c.join-in-Pair.result _ _ (λ found joins.
    built_two c.args.self.now (tree_of c.args.term.now) _ found _ _ _ _ _ _ _ _ (parts ∙ sym lent)
    c.in_ok-first-in-Pair.ensures c.in_ok-second-in-Pair.ensures joins) c.join-in-Pair.ensures

pub returns-in_ok-part-in-Pk : goal.returns-in_ok-part-in-Pk
returns-in_ok-part-in-Pk t c =
    let of = λ (term : Term). parts_of (tree_of term) in
    let parts : parts_of (tree_of c.args.term.now) ≡ tree_of c.in-Pk.part.value ∷ [] =
    elim c.in-Pk.is [
      | inl public ↦ ap of public
      | inr rest ↦ elim rest [
        | inl verifier ↦ ap of verifier
        | inr hash ↦ ap of hash
      ]
    ] in
    IfOk-weaker c.join-in-Pk.result _ _ (λ found joins.
    built_one c.args.self.now (tree_of c.args.term.now) _ found _ _ _ _ _ _ (parts ∙ sym (ap (λ x. tree_of x ∷ []) c.deref-in-Pk.ensures))
    c.in_ok-part-in-Pk.ensures joins) c.join-in-Pk.ensures
