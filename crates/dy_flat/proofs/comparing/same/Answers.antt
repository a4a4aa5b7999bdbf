use Rattle.std.proofs.Common.{◌≡◌, ◌≢◌, Bool, true, false, refl, ap, sym, ◌∙◌, inl, inr}
use Rattle.std.proofs.lemmas.Bool.{cases_Bool}
use Rattle.dy_term.specs.Terms.{Term}
use Rattle.dy_term.specs.Sameness.{is_same}
use Rattle.dy_flat.specs.Views.{tree_of}
use Rattle.dy_flat.proofs.comparing.same.Goals as goal

-- a test of equality is that of sameness
same_test : (test : Bool) (a b : Term) → (is_same a b ≡ true → a ≡ b) → is_same a a ≡ true → (test ≡ true → a ≡ b) → (test ≡ false → a ≢ b) → test ≡ is_same a b
same_test true a b equals itself equal other = sym (ap (is_same a) (sym (equal refl)) ∙ itself)
same_test false a b equals itself equal other = elim (cases_Bool (is_same a b)) [ inl same ↦ absurd (other refl (equals same)) | inr differ ↦ sym differ ]

pub returns : goal.returns
returns c =
    let a = tree_of c.args.a in
    let b = tree_of c.args.b in
    let law = c.sameness_is_equality.ensures in
    same_test c.have_same_nodes.result a b (law.equal a b) (law.same a) c.have_same_nodes.ensures.same c.have_same_nodes.ensures.other
