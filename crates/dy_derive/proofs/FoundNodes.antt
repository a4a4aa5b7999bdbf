-- What a search for a node finds.
use Rattle.std.proofs.Common.{◌≡◌, ℕ, zero, suc, Bool, true, false, cond, ◌||◌, List, [], ◌∷◌, ◌++◌, Some, refl, ap, sym, ◌∙◌, subst}
use Rattle.std.specs.List.{slice_get, position, list_any}
use Rattle.std.specs.Prelude.{Result, Ok, Err, IfOk, IsOk}
use Rattle.indexmap.specs.IndexSet.{insert_key}
use Rattle.std.proofs.lemmas.List.Quantifiers.{position-Some}
use Rattle.std.proofs.lemmas.Option.{slice_get-get_or}
use Rattle.dy_derive.specs.declared.nodes.Node.{Node}
use Rattle.dy_derive.proofs.SameNodes.{same, same_is_equal, same_as_itself}

pub found_at : (nodes : List Node) (node : Node) (number : ℕ) → Some number ≡ position (same node) nodes → slice_get nodes number ≡ Some node
found_at nodes node number is =
    let at = position-Some (same node) nodes number node (sym is) in
    slice_get-get_or nodes number node at.0 ∙ ap Some (sym (same_is_equal node _ at.1))

or_false : (a b : Bool) → (a || b) ≡ false → (a ≡ false) × (b ≡ false)
or_false true b is = absurd (cc)
or_false false b is = (refl, is)

pub missing_at : (nodes : List Node) (node : Node) → list_any (same node) nodes ≡ false → (number : ℕ) → slice_get nodes number ≡ Some node → ⊥
missing_at [] node is number at = absurd (cc)
missing_at (first ∷ nodes) node is zero at =
    let none = or_false (same node first) (list_any (same node) nodes) is in
    let one : first ≡ node = cc in
    let here : same node node ≡ false = subst (λ (n : Node). same node n ≡ false) one none.0 in
    let itself = same_as_itself node in absurd (cc)
missing_at (first ∷ nodes) node is (suc number) at =
    missing_at nodes node (or_false (same node first) (list_any (same node) nodes) is).1 number at

-- none of the nodes is equal to one that is not there
pub none_equal : (nodes : List Node) (node : Node) → ((k : ℕ) → slice_get nodes k ≡ Some node → ⊥) → list_any (same node) nodes ≡ false
none_equal [] node none = refl
none_equal (first ∷ nodes) node none = by_case (same node first) refl (none_equal nodes node (λ k at. none (suc k) at))
  where
    by_case : (b : Bool) → same node first ≡ b → list_any (same node) nodes ≡ false → (same node first || list_any (same node) nodes) ≡ false
    by_case true is rest = absurd (none 0 (ap Some (sym (same_is_equal node first is))))
    by_case false is rest = ap (λ b. b || list_any (same node) nodes) is ∙ rest

-- such a node is inserted last
pub inserted_last : (nodes new : List Node) (node : Node) → ((k : ℕ) → slice_get nodes k ≡ Some node → ⊥)
    → new ≡ insert_key same nodes node → new ≡ nodes ++ node ∷ []
inserted_last nodes new node none is = is ∙ ap (λ b. cond b nodes (nodes ++ node ∷ [])) (none_equal nodes node none)

-- the same, where the insertion succeeds
pub inserted : {E : Type 0} (nodes old new : List Node) (node : Node) (result : Result Bool E) → ((k : ℕ) → slice_get nodes k ≡ Some node → ⊥)
    → old ≡ nodes → IsOk result → IfOk result (λ added. new ≡ insert_key same old node) → new ≡ nodes ++ node ∷ []
inserted nodes old new node (Ok added) none kept ok is = inserted_last nodes new node none (is ∙ ap (λ list. insert_key same list node) kept)
inserted nodes old new node (Err error) none kept ok is = absurd (cc)
