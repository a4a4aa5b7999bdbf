-- What `?` hands on of a refusal.
use Rattle.std.proofs.Common.{◌≡◌, sym, ◌∙◌}
use Rattle.std.specs.Prelude.{Result, Err, IsErrOf}
use Rattle.std.specs.Result.{IsErrAnd}
use Rattle.std.proofs.lemmas.Result.{err_from_is_err_and}
use Rattle.dy_plan.specs.declared.recipes.Refusal.{Refusal}
use Rattle.dy_plan.specs.declared.recipes.Refusal.TheVariants.{Unresolved}

-- what is refused for want of an entry was so refused by the call
pub same_refusal : {A : Type 0} (r : Result A Refusal) (e : Refusal) → IsErrAnd r (λ y. y ≡ e) → IsErrOf r Unresolved → e ≡ Unresolved
same_refusal r e handed refused =
    let p = err_from_is_err_and r handed in
    let first : r ≡ Err p.0 = p.1 in
    let second : r ≡ Err Unresolved = refused in
    let same : p.0 ≡ Unresolved = cc in
    sym p.2 ∙ same
