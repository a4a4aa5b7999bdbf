-- An instance that has put an item, and is asked again.
use Rattle.std.proofs.Common.{◌≡◌, ◌∙◌, sym, subst, ℕ, Some, Result, Ok, Err, IfOk, OnOk}
use Rattle.std.specs.Result.{result_ok}
use Rattle.std.proofs.lemmas.Option.{none-some, same_Some}
use Rattle.dy_eval.specs.declared.items.Emit.{Emit}
use Rattle.dy_eval.specs.declared.items.Emit.TheVariants.{Put, End}
use Rattle.dy_eval.specs.declared.items.Item.{Item}
use Rattle.dy_eval.specs.Runs.{Next, Puts, Ends, Standing}
use Rattle.dy_eval.specs.Turns.{IsAsked, emit_of, standing_after}

abbrev IsPut : Emit → Type 0
IsPut (Put item) = Unit {0}
IsPut (End outcome) = ⊥

-- after an item, an index may be told
index_is_awaited : (next : Next) (item : Item) (index : ℕ) → Put item ≡ emit_of next → IsAsked (standing_after next) (Some index)
index_is_awaited (Puts put binds left) item index is = tt
index_is_awaited (Ends outcome) item index is = absurd (subst (λ (e : Emit). IsPut e) is tt)

-- where an instance answered an item, it may be told an index
pub asked_once_put : {E : Type 0} (r : Result Emit E) (next : Next) (now : Standing) (item : Item) (index : ℕ) → IfOk r (λ emit. emit ≡ emit_of next)
    → OnOk r (now ≡ standing_after next) → Some (Put item) ≡ result_ok r → IsAsked now (Some index)
asked_once_put (Ok emit) next now item index emits stands is =
    subst (λ (s : Standing). IsAsked s (Some index)) (sym stands) (index_is_awaited next item index (same_Some (Put item) emit is ∙ emits))
asked_once_put (Err error) next now item index emits stands is = absurd (none-some (Put item) (sym is))
