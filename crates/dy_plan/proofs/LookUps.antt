-- A look-up by what another one found.
use Rattle.std.proofs.Common.{◌≡◌, Option, Some, None, ap, sym, ◌∙◌}
use Rattle.std.specs.Option.{option_map, option_and_then}

module _ {A B C : Type 0} (meaning : A → B) (next : B → Option C) (answer : Option A) (found : Option B) (is : option_map meaning answer ≡ found) where
  pub next_of_some : (x : A) → answer ≡ Some x → next (meaning x) ≡ option_and_then next found
  next_of_some x some = ap (option_and_then next) (sym (ap (option_map meaning) some) ∙ is)

  pub next_of_none : answer ≡ None → None ≡ option_and_then next found
  next_of_none none = ap (option_and_then next) (sym (ap (option_map meaning) none) ∙ is)
