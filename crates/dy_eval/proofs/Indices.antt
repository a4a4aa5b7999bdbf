-- One index more is one step more.
use Rattle.std.proofs.Common.{◌≡◌, ℕ, List, [], ◌∷◌, ◌++◌, refl}
use Rattle.dy_entry.specs.Entries.{Entry}
use Rattle.dy_eval.specs.Runs.{Left, Next, next_of, step, steps, does}

more_steps : (X : List Entry) (next : Next) (indices : List ℕ) (index : ℕ) → steps X next (indices ++ index ∷ []) ≡ step X (steps X next indices) index
more_steps X next [] index = refl
more_steps X next (first ∷ indices) index = more_steps X (step X next first) indices index

pub one_more : (X : List Entry) (left : Left) (indices : List ℕ) (index : ℕ) → does X left (indices ++ index ∷ []) ≡ step X (does X left indices) index
one_more X left indices index = more_steps X (next_of X left) indices index
