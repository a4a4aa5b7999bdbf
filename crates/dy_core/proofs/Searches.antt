-- No index at which a test passes.
use Rattle.std.proofs.Common.{◌≡◌, ℕ, zero, suc, Bool, false, List, [], ◌∷◌, Some, if◌then◌else◌, refl, ap, ◌∙◌}
use Rattle.std.specs.List.{slice_get}
use Rattle.dy_entry.specs.Entries.{Entry}
use Rattle.dy_traces.specs.Instances.{indices_from}

pub indices_none : (test : Entry → Bool) (n : ℕ) (T : List Entry)
    → ((k : ℕ) (e : Entry) → slice_get T k ≡ Some e → test e ≡ false) → indices_from n test T ≡ []
indices_none test n [] fails = refl
indices_none test n (e ∷ T) fails =
    ap (λ (b : Bool). if b then n ∷ indices_from (suc n) test T else indices_from (suc n) test T) (fails 0 e refl)
    ∙ indices_none test (suc n) T (λ k x at. fails (suc k) x at)
