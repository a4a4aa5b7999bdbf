use Rattle.std.proofs.Common.{◌≡◌, ℕ, zero, suc, ◌<◌, true, List, [], ◌∷◌, take, Some, refl, arith}
use Rattle.std.specs.List.{slice_get}
use Rattle.dy_syntax.specs.Files.{Decl}
use Rattle.dy_entry.specs.Entries.{Entry, Setup}
use Rattle.dy_traces.specs.declared.limits.TheConstants.{MAX_STEPS}
use Rattle.dy_traces.specs.Steps.{has_step}
use Rattle.dy_traces.specs.Following.{MayFollow}
use Rattle.dy_traces.proofs.laws.opening_trace.Goals as goal

none_later : (bytes : List ℕ) (decls : List Decl) (i : ℕ) (e : Entry) → 0 < i → slice_get (Setup bytes ∷ []) i ≡ Some e
    → MayFollow decls (take i (Setup bytes ∷ [])) e
none_later bytes decls zero e late at = absurd (omega (arith, late))
none_later bytes decls (suc i) e late at = absurd cc

no_step : (bytes : List ℕ) (i step : ℕ) (e : Entry) → slice_get (Setup bytes ∷ []) i ≡ Some e → has_step step e ≡ true → step < MAX_STEPS
no_step bytes zero step (Setup input) at has = absurd cc
no_step bytes zero step e at has = absurd cc
no_step bytes (suc i) step e at has = absurd cc

pub returns-clause-interleaves : goal.returns-clause-interleaves
returns-clause-interleaves c = λ bytes file reads well_formed. record { reads = reads; well_formed = well_formed; opens = refl; follows = none_later bytes file.decls }

pub returns-clause-short : goal.returns-clause-short
returns-clause-short c = no_step
