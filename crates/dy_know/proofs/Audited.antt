-- An Auditor that gets one entry more.
use Rattle.std.proofs.Common.{◌≡◌, ℕ, ◌≤◌, List, [], ◌∷◌, ◌++◌, length, take, sum_by, Option, Some, None, Contains, refl, sym, subst, arith}
use Rattle.std.specs.List.{slice_get, slice_index_or}
use Rattle.std.proofs.lemmas.List.{take_at}
use Rattle.std.proofs.lemmas.Option.{slice_get_past}
use Rattle.std.proofs.lemmas.List.Sums.{sum_by-le}
use Rattle.dy_term.specs.Terms.{Nonce}
use Rattle.dy_entry.specs.Entries.{Entry}
use Rattle.dy_entry.specs.Attacker.{Derives}
use Rattle.dy_know.specs.Conditions.{MakesNoncesFirst}
use Rattle.dy_know.specs.declared.secrets.Knowing.{Knowing}
use Rattle.dy_know.specs.declared.secrets.Knowing.TheVariants as knowing
use Rattle.dy_know.specs.declared.secrets.Secret.{Secret}
use Rattle.dy_know.specs.MirrorAuditors.{is_breach, breach_count, AllKnown, AreDerived}

-- a nonce of a longer trace was not known before it was made
pub not_yet : (T : List Entry) (e : Entry) (known : List ℕ) → MakesNoncesFirst (T ++ e ∷ []) → AreDerived T known → Contains known (length T) → ⊥
not_yet T e known first derived within =
    let prefix : take (length T) (T ++ e ∷ []) ≡ T = take_at T (e ∷ []) (length T) refl in
    let made = first.made (length T) (length T) (subst (λ (X : List Entry). Derives X (Nonce (length T))) (sym prefix) (derived (length T) within)) in
    let at : slice_get T (length T) ≡ Some made.0 = subst (λ (X : List Entry). slice_get X (length T) ≡ Some made.0) prefix made.1 in
    let past = slice_get_past T (length T) (omega arith) in
    cc (at, past)

-- what is known is all that the entries before the last derive
pub known_before : (T : List Entry) (e : Entry) (known : List ℕ) → AllKnown known T → AllKnown known (take (length T) (T ++ e ∷ []))
known_before T e known all = subst (AllKnown known) (sym (take_at T (e ∷ []) (length T) refl)) all

-- no more breaches than entries
count_small : (secret : Option Secret) → breach_count secret ≤ 1
count_small None = omega arith
count_small (Some secret) = by_state secret.knowing
  where
    by_state : (k : Knowing) → is_breach k ≤ 1
    by_state knowing.Unknown = omega arith
    by_state (knowing.Open from) = omega arith
    by_state (knowing.Breach from recipe) = omega arith

pub few_breaches : (secrets : List (Option Secret)) → sum_by breach_count secrets ≤ length secrets
few_breaches secrets = let small = sum_by-le breach_count 1 secrets (λ k d below. count_small (slice_index_or secrets k d)) in omega (arith, small)
