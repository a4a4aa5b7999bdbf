-- A new table keeps the rule.
use Rattle.std.proofs.Common.{◌≡◌, ℕ, zero, suc, ◌≤◌, List, [], ◌∷◌, length, refl, ap, sym, ◌∙◌, subst, arith}
use mathlib.Core.Option.{some, some-injective, some-ne-none}
use lib.ListN.{get_elem?}
use Rattle.std.specs.Prelude.{Option, Some}
use Rattle.atomic_table.specs.Table.{State, opening}
use Rattle.dy_turn.specs.declared.known.Origin.{Origin}
use Rattle.dy_turn.specs.declared.known.Known.{Known}
use Rattle.dy_turn.specs.Indices.{one_if_between}
use Rattle.dy_turn.specs.Views.{first_seat}
use Rattle.dy_turn.specs.Rule.{IsTurned, Fits}
use Rattle.dy_turn.proofs.Ranges.{one_if_between-none}
use Rattle.dy_turn.proofs.Prefixes.{prefix_self}

module _ {T I : Type 0} (history : T → List I) (same_base : T → T → Type 0) where
  abbrev Start : Origin T → State (Option T) (Known T I)
  Start origin = opening (origin.start ∷ 0 ∷ 0 ∷ []) (Some origin.first.value ∷ []) (first_seat (history origin.first.value) origin)

  pub begins : (origin : Origin T) → origin.start ≡ length (history origin.first.value) → 1 ≤ origin.seats → origin.seats ≤ 80 → same_base origin.first.value origin.first.value
      → IsTurned history same_base origin (Start origin)
  begins origin start some_seats few based =
      let log : List I = history origin.first.value in
      record {
        log = log;
        drawn = 0;
        served = 0;
        next = 0;
        words = ap (λ n. n ∷ 0 ∷ 0 ∷ []) start;
        order = (omega arith, omega arith);
        line = refl;
        waiting = λ k. sym (one_if_between-none 0 k);
        working = λ k. sym (one_if_between-none 0 k);
        home = λ _. (origin.first.value, refl, refl, based);
        away = λ far. absurd (omega arith);
        owned = λ k. sym (ap (λ n. one_if_between origin.start n k) (sym start) ∙ one_if_between-none origin.start k);
        rooms = omega arith;
        few = few;
        each = each;
      }
    where
      one : Fits origin (history origin.first.value) (first_seat (history origin.first.value) origin)
      one = (
        (λ _. record {
          same = refl;
          seen = prefix_self (history origin.first.value);
          told = (history origin.first.value, refl);
          started = omega arith;
          rising = refl;
          bound = λ k far. refl;
          whole = λ ticket is. absurd (cc);
        }),
        λ none. absurd (omega arith),
      )

      each : (seat : ℕ) (known : Known T I) → get_elem? (first_seat (history origin.first.value) origin ∷ []) seat ≡ some known → Fits origin (history origin.first.value) known
      each zero known at = subst (Fits origin (history origin.first.value)) (some-injective _ _ at) one
      each (suc seat) known at = absurd (some-ne-none known (sym at))
