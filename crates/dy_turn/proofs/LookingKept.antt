-- A look keeps the rule: nothing changes.
use Rattle.std.proofs.Common.{ℕ, ◌<◌, List, set, refl, ap, sym, ◌∙◌}
use mathlib.Core.Option.{none}
use Rattle.std.specs.Prelude.{Option, slice_index, slice_set}
use Rattle.atomic_table.specs.Table.{Me, Allows, step, keeps}
use Rattle.atomic_table.proofs.Lists.{set_again}
use Rattle.dy_turn.specs.declared.known.Origin.{Origin}
use Rattle.dy_turn.specs.declared.known.Known.{Known}
use Rattle.dy_turn.specs.Rule.{IsTurned}
use Rattle.dy_turn.specs.Steps.{Looks}
use Rattle.dy_turn.proofs.Fitting.{live, own_fits}
use Rattle.dy_turn.proofs.Changing.{unmoved}

module _ {T I : Type 0} (history : T → List I) (same_base : T → T → Type 0) (origin : Origin T) where
  pub looks : (slots id : ℕ) (me : Me (Option T) (Known T I)) → 0 < me.0.parts
      → Allows (IsTurned history same_base origin) slots id me 0 (λ n. n) (Looks (step slots 0 0 0 none) me)
  looks slots id me some_parts s kept _ at _ = (
    me.0,
    keeps,
    tt,
    unmoved s kept (slice_set s.words 0 (slice_index s.words 0)) (set s.views id me.0) (kept.words ∙ sym (ap (λ ws. slice_set ws 0 (slice_index ws 0)) kept.words)) (sym (set_again s.views id me.0 at)),
    (refl, (live s kept id me.0 at some_parts).told, own_fits s kept id me.0 at some_parts),
  )
