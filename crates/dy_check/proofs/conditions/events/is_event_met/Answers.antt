use Rattle.dy_syntax.specs.Meaning.{atom_of}
use Rattle.dy_typing.specs.Conditions.{sealer_hi}
use Rattle.dy_check.specs.Meaning.{setting_of}
use Rattle.dy_check.proofs.FirstUnmet.{or_first, or_second, not_true}
use Rattle.dy_check.proofs.conditions.events.is_event_met.Goals as goal

pub returns-else-branch : goal.returns-else-branch
returns-else-branch c = λ setting sealing number sealer. record {
  exactly = λ k h.
      let label = sealer_hi (setting_of setting).decls k sealing in
      let table = sealer.has k h in
      or_second c.is_public.result (not_true c.in_ok-has_happened.field-0 c.if-branch.false (c.in_ok-has_happened.ensures k label h table)) (c.is_public.ensures label table);
}
