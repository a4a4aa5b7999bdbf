-- What an interleaving says of the next step and of its file.
use Rattle.std.proofs.Common.{◌≡◌, ◌≤◌, List, length, Some, None, sym, subst, ◌∙◌}
use Rattle.std.proofs.Math.Bridge.{le_prop}
use Rattle.std.proofs.Math.Logic.{∥∥₁_elim}
use Rattle.dy_syntax.specs.Plans.{Plan}
use Rattle.dy_syntax.specs.Files.{File}
use Rattle.dy_syntax.specs.Rules.{IsWellFormed}
use Rattle.dy_entry.specs.Entries.{Entry}
use Rattle.dy_traces.specs.declared.limits.TheConstants.{MAX_STEPS}
use Rattle.dy_traces.specs.Instances.{end_of}
use Rattle.dy_core.specs.BookMeaning.{IsInterleavingOf}
use Rattle.dy_core.proofs.Longer.{none_of}
use Rattle.dy_core.proofs.Owners.{no_end_yet}
use Rattle.dy_core.proofs.Stepping.{none_two}
use Rattle.dy_plan.specs.Steps.{step_count}
use Rattle.dy_serial.proofs.Parts.{few_steps}

module _ (file : File) (T : List Entry) (is_one : ∥ IsInterleavingOf file T ∥₁) where
  -- its file is well formed
  pub is_well_formed : IsWellFormed file
  is_well_formed = λ rule line breaks. ∥∥₁_elim is_one none_two (λ it. it.1.well_formed rule line breaks)

  -- its file has few steps
  pub has_few_steps : step_count file.plan ≤ MAX_STEPS
  has_few_steps = ∥∥₁_elim is_one le_prop (λ it. few_steps it.0 file it.1.reads)

  -- and so has a plan that is its own
  pub plan_has_few_steps : (plan : Plan) → plan ≡ file.plan → step_count plan ≤ MAX_STEPS
  plan_has_few_steps plan same = subst (λ (p : Plan). step_count p ≤ MAX_STEPS) (sym same) has_few_steps

  -- an instance that comes next has no End
  pub none_ended : end_of T (length T) ≡ None
  none_ended = none_of (end_of T (length T)) (λ k some. ∥∥₁_elim is_one none_two (λ it.
      let none : None ≡ Some k = sym (no_end_yet it.0 file T it.1) ∙ some in
      absurd cc))
