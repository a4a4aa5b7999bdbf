-- How rules over numbers stand for inferences over facts, which have those numbers.
use Rattle.std.specs.Prelude.{◌≡◌, ℕ, ◌⊎◌, List, Some, length, map, slice_get}
use Rattle.dy_chains.specs.declared.rules.Rule.{Rule}
use Rattle.dy_chains.specs.Rules.{premises_of}
use Rattle.dy_entry.specs.Entries.{Entry}
use Rattle.dy_derive.specs.declared.reasons.Reason.{Reason}
use Rattle.dy_derive.specs.Facts.{Fact, Inference, inferences_of_fact, inferences_of_entry}

-- A rule, with a reason, stands for an inference.
pub record StandsFor (facts : List Fact) (rule : Rule) (reason : Reason) (inference : Inference) : Type 0 where
  pub premises : map (slice_get facts) (premises_of rule.premises) ≡ map Some inference.premises
  pub conclusion : slice_get facts rule.conclusion ≡ Some inference.conclusion
  pub why : reason ≡ inference.reason

-- The inference is one of those of a fact, or one of those of an entry.
abbrev pub IsInferenceOf : List Fact → List Entry → Inference → Type 0
IsInferenceOf facts T inference =
    ((number place : ℕ) × (fact : Fact) × (slice_get facts number ≡ Some fact)
    × (slice_get (inferences_of_fact fact) place ≡ Some inference))
    ⊎ ((index place : ℕ) × (entry : Entry) × (slice_get T index ≡ Some entry)
    × (slice_get (inferences_of_entry index entry) place ≡ Some inference))

-- The rule, with this reason, stands for an inference of the facts and the trace.
pub record IsSoundRule (facts : List Fact) (T : List Entry) (rule : Rule) (reason : Reason) : Type 0 where
  pub inference : Inference
  pub means : StandsFor facts rule reason inference
  pub true : IsInferenceOf facts T inference

-- Some rule stands for the inference.
pub record HasRule (facts : List Fact) (rules : List Rule) (reasons : List Reason) (inference : Inference) : Type 0 where
  pub number : ℕ
  pub rule : Rule
  pub reason : Reason
  pub stands : slice_get rules number ≡ Some rule
  pub reasoned : slice_get reasons number ≡ Some reason
  pub means : StandsFor facts rule reason inference

-- The rules stand for the inferences of the facts and those of the trace: for each of them, and for no others.
pub record HasInferences (facts : List Fact) (T : List Entry) (rules : List Rule) (reasons : List Reason) : Type 0 where
  pub each : length reasons ≡ length rules
  pub sound : (number : ℕ) (rule : Rule) (reason : Reason)
      → slice_get rules number ≡ Some rule → slice_get reasons number ≡ Some reason
      → IsSoundRule facts T rule reason
  pub of_facts : (number place : ℕ) (fact : Fact) (inference : Inference) → slice_get facts number ≡ Some fact
      → slice_get (inferences_of_fact fact) place ≡ Some inference → HasRule facts rules reasons inference
  pub of_entries : (index place : ℕ) (entry : Entry) (inference : Inference) → slice_get T index ≡ Some entry
      → slice_get (inferences_of_entry index entry) place ≡ Some inference → HasRule facts rules reasons inference
