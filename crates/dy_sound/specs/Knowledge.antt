-- When what a handler knows holds in a trace.
use Rattle.std.specs.Prelude.{◌≡◌, ◌⊎◌, ℕ, suc, ◌<◌, List, length, map, Contains}
use Rattle.dy_term.specs.Terms.{Term}
use Rattle.dy_label.specs.Words.{Choice, meaning_of}
use Rattle.dy_label.specs.declared.usages.Usage.{Usage}
use Rattle.dy_types.specs.Claims.{StaticUse, Claim, Use, Pk, Vk, Known}
use Rattle.dy_types.specs.Facts.{Fact, first_of}
use Rattle.dy_syntax.specs.Files.{Decl}
use Rattle.dy_typing.specs.Knowledge.{Knowledge, known_at}
use Rattle.dy_entry.specs.Entries.{Entry}
use Rattle.dy_entry.specs.ValueLabels.{label_of}
use Rattle.dy_eval.specs.Names.{Names}
use Rattle.dy_sound.specs.Usages.{usage_with}
use Rattle.dy_sound.specs.Flows.{Flows, IsShown}
use Rattle.dy_sound.specs.Events.{HasHappened}
use Rattle.dy_sound.specs.Fields.{HasUse, IsPkFor, IsVkFor}
use Rattle.dy_sound.specs.Names.{value_numbered}

-- the usage that a handler's usage stands for
abbrev pub usage_chosen : List Decl → Choice → StaticUse → Usage
usage_chosen decls choice usage = usage_with decls usage.usage (map choice.principals usage.args)

abbrev pub ClaimHolds : List Decl → List Entry → Choice → Term → Claim → Type 0
ClaimHolds decls T choice value (Use usage) = HasUse decls T value (usage_chosen decls choice usage)
ClaimHolds decls T choice value (Pk label usage) =
    IsPkFor decls T value (meaning_of choice label) (usage_chosen decls choice usage)
ClaimHolds decls T choice value (Vk label usage) =
    IsVkFor decls T value (meaning_of choice label) (usage_chosen decls choice usage)

-- What is known of a value holds. Where `hi` is open so is its label, where that is open so is `lo`, and each claim
-- holds.
pub record KnownHolds (decls : List Decl) (T : List Entry) (choice : Choice) (value : Term) (known : Known)
    : Type 0 where
  pub is_open_by_hi : Flows T (meaning_of choice known.hi) (label_of T value)
  pub opens_lo : Flows T (label_of T value) (meaning_of choice known.lo)
  pub claims_hold : (claim : Claim) → Contains known.claims claim → ClaimHolds decls T choice value claim

-- The event of a fact stands in the trace, or its guard is open.
abbrev pub FactHolds : List Entry → Choice → Names → Fact → Type 0
FactHolds T choice names fact =
    HasHappened T fact.event (map (value_numbered names) fact.args) ⊎ IsShown T (meaning_of choice fact.guard)

-- For `self` and each word it is said which is the first variable that is one with it, and what is known of its
-- value. Facts speak of variables that are bound.
pub record IsNumbered (k : Knowledge) : Type 0 where
  pub firsts_count : length k.first ≡ suc (length k.words)
  pub values_count : length k.values ≡ suc (length k.words)
  pub firsts_are_bound : (number : ℕ) → number < length k.first → first_of k.first number < length k.first
  pub args_are_bound : (fact : Fact) → Contains k.facts fact → (arg : ℕ) → Contains fact.args arg → arg < length k.first

-- What a handler knows holds in a trace, of what is written in an instance. A choice says what its words
-- stand for. Its variables are those that are written, and those that are one have one value. What is known of each
-- value holds, and so does each fact.
pub record Holds (decls : List Decl) (T : List Entry) (choice : Choice) (names : Names) (k : Knowledge) : Type 0 where
  pub variables : map (λ w. w.word) names.written ≡ k.words
  pub is_numbered : IsNumbered k
  pub same : (number : ℕ) → value_numbered names (first_of k.first number) ≡ value_numbered names number
  pub values_hold : (number : ℕ) → KnownHolds decls T choice (value_numbered names number) (known_at k number)
  pub facts_hold : (fact : Fact) → Contains k.facts fact → FactHolds T choice names fact
