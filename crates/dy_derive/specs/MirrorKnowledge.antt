-- What the parts of a Knowledge have in them, for a trace that it stands for.
use Rattle.std.specs.Prelude.{◌≡◌, ℕ, ◌<◌, ◌⊎◌, List, [], ◌∷◌, ◌++◌, Some, Contains, length, map, take, slice_get}
use Rattle.dy_chains.specs.declared.logs.Step.{Step}
use Rattle.dy_chains.specs.declared.rules.Rule.{Rule}
use Rattle.dy_derive.specs.declared.reasons.Reason.{Reason}
use Rattle.dy_term.specs.Terms.{Term, Nonce}
use Rattle.dy_entry.specs.Attacker.{Derives}
use Rattle.dy_entry.specs.Entries.{Entry}
use Rattle.dy_derive.specs.declared.nodes.Node.{Node}
use Rattle.dy_derive.specs.declared.deductions.Deductions.{Deductions}
use Rattle.dy_derive.specs.declared.knowledge.Knowledge.{Knowledge}
use Rattle.dy_derive.specs.Facts.{Fact, Derived}
use Rattle.dy_derive.specs.Nodes.{IsTable}
use Rattle.dy_derive.specs.MirrorNonces.{nonces_in}
use Rattle.dy_derive.specs.Rules.{HasInferences}
use Rattle.dy_derive.specs.MirrorRules.{rules_in, reasons_in, rules_of, decryption_key}

-- The nodes say these facts, and the rules are those of the facts and of the trace.
pub record IsDeduced (d : Deductions) (facts : List Fact) (T : List Entry) : Type 0 where
  pub table : IsTable d.nodes.keys facts
  pub rules : HasInferences facts T d.chain.chain.rules d.chain.reasons.items

-- One node was added with its rules, and has this number.
pub record Adds (old new : Deductions) (node : Node) (number : ℕ) : Type 0 where
  pub last : number ≡ length old.nodes.keys
  pub nodes : new.nodes.keys ≡ old.nodes.keys ++ node ∷ []
  pub rules : new.chain.chain.rules
      ≡ old.chain.chain.rules ++ rules_in (rules_of number (decryption_key old.nodes.keys node) node)
  pub reasons : new.chain.reasons.items
      ≡ old.chain.reasons.items ++ reasons_in (rules_of number (decryption_key old.nodes.keys node) node)
  pub log : (more : List Step) × (new.chain.chain.log ≡ old.chain.chain.log ++ more)

-- These rules were added, with these reasons.
pub record AddsRules (old new : Deductions) (rules : List Rule) (reasons : List Reason) : Type 0 where
  pub nodes : new.nodes.keys ≡ old.nodes.keys
  pub then_rules : new.chain.chain.rules ≡ old.chain.chain.rules ++ rules
  pub then_reasons : new.chain.reasons.items ≡ old.chain.reasons.items ++ reasons
  pub log : (more : List Step) × (new.chain.chain.log ≡ old.chain.chain.log ++ more)

-- The nodes, the rules and the log are as they were.
pub record IsUnchanged (old new : Deductions) : Type 0 where
  pub nodes : new.nodes.keys ≡ old.nodes.keys
  pub chain : new.chain.chain ≡ old.chain.chain
  pub reasons : new.chain.reasons.items ≡ old.chain.reasons.items

-- The node is there, and has this number. It is the only one that may have been added.
abbrev pub Interns : Deductions → Deductions → Node → ℕ → Type 0
Interns old new node number =
    ((slice_get old.nodes.keys number ≡ Some node) × IsUnchanged old new)
    ⊎ (((k : ℕ) → slice_get old.nodes.keys k ≡ Some node → ⊥) × Adds old new node number)

-- Nodes may have been added, with their rules and facts, and then the facts are such. The log only gained steps.
pub record Grows (old new : Deductions) (AreSuch : List Fact → Type 0) : Type 0 where
  pub nodes : (more : List Node) × (new.nodes.keys ≡ old.nodes.keys ++ more)
  pub log : (more : List Step) × (new.chain.chain.log ≡ old.chain.chain.log ++ more)
  pub deduced : (facts : List Fact) (T : List Entry) → IsDeduced old facts T
      → (more : List Fact) × IsDeduced new (facts ++ more) T × AreSuch (facts ++ more)

-- of any facts
abbrev pub AreAny : List Fact → Type 0
AreAny facts = Unit {0}

-- These are the numbers of these facts, each in its place.
abbrev pub AreAt : List ℕ → List Fact → List Fact → Type 0
AreAt numbers said facts = map (slice_get facts) numbers ≡ map Some said

-- These are the numbers of these terms.
abbrev pub AreTermsAt : List ℕ → List Term → List Fact → Type 0
AreTermsAt numbers terms facts = AreAt numbers (map Derived terms) facts

-- No item of the list stands at two places.
abbrev pub HasEachOnce : List ℕ → Type 0
HasEachOnce list =
    (place other item : ℕ) → slice_get list place ≡ Some item → slice_get list other ≡ Some item → place ≡ other

-- The knowledge is that of this trace.
pub record Stands (knowledge : Knowledge) (T : List Entry) : Type 0 where
  pub facts : List Fact
  pub deduced : IsDeduced knowledge.deductions facts T
  pub count : knowledge.entries ≡ length T
  pub within : (place : ℕ) (step : Step) → place < knowledge.seen
      → slice_get knowledge.deductions.chain.chain.log place ≡ Some step
      → step.fact < length knowledge.deductions.nodes.keys
  pub nonces : knowledge.nonces.items
      ≡ nonces_in knowledge.deductions.nodes.keys (take knowledge.seen knowledge.deductions.chain.chain.log)
  pub derived : (index : ℕ) → Contains knowledge.nonces.items index → Derives T (Nonce index)
  pub all : (index : ℕ) → Derives T (Nonce index) → Contains knowledge.nonces.items index
  pub once : HasEachOnce knowledge.nonces.items
