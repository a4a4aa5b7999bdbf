-- Deductions that gained nodes.
use Rattle.std.proofs.Common.{◌≡◌, ℕ, inl, inr, List, [], ◌∷◌, ◌++◌, length, Some, ap, sym, ◌∙◌, subst, arith, append_assoc}
use Rattle.std.specs.List.{slice_get}
use Rattle.std.proofs.lemmas.List.{append-nil}
use Rattle.dy_chains.specs.declared.rules.Rule.{Rule}
use Rattle.dy_chains.specs.declared.logs.Step.{Step}
use Rattle.dy_entry.specs.Entries.{Entry}
use Rattle.dy_entry.proofs.Traces.{slice_get-prefix, slice_get-end}
use Rattle.dy_derive.specs.declared.deductions.Deductions.{Deductions}
use Rattle.dy_derive.specs.declared.nodes.Node.{Node}
use Rattle.dy_derive.specs.declared.reasons.Reason.{Reason}
use Rattle.dy_derive.specs.Facts.{Fact, inferences_of_fact}
use Rattle.dy_derive.specs.Nodes.{fact_of, IsSmall, HasParts, IsTable}
use Rattle.dy_derive.specs.Rules.{HasInferences}
use Rattle.dy_derive.specs.MirrorRules.{rules_of, rules_in, reasons_in, decryption_key, StandForAll}
use Rattle.dy_derive.specs.MirrorKnowledge.{IsDeduced, Adds, IsUnchanged, Interns, Grows}
use Rattle.dy_derive.proofs.Tables.{table_more, parts_longer, fact_of-longer}
use Rattle.dy_derive.proofs.NodeRules.{rules_stand}
use Rattle.dy_derive.proofs.AddedInferences.{fact_more}

-- deductions of these nodes, rules and reasons
pub deduced_of : (d : Deductions) (facts : List Fact) (T : List Entry) (nodes : List Node) (rules : List Rule) (reasons : List Reason)
    → d.nodes.keys ≡ nodes → d.chain.chain.rules ≡ rules → d.chain.reasons.items ≡ reasons
    → IsTable nodes facts → HasInferences facts T rules reasons → IsDeduced d facts T
deduced_of d facts T nodes rules reasons same_nodes same_rules same_reasons table has = record {
  table = subst (λ (ns : List Node). IsTable ns facts) (sym same_nodes) table;
  rules = subst (λ (ws : List Reason). HasInferences facts T d.chain.chain.rules ws) (sym same_reasons)
      (subst (λ (rs : List Rule). HasInferences facts T rs reasons) (sym same_rules) has);
}

pub unchanged_deduced : (old new : Deductions) (facts : List Fact) (T : List Entry) → IsUnchanged old new → IsDeduced old facts T → IsDeduced new facts T
unchanged_deduced old new facts T is deduced =
    deduced_of new facts T old.nodes.keys old.chain.chain.rules old.chain.reasons.items is.nodes (ap (λ c. c.rules) is.chain) is.reasons deduced.table deduced.rules

-- One node more, with its rules.
pub added_deduced : (old new : Deductions) (node : Node) (number : ℕ) (facts : List Fact) (T : List Entry) → Adds old new node number
    → ((k : ℕ) → slice_get old.nodes.keys k ≡ Some node → ⊥) → IsDeduced old facts T
    → HasParts facts (length facts) node → IsSmall (fact_of facts node)
    → IsDeduced new (facts ++ fact_of facts node ∷ []) T × (slice_get (facts ++ fact_of facts node ∷ []) number ≡ Some (fact_of facts node))
added_deduced old new node number facts T adds is_new deduced parts small =
    let more = fact_of facts node ∷ [] in
    let longer = facts ++ more in
    let list = rules_of number (decryption_key old.nodes.keys node) node in
    let table = table_more old.nodes.keys facts node deduced.table parts small is_new in
    let number_is : number ≡ length facts = omega (arith, adds.last, deduced.table.each) in
    let at : slice_get longer number ≡ Some (fact_of facts node) = ap (slice_get longer) number_is ∙ slice_get-end facts (fact_of facts node) in
    let same = fact_of-longer facts more (length facts) node parts in
    let here : slice_get longer number ≡ Some (fact_of longer node) = at ∙ ap Some (sym same) in
    let mine : HasParts longer number node = parts_longer facts more (length facts) number node (omega (arith, number_is)) parts in
    let stand = rules_stand old.nodes.keys longer number node adds.last mine here table in
    let all = subst (λ (fact : Fact). StandForAll longer (rules_in list) (reasons_in list) (inferences_of_fact fact)) same stand in
    let has = fact_more facts (fact_of facts node) T old.chain.chain.rules (rules_in list) old.chain.reasons.items (reasons_in list) deduced.rules all in (
      deduced_of new longer T (old.nodes.keys ++ node ∷ []) (old.chain.chain.rules ++ rules_in list) (old.chain.reasons.items ++ reasons_in list)
          adds.nodes adds.rules adds.reasons table has,
      at,
    )

-- A node is there, and says what it says.
pub interned : (old new : Deductions) (node : Node) (number : ℕ) (facts : List Fact) (T : List Entry) → Interns old new node number
    → IsDeduced old facts T → HasParts facts (length facts) node → IsSmall (fact_of facts node)
    → (more : List Fact) × IsDeduced new (facts ++ more) T × (slice_get (facts ++ more) number ≡ Some (fact_of facts node))
interned old new node number facts T interns deduced parts small =
    elim interns [
      | inl old' ↦
          let same = append-nil facts in (
            [],
            subst (λ (fs : List Fact). IsDeduced new fs T) (sym same) (unchanged_deduced old new facts T old'.1 deduced),
            slice_get-prefix facts [] number (fact_of facts node) (deduced.table.says number node old'.0),
          )
      | inr new' ↦
          let added = added_deduced old new node number facts T new'.1 new'.0 deduced parts small in
          (fact_of facts node ∷ [], added.0, added.1)
    ]

-- nothing was added since
pub grows_none : (d : Deductions) (AreSuch : List Fact → Type 0)
    → ((facts : List Fact) (T : List Entry) → IsDeduced d facts T → AreSuch facts) → Grows d d AreSuch
grows_none d AreSuch are = record {
  nodes = ([], sym (append-nil d.nodes.keys));
  log = ([], sym (append-nil d.chain.chain.log));
  deduced = λ facts T deduced.
      let same = sym (append-nil facts) in
      ([], subst (λ (fs : List Fact). IsDeduced d fs T) same deduced, subst AreSuch same (are facts T deduced));
}

-- The log and the nodes that an interning leaves.
more_nodes : (old new : Deductions) (node : Node) (number : ℕ) → Interns old new node number → (more : List Node) × (new.nodes.keys ≡ old.nodes.keys ++ more)
more_nodes old new node number interns = elim interns [
  | inl same ↦ ([], same.1.nodes ∙ sym (append-nil old.nodes.keys))
  | inr added ↦ (node ∷ [], added.1.nodes)
]

more_log : (old new : Deductions) (node : Node) (number : ℕ) → Interns old new node number → (more : List Step) × (new.chain.chain.log ≡ old.chain.chain.log ++ more)
more_log old new node number interns = elim interns [
  | inl same ↦ ([], ap (λ c. c.log) same.1.chain ∙ sym (append-nil old.chain.chain.log))
  | inr added ↦ added.1.log
]

longer : {A : Type 0} (xs ys zs more later : List A) → ys ≡ xs ++ more → zs ≡ ys ++ later → zs ≡ xs ++ (more ++ later)
longer xs ys zs more later one two = two ∙ ap (λ s. s ++ later) one ∙ append_assoc xs more later

-- A node is interned after others were.
pub grows_interned : (start old new : Deductions) (node : Node) (number : ℕ) (AreSuch AreThen : List Fact → Type 0)
    → Grows start old AreSuch → Interns old new node number
    → ((facts : List Fact) → AreSuch facts → HasParts facts (length facts) node × IsSmall (fact_of facts node))
    → ((facts more : List Fact) → AreSuch facts → slice_get (facts ++ more) number ≡ Some (fact_of facts node) → AreThen (facts ++ more))
    → Grows start new AreThen
grows_interned start old new node number AreSuch AreThen grown interns needs then =
    let nodes = more_nodes old new node number interns in
    let log = more_log old new node number interns in
    record {
      nodes = (grown.nodes.0 ++ nodes.0, longer start.nodes.keys old.nodes.keys new.nodes.keys grown.nodes.0 nodes.0 grown.nodes.1 nodes.1);
      log = (grown.log.0 ++ log.0, longer start.chain.chain.log old.chain.chain.log new.chain.chain.log grown.log.0 log.0 grown.log.1 log.1);
      deduced = λ facts T deduced.
          let one = grown.deduced facts T deduced in
          let given = needs (facts ++ one.0) one.2 in
          let two = interned old new node number (facts ++ one.0) T interns one.1 given.0 given.1 in
          let same = append_assoc facts one.0 two.0 in (
            one.0 ++ two.0,
            subst (λ (fs : List Fact). IsDeduced new fs T) same two.1,
            subst AreThen same (then (facts ++ one.0) two.0 one.2 two.2),
          );
    }

-- What was interned stays where nothing is added.
pub grows_unchanged : (start old new : Deductions) (AreSuch AreThen : List Fact → Type 0) → Grows start old AreSuch → IsUnchanged old new
    → ((facts : List Fact) → AreSuch facts → AreThen facts) → Grows start new AreThen
grows_unchanged start old new AreSuch AreThen grown is then = record {
  nodes = (grown.nodes.0, is.nodes ∙ grown.nodes.1);
  log = (grown.log.0, ap (λ c. c.log) is.chain ∙ grown.log.1);
  deduced = λ facts T deduced.
      let one = grown.deduced facts T deduced in
      (one.0, unchanged_deduced old new (facts ++ one.0) T is one.1, then (facts ++ one.0) one.2);
}

-- One growth after another.
pub grows_after : (start old new : Deductions) (AreSuch AreThen Both : List Fact → Type 0) → Grows start old AreSuch → Grows old new AreThen
    → ((facts more : List Fact) → AreSuch facts → AreThen (facts ++ more) → Both (facts ++ more)) → Grows start new Both
grows_after start old new AreSuch AreThen Both first second both = record {
  nodes = (first.nodes.0 ++ second.nodes.0, longer start.nodes.keys old.nodes.keys new.nodes.keys first.nodes.0 second.nodes.0 first.nodes.1 second.nodes.1);
  log = (first.log.0 ++ second.log.0, longer start.chain.chain.log old.chain.chain.log new.chain.chain.log first.log.0 second.log.0 first.log.1 second.log.1);
  deduced = λ facts T deduced.
      let one = first.deduced facts T deduced in
      let two = second.deduced (facts ++ one.0) T one.1 in
      let same = append_assoc facts one.0 two.0 in
      (one.0 ++ two.0, subst (λ (fs : List Fact). IsDeduced new fs T) same two.1, subst Both same (both (facts ++ one.0) two.0 one.2 two.2));
}
