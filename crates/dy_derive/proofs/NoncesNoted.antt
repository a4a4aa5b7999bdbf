-- The nonces that stand among what follows.
use Rattle.std.proofs.Common.{◌≡◌, ℕ, zero, suc, ◌+◌, ◌<◌, ◌⊎◌, inl, inr, List, [], ◌∷◌, ◌++◌, length, take, get_or, Option, Some, None, refl, ap, sym, ◌∙◌, arith}
use Rattle.std.specs.List.{slice_get, Contains, cons_option}
use Rattle.std.specs.Option.{option_and_then}
use Rattle.std.proofs.lemmas.List.{take_more}
use Rattle.std.proofs.lemmas.List.Elements.{Contains-append_right, filter_map-append}
use Rattle.std.proofs.lemmas.Option.{slice_get_cases, slice_get_within, get_or_from_slice_get}
use Rattle.dy_term.specs.Terms as trees
use Rattle.dy_chains.specs.declared.logs.Step.{Step}
use Rattle.dy_entry.proofs.Traces.{slice_get-prefix}
use Rattle.dy_derive.specs.declared.nodes.Node.{Node}
use Rattle.dy_derive.specs.declared.nodes.Node.TheVariants as code
use Rattle.dy_derive.specs.Facts.{Fact, Derived}
use Rattle.dy_derive.specs.Nodes.{fact_of, IsTermAt, IsTable}
use Rattle.dy_derive.specs.MirrorKnowledge.{HasEachOnce}
use Rattle.dy_derive.specs.MirrorNonces.{nonce_of_node, nonces_in}

-- the nonce of a step
abbrev pub nonce_of_step : List Node → Step → Option ℕ
nonce_of_step nodes step = option_and_then nonce_of_node (slice_get nodes step.fact)

same_step : (nodes more : List Node) (step : Step) → step.fact < length nodes → nonce_of_step (nodes ++ more) step ≡ nonce_of_step nodes step
same_step nodes more step within = elim (slice_get_cases nodes step.fact).1 [
  | inl found ↦
      let one = slice_get-prefix nodes more step.fact found.0 found.2 in
      ap (λ (o : Option Node). option_and_then nonce_of_node o) (one ∙ sym found.2)
  | inr past ↦ absurd (omega (arith, past.0, within))
]

-- the nonces with one step more
pub nonces_more : (nodes : List Node) (steps : List Step) (place : ℕ) (step : Step) → place < length steps
    → nonces_in nodes (take (place + 1) steps) ≡ nonces_in nodes (take place steps) ++ cons_option (nonce_of_step nodes (get_or steps place step)) []
nonces_more nodes steps place step within =
    ap (nonces_in nodes) (take_more steps place step within) ∙ filter_map-append (nonce_of_step nodes) (take place steps) (get_or steps place step ∷ [])

-- Nodes that are added are none of those of the steps.
pub nonces_longer : (nodes more : List Node) (steps : List Step) → ((place : ℕ) (step : Step) → slice_get steps place ≡ Some step → step.fact < length nodes)
    → nonces_in (nodes ++ more) steps ≡ nonces_in nodes steps
nonces_longer nodes more [] within = refl
nonces_longer nodes more (step ∷ steps) within =
    let rest = nonces_longer nodes more steps (λ place other at. within (suc place) other at) in
    let one = same_step nodes more step (within 0 step refl) in
    ap (cons_option (nonce_of_step (nodes ++ more) step)) rest ∙ ap (λ (o : Option ℕ). cons_option o (nonces_in nodes steps)) one

-- a nonce that stands at a place
contains_first : (o : Option ℕ) (rest : List ℕ) (index : ℕ) → o ≡ Some index → Contains (cons_option o rest) index
contains_first (Some i) rest index is = (0, omega arith, (let same : i ≡ index = cc in same))
contains_first None rest index is = absurd (cc)

contains_rest : (o : Option ℕ) (rest : List ℕ) (index : ℕ) → Contains rest index → Contains (cons_option o rest) index
contains_rest None rest index has = has
contains_rest (Some i) rest index has = Contains-append_right (i ∷ []) rest index has

pub noted : (nodes : List Node) (steps : List Step) (place : ℕ) (step : Step) (index : ℕ) → slice_get steps place ≡ Some step
    → nonce_of_step nodes step ≡ Some index → Contains (nonces_in nodes steps) index
noted nodes [] place step index at is = absurd (cc)
noted nodes (first ∷ steps) zero step index at is =
    let same : first ≡ step = cc in
    contains_first (nonce_of_step nodes first) (nonces_in nodes steps) index (ap (nonce_of_step nodes) same ∙ is)
noted nodes (first ∷ steps) (suc place) step index at is =
    contains_rest (nonce_of_step nodes first) (nonces_in nodes steps) index (noted nodes steps place step index at is)

-- a nonce among them stands at a place
contains_cases : (o : Option ℕ) (rest : List ℕ) (index : ℕ) → Contains (cons_option o rest) index → (o ≡ Some index) ⊎ Contains rest index
contains_cases None rest index has = inr has
contains_cases (Some i) rest index (zero, within, is) = inl (ap Some is)
contains_cases (Some i) rest index (suc k, within, is) = inr (k, omega (arith, within), is)

pub noted_at : (nodes : List Node) (steps : List Step) (index : ℕ) → Contains (nonces_in nodes steps) index
    → (place : ℕ) × (step : Step) × (slice_get steps place ≡ Some step) × (nonce_of_step nodes step ≡ Some index)
noted_at nodes [] index has = absurd (omega (arith, has.1))
noted_at nodes (first ∷ steps) index has =
    elim (contains_cases (nonce_of_step nodes first) (nonces_in nodes steps) index has) [
      | inl one ↦ (0, first, refl, one)
      | inr rest ↦ let at = noted_at nodes steps index rest in (suc at.0, at.1, at.2, at.3)
    ]

-- the node of a nonce
nonce_node : (facts : List Fact) (node : Node) (index : ℕ) → fact_of facts node ≡ Derived (trees.Nonce index) → nonce_of_node node ≡ Some index
nonce_node facts (code.Nonce i) index is = let same : i ≡ index = cc in ap Some same
nonce_node facts node index is = absurd (cc)

node_nonce : (facts : List Fact) (node : Node) (index : ℕ) → nonce_of_node node ≡ Some index → fact_of facts node ≡ Derived (trees.Nonce index)
node_nonce facts (code.Nonce i) index is = let same : i ≡ index = cc in ap (λ n. Derived (trees.Nonce n)) same
node_nonce facts node index is = absurd (cc)

-- the node of a step of a nonce is that of the nonce
node_is : (node : Node) (index : ℕ) → nonce_of_node node ≡ Some index → node ≡ code.Nonce index
node_is (code.Nonce i) index is = let same : i ≡ index = cc in ap code.Nonce same
node_is node index is = absurd (cc)

pub nonce_stands : (nodes : List Node) (step : Step) (index : ℕ) → nonce_of_step nodes step ≡ Some index → slice_get nodes step.fact ≡ Some (code.Nonce index)
nonce_stands nodes step index is = elim (slice_get_cases nodes step.fact).1 [
  | inl found ↦
      let one : nonce_of_node found.0 ≡ Some index = sym (ap (λ (o : Option Node). option_and_then nonce_of_node o) found.2) ∙ is in
      found.2 ∙ ap Some (node_is found.0 index one)
  | inr past ↦
      let none : None ≡ Some index = sym (ap (λ (o : Option Node). option_and_then nonce_of_node o) past.1) ∙ is in absurd (cc)
]

-- A step of a nonce is that of the fact that it is derived.
pub step_says_nonce : (nodes : List Node) (facts : List Fact) (step : Step) (index : ℕ) → IsTable nodes facts
    → nonce_of_step nodes step ≡ Some index → IsTermAt facts step.fact (trees.Nonce index)
step_says_nonce nodes facts step index table is = elim (slice_get_cases nodes step.fact).1 [
  | inl found ↦
      let one : nonce_of_node found.0 ≡ Some index = sym (ap (λ (o : Option Node). option_and_then nonce_of_node o) found.2) ∙ is in
      table.says step.fact found.0 found.2 ∙ ap Some (node_nonce facts found.0 index one)
  | inr past ↦
      let none : None ≡ Some index = sym (ap (λ (o : Option Node). option_and_then nonce_of_node o) past.1) ∙ is in absurd (cc)
]

pub nonce_said_by_step : (nodes : List Node) (facts : List Fact) (step : Step) (index : ℕ) → IsTable nodes facts
    → IsTermAt facts step.fact (trees.Nonce index) → nonce_of_step nodes step ≡ Some index
nonce_said_by_step nodes facts step index table at = elim (slice_get_cases nodes step.fact).1 [
  | inl found ↦
      let says = table.says step.fact found.0 found.2 in
      let same : fact_of facts found.0 ≡ Derived (trees.Nonce index) = cc in
      ap (λ (o : Option Node). option_and_then nonce_of_node o) found.2 ∙ nonce_node facts found.0 index same
  | inr past ↦
      let within = slice_get_within facts step.fact (Derived (trees.Nonce index)) at in
      absurd (omega (arith, past.0, within, table.each))
]

-- One item more, which is new.
once_cons : (item : ℕ) (items : List ℕ) → (Contains items item → ⊥) → HasEachOnce items → HasEachOnce (item ∷ items)
once_cons item items new once zero zero one at at_other = refl
once_cons item items new once zero (suc other) one at at_other =
    let stands : slice_get items other ≡ Some item = at_other ∙ sym at in
    absurd (new (other, slice_get_within items other item stands, get_or_from_slice_get items other item item stands))
once_cons item items new once (suc place) zero one at at_other =
    let stands : slice_get items place ≡ Some item = at ∙ sym at_other in
    absurd (new (place, slice_get_within items place item stands, get_or_from_slice_get items place item item stands))
once_cons item items new once (suc place) (suc other) one at at_other = ap suc (once place other one at at_other)

-- what the first step notes is not noted by the later ones
noted_first : (nodes : List Node) (facts : List Fact) (first : Step) (steps : List Step) → IsTable nodes facts
    → ((place other : ℕ) (step second : Step) → slice_get (first ∷ steps) place ≡ Some step → slice_get (first ∷ steps) other ≡ Some second → step.fact ≡ second.fact → place ≡ other)
    → (index : ℕ) → nonce_of_step nodes first ≡ Some index → Contains (nonces_in nodes steps) index → ⊥
noted_first nodes facts first steps table apart index is within =
    let at = noted_at nodes steps index within in
    let same : first.fact ≡ at.1.fact =
    table.once first.fact at.1.fact (Derived (trees.Nonce index)) (step_says_nonce nodes facts first index table is) (step_says_nonce nodes facts at.1 index table at.3) in
    let place = apart 0 (suc at.0) first at.1 refl at.2 same in
    absurd (omega (arith, place))

once_option : (o : Option ℕ) (items : List ℕ) → ((item : ℕ) → o ≡ Some item → Contains items item → ⊥) → HasEachOnce items → HasEachOnce (cons_option o items)
once_option None items new once = once
once_option (Some item) items new once = once_cons item items (new item refl) once

-- Where no two steps are of one fact, no nonce is noted twice.
pub nonces_once : (nodes : List Node) (facts : List Fact) (steps : List Step) → IsTable nodes facts
    → ((place other : ℕ) (step second : Step) → slice_get steps place ≡ Some step → slice_get steps other ≡ Some second → step.fact ≡ second.fact → place ≡ other)
    → HasEachOnce (nonces_in nodes steps)
nonces_once nodes facts [] table apart = λ place other item at at_other. absurd (cc (at))
nonces_once nodes facts (first ∷ steps) table apart =
    once_option (nonce_of_step nodes first) (nonces_in nodes steps) (noted_first nodes facts first steps table apart)
    (nonces_once nodes facts steps table
    (λ place other step second at at_other same. let is = apart (suc place) (suc other) step second at at_other same in omega (arith, is)))
