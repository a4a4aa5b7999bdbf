-- Rules that are added with the inferences that they stand for.
use Rattle.std.proofs.Common.{◌≡◌, ℕ, zero, suc, ◌+◌, ◌⊎◌, inl, inr, List, [], ◌∷◌, ◌++◌, length, map, Some, refl, ap, sym, ◌∙◌, subst, arith, length-append}
use Rattle.std.specs.List.{slice_get}
use Rattle.std.proofs.lemmas.Option.{slice_get_within}
use Rattle.std.proofs.lemmas.List.{append-nil}
use Rattle.dy_chains.specs.declared.rules.Rule.{Rule}
use Rattle.dy_chains.specs.Rules.{premises_of}
use Rattle.dy_entry.specs.Entries.{Entry}
use Rattle.dy_entry.proofs.Traces.{slice_get-prefix, slice_get-end, slice_get_split}
use Rattle.dy_derive.specs.declared.reasons.Reason.{Reason}
use Rattle.dy_derive.specs.Facts.{Fact, Inference, inferences_of_fact, inferences_of_entry}
use Rattle.dy_derive.specs.Rules.{StandsFor, IsInferenceOf, IsSoundRule, HasRule, HasInferences}
use Rattle.dy_derive.specs.MirrorRules.{StandForAll}

-- what stands in a list of two parts stands in one of them
pub in_either : {A : Type 0} (xs ys : List A) (i : ℕ) (x : A) → slice_get (xs ++ ys) i ≡ Some x
    → (slice_get xs i ≡ Some x) ⊎ ((k : ℕ) × (i ≡ length xs + k) × (slice_get ys k ≡ Some x))
in_either [] ys i x at = inr (i, (omega arith), at)
in_either (z ∷ zs) ys zero x at = inl at
in_either (z ∷ zs) ys (suc i) x at = elim (in_either zs ys i x at) [
  | inl before ↦ inl before
  | inr after ↦ inr (after.0, omega (arith, after.1), after.2)
]

-- what stands in the second part
in_second : {A : Type 0} (xs ys : List A) (k : ℕ) (x : A) → slice_get ys k ≡ Some x → slice_get (xs ++ ys) (length xs + k) ≡ Some x
in_second [] ys k x at = let same : 0 + k ≡ k = omega arith in ap (slice_get ys) same ∙ at
in_second (z ∷ zs) ys k x at =
    let same : suc (length zs) + k ≡ suc (length zs + k) = omega arith in
    ap (slice_get (z ∷ (zs ++ ys))) same ∙ in_second zs ys k x at

-- premises that are there stay there
pub premises_longer : (facts more : List Fact) (numbers : List ℕ) (said : List Fact)
    → map (slice_get facts) numbers ≡ map Some said → map (slice_get (facts ++ more)) numbers ≡ map Some said
premises_longer facts more [] [] is = refl
premises_longer facts more [] (fact ∷ said) is = absurd (cc)
premises_longer facts more (n ∷ numbers) [] is = absurd (cc)
premises_longer facts more (n ∷ numbers) (fact ∷ said) is =
    let first : slice_get facts n ≡ Some fact = cc in
    let rest : map (slice_get facts) numbers ≡ map Some said = cc in
    let here = slice_get-prefix facts more n fact first in
    let later = premises_longer facts more numbers said rest in cc

-- a rule stands for the same where facts are added
pub stands_longer : (facts more : List Fact) (rule : Rule) (reason : Reason) (inference : Inference)
    → StandsFor facts rule reason inference → StandsFor (facts ++ more) rule reason inference
stands_longer facts more rule reason inference stands = record {
  premises = premises_longer facts more (premises_of rule.premises) inference.premises stands.premises;
  conclusion = slice_get-prefix facts more rule.conclusion inference.conclusion stands.conclusion;
  why = stands.why;
}

-- the same of all
pub all_longer : (facts more : List Fact) (rules : List Rule) (reasons : List Reason) (inferences : List Inference)
    → StandForAll facts rules reasons inferences → StandForAll (facts ++ more) rules reasons inferences
all_longer facts more [] [] [] all = tt
all_longer facts more (rule ∷ rules) (reason ∷ reasons) (inference ∷ inferences) all =
    (stands_longer facts more rule reason inference all.0, all_longer facts more rules reasons inferences all.1)
all_longer facts more [] [] (i ∷ is) all = absurd all
all_longer facts more [] (w ∷ ws) is all = absurd all
all_longer facts more (r ∷ rs) [] is all = absurd all
all_longer facts more (r ∷ rs) (w ∷ ws) [] all = absurd all

-- all of two lists
pub all_both : (facts : List Fact) (rs ss : List Rule) (ws vs : List Reason) (is js : List Inference)
    → StandForAll facts rs ws is → StandForAll facts ss vs js → StandForAll facts (rs ++ ss) (ws ++ vs) (is ++ js)
all_both facts [] ss [] vs [] js all rest = rest
all_both facts (r ∷ rs) ss (w ∷ ws) vs (i ∷ is) js all rest = (all.0, all_both facts rs ss ws vs is js all.1 rest)
all_both facts [] ss [] vs (i ∷ is) js all rest = absurd all
all_both facts [] ss (w ∷ ws) vs is js all rest = absurd all
all_both facts (r ∷ rs) ss [] vs is js all rest = absurd all
all_both facts (r ∷ rs) ss (w ∷ ws) vs [] js all rest = absurd all

-- as many reasons as rules
pub all_each : (facts : List Fact) (rules : List Rule) (reasons : List Reason) (inferences : List Inference)
    → StandForAll facts rules reasons inferences → length reasons ≡ length rules
all_each facts [] [] [] all = refl
all_each facts (rule ∷ rules) (reason ∷ reasons) (inference ∷ inferences) all = ap suc (all_each facts rules reasons inferences all.1)
all_each facts [] [] (i ∷ is) all = absurd all
all_each facts [] (w ∷ ws) is all = absurd all
all_each facts (r ∷ rs) [] is all = absurd all
all_each facts (r ∷ rs) (w ∷ ws) [] all = absurd all

-- each rule stands for the inference in its place
rule_stands : (facts : List Fact) (rules : List Rule) (reasons : List Reason) (inferences : List Inference)
    → StandForAll facts rules reasons inferences → (k : ℕ) (rule : Rule) (reason : Reason)
    → slice_get rules k ≡ Some rule → slice_get reasons k ≡ Some reason
    → (inference : Inference) × (slice_get inferences k ≡ Some inference) × StandsFor facts rule reason inference
rule_stands facts [] ws is all k rule reason at why = absurd (cc)
rule_stands facts (r ∷ rs) [] is all k rule reason at why = absurd (cc)
rule_stands facts (r ∷ rs) (w ∷ ws) [] all k rule reason at why = absurd all
rule_stands facts (r ∷ rs) (w ∷ ws) (i ∷ is) all zero rule reason at why =
    let same : r ≡ rule = cc in let same' : w ≡ reason = cc in
    (i, refl, subst (λ (v : Reason). StandsFor facts rule v i) same' (subst (λ (s : Rule). StandsFor facts s w i) same all.0))
rule_stands facts (r ∷ rs) (w ∷ ws) (i ∷ is) all (suc k) rule reason at why = rule_stands facts rs ws is all.1 k rule reason at why

-- each inference has a rule in its place
inference_has : (facts : List Fact) (rules : List Rule) (reasons : List Reason) (inferences : List Inference)
    → StandForAll facts rules reasons inferences → (k : ℕ) (inference : Inference) → slice_get inferences k ≡ Some inference
    → HasRule facts rules reasons inference
inference_has facts [] [] [] all k inference at = absurd (cc)
inference_has facts (r ∷ rs) (w ∷ ws) (i ∷ is) all zero inference at =
    let same : i ≡ inference = cc in
    record { number = 0; rule = r; reason = w; stands = refl; reasoned = refl; means = subst (λ (j : Inference). StandsFor facts r w j) same all.0 }
inference_has facts (r ∷ rs) (w ∷ ws) (i ∷ is) all (suc k) inference at =
    let rest = inference_has facts rs ws is all.1 k inference at in
    record { number = suc rest.number; rule = rest.rule; reason = rest.reason; stands = rest.stands; reasoned = rest.reasoned; means = rest.means }
inference_has facts [] [] (i ∷ is) all k inference at = absurd all
inference_has facts [] (w ∷ ws) is all k inference at = absurd all
inference_has facts (r ∷ rs) [] is all k inference at = absurd all
inference_has facts (r ∷ rs) (w ∷ ws) [] all k inference at = absurd all

-- a rule is there where facts and rules are added
has_longer : (facts more : List Fact) (rules rs : List Rule) (reasons ws : List Reason) (inference : Inference)
    → HasRule facts rules reasons inference → HasRule (facts ++ more) (rules ++ rs) (reasons ++ ws) inference
has_longer facts more rules rs reasons ws inference has = record {
  number = has.number;
  rule = has.rule;
  reason = has.reason;
  stands = slice_get-prefix rules rs has.number has.rule has.stands;
  reasoned = slice_get-prefix reasons ws has.number has.reason has.reasoned;
  means = stands_longer facts more has.rule has.reason inference has.means;
}

-- a rule that was added is there
has_added : (facts : List Fact) (rules rs : List Rule) (reasons ws : List Reason) (inference : Inference) → length reasons ≡ length rules
    → HasRule facts rs ws inference → HasRule facts (rules ++ rs) (reasons ++ ws) inference
has_added facts rules rs reasons ws inference each has = record {
  number = length rules + has.number;
  rule = has.rule;
  reason = has.reason;
  stands = in_second rules rs has.number has.rule has.stands;
  reasoned = ap (λ n. slice_get (reasons ++ ws) (n + has.number)) (sym each) ∙ in_second reasons ws has.number has.reason has.reasoned;
  means = has.means;
}

inference_longer : (facts more : List Fact) (T later : List Entry) (inference : Inference)
    → IsInferenceOf facts T inference → IsInferenceOf (facts ++ more) (T ++ later) inference
inference_longer facts more T later inference is =
    elim is [
      | inl of ↦ inl (of.0, of.1, of.2, slice_get-prefix facts more of.0 of.2 of.3, of.4)
      | inr of ↦ inr (of.0, of.1, of.2, slice_get-prefix T later of.0 of.2 of.3, of.4)
    ]

-- Rules are added, for inferences of longer lists of facts and entries.
sound_more : (facts more : List Fact) (T later : List Entry) (rules rs : List Rule) (reasons ws : List Reason) (is : List Inference)
    → HasInferences facts T rules reasons → StandForAll (facts ++ more) rs ws is
    → ((k : ℕ) (inference : Inference) → slice_get is k ≡ Some inference → IsInferenceOf (facts ++ more) (T ++ later) inference)
    → (number : ℕ) (rule : Rule) (reason : Reason) → slice_get (rules ++ rs) number ≡ Some rule
    → slice_get (reasons ++ ws) number ≡ Some reason → IsSoundRule (facts ++ more) (T ++ later) rule reason
sound_more facts more T later rules rs reasons ws is old all true number rule reason at why =
    elim (in_either rules rs number rule at) [
      | inl before ↦ elim (in_either reasons ws number reason why) [
        | inl before' ↦
            let sound = old.sound number rule reason before before' in
            record {
              inference = sound.inference;
              means = stands_longer facts more rule reason sound.inference sound.means;
              true = inference_longer facts more T later sound.inference sound.true;
            }
        | inr after ↦ absurd (omega (arith, after.1, old.each, slice_get_within rules number rule before))
      ]
      | inr after ↦ elim (in_either reasons ws number reason why) [
        | inl before' ↦ absurd (omega (arith, after.1, old.each, slice_get_within reasons number reason before'))
        | inr after' ↦
            let same : after'.0 ≡ after.0 = omega (arith, after.1, after'.1, old.each) in
            let stands = rule_stands (facts ++ more) rs ws is all after.0 rule reason after.2 (ap (slice_get ws) (sym same) ∙ after'.2) in
            record { inference = stands.0; means = stands.2; true = true after.0 stands.0 stands.1 }
      ]
    ]

-- A fact more, with the rules of its inferences.
pub fact_more : (facts : List Fact) (fact : Fact) (T : List Entry) (rules rs : List Rule) (reasons ws : List Reason)
    → HasInferences facts T rules reasons → StandForAll (facts ++ fact ∷ []) rs ws (inferences_of_fact fact)
    → HasInferences (facts ++ fact ∷ []) T (rules ++ rs) (reasons ++ ws)
fact_more facts fact T rules rs reasons ws old all =
    let more = fact ∷ [] in
    let longer = append-nil T in
    record {
      each = simp length-append (omega (arith, old.each, all_each (facts ++ more) rs ws (inferences_of_fact fact) all));
      sound = λ number rule reason at why.
          subst (λ (U : List Entry). IsSoundRule (facts ++ more) U rule reason) longer
          (sound_more facts more T [] rules rs reasons ws (inferences_of_fact fact) old all
          (λ k inference here. inl (length facts, k, fact, slice_get-end facts fact, here)) number rule reason at why);
      of_facts = λ number place said inference at here.
          elim (slice_get_split facts fact said number at) [
            | inl before ↦ has_longer facts more rules rs reasons ws inference (old.of_facts number place said inference before here)
            | inr last ↦
                has_added (facts ++ more) rules rs reasons ws inference old.each
                (inference_has (facts ++ more) rs ws (inferences_of_fact fact) all place inference
                (subst (λ (f : Fact). slice_get (inferences_of_fact f) place ≡ Some inference) (sym last.1) here))
          ];
      of_entries = λ index place entry inference at here.
          has_longer facts more rules rs reasons ws inference (old.of_entries index place entry inference at here);
    }

-- An entry more, with the rules of its inferences.
pub entry_more : (facts : List Fact) (T : List Entry) (entry : Entry) (rules rs : List Rule) (reasons ws : List Reason)
    → HasInferences facts T rules reasons → StandForAll facts rs ws (inferences_of_entry (length T) entry)
    → HasInferences facts (T ++ entry ∷ []) (rules ++ rs) (reasons ++ ws)
entry_more facts T entry rules rs reasons ws old all =
    let is = inferences_of_entry (length T) entry in
    let same = append-nil facts in
    let later : StandForAll (facts ++ []) rs ws is = subst (λ (fs : List Fact). StandForAll fs rs ws is) (sym same) all in
    record {
      each = simp length-append (omega (arith, old.each, all_each facts rs ws is all));
      sound = λ number rule reason at why.
          subst (λ (fs : List Fact). IsSoundRule fs (T ++ entry ∷ []) rule reason) same
          (sound_more facts [] T (entry ∷ []) rules rs reasons ws is old later
          (λ k inference here. inr (length T, k, entry, slice_get-end T entry, here)) number rule reason at why);
      of_facts = λ number place said inference at here.
          subst (λ (fs : List Fact). HasRule fs (rules ++ rs) (reasons ++ ws) inference) same
          (has_longer facts [] rules rs reasons ws inference (old.of_facts number place said inference at here));
      of_entries = λ index place said inference at here.
          elim (slice_get_split T entry said index at) [
            | inl before ↦
                subst (λ (fs : List Fact). HasRule fs (rules ++ rs) (reasons ++ ws) inference) same
                (has_longer facts [] rules rs reasons ws inference (old.of_entries index place said inference before here))
            | inr last ↦
                let at_end = subst (λ (n : ℕ). slice_get (inferences_of_entry n said) place ≡ Some inference) last.0 here in
                has_added facts rules rs reasons ws inference old.each
                (inference_has facts rs ws is all place inference
                (subst (λ (e : Entry). slice_get (inferences_of_entry (length T) e) place ≡ Some inference) (sym last.1) at_end))
          ];
    }
