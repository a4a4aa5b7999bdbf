-- What an entry gives, over deductions that grow.
use Rattle.std.proofs.Common.{◌≡◌, ℕ, suc, ◌+◌, List, [], ◌∷◌, ◌++◌, length, Some, refl, ap, sym, ◌∙◌, subst, arith}
use Rattle.std.specs.List.{slice_get}
use Rattle.std.specs.Prelude.{Result, Ok, Err, IfOk}
use Rattle.dy_term.specs.Terms.{Term}
use Rattle.dy_label.specs.Labels as places
use Rattle.dy_chains.specs.declared.rules.Rule.{Rule}
use Rattle.dy_derive.specs.declared.deductions.Deductions.{Deductions}
use Rattle.dy_derive.specs.declared.given.Given.{Given}
use Rattle.dy_derive.specs.declared.nodes.Node.{Node}
use Rattle.dy_derive.specs.declared.reasons.Reason.{Reason}
use Rattle.dy_derive.specs.declared.reasons.Reason.TheVariants as reasons
use Rattle.dy_derive.specs.Facts.{Fact, Derived, Corrupted, given, inferences_of_fields}
use Rattle.dy_derive.specs.Nodes.{numbers_of, fact_of, IsSmall, HasParts}
use Rattle.dy_derive.specs.MirrorRules.{StandForAll}
use Rattle.dy_derive.specs.MirrorGivenRules.{outright, field_rules, places_of}
use Rattle.dy_derive.specs.MirrorGiven.{Gives}
use Rattle.dy_derive.specs.MirrorKnowledge.{Interns, Grows, AreAt}
use Rattle.dy_derive.proofs.Tables.{fact_of-longer}
use Rattle.dy_derive.proofs.GrownDeductions.{grows_interned}
use Rattle.dy_derive.proofs.StepsInterned.{at_more}

-- growth to facts that are such, and so others
pub grows_weaker : (start new : Deductions) (AreSuch AreThen : List Fact → Type 0) → Grows start new AreSuch
    → ((facts : List Fact) → AreSuch facts → AreThen facts) → Grows start new AreThen
grows_weaker start new AreSuch AreThen grown then = record {
  nodes = grown.nodes;
  log = grown.log;
  deduced = λ facts T deduced.
      let one = grown.deduced facts T deduced in (one.0, one.1, then (facts ++ one.0) one.2);
}

-- The rule of what is given outright.
pub gives_outright : (start new : Deductions) (made : Given) (number : ℕ) (fact : Fact) (reason : Reason)
    → made.rules.items ≡ outright number ∷ [] → made.reasons.items ≡ reason ∷ []
    → Grows start new (λ facts. slice_get facts number ≡ Some fact) → Grows start new (Gives made (given fact reason ∷ []))
gives_outright start new made number fact reason rules whys grown =
    grows_weaker start new (λ facts. slice_get facts number ≡ Some fact) (Gives made (given fact reason ∷ [])) grown
    (λ facts at.
    let one : StandForAll facts (outright number ∷ []) (reason ∷ []) (given fact reason ∷ []) = (record { premises = refl; conclusion = at; why = refl }, tt) in
    let P : List Rule → Type 0 = λ rs. StandForAll facts rs (reason ∷ []) (given fact reason ∷ []) in
    let Q : List Reason → Type 0 = λ ws. StandForAll facts made.rules.items ws (given fact reason ∷ []) in
    subst Q (sym whys) (subst P (sym rules) one))

-- the same, where there was memory for it
pub outright_gives : {E : Type 0} (result : Result Given E) (start new : Deductions) (number : ℕ) (fact : Fact) (reason : Reason)
    → IfOk result (λ made. made.rules.items ≡ outright number ∷ []) → IfOk result (λ made. made.reasons.items ≡ reason ∷ [])
    → Grows start new (λ facts. slice_get facts number ≡ Some fact) → IfOk result (λ made. Grows start new (Gives made (given fact reason ∷ [])))
outright_gives (Ok made) start new number fact reason rules whys grown = gives_outright start new made number fact reason rules whys grown
outright_gives (Err error) start new number fact reason rules whys grown = tt

-- a node without parts has them all
bare_parts : (facts : List Fact) (n : ℕ) (node : Node) → numbers_of node ≡ [] → HasParts facts n node
bare_parts facts n node bare k part at = let none : slice_get [] k ≡ Some part = ap (λ list. slice_get list k) (sym bare) ∙ at in absurd (cc)

-- A node without parts is interned.
pub bare_interned : (start old new : Deductions) (node : Node) (number : ℕ) (AreSuch AreThen : List Fact → Type 0) → numbers_of node ≡ []
    → IsSmall (fact_of [] node) → Grows start old AreSuch → Interns old new node number
    → ((facts more : List Fact) → AreSuch facts → slice_get (facts ++ more) number ≡ Some (fact_of [] node) → AreThen (facts ++ more))
    → Grows start new AreThen
bare_interned start old new node number AreSuch AreThen bare small grown interns then =
    grows_interned start old new node number AreSuch AreThen grown interns
    (λ facts are. (
      bare_parts facts (length facts) node bare,
      subst IsSmall (sym (fact_of-longer [] facts 0 node (bare_parts [] 0 node bare))) small,
    ))
    (λ facts more are at. then facts more are (at ∙ ap Some (fact_of-longer [] facts 0 node (bare_parts [] 0 node bare))))

-- such a node is interned after others, and has its number after theirs
pub bare_more : (start old new : Deductions) (numbers : List ℕ) (said : List Fact) (made node : Node) (number : ℕ) → made ≡ node
    → numbers_of node ≡ [] → IsSmall (fact_of [] node) → Grows start old (AreAt numbers said) → Interns old new made number
    → Grows start new (AreAt (numbers ++ number ∷ []) (said ++ fact_of [] node ∷ []))
bare_more start old new numbers said made node number same bare small grown interns =
    bare_interned start old new node number (AreAt numbers said) (AreAt (numbers ++ number ∷ []) (said ++ fact_of [] node ∷ [])) bare small grown
    (subst (λ (n : Node). Interns old new n number) same interns)
    (λ facts more are at. at_more facts more numbers said number (fact_of [] node) are at)

-- the rules of one field
pub field_stands : (facts : List Fact) (a b c field index number : ℕ) (p : List ℕ) (s v : ℕ) (term : Term)
    → AreAt (a ∷ b ∷ c ∷ []) (places_of p s v) facts → slice_get facts field ≡ Some (Derived term)
    → StandForAll facts (field_rules (a ∷ b ∷ c ∷ []) field) (reasons.Field index number ∷ reasons.Field index number ∷ reasons.Field index number ∷ [])
    (inferences_of_fields index p s v number (term ∷ []))
field_stands facts a b c field index number p s v term are at =
    let one : slice_get facts a ≡ Some (Corrupted (places.Principal p)) = cc in
    let two : slice_get facts b ≡ Some (Corrupted (places.Session p s)) = cc in
    let three : slice_get facts c ≡ Some (Corrupted (places.Version p s v)) = cc in (
      record { premises = cc; conclusion = at; why = refl },
      (
        record { premises = cc; conclusion = at; why = refl },
        (record { premises = cc; conclusion = at; why = refl }, tt),
      ),
    )

-- the inferences of one field more
pub fields_more : (index : ℕ) (p : List ℕ) (s v number : ℕ) (fields : List Term) (term : Term)
    → inferences_of_fields index p s v number (fields ++ term ∷ [])
    ≡ inferences_of_fields index p s v number fields ++ inferences_of_fields index p s v (number + length fields) (term ∷ [])
fields_more index p s v number [] term = let same : number ≡ number + 0 = omega arith in ap (λ n. inferences_of_fields index p s v n (term ∷ [])) same
fields_more index p s v number (f ∷ fields) term =
    let rest = fields_more index p s v (number + 1) fields term in
    let same : (number + 1) + length fields ≡ number + suc (length fields) = omega arith in
    let moved = ap (λ n. inferences_of_fields index p s v n (term ∷ [])) same in
    cc
