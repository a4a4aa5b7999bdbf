-- What is found of a term and its parts, and the moves that are added.
use Rattle.std.proofs.Common.{◌≡◌, ℕ, ◌+◌, ◌≤◌, List, [], ◌∷◌, ◌++◌, Option, Some, None, refl, sym, subst, arith, length, ap, ◌∙◌}
use Rattle.std.specs.Option.{option_and_then}
use Rattle.std.specs.List.{slice_get}
use Rattle.std.proofs.lemmas.List.{append_assoc, append-nil}
use Rattle.dy_term.specs.Terms.{Term, size}
use Rattle.dy_term.specs.declared.limits.TheConstants.{MAX_NODES}
use Rattle.dy_flat.specs.Parts.{parts_of}
use Rattle.dy_flat.proofs.PartSizes.{part_smaller}
use Rattle.dy_entry.specs.Entries.{Entry}
use Rattle.dy_entry.proofs.Traces.{slice_get-end}
use Rattle.dy_recipe.specs.Moves.{Move}
use Rattle.dy_recipe.specs.Values.{value_at, if_small, move_value}
use Rattle.dy_traces.specs.Given.{given_by}
use Rattle.dy_chains.specs.declared.logs.Step.{Step}
use Rattle.dy_derive.specs.declared.deductions.Deductions.{Deductions}
use Rattle.dy_derive.specs.declared.term_moves.Found.{Found}
use Rattle.dy_derive.specs.Facts.{Fact, Derived}
use Rattle.dy_derive.specs.Nodes.{IsTable}
use Rattle.dy_derive.specs.Saturation.{IsHad}
use Rattle.dy_derive.specs.MirrorRecipes.{log_values}
use Rattle.dy_derive.specs.MirrorTerms.{move_over, log_number, HasNumber, HasMove, HaveNumbers, HaveMoves, IsAdded, IsFound, AreFound, HaveLogValues, IsBuilt, Builds, Joins}
use Rattle.dy_derive.proofs.InferredValues.{value_after}
use Rattle.dy_derive.proofs.LogValues.{small_stays}
use Rattle.dy_derive.proofs.TermMoves.{Makes, move_makes, no_move_over, log_number_names, log_number_lacks, values_push, found_more}

-- the number of a term over those of its parts
abbrev pub Numbers : Deductions → Term → Found → Found → Found → Option ℕ → Type 0
Numbers d term a b c node =
    (facts : List Fact) → IsTable d.nodes.keys facts → HaveNumbers facts (parts_of term) (a.node ∷ b.node ∷ c.node ∷ []) → HasNumber facts term node

module _ (d : Deductions) (old : List Move) (term : Term) (a b c : Found) (node : Option ℕ) (numbers : Numbers d term a b c node) where
  -- a term that follows
  pub joined_by_log : (number : ℕ) → log_number d.chain.chain.log node ≡ Some number → Joins d old old term a b c (record { node = node; number = Some number })
  joined_by_log number is T facts values chain deduced small found have =
      let at = numbers facts deduced.table found.nodes in
      let all : List Term = values ++ [] in
      let same : values ≡ all = sym (append-nil values) in
      record {
        more = [];
        moves = subst (λ (vs : List Term). HaveLogValues T facts d.chain.chain.log old vs) same have;
        found_there = record {
          node = at;
          number = subst (λ (vs : List Term). value_at vs number ≡ Some term) same
              (log_number_names d.chain.chain.rules d.chain.chain.log chain.log facts term values have.extra node number have.begins at is);
        };
      }

  module _ (T : List Entry) (facts : List Fact) (values : List Term) (small : size term ≤ MAX_NODES)
      (at : HasNumber facts term node) (lacks : IsHad facts d.chain.chain.log term → ⊥) (found : AreFound facts d.chain.chain.log values term a b c)
      (have : HaveLogValues T facts d.chain.chain.log old values) where
    added : (new : List Move) (move : Option Move) (number : Option ℕ) → move_over term a.number b.number c.number ≡ move → Makes facts d.chain.chain.log T values move term
        → IsAdded old new move number → IsBuilt T facts d.chain.chain.log new values term (record { node = node; number = number })
    added new None number is makes (none, same) = record {
      more = [];
      moves = subst (λ (ms : List Move). HaveLogValues T facts d.chain.chain.log ms (values ++ [])) (sym same)
          (subst (λ (vs : List Term). HaveLogValues T facts d.chain.chain.log old vs) (sym (append-nil values)) have);
      found_there = record {
        node = at;
        number = subst (λ (o : Option ℕ). HasMove facts d.chain.chain.log (values ++ []) term o) (sym none)
            (no_move_over facts d.chain.chain.log T values term a.number b.number c.number found.numbers is lacks);
      };
    }
    added new (Some move) number is makes (some, longer) =
        let value : move_value (given_by T) values move ≡ Some term = ap (option_and_then if_small) makes ∙ small_stays term small in
        let more : List Term = term ∷ [] in
        let place : length old ≡ length values = sym have.have.each in
        record {
          more = more;
          moves = subst (λ (ms : List Move). HaveLogValues T facts d.chain.chain.log ms (values ++ more)) (sym longer) (record {
            have = values_push (given_by T) old values move term have.have value;
            extra = have.extra ++ more;
            begins = ap (λ vs. vs ++ more) have.begins ∙ append_assoc (log_values facts d.chain.chain.log) have.extra more;
          });
          found_there = record {
            node = at;
            number = subst (λ (o : Option ℕ). HasMove facts d.chain.chain.log (values ++ more) term o) (sym some)
                (ap (λ n. value_at (values ++ more) (n + 1)) place ∙ value_after (values ++ more) (length values) term (slice_get-end values term));
          };
        }

  -- a term that does not follow
  pub joined_by_move : (new : List Move) (number : Option ℕ) → log_number d.chain.chain.log node ≡ None → IsAdded old new (move_over term a.number b.number c.number) number
      → Joins d old new term a b c (record { node = node; number = number })
  joined_by_move new number none adds T facts values chain deduced small found have =
      let at = numbers facts deduced.table found.nodes in
      let lacks = log_number_lacks d.chain.chain.rules d.chain.chain.log chain.log facts term (λ n m x y. deduced.table.once n m (Derived term) x y) node at none in
      added T facts values small at lacks found have new (move_over term a.number b.number c.number) number refl
      (move_makes facts d.chain.chain.log T values term a.number b.number c.number found.numbers) adds

-- ---- a term and its parts

extend : (T : List Entry) (facts : List Fact) (log : List Step) (new : List Move) (values more : List Term) (term : Term) (found : Found)
    → IsBuilt T facts log new (values ++ more) term found → IsBuilt T facts log new values term found
extend T facts log new values more term found is =
    let same : (values ++ more) ++ is.more ≡ values ++ (more ++ is.more) = append_assoc values more is.more in
    record {
      more = more ++ is.more;
      moves = subst (λ (vs : List Term). HaveLogValues T facts log new vs) same is.moves;
      found_there = subst (λ (vs : List Term). IsFound facts log vs term found) same is.found_there;
    }

module _ (d : Deductions) (term : Term) (new : List Move) (found : Found) where
  pub built_leaf : (old : List Move) (a b c : Found) → parts_of term ≡ [] → Joins d old new term a b c found → Builds d old new term found
  built_leaf old a b c none joins T facts values chain deduced small have =
      joins T facts values chain deduced small (record {
        nodes = subst (λ (parts : List Term). HaveNumbers facts parts (a.node ∷ b.node ∷ c.node ∷ [])) (sym none) tt;
        numbers = subst (λ (parts : List Term). HaveMoves facts d.chain.chain.log values parts (a.number ∷ b.number ∷ c.number ∷ [])) (sym none) tt;
      }) have

  pub built_one : (old after : List Move) (x : Term) (a b c : Found) → parts_of term ≡ x ∷ []
      → Builds d old after x a → Joins d after new term a b c found → Builds d old new term found
  built_one old after x a b c one builds joins T facts values chain deduced small have =
      let less = part_smaller term x 0 (ap (λ parts. slice_get parts 0) one) in
      let first = builds T facts values chain deduced (omega (arith, less, small)) have in
      extend T facts d.chain.chain.log new values first.more term found
      (joins T facts (values ++ first.more) chain deduced small (record {
        nodes = subst (λ (parts : List Term). HaveNumbers facts parts (a.node ∷ b.node ∷ c.node ∷ [])) (sym one) (first.found_there.node, tt);
        numbers = subst (λ (parts : List Term). HaveMoves facts d.chain.chain.log (values ++ first.more) parts (a.number ∷ b.number ∷ c.number ∷ [])) (sym one) (first.found_there.number, tt);
      }) first.moves)

  pub built_two : (old after then : List Move) (x y : Term) (a b c : Found) → parts_of term ≡ x ∷ y ∷ []
      → Builds d old after x a → Builds d after then y b → Joins d then new term a b c found → Builds d old new term found
  built_two old after then x y a b c two builds more joins T facts values chain deduced small have =
      let log = d.chain.chain.log in
      let less = part_smaller term x 0 (ap (λ parts. slice_get parts 0) two) in
      let other = part_smaller term y 1 (ap (λ parts. slice_get parts 1) two) in
      let first = builds T facts values chain deduced (omega (arith, less, small)) have in
      let second = more T facts (values ++ first.more) chain deduced (omega (arith, other, small)) first.moves in
      let all : List Term = (values ++ first.more) ++ second.more in
      let one = found_more facts log (values ++ first.more) second.more x a first.found_there in
      extend T facts log new values first.more term found (extend T facts log new (values ++ first.more) second.more term found
      (joins T facts all chain deduced small (record {
        nodes = subst (λ (parts : List Term). HaveNumbers facts parts (a.node ∷ b.node ∷ c.node ∷ [])) (sym two) (one.node, (second.found_there.node, tt));
        numbers = subst (λ (parts : List Term). HaveMoves facts log all parts (a.number ∷ b.number ∷ c.number ∷ [])) (sym two) (one.number, (second.found_there.number, tt));
      }) second.moves))

  pub built_three : (old after then last : List Move) (x y z : Term) (a b c : Found) → parts_of term ≡ x ∷ y ∷ z ∷ []
      → Builds d old after x a → Builds d after then y b → Builds d then last z c → Joins d last new term a b c found → Builds d old new term found
  built_three old after then last x y z a b c three builds more most joins T facts values chain deduced small have =
      let log = d.chain.chain.log in
      let less = part_smaller term x 0 (ap (λ parts. slice_get parts 0) three) in
      let other = part_smaller term y 1 (ap (λ parts. slice_get parts 1) three) in
      let least = part_smaller term z 2 (ap (λ parts. slice_get parts 2) three) in
      let first = builds T facts values chain deduced (omega (arith, less, small)) have in
      let second = more T facts (values ++ first.more) chain deduced (omega (arith, other, small)) first.moves in
      let third = most T facts ((values ++ first.more) ++ second.more) chain deduced (omega (arith, least, small)) second.moves in
      let all : List Term = ((values ++ first.more) ++ second.more) ++ third.more in
      let one = found_more facts log ((values ++ first.more) ++ second.more) third.more x a (found_more facts log (values ++ first.more) second.more x a first.found_there) in
      let two = found_more facts log ((values ++ first.more) ++ second.more) third.more y b second.found_there in
      extend T facts log new values first.more term found (extend T facts log new (values ++ first.more) second.more term found
      (extend T facts log new ((values ++ first.more) ++ second.more) third.more term found
      (joins T facts all chain deduced small (record {
        nodes = subst (λ (parts : List Term). HaveNumbers facts parts (a.node ∷ b.node ∷ c.node ∷ [])) (sym three) (one.node, (two.node, (third.found_there.node, tt)));
        numbers = subst (λ (parts : List Term). HaveMoves facts log all parts (a.number ∷ b.number ∷ c.number ∷ [])) (sym three) (one.number, (two.number, (third.found_there.number, tt)));
      }) third.moves)))
