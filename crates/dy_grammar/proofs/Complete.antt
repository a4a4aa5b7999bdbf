-- What is spelled is read.
use Rattle.std.proofs.Common.{◌≡◌, true, false, List, [], ◌∷◌, ◌++◌, length, suc, Some, refl, ◌∙◌, ap, append_assoc}
use Rattle.dy_lex.specs.Tokens.{Piece}
use Rattle.dy_grammar.specs.Terminals.{token_value}
use Rattle.dy_grammar.specs.Tables.{part, Takes, apply, followed_by}
use Rattle.dy_grammar.specs.Parts.{Part, PartValue}
use Rattle.dy_grammar.specs.Grammar.{Syms, left_out}
use Rattle.dy_grammar.specs.Trees.{Tree, Trees, node, absent, none, leaf, keep, tree, leaves, all_leaves, value, values}
use Rattle.dy_grammar.specs.Mirrors.Machine.{Reads, without, by_rule, turn, finish, run}
use Rattle.dy_grammar.specs.Mirrors.Distinct.{is_opened, may_go_on, is_clear}
use Rattle.dy_grammar.proofs.Table.{the_rule, is_clear_rule, none_for}
use Rattle.dy_grammar.proofs.TreeLaws.{ends_open, end_open, goes_on, closed_after, open_later, clear_later}

-- a part that is left out is passed over
absent_read : (p : Part) (v : PartValue p) → left_out p ≡ Some v → (X : Type 0) (ss : Syms) (f : PartValue p → Takes PartValue ss X) (rest : List Piece) → is_opened rest ≡ false → run X rest (part p ∷ ss) f ≡ run X rest ss (f v)
unfolding run
absent_read p v e X ss f [] closed = ap (without (λ v. finish X ss (f v)) 0) e
absent_read p v e X ss f (t ∷ rest) closed =
    let other = without (λ v. turn X t rest (run X rest) ss (f v)) (suc (length rest)) in
    ap (by_rule X p t (run X rest) ss f (other (left_out p))) (none_for p v t e closed) ∙ ap other e

mutual
  unfolding run

  pub tree_read : {p : Part} (x : Tree p) → (X : Type 0) (ss : Syms) (f : PartValue p → Takes PartValue ss X) (rest : List Piece) → (ends_open x ≡ true → is_opened rest ≡ false) → run X (leaves x ++ rest) (part p ∷ ss) f ≡ run X rest ss (f (value x))
  tree_read {p} (node r is_rule t fits ts) X ss f rest closed =
      let go : (rs : Syms) → Takes PartValue rs X → Reads X = run X (all_leaves ts ++ rest) in
      let other = without (λ v. turn X t (all_leaves ts ++ rest) go ss (f v)) (suc (length (all_leaves ts ++ rest))) (left_out p) in
      ap (by_rule X p t go ss f other) (the_rule p r t is_rule fits) ∙ trees_read ts (is_clear_rule p r is_rule).0 (PartValue p) X ss (r.make (token_value r.first t)) f rest closed
  tree_read {p} (absent v e) X ss f rest closed = absent_read p v e X ss f rest (closed refl)

  pub trees_read : {rs : Syms} (ts : Trees rs) → is_clear false rs ≡ true → (A X : Type 0) (ss : Syms) (g : Takes PartValue rs A) (f : A → Takes PartValue ss X) (rest : List Piece) → (end_open ts false ≡ true → is_opened rest ≡ false) → run X (all_leaves ts ++ rest) (rs ++ ss) (followed_by PartValue A X rs ss g f) ≡ run X rest ss (f (apply PartValue A rs g (values ts)))
  trees_read none clear A X ss g f rest closed = refl
  trees_read (leaf t fits ts) clear A X ss g f rest closed = rw fits (trees_read ts clear A X ss g f rest closed)
  trees_read (keep {x = x} t fits ts) clear A X ss g f rest closed = rw fits (trees_read ts clear A X ss (g (token_value x t)) f rest closed)
  trees_read (tree {p = p} {ss = rs} x ts) clear A X ss g f rest closed =
      let then_ts : PartValue p → Takes PartValue (rs ++ ss) X = λ v. followed_by PartValue A X rs ss (g v) f in
      ap (λ (xs : List Piece). run X xs (part p ∷ (rs ++ ss)) then_ts) (append_assoc (leaves x) (all_leaves ts) rest)
      ∙ tree_read x X (rs ++ ss) then_ts (all_leaves ts ++ rest) (λ open_. closed_after ts (ends_open x) (may_go_on p) rest clear (goes_on x open_) closed open_)
      ∙ trees_read ts (clear_later (may_go_on p) rs clear) A X ss (g (value x)) f rest (λ open_. closed (open_later ts (ends_open x) open_))
