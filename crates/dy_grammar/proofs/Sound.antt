-- What is read is spelled.
use Rattle.std.proofs.Common.{◌≡◌, ℕ, suc, Bool, true, false, cond, List, [], ◌∷◌, ◌++◌, length, Option, Some, None, refl, ◌∙◌, ap}
use Rattle.std.specs.Prelude.{IfSome, IfOk, Result, Err}
use Rattle.std.proofs.lemmas.Result.{IfOk-weaker}
use Rattle.dy_lex.specs.Tokens.{Piece}
use Rattle.dy_grammar.specs.Terminals.{Terminal, accepts, token_value}
use Rattle.dy_grammar.specs.Tables.{silent, token, part, Takes, apply, followed_by}
use Rattle.dy_grammar.specs.Parts.{Part, PartValue}
use Rattle.dy_grammar.specs.Grammar.{Syms, RuleOf, rules, left_out}
use Rattle.dy_grammar.specs.Trees.{IsAmong, Trees, node, absent, none, leaf, keep, tree, all_leaves, values}
use Rattle.dy_grammar.specs.Mirrors.Machine.{rule_for, without, by_rule, turn, finish, run}
use Rattle.dy_grammar.specs.Mirrors.Distinct.{opener, is_opened}
use Rattle.dy_grammar.proofs.Apart.{found}
use Rattle.dy_grammar.proofs.Table.{open_first}
use Rattle.dy_grammar.proofs.TreeLaws.{end_open, splits}

-- The tokens begin with the leaves of these trees, which make the value. Where the end is open no `(` follows.
pub record IsRead (before : Bool) (X : Type 0) (tokens : List Piece) (ss : Syms) (f : Takes PartValue ss X) (y : X × List Piece) : Type 0 where
  pub trees : Trees ss
  pub split : tokens ≡ all_leaves trees ++ y.1
  pub value_is : y.0 ≡ apply PartValue X ss f (values trees)
  pub closed : end_open trees before ≡ true → is_opened y.1 ≡ false

IfOk-if : {A E : Type 0} (b : Bool) (r : Result A E) (e : E) (P : A → Type 0) → (b ≡ true → IfOk r P) → IfOk (cond b r (Err e)) P
IfOk-if true r e P passed = passed refl
IfOk-if false r e P passed = tt

IfOk-without : {V R : Type 0} (f : V → Result R ℕ) (left : ℕ) (o : Option V) (P : R → Type 0) → ((v : V) → o ≡ Some v → IfOk (f v) P) → IfOk (without f left o) P
IfOk-without f left None P passed = tt
IfOk-without f left (Some v) P passed = passed v refl

module _ (X : Type 0) (before : Bool) (t : Piece) (rest : List Piece) (ss : Syms) (y : X × List Piece) where
  -- after a token
  IsRead-leaf : (x : Terminal) (f : Takes PartValue ss X) → accepts x t ≡ true → IsRead false X rest ss f y → IsRead before X (t ∷ rest) (silent x ∷ ss) f y
  IsRead-leaf x f fits more = record { trees = leaf t fits more.trees; split = ap (λ (xs : List Piece). t ∷ xs) more.split; value_is = more.value_is; closed = more.closed }

  IsRead-keep : (x : Terminal) (f : Takes PartValue (token x ∷ ss) X) → accepts x t ≡ true → IsRead false X rest ss (f (token_value x t)) y → IsRead before X (t ∷ rest) (token x ∷ ss) f y
  IsRead-keep x f fits more = record { trees = keep t fits more.trees; split = ap (λ (xs : List Piece). t ∷ xs) more.split; value_is = more.value_is; closed = more.closed }

  -- after the first token of a rule
  IsRead-tree : (p : Part) (f : Takes PartValue (part p ∷ ss) X) (r : RuleOf (PartValue p)) → IsAmong r (rules p) → accepts r.first t ≡ true → IsRead false X rest (r.more ++ ss) (followed_by PartValue (PartValue p) X r.more ss (r.make (token_value r.first t)) f) y → IsRead before X (t ∷ rest) (part p ∷ ss) f y
  IsRead-tree p f r is_rule fits more =
      let s = splits (PartValue p) X r.more ss more.trees (r.make (token_value r.first t)) f in
      record {
        trees = tree (node r is_rule t fits s.first) s.second;
        split = ap (λ (xs : List Piece). t ∷ xs) (more.split ∙ ap (λ (xs : List Piece). xs ++ y.1) s.split);
        value_is = more.value_is ∙ s.value_is;
        closed = λ open_. more.closed (s.end_is false ∙ open_);
      }

-- where a part is left out
IsRead-absent : (X : Type 0) (before : Bool) (tokens : List Piece) (ss : Syms) (p : Part) (f : Takes PartValue (part p ∷ ss) X) (v : PartValue p) (y : X × List Piece) → left_out p ≡ Some v → IsRead true X tokens ss (f v) y → IsRead before X tokens (part p ∷ ss) f y
IsRead-absent X before tokens ss p f v y e more = record { trees = tree (absent v e) more.trees; split = more.split; value_is = more.value_is; closed = more.closed }

-- at the end
sound_end : (X : Type 0) (before : Bool) (ss : Syms) (f : Takes PartValue ss X) → IfOk (finish X ss f) (IsRead before X [] ss f)
sound_end X before [] x = record { trees = none; split = refl; value_is = refl; closed = λ open_. refl }
sound_end X before (silent x ∷ ss) f = tt
sound_end X before (token x ∷ ss) f = tt
sound_end X before (part p ∷ ss) f = IfOk-without (λ v. finish X ss (f v)) 0 (left_out p) _ (λ v e. IfOk-weaker (finish X ss (f v)) _ _ (λ y. IsRead-absent X before [] ss p f v y e) (sound_end X true ss (f v)))

-- at a token
sound_turn : (X : Type 0) (t : Piece) (rest : List Piece) → ((ss : Syms) (f : Takes PartValue ss X) → IfOk (run X rest ss f) (IsRead false X rest ss f)) → (before : Bool) → (before ≡ true → accepts opener t ≡ false) → (ss : Syms) (f : Takes PartValue ss X) → IfOk (turn X t rest (run X rest) ss f) (IsRead before X (t ∷ rest) ss f)
sound_turn X t rest more before closed [] x = record { trees = none; split = refl; value_is = refl; closed = closed }
sound_turn X t rest more before closed (silent x ∷ ss) f = IfOk-if (accepts x t) (run X rest ss f) (suc (length rest)) _ (λ fits. IfOk-weaker (run X rest ss f) _ _ (λ y. IsRead-leaf X before t rest ss y x f fits) (more ss f))
sound_turn X t rest more before closed (token x ∷ ss) f = IfOk-if (accepts x t) (run X rest ss (f (token_value x t))) (suc (length rest)) _ (λ fits. IfOk-weaker (run X rest ss (f (token_value x t))) _ _ (λ y. IsRead-keep X before t rest ss y x f fits) (more ss (f (token_value x t))))
sound_turn X t rest more before closed (part p ∷ ss) f = go (rule_for (rules p) t) refl (found (rules p) t) (λ v later. sound_turn X t rest more true later ss (f v)) where
  go : (o : Option (RuleOf (PartValue p))) → rule_for (rules p) t ≡ o → IfSome o (λ r. IsAmong r (rules p) × (accepts r.first t ≡ true)) → ((v : PartValue p) → (true ≡ true → accepts opener t ≡ false) → IfOk (turn X t rest (run X rest) ss (f v)) (IsRead true X (t ∷ rest) ss (f v))) → IfOk (by_rule X p t (run X rest) ss f (without (λ v. turn X t rest (run X rest) ss (f v)) (suc (length rest)) (left_out p)) o) (IsRead before X (t ∷ rest) (part p ∷ ss) f)
  go None e h later = IfOk-without (λ v. turn X t rest (run X rest) ss (f v)) (suc (length rest)) (left_out p) _ (λ v out. IfOk-weaker (turn X t rest (run X rest) ss (f v)) _ _ (λ y. IsRead-absent X before (t ∷ rest) ss p f v y out) (later v (λ yes. open_first p v t out e)))
  go (Some r) e h later =
      let f' = followed_by PartValue (PartValue p) X r.more ss (r.make (token_value r.first t)) f in
      IfOk-weaker (run X rest (r.more ++ ss) f') _ _ (λ y. IsRead-tree X before t rest ss y p f r h.0 h.1) (more (r.more ++ ss) f')

-- what is read is spelled by trees
pub sound : (X : Type 0) (tokens : List Piece) (ss : Syms) (f : Takes PartValue ss X) → IfOk (run X tokens ss f) (IsRead false X tokens ss f)
unfolding run
sound X [] ss f = sound_end X false ss f
sound X (t ∷ rest) ss f = sound_turn X t rest (sound X rest) false (λ e. absurd (cc)) ss f
