-- The machine reads symbols one after another.
use Rattle.std.proofs.Common.{◌≡◌, suc, Bool, true, false, cond, List, [], ◌∷◌, ◌++◌, length, Option, Some, None, refl, sym, ◌∙◌, ap}
use Rattle.std.specs.Prelude.{Ok, Err}
use Rattle.std.proofs.lemmas.List.{append-nil}
use Rattle.std.proofs.lemmas.Result.{IfOk-at_ok}
use Rattle.dy_lex.specs.Tokens.{Piece}
use Rattle.dy_grammar.specs.Terminals.{accepts, token_value}
use Rattle.dy_grammar.specs.Tables.{silent, token, part, Takes, apply, followed_by}
use Rattle.dy_grammar.specs.Parts.{Item, ItemValue, One, Part, PartValue}
use Rattle.dy_grammar.specs.Grammar.{Syms, RuleOf, item_rules, rules, left_out}
use Rattle.dy_grammar.specs.Trees.{Trees, none, tree, leaves, all_leaves, values}
use Rattle.dy_grammar.specs.Mirrors.Machine.{Reads, ◌>>=◌, rule_for, without, by_rule, run, at, token_value_if, take_or_stop, token_at, syms_at, choose, by_rules, single}
use Rattle.dy_grammar.specs.Mirrors.Distinct.{is_opened}
use Rattle.dy_grammar.proofs.TreeLaws.{end_open}
use Rattle.dy_grammar.proofs.Sound.{IsRead, sound}
use Rattle.dy_grammar.proofs.Complete.{tree_read}
use Rattle.dy_grammar.proofs.Stops.{fails}

-- a part, and then symbols
part_first : (X : Type 0) (p : Part) (ss : Syms) (f : Takes PartValue (part p ∷ ss) X) (tokens : List Piece) → run X tokens (part p ∷ ss) f ≡ at p tokens >>= λ y. run X y.1 ss (f y.0)
unfolding at
part_first X p ss f tokens = go (at p tokens) refl where
  from_tree : (v : PartValue p) (rest : List Piece) → IsRead false (PartValue p) tokens (part p ∷ []) (λ v. v) (v, rest) → run X tokens (part p ∷ ss) f ≡ run X rest ss (f v)
  from_tree v rest is_read = by_trees is_read.trees is_read.split is_read.value_is is_read.closed where
    by_trees : (ts : Trees (part p ∷ [])) → tokens ≡ all_leaves ts ++ rest → v ≡ apply PartValue (PartValue p) (part p ∷ []) (λ v. v) (values ts) → (end_open ts false ≡ true → is_opened rest ≡ false) → run X tokens (part p ∷ ss) f ≡ run X rest ss (f v)
    by_trees (tree x none) split value_is closed =
        ap (λ (xs : List Piece). run X xs (part p ∷ ss) f) (split ∙ ap (λ (xs : List Piece). xs ++ rest) (append-nil (leaves x)))
        ∙ tree_read x X ss f rest closed
        ∙ ap (λ (v : PartValue p). run X rest ss (f v)) (sym value_is)

  go : (r : Reads (PartValue p)) → at p tokens ≡ r → run X tokens (part p ∷ ss) f ≡ r >>= λ y. run X y.1 ss (f y.0)
  go (Ok y) e = from_tree y.0 y.1 (IfOk-at_ok (IsRead false (PartValue p) tokens (part p ∷ []) (λ v. v)) e (sound (PartValue p) tokens (part p ∷ []) (λ v. v)))
  go (Err left) e = fails (PartValue p) X tokens (part p ∷ []) ss (λ v. v) f left e

-- ---- steps

pub >>=-cong : {A B : Type 0} (r : Reads A) (f g : A × List Piece → Reads B) → ((y : A × List Piece) → f y ≡ g y) → (r >>= f) ≡ (r >>= g)
>>=-cong (Ok y) f g same = same y
>>=-cong (Err e) f g same = refl

>>=-test : {A B : Type 0} (b : Bool) (v : A) (rest : List Piece) (f : A × List Piece → Reads B) → cond b (f (v, rest)) (Err (suc (length rest))) ≡ take_or_stop rest (cond b (Some v) None) >>= f
>>=-test true v rest f = refl
>>=-test false v rest f = refl

>>=-assoc : {A B C : Type 0} (r : Reads A) (f : A × List Piece → Reads B) (g : B × List Piece → Reads C) → (r >>= λ y. f y >>= g) ≡ (r >>= f) >>= g
>>=-assoc (Ok y) f g = refl
>>=-assoc (Err e) f g = refl

>>=-same : {A : Type 0} (r : Reads A) → (r >>= λ y. Ok (y.0, y.1)) ≡ r
>>=-same (Ok y) = refl
>>=-same (Err e) = refl

-- symbol by symbol
pub run-syms : (X : Type 0) (ss : Syms) (f : Takes PartValue ss X) (tokens : List Piece) → run X tokens ss f ≡ syms_at X ss f tokens
unfolding run token_at token_value_if
run-syms X [] f [] = refl
run-syms X [] f (t ∷ rest) = refl
run-syms X (silent x ∷ ss) f [] = refl
run-syms X (silent x ∷ ss) f (t ∷ rest) = ap (λ r. cond (accepts x t) r (Err (suc (length rest)))) (run-syms X ss f rest) ∙ >>=-test (accepts x t) (token_value x t) rest (λ y. syms_at X ss f y.1)
run-syms X (token x ∷ ss) f [] = refl
run-syms X (token x ∷ ss) f (t ∷ rest) = ap (λ r. cond (accepts x t) r (Err (suc (length rest)))) (run-syms X ss (f (token_value x t)) rest) ∙ >>=-test (accepts x t) (token_value x t) rest (λ y. syms_at X ss (f y.0) y.1)
run-syms X (part p ∷ ss) f tokens = part_first X p ss f tokens ∙ >>=-cong (at p tokens) _ _ (λ y. run-syms X ss (f y.0) y.1)

-- some symbols, and then others
pub syms_at-append : (A X : Type 0) (rs ss : Syms) (g : Takes PartValue rs A) (f : A → Takes PartValue ss X) (tokens : List Piece) → syms_at X (rs ++ ss) (followed_by PartValue A X rs ss g f) tokens ≡ (syms_at A rs g tokens >>= λ y. syms_at X ss (f y.0) y.1)
syms_at-append A X [] ss g f tokens = refl
syms_at-append A X (silent x ∷ rs) ss g f tokens = >>=-cong (token_at x tokens) _ _ (λ y. syms_at-append A X rs ss g f y.1) ∙ >>=-assoc (token_at x tokens) _ _
syms_at-append A X (token x ∷ rs) ss g f tokens = >>=-cong (token_at x tokens) _ _ (λ y. syms_at-append A X rs ss (g y.0) f y.1) ∙ >>=-assoc (token_at x tokens) _ _
syms_at-append A X (part p ∷ rs) ss g f tokens = >>=-cong (at p tokens) _ _ (λ y. syms_at-append A X rs ss (g y.0) f y.1) ∙ >>=-assoc (at p tokens) _ _

-- a part by its rules
pub at_is_by_rules : (p : Part) (tokens : List Piece) → at p tokens ≡ by_rules p tokens
unfolding at run
at_is_by_rules p [] = refl
at_is_by_rules p (t ∷ rest) = go (rules p) where
  other : Reads (PartValue p)
  other = without (λ v. Ok (v, t ∷ rest)) (suc (length rest)) (left_out p)

  from : Option (RuleOf (PartValue p)) → Reads (PartValue p)
  from o = by_rule (PartValue p) p t (run (PartValue p) rest) [] (λ v. v) other o

  one : (r : RuleOf (PartValue p)) → from (Some r) ≡ syms_at (PartValue p) r.more (r.make (token_value r.first t)) rest
  one r =
      let make = r.make (token_value r.first t) in
      run-syms (PartValue p) (r.more ++ []) (followed_by PartValue (PartValue p) (PartValue p) r.more [] make (λ v. v)) rest
      ∙ syms_at-append (PartValue p) (PartValue p) r.more [] make (λ v. v) rest
      ∙ >>=-same (syms_at (PartValue p) r.more make rest)

  by_test : (b : Bool) (o p' : Option (RuleOf (PartValue p))) (x y : Reads (PartValue p)) → from o ≡ x → from p' ≡ y → from (cond b o p') ≡ cond b x y
  by_test true o p' x y fits other = fits
  by_test false o p' x y fits other = other

  go : (rs : List (RuleOf (PartValue p))) → from (rule_for rs t) ≡ choose (PartValue p) rs t rest other
  go [] = refl
  go (r ∷ rs) = by_test (accepts r.first t) (Some r) (rule_for rs t) _ _ (one r) (go rs)

-- an item of one rule
pub at_is_single : (x : Item) (tokens : List Piece) → at (One x) tokens ≡ single (ItemValue x) (item_rules x) tokens (at (One x) tokens)
unfolding token_at token_value_if rules
at_is_single x [] = rw (at_is_by_rules (One x) []) (go (item_rules x)) where
  go : (rs : List (RuleOf (ItemValue x))) → Err 0 ≡ single (ItemValue x) rs [] (Err 0)
  go [] = refl
  go (r ∷ []) = refl
  go (r ∷ q ∷ rs) = refl
at_is_single x (t ∷ rest) = rw (at_is_by_rules (One x) (t ∷ rest)) (go (item_rules x)) where
  go : (rs : List (RuleOf (ItemValue x))) → choose (ItemValue x) rs t rest (Err (suc (length rest))) ≡ single (ItemValue x) rs (t ∷ rest) (choose (ItemValue x) rs t rest (Err (suc (length rest))))
  go [] = refl
  go (r ∷ []) = >>=-test (accepts r.first t) (token_value r.first t) rest (λ y. syms_at (ItemValue x) r.more (r.make y.0) y.1)
  go (r ∷ q ∷ rs) = refl
