-- Parts that stand too deep: only the place of the first token is kept.
use Rattle.std.proofs.Common.{◌≡◌, ℕ, false, List, [], ◌∷◌, ◌++◌, refl, sym, ◌∙◌, ap, subst, inl, inr}
use Rattle.std.specs.Prelude.{Result, Ok, Err}
use Rattle.std.proofs.lemmas.Result.{IfOk-at_ok}
use Rattle.dy_lex.specs.Tokens.{Piece}
use Rattle.dy_syntax.specs.Labels as l
use Rattle.dy_syntax.specs.Labels.{LabelText}
use Rattle.dy_syntax.specs.Expressions as e
use Rattle.dy_syntax.specs.Expressions.{Expr}
use Rattle.dy_syntax.specs.Recipes as r
use Rattle.dy_syntax.specs.Recipes.{RecipeText}
use Rattle.dy_grammar.specs.declared.limits.TheConstants.{TOO_DEEP}
use Rattle.dy_grammar.specs.Terminals.{token_value}
use Rattle.dy_grammar.specs.Tables.{part, Values, apply}
use Rattle.dy_grammar.specs.Parts.{PartValue, Item, ItemValue, One, AnInner, AnExpr, ARecipe}
use Rattle.dy_grammar.specs.Grammar.{RuleOf, rules, item_rules}
use Rattle.dy_grammar.specs.Trees.{IsAmong, Trees, node, absent, none, tree, all_leaves, values}
use Rattle.dy_grammar.specs.Mirrors.Machine.{◌>>=◌, Reads, at, skip}
use Rattle.dy_parse.specs.Mirrors.Skipping.{deep_at}
use Rattle.dy_grammar.proofs.Sound.{IsRead, sound}
use Rattle.dy_grammar.proofs.Stops.{left_of, left_of-run}

-- what each of these rules makes depends on the line alone
abbrev IsConstant : {X : Type 0} → (ℕ → X) → List (RuleOf X) → Type 0
IsConstant make [] = Unit {0}
IsConstant {X = X} make (r ∷ rs) = ((t : Piece) (vs : Values PartValue r.more) → apply PartValue X r.more (r.make (token_value r.first t)) vs ≡ make t.line) × IsConstant make rs

made : (X : Type 0) (make : ℕ → X) (rs : List (RuleOf X)) (r : RuleOf X) → IsConstant make rs → IsAmong r rs → (t : Piece) (vs : Values PartValue r.more) → apply PartValue X r.more (r.make (token_value r.first t)) vs ≡ make t.line
made X make [] r constant among = absurd among
made X make (q ∷ rs) r constant (inl same) = subst (λ (r : RuleOf X). (t : Piece) (vs : Values PartValue r.more) → apply PartValue X r.more (r.make (token_value r.first t)) vs ≡ make t.line) (sym same) constant.0
made X make (q ∷ rs) r constant (inr among) = made X make rs r constant.1 among

failed_at_end : {A : Type 0} (x : Item) (left : ℕ) → skip [] (part (One x) ∷ []) ≡ Err left → ◌≡◌ {A = Result A ℕ} (Err 0) (Err left)
unfolding skip
failed_at_end x left failed = let same : 0 ≡ left = cc in ap Err same

-- such an item is read by skipping over it
deep : (x : Item) (make : ℕ → ItemValue x) → IsConstant make (item_rules x) → (tokens : List Piece) → at (One x) tokens ≡ deep_at make (One x) tokens
unfolding at rules
deep x make constant tokens = go (at (One x) tokens) refl where
  skipped : left_of (at (One x) tokens) ≡ skip tokens (part (One x) ∷ [])
  skipped = left_of-run (ItemValue x) tokens (part (One x) ∷ []) (λ v. v)

  by_trees : (v : ItemValue x) (rest : List Piece) (ts : Trees (part (One x) ∷ [])) → tokens ≡ all_leaves ts ++ rest → v ≡ apply PartValue (ItemValue x) (part (One x) ∷ []) (λ v. v) (values ts) → skip tokens (part (One x) ∷ []) ≡ Ok rest → deep_at make (One x) tokens ≡ Ok (v, rest)
  by_trees v rest (tree (node r is_rule t fits us) none) split value_is read =
      let made_it : v ≡ make t.line = value_is ∙ made (ItemValue x) make (item_rules x) r constant is_rule t (values us) in
      let first : tokens ≡ t ∷ (all_leaves us ++ [] ++ rest) = split in
      subst (λ (xs : List Piece). skip xs (part (One x) ∷ []) ≡ Ok rest → deep_at make (One x) xs ≡ Ok (v, rest)) (sym first) (λ there. ap (λ k. k >>= λ left. Ok (make t.line, left)) there ∙ ap (λ (w : ItemValue x). Ok (w, rest)) (sym made_it)) read
  by_trees v rest (tree (absent w out) none) split value_is read = absurd (cc)

  go : (k : Reads (ItemValue x)) → at (One x) tokens ≡ k → k ≡ deep_at make (One x) tokens
  go (Ok y) e =
      let is_read = IfOk-at_ok (IsRead false (ItemValue x) tokens (part (One x) ∷ []) (λ v. v)) e (sound (ItemValue x) tokens (part (One x) ∷ []) (λ v. v)) in
      sym (by_trees y.0 y.1 is_read.trees is_read.split is_read.value_is (sym skipped ∙ ap left_of e))
  go (Err left) e = sym (fails tokens (sym skipped ∙ ap left_of e)) where
    fails : (tokens : List Piece) → skip tokens (part (One x) ∷ []) ≡ Err left → deep_at make (One x) tokens ≡ Err left
    fails [] failed = failed_at_end x left failed
    fails (t ∷ rest) failed = ap (λ k. k >>= λ left. Ok (make t.line, left)) failed

pub deep_labels : (tokens : List Piece) → at (One (AnInner TOO_DEEP)) tokens ≡ deep_at (λ line. l.Nobody line) (One (AnInner TOO_DEEP)) tokens
unfolding item_rules
deep_labels tokens = deep (AnInner TOO_DEEP) (λ line. l.Nobody line) (λ t vs. refl, (λ t vs. refl, (λ t vs. refl, (λ t vs. refl, (λ t vs. refl, (λ t vs. refl, (λ t vs. refl, (λ t vs. refl, (λ t vs. refl, tt))))))))) tokens

pub deep_exprs : (tokens : List Piece) → at (One (AnExpr TOO_DEEP)) tokens ≡ deep_at (λ line. e.Lit (record { text = []; line = line })) (One (AnExpr TOO_DEEP)) tokens
unfolding item_rules
deep_exprs tokens = deep (AnExpr TOO_DEEP) (λ line. e.Lit (record { text = []; line = line })) (λ t vs. refl, (λ t vs. refl, (λ t vs. refl, (λ t vs. refl, (λ t vs. refl, (λ t vs. refl, (λ t vs. refl, (λ t vs. refl, (λ t vs. refl, (λ t vs. refl, (λ t vs. refl, (λ t vs. refl, tt)))))))))))) tokens

pub deep_recipes : (tokens : List Piece) → at (One (ARecipe TOO_DEEP)) tokens ≡ deep_at (λ line. r.Lit (record { text = []; line = line })) (One (ARecipe TOO_DEEP)) tokens
unfolding item_rules
deep_recipes tokens = deep (ARecipe TOO_DEEP) (λ line. r.Lit (record { text = []; line = line })) (λ t vs. refl, (λ t vs. refl, (λ t vs. refl, (λ t vs. refl, (λ t vs. refl, (λ t vs. refl, (λ t vs. refl, (λ t vs. refl, (λ t vs. refl, (λ t vs. refl, (λ t vs. refl, (λ t vs. refl, (λ t vs. refl, (λ t vs. refl, (λ t vs. refl, (λ t vs. refl, (λ t vs. refl, (λ t vs. refl, (λ t vs. refl, (λ t vs. refl, (λ t vs. refl, tt))))))))))))))))))))) tokens
