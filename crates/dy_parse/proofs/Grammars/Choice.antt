-- The first of some rules that a token begins.
use Rattle.std.proofs.Common.{◌≡◌, ℕ, zero, suc, Bool, true, false, cond, List, [], ◌∷◌, drop, length, Option, Some, None, refl, sym, ◌∙◌, ap, subst}
use Rattle.std.specs.Prelude.{Result, Err}
use Rattle.dy_lex.specs.Tokens.{Piece}
use Rattle.dy_syntax.specs.declared.expressions.Expr as code
use Rattle.dy_syntax.specs.Expressions as e
use Rattle.dy_syntax.specs.Meaning.{expr_of}
use Rattle.dy_grammar.specs.Terminals.{Terminal, accepts, TokenValue, token_value}
use Rattle.dy_grammar.specs.Grammar.{RuleOf}
use Rattle.dy_grammar.specs.Mirrors.Machine.{Reads, choose, token_value_if, syms_at, after_first, by_these}
use Rattle.dy_parse.specs.declared.cursor.Fault.{Fault}
use Rattle.dy_parse.specs.Mirrors.Gives.{Gives}

-- the token begins none of the first n rules
abbrev pub Refuses : {X : Type 0} → ℕ → List (RuleOf X) → Piece → Type 0
Refuses zero rs t = Unit {0}
Refuses (suc n) [] t = Unit {0}
Refuses (suc n) (r ∷ rs) t = (accepts r.first t ≡ false) × Refuses n rs t

passed : (X : Type 0) (n : ℕ) (rs : List (RuleOf X)) (t : Piece) (rest : List Piece) (other : Reads X) → Refuses n rs t → choose X rs t rest other ≡ choose X (drop n rs) t rest other
passed X zero rs t rest other refused = refl
passed X (suc n) [] t rest other refused = refl
passed X (suc n) (r ∷ rs) t rest other refused =
    ap (λ (b : Bool). cond b (syms_at X r.more (r.make (token_value r.first t)) rest) (choose X rs t rest other)) refused.0
    ∙ passed X n rs t rest other refused.1

-- then the rules after them are tried
pub later_rules : (X : Type 0) (n : ℕ) (rs : List (RuleOf X)) (t : Piece) (rest tokens : List Piece) → tokens ≡ t ∷ rest → Refuses n rs t → by_these X rs tokens ≡ by_these X (drop n rs) tokens
later_rules X n rs t rest tokens split refused =
    ap (by_these X rs) split ∙ passed X n rs t rest (Err (suc (length rest))) refused ∙ sym (ap (by_these X (drop n rs)) split)

-- and the next one is taken
pub this_rule : (X : Type 0) (n : ℕ) (rs : List (RuleOf X)) (r : RuleOf X) (more : List (RuleOf X)) (t : Piece) (rest tokens : List Piece) → tokens ≡ t ∷ rest → drop n rs ≡ r ∷ more → Refuses n rs t → accepts r.first t ≡ true → by_these X rs tokens ≡ after_first r (token_value r.first t) rest
this_rule X n rs r more t rest tokens split next refused fits =
    later_rules X n rs t rest tokens split refused
    ∙ ap (λ (rs : List (RuleOf X)). by_these X rs tokens) next
    ∙ ap (by_these X (r ∷ more)) split
    ∙ ap (λ (b : Bool). cond b (syms_at X r.more (r.make (token_value r.first t)) rest) (choose X more t rest (Err (suc (length rest))))) fits

-- what is kept of a token that is asked for
pub kept_some : (x : Terminal) (t : Piece) (k : TokenValue x) → Some k ≡ token_value_if x t → (accepts x t ≡ true) × (k ≡ token_value x t)
unfolding token_value_if
kept_some x t k found = go (accepts x t) refl found where
  go : (b : Bool) → accepts x t ≡ b → Some k ≡ cond b (Some (token_value x t)) None → (accepts x t ≡ true) × (k ≡ token_value x t)
  go true same found = (same, cc)
  go false same found = absurd (cc)

pub kept_none : (x : Terminal) (t : Piece) → None ≡ token_value_if x t → accepts x t ≡ false
unfolding token_value_if
kept_none x t found = go (accepts x t) refl found where
  go : (b : Bool) → accepts x t ≡ b → ◌≡◌ {A = Option (TokenValue x)} None (cond b (Some (token_value x t)) None) → accepts x t ≡ false
  go true same found = absurd (cc)
  go false same found = same

-- an expression is read where it is read otherwise
abbrev pub expr_read : code.Expr × List Piece → e.Expr × List Piece
expr_read x = (expr_of x.0, x.1)

pub gives_expr : (result : Result (code.Expr × List Piece) Fault) (read other : Reads e.Expr) → read ≡ other → Gives expr_read result other → Gives expr_read result read
gives_expr result read other same given = subst (λ (r : Reads e.Expr). Gives expr_read result r) (sym same) given
