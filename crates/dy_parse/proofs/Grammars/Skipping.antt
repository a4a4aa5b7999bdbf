-- Reading on where nothing is built, one symbol of the stack at a time.
use Rattle.std.proofs.Common.{◌≡◌, ℕ, suc, Bool, true, false, cond, List, [], ◌∷◌, ◌++◌, length, Option, Some, None, refl, sym, ◌∙◌, ap, append_assoc}
use Rattle.std.specs.Prelude.{Result, Ok, Err, map, reverse, is_some, codes}
use Rattle.std.specs.Option.{option_map}
use Rattle.std.proofs.lemmas.List.{reverse-append, map-append}
use Rattle.dy_lex.specs.declared.tokens.TokenKind.TheVariants.{Symbol}
use Rattle.dy_lex.specs.Tokens.{Piece}
use Rattle.dy_parse.specs.declared.skipping.Due.{Due}
use Rattle.dy_grammar.specs.Terminals.{This, accepts}
use Rattle.dy_grammar.specs.Tables.{Sym, silent, token, part, Takes}
use Rattle.dy_grammar.specs.Parts.{Item, ItemValue, Parenthesis, Part, PartValue, One, Commas, MoreTo}
use Rattle.dy_grammar.specs.Grammar.{Syms, RuleOf, rules, item_rules, left_out, opens, with_more}
use Rattle.dy_grammar.specs.Mirrors.Machine.{rule_for, without, skip, skip_by_rule, skip_turn, skip_finish}
use Rattle.dy_parse.specs.Mirrors.Skipping.{sym_of, syms_of, more_of, more_for, after_sym, can_pass, items_for, GoesOn, IsOther}

-- ---- the stack

pub syms_of-append : (later more : List Due) → syms_of (later ++ more) ≡ syms_of more ++ syms_of later
syms_of-append later more = ap (map sym_of) (reverse-append later more) ∙ map-append sym_of (reverse more) (reverse later)

-- with the last one taken
syms_of-last : (stack : List Due) (due : Due) → syms_of (stack ++ due ∷ []) ≡ sym_of due ∷ syms_of stack
syms_of-last stack due = syms_of-append stack (due ∷ [])

-- nothing is due
pub skip_nothing : (tokens : List Piece) → skip tokens [] ≡ Ok tokens
unfolding skip
skip_nothing [] = refl
skip_nothing (t ∷ rest) = refl

-- ---- one symbol

-- the token belongs to the symbol
module _ (t : Piece) (rest : List Piece) (ss more : Syms) where
  takes_token : (b : Bool) → cond b (Some []) None ≡ Some more → cond b (skip rest ss) (Err (suc (length rest))) ≡ skip rest (more ++ ss)
  takes_token true e = let nothing : [] ≡ more = cc in ap (λ (rs : Syms). skip rest (rs ++ ss)) nothing
  takes_token false e = absurd (cc)

  takes_rule : {X : Type 0} (other : Result (List Piece) ℕ) (o : Option (RuleOf X)) → more_of o ≡ Some more → skip_by_rule (skip rest) ss other o ≡ skip rest (more ++ ss)
  takes_rule other None e = absurd (cc)
  takes_rule other (Some r) e = let same : r.more ≡ more = cc in ap (λ (rs : Syms). skip rest (rs ++ ss)) same

  pub takes : (s : Sym Part) → after_sym s t ≡ Some more → skip (t ∷ rest) (s ∷ ss) ≡ skip rest (more ++ ss)
  unfolding skip more_for
  takes (silent x) e = takes_token (accepts x t) e
  takes (token x) e = takes_token (accepts x t) e
  takes (part p) e = takes_rule (without (λ v. skip_turn t rest (skip rest) ss) (suc (length rest)) (left_out p)) (rule_for (rules p) t) e

no_rule : {X : Type 0} (o : Option (RuleOf X)) → more_of o ≡ None → o ≡ None
no_rule None e = refl
no_rule (Some r) e = absurd (cc)

left_some : {V R : Type 0} (f : V → Result R ℕ) (e : ℕ) (r : Result R ℕ) (o : Option V) → is_some o ≡ true → ((v : V) → f v ≡ r) → without f e o ≡ r
left_some f e r None some same = absurd (cc)
left_some f e r (Some v) some same = same v

left_none : {V R : Type 0} (f : V → Result R ℕ) (e : ℕ) (o : Option V) → is_some o ≡ false → without f e o ≡ Err e
left_none f e None some = refl
left_none f e (Some v) some = absurd (cc)

-- a symbol that may be left out is passed over
pub passes : (s : Sym Part) (tokens : List Piece) (ss : Syms) → can_pass s ≡ true → IsOther s tokens → skip tokens (s ∷ ss) ≡ skip tokens ss
unfolding skip more_for
passes (silent x) tokens ss may other = absurd (cc)
passes (token x) tokens ss may other = absurd (cc)
passes (part p) [] ss may other = left_some (λ v. skip_finish ss) 0 (skip_finish ss) (left_out p) may (λ v. refl)
passes (part p) (t ∷ rest) ss may other =
    let without_it = without (λ v. skip_turn t rest (skip rest) ss) (suc (length rest)) in
    ap (skip_by_rule (skip rest) ss (without_it (left_out p))) (no_rule (rule_for (rules p) t) other)
    ∙ left_some (λ v. skip_turn t rest (skip rest) ss) (suc (length rest)) (skip_turn t rest (skip rest) ss) (left_out p) may (λ v. refl)

refuses_token : (b : Bool) (r : Result (List Piece) ℕ) (e : ℕ) → ◌≡◌ {A = Option Syms} (cond b (Some []) None) None → cond b r (Err e) ≡ Err e
refuses_token true r e other = absurd (cc)
refuses_token false r e other = refl

-- another one is a fault
pub refuses : (s : Sym Part) (tokens : List Piece) (ss : Syms) → can_pass s ≡ false → IsOther s tokens → skip tokens (s ∷ ss) ≡ Err (length tokens)
unfolding skip more_for
refuses (silent x) [] ss may other = refl
refuses (token x) [] ss may other = refl
refuses (silent x) (t ∷ rest) ss may other = refuses_token (accepts x t) (skip rest ss) (suc (length rest)) other
refuses (token x) (t ∷ rest) ss may other = refuses_token (accepts x t) (skip rest ss) (suc (length rest)) other
refuses (part p) [] ss may other = left_none (λ v. skip_finish ss) 0 (left_out p) may
refuses (part p) (t ∷ rest) ss may other =
    let without_it = without (λ v. skip_turn t rest (skip rest) ss) (suc (length rest)) in
    ap (skip_by_rule (skip rest) ss (without_it (left_out p))) (no_rule (rule_for (rules p) t) other)
    ∙ left_none (λ v. skip_turn t rest (skip rest) ss) (suc (length rest)) (left_out p) may

-- ---- lists

more_for-with_more : {A : Type 0} (X : Type 0) (more : Syms) (f : A → Takes PartValue more X) (rs : List (RuleOf A)) (t : Piece) → more_of (rule_for (map (with_more {X = X} more f) rs) t) ≡ option_map (λ m. m ++ more) (more_of (rule_for rs t))
more_for-with_more X more f [] t = refl
more_for-with_more {A = A} X more f (r ∷ rs) t = by_test (accepts r.first t) _ _ (more_for-with_more X more f rs t) where
  by_test : (b : Bool) (o : Option (RuleOf X)) (q : Option (RuleOf A)) → more_of o ≡ option_map (λ m. m ++ more) (more_of q) → more_of (cond b (Some (with_more {X = X} more f r)) o) ≡ option_map (λ m. m ++ more) (more_of (cond b (Some r) q))
  by_test true o q same = refl
  by_test false o q same = same

-- the first token of a list of items, and of an item
pub commas_more : (x : Item) (t : Piece) → more_for (Commas x) t ≡ items_for (accepts (This Symbol (codes ")")) t) (more_for (One x) t) (part (MoreTo Parenthesis x) ∷ [])
unfolding more_for rules
commas_more x t = by_test (accepts (This Symbol (codes ")")) t) _ (more_for-with_more (List (ItemValue x)) (part (MoreTo Parenthesis x) ∷ []) (λ v vs. v ∷ vs) (item_rules x) t) where
  by_test : (b : Bool) (o : Option (RuleOf (List (ItemValue x)))) {m : Option Syms} → more_of o ≡ m → more_of (cond b (Some (opens (codes ")") [] (λ line. []))) o) ≡ cond b (Some []) m
  by_test true o same = refl
  by_test false o same = same

-- ---- one step on the stack

-- the last one is due first
pub last_due : (stack rest : List Due) (due : Due) (tokens : List Piece) (total : Result (List Piece) ℕ) → skip tokens (syms_of stack) ≡ total → stack ≡ rest ++ due ∷ [] → skip tokens (sym_of due ∷ syms_of rest) ≡ total
last_due stack rest due tokens total so_far same = sym (ap (skip tokens) (ap syms_of same ∙ syms_of-last rest due)) ∙ so_far

pub advances : (t : Piece) (rest tokens : List Piece) (due : Due) (later more : List Due) → tokens ≡ t ∷ rest → Some (syms_of more ++ syms_of later) ≡ after_sym (sym_of due) t → GoesOn due tokens later more rest
advances t rest tokens due later more split found ss =
    ap (λ (xs : List Piece). skip xs (sym_of due ∷ ss)) split
    ∙ takes t rest ss (syms_of more ++ syms_of later) (sym_of due) (sym found)
    ∙ ap (skip rest) (append_assoc (syms_of more) (syms_of later) ss)

-- with what follows a token on the stack
pub stacked : (stack later more : List Due) (rest : List Piece) → skip rest (syms_of ((stack ++ later) ++ more)) ≡ skip rest (syms_of more ++ (syms_of later ++ syms_of stack))
stacked stack later more rest =
    ap (skip rest) (syms_of-append (stack ++ later) more ∙ ap (λ (ss : Syms). syms_of more ++ ss) (syms_of-append stack later))
