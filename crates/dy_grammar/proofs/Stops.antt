-- Where reading fails does not depend on values, nor on what is due later.
use Rattle.std.proofs.Common.{◌≡◌, ℕ, suc, Bool, true, false, cond, List, [], ◌∷◌, ◌++◌, length, Option, Some, None, refl, sym, ◌∙◌, ap, append_assoc}
use Rattle.std.specs.Prelude.{Result, Ok, Err}
use Rattle.dy_lex.specs.Tokens.{Piece}
use Rattle.dy_grammar.specs.Terminals.{accepts, token_value}
use Rattle.dy_grammar.specs.Tables.{silent, token, part, Takes, followed_by}
use Rattle.dy_grammar.specs.Parts.{PartValue}
use Rattle.dy_grammar.specs.Grammar.{Syms, RuleOf, rules, left_out}
use Rattle.dy_grammar.specs.Mirrors.Machine.{Reads, ◌>>=◌, rule_for, without, by_rule, turn, finish, run, skip, skip_by_rule, skip_turn, skip_finish}

-- what is left
abbrev pub left_of : {X : Type 0} → Reads X → Result (List Piece) ℕ
left_of read = read >>= λ y. Ok y.1

left_of-if : {X : Type 0} (b : Bool) (read : Reads X) (skipped : Result (List Piece) ℕ) (e : ℕ) → left_of read ≡ skipped → left_of (cond b read (Err e)) ≡ cond b skipped (Err e)
left_of-if true read skipped e same = same
left_of-if false read skipped e same = refl

left_of-without : {V X : Type 0} (read : V → Reads X) (skipped : Result (List Piece) ℕ) (e : ℕ) (o : Option V) → ((v : V) → left_of (read v) ≡ skipped) → left_of (without read e o) ≡ without (λ v. skipped) e o
left_of-without read skipped e None same = refl
left_of-without read skipped e (Some v) same = same v

left_of-turn : (X : Type 0) (t : Piece) (rest : List Piece) → ((ss : Syms) (f : Takes PartValue ss X) → left_of (run X rest ss f) ≡ skip rest ss) → (ss : Syms) (f : Takes PartValue ss X) → left_of (turn X t rest (run X rest) ss f) ≡ skip_turn t rest (skip rest) ss
left_of-turn X t rest more [] f = refl
left_of-turn X t rest more (silent x ∷ ss) f = left_of-if (accepts x t) _ _ _ (more ss f)
left_of-turn X t rest more (token x ∷ ss) f = left_of-if (accepts x t) _ _ _ (more ss (f (token_value x t)))
left_of-turn X t rest more (part p ∷ ss) f = go (rule_for (rules p) t) (λ v. left_of-turn X t rest more ss (f v)) where
  go : (o : Option (RuleOf (PartValue p))) → ((v : PartValue p) → left_of (turn X t rest (run X rest) ss (f v)) ≡ skip_turn t rest (skip rest) ss) → left_of (by_rule X p t (run X rest) ss f (without (λ v. turn X t rest (run X rest) ss (f v)) (suc (length rest)) (left_out p)) o) ≡ skip_by_rule (skip rest) ss (without (λ v. skip_turn t rest (skip rest) ss) (suc (length rest)) (left_out p)) o
  go None later = left_of-without _ _ _ (left_out p) later
  go (Some r) later = more (r.more ++ ss) (followed_by PartValue (PartValue p) X r.more ss (r.make (token_value r.first t)) f)

left_of-finish : (X : Type 0) (ss : Syms) (f : Takes PartValue ss X) → left_of (finish X ss f) ≡ skip_finish ss
left_of-finish X [] f = refl
left_of-finish X (silent x ∷ ss) f = refl
left_of-finish X (token x ∷ ss) f = refl
left_of-finish X (part p ∷ ss) f = left_of-without (λ v. finish X ss (f v)) _ _ (left_out p) (λ v. left_of-finish X ss (f v))

pub left_of-run : (X : Type 0) (tokens : List Piece) (ss : Syms) (f : Takes PartValue ss X) → left_of (run X tokens ss f) ≡ skip tokens ss
unfolding run skip
left_of-run X [] ss f = left_of-finish X ss f
left_of-run X (t ∷ rest) ss f = left_of-turn X t rest (left_of-run X rest) ss f

>>=-if : (b : Bool) (read : Result (List Piece) ℕ) (e : ℕ) (f : List Piece → Result (List Piece) ℕ) (both : Result (List Piece) ℕ) → both ≡ read >>= f → cond b both (Err e) ≡ cond b read (Err e) >>= f
>>=-if true read e f both same = same
>>=-if false read e f both same = refl

>>=-without : {V : Type 0} (read both : Result (List Piece) ℕ) (e : ℕ) (f : List Piece → Result (List Piece) ℕ) (o : Option V) → both ≡ read >>= f → without (λ v. both) e o ≡ without (λ v. read) e o >>= f
>>=-without read both e f None same = refl
>>=-without read both e f (Some v) same = same

-- some symbols, and then others
skip_turn-append : (t : Piece) (rest : List Piece) → ((rs ss : Syms) → skip rest (rs ++ ss) ≡ skip rest rs >>= λ left. skip left ss) → (rs ss : Syms) → skip_turn t rest (skip rest) (rs ++ ss) ≡ skip_turn t rest (skip rest) rs >>= λ left. skip left ss
unfolding skip
skip_turn-append t rest more [] ss = refl
skip_turn-append t rest more (silent x ∷ rs) ss = >>=-if (accepts x t) (skip rest rs) _ (λ left. skip left ss) _ (more rs ss)
skip_turn-append t rest more (token x ∷ rs) ss = >>=-if (accepts x t) (skip rest rs) _ (λ left. skip left ss) _ (more rs ss)
skip_turn-append t rest more (part p ∷ rs) ss = go (rule_for (rules p) t) (skip_turn-append t rest more rs ss) where
  go : (o : Option (RuleOf (PartValue p))) → skip_turn t rest (skip rest) (rs ++ ss) ≡ skip_turn t rest (skip rest) rs >>= (λ left. skip left ss) → skip_by_rule (skip rest) (rs ++ ss) (without (λ v. skip_turn t rest (skip rest) (rs ++ ss)) (suc (length rest)) (left_out p)) o ≡ skip_by_rule (skip rest) rs (without (λ v. skip_turn t rest (skip rest) rs) (suc (length rest)) (left_out p)) o >>= λ left. skip left ss
  go None same = >>=-without (skip_turn t rest (skip rest) rs) _ _ (λ left. skip left ss) (left_out p) same
  go (Some r) same = ap (skip rest) (sym (append_assoc r.more rs ss)) ∙ more (r.more ++ rs) ss

skip_finish-append : (rs ss : Syms) → skip_finish (rs ++ ss) ≡ skip_finish rs >>= λ left. skip left ss
unfolding skip
skip_finish-append [] ss = refl
skip_finish-append (silent x ∷ rs) ss = refl
skip_finish-append (token x ∷ rs) ss = refl
skip_finish-append (part p ∷ rs) ss = >>=-without (skip_finish rs) (skip_finish (rs ++ ss)) 0 (λ left. skip left ss) (left_out p) (skip_finish-append rs ss)

pub skip-append : (tokens : List Piece) (rs ss : Syms) → skip tokens (rs ++ ss) ≡ skip tokens rs >>= λ rest. skip rest ss
unfolding skip
skip-append [] rs ss = skip_finish-append rs ss
skip-append (t ∷ rest) rs ss = skip_turn-append t rest (skip-append rest) rs ss

left_of-err : {X : Type 0} (read : Reads X) (e : ℕ) → left_of read ≡ Err e → read ≡ Err e
left_of-err (Ok y) e same = cc
left_of-err (Err d) e same = cc

-- where some symbols fail, they fail with others after them
pub fails : (A X : Type 0) (tokens : List Piece) (rs ss : Syms) (g : Takes PartValue rs A) (h : Takes PartValue (rs ++ ss) X) (e : ℕ) → run A tokens rs g ≡ Err e → run X tokens (rs ++ ss) h ≡ Err e
fails A X tokens rs ss g h e failed =
    let first : skip tokens rs ≡ Err e = sym (left_of-run A tokens rs g) ∙ ap left_of failed in
    let both : skip tokens (rs ++ ss) ≡ Err e = skip-append tokens rs ss ∙ ap (λ r. r >>= λ left. skip left ss) first in
    left_of-err (run X tokens (rs ++ ss) h) e (left_of-run X tokens (rs ++ ss) h ∙ both)
