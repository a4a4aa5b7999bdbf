-- Where reading fails: what was read so far begins some text of the part, and nothing goes on with the next token.
use Rattle.std.proofs.Common.{◌≡◌, ℕ, suc, Bool, true, false, cond, List, [], ◌∷◌, ◌++◌, length, Option, Some, None, refl, sym, ◌∙◌, ap, subst, append_assoc}
use Rattle.std.specs.Prelude.{IfSome, Result, Err}
use Rattle.dy_lex.specs.Tokens.{Piece}
use Rattle.dy_grammar.specs.Terminals.{Terminal, accepts}
use Rattle.dy_grammar.specs.Tables.{silent, token, part}
use Rattle.dy_grammar.specs.Parts.{Part, PartValue}
use Rattle.dy_grammar.specs.Grammar.{Syms, RuleOf, rules, left_out}
use Rattle.dy_grammar.specs.Trees.{IsAmong, Trees, node, absent, none, leaf, keep, tree, leaves, all_leaves}
use Rattle.dy_grammar.specs.Mirrors.Machine.{rule_for, without, skip, skip_by_rule, skip_turn, skip_finish}
use Rattle.dy_grammar.proofs.Apart.{found}
use Rattle.dy_grammar.proofs.Shortest.{all_shortest}

-- trees of two lists of symbols, with their leaves
joins : (rs ss : Syms) (ts : Trees (rs ++ ss)) → (a : Trees rs) × (b : Trees ss) × (all_leaves a ++ all_leaves b ≡ all_leaves ts)
joins [] ss ts = (none, ts, refl)
joins (silent x ∷ rs) ss (leaf t fits ts) = let more = joins rs ss ts in (leaf t fits more.0, more.1, ap (λ (xs : List Piece). t ∷ xs) more.2)
joins (token x ∷ rs) ss (keep t fits ts) = let more = joins rs ss ts in (keep t fits more.0, more.1, ap (λ (xs : List Piece). t ∷ xs) more.2)
joins (part p ∷ rs) ss (tree x ts) = let more = joins rs ss ts in (tree x more.0, more.1, append_assoc (leaves x) (all_leaves more.0) (all_leaves more.1) ∙ ap (λ (xs : List Piece). leaves x ++ xs) more.2)

pub record FailsAt (ss : Syms) (tokens : List Piece) (left : ℕ) : Type 0 where
  pub prefix : List Piece
  pub suffix : List Piece
  pub split : tokens ≡ prefix ++ suffix
  pub left_is : length suffix ≡ left
  pub trees : Trees ss
  pub more : List Piece
  pub begins : all_leaves trees ≡ prefix ++ more
  pub stops : (t : Piece) (after : List Piece) → suffix ≡ t ∷ after → (other : List Piece) → skip (prefix ++ t ∷ other) ss ≡ Err (suc (length other))
  pub short : suffix ≡ [] → skip prefix ss ≡ Err 0

-- at the first token
fails_here : (ss : Syms) (t : Piece) (rest : List Piece) → ((other : List Piece) → skip (t ∷ other) ss ≡ Err (suc (length other))) → FailsAt ss (t ∷ rest) (suc (length rest))
fails_here ss t rest stops = record {
  prefix = [];
  suffix = t ∷ rest;
  split = refl;
  left_is = refl;
  trees = all_shortest ss;
  more = all_leaves (all_shortest ss);
  begins = refl;
  stops = λ u after same other. let first : t ≡ u = cc in ap (λ (x : Piece). skip (x ∷ other) ss) (sym first) ∙ stops other;
  short = λ same. absurd (cc);
}

-- where no token is left
fails_short : (ss : Syms) → skip [] ss ≡ Err 0 → FailsAt ss [] 0
fails_short ss short = record {
  prefix = [];
  suffix = [];
  split = refl;
  left_is = refl;
  trees = all_shortest ss;
  more = all_leaves (all_shortest ss);
  begins = refl;
  stops = λ u after same other. absurd (cc);
  short = λ same. short;
}

-- after a token
fails_after : (ss rs : Syms) (t : Piece) (rest : List Piece) (left : ℕ) (f : FailsAt rs rest left) → (ts : Trees ss) → all_leaves ts ≡ t ∷ all_leaves f.trees → ((xs : List Piece) → skip (t ∷ xs) ss ≡ skip xs rs) → FailsAt ss (t ∷ rest) left
fails_after ss rs t rest left f ts same goes = record {
  prefix = t ∷ f.prefix;
  suffix = f.suffix;
  split = ap (λ (xs : List Piece). t ∷ xs) f.split;
  left_is = f.left_is;
  trees = ts;
  more = f.more;
  begins = same ∙ ap (λ (xs : List Piece). t ∷ xs) f.begins;
  stops = λ u after e other. goes (f.prefix ++ u ∷ other) ∙ f.stops u after e other;
  short = λ e. goes f.prefix ∙ f.short e;
}

-- the lists begin alike, or are both empty
abbrev first_is : List Piece → List Piece → Type 0
first_is [] [] = Unit {0}
first_is [] (y ∷ ys) = ⊥
first_is (x ∷ xs) [] = ⊥
first_is (x ∷ xs) (y ∷ ys) = x ≡ y

first_same : (prefix : List Piece) (u : Piece) (after other tokens : List Piece) → tokens ≡ prefix ++ u ∷ after → first_is tokens (prefix ++ u ∷ other)
first_same [] u after other [] e = absurd (cc)
first_same [] u after other (t ∷ tokens) e = cc
first_same (x ∷ prefix) u after other [] e = absurd (cc)
first_same (x ∷ prefix) u after other (t ∷ tokens) e = cc

first_all : (prefix suffix tokens : List Piece) → tokens ≡ prefix ++ suffix → suffix ≡ [] → first_is tokens prefix
first_all [] suffix [] e none_ = tt
first_all [] suffix (t ∷ tokens) e none_ = absurd (let h : t ∷ tokens ≡ [] = e ∙ none_ in cc)
first_all (x ∷ prefix) suffix [] e none_ = absurd (cc)
first_all (x ∷ prefix) suffix (t ∷ tokens) e none_ = cc

-- where a part is left out
fails_without : (ss : Syms) (p : Part) (v : PartValue p) (tokens : List Piece) (left : ℕ) → left_out p ≡ Some v → FailsAt ss tokens left → ((xs : List Piece) → first_is tokens xs → skip xs (part p ∷ ss) ≡ skip xs ss) → FailsAt (part p ∷ ss) tokens left
fails_without ss p v tokens left e f goes = record {
  prefix = f.prefix;
  suffix = f.suffix;
  split = f.split;
  left_is = f.left_is;
  trees = tree (absent v e) f.trees;
  more = f.more;
  begins = f.begins;
  stops = λ u after same other. goes (f.prefix ++ u ∷ other) (first_same f.prefix u after other tokens (f.split ∙ ap (λ (xs : List Piece). f.prefix ++ xs) same)) ∙ f.stops u after same other;
  short = λ same. goes f.prefix (first_all f.prefix f.suffix tokens f.split same) ∙ f.short same;
}

-- ---- at a token

abbrev Faulty : List Piece → Type 0
Faulty rest = (ss : Syms) (left : ℕ) → skip rest ss ≡ Err left → FailsAt ss rest left

err_is : {A : Type 0} {a b : ℕ} → ◌≡◌ {A = Result A ℕ} (Err a) (Err b) → a ≡ b
err_is e = cc

-- a token that is asked for, or another one
fails_token : (ss rs : Syms) (x : Terminal) (t : Piece) (rest : List Piece) (left : ℕ) → Faulty rest → ((trees : Trees ss) → accepts x t ≡ true → (ts : Trees rs) × (all_leaves ts ≡ t ∷ all_leaves trees)) → ((xs : List Piece) → skip (t ∷ xs) rs ≡ cond (accepts x t) (skip xs ss) (Err (suc (length xs)))) → skip (t ∷ rest) rs ≡ Err left → FailsAt rs (t ∷ rest) left
fails_token ss rs x t rest left more with_token goes failed = go (accepts x t) refl where
  ap_fails : {a b : ℕ} → a ≡ b → FailsAt rs (t ∷ rest) a → FailsAt rs (t ∷ rest) b
  ap_fails e f = rw e at f

  go : (b : Bool) → accepts x t ≡ b → FailsAt rs (t ∷ rest) left
  go true fits =
      let goes_on : (xs : List Piece) → skip (t ∷ xs) rs ≡ skip xs ss = λ xs. goes xs ∙ ap (λ b. cond b (skip xs ss) (Err (suc (length xs)))) fits in
      let f = more ss left (sym (goes_on rest) ∙ failed) in
      let ts = with_token f.trees fits in
      fails_after rs ss t rest left f ts.0 ts.1 goes_on
  go false fits =
      let stops : (xs : List Piece) → skip (t ∷ xs) rs ≡ Err (suc (length xs)) = λ xs. goes xs ∙ ap (λ b. cond b (skip xs ss) (Err (suc (length xs)))) fits in
      let left_is : suc (length rest) ≡ left = err_is (sym (stops rest) ∙ failed) in
      ap_fails left_is (fails_here rs t rest stops)

-- passing over a part depends on the next token alone
same_after : (p : Part) (ss : Syms) (t : Piece) (rest : List Piece) → ((xs : List Piece) → skip (t ∷ xs) (part p ∷ ss) ≡ skip (t ∷ xs) ss) → (xs : List Piece) → first_is (t ∷ rest) xs → skip xs (part p ∷ ss) ≡ skip xs ss
same_after p ss t rest goes [] first = absurd first
same_after p ss t rest goes (x ∷ xs) first = subst (λ (y : Piece). skip (y ∷ xs) (part p ∷ ss) ≡ skip (y ∷ xs) ss) first (goes xs)

-- a part: by a rule, left out, or neither
fails_part : (p : Part) (ss : Syms) (t : Piece) (rest : List Piece) (left : ℕ) → Faulty rest → ((l : ℕ) → skip (t ∷ rest) ss ≡ Err l → FailsAt ss (t ∷ rest) l) → skip (t ∷ rest) (part p ∷ ss) ≡ Err left → FailsAt (part p ∷ ss) (t ∷ rest) left
unfolding skip
fails_part p ss t rest left more later failed = go (rule_for (rules p) t) refl (found (rules p) t) where
  other : (xs : List Piece) → Option (PartValue p) → Result (List Piece) ℕ
  other xs o = without (λ v. skip_turn t xs (skip xs) ss) (suc (length xs)) o

  from : (xs : List Piece) → Option (RuleOf (PartValue p)) → Result (List Piece) ℕ
  from xs o = skip_by_rule (skip xs) ss (other xs (left_out p)) o

  go : (o : Option (RuleOf (PartValue p))) → rule_for (rules p) t ≡ o → IfSome o (λ r. IsAmong r (rules p) × (accepts r.first t ≡ true)) → FailsAt (part p ∷ ss) (t ∷ rest) left
  go (Some r) e h =
      let goes : (xs : List Piece) → skip (t ∷ xs) (part p ∷ ss) ≡ skip xs (r.more ++ ss) = λ xs. ap (from xs) e in
      let f = more (r.more ++ ss) left (sym (goes rest) ∙ failed) in
      let s = joins r.more ss f.trees in
      fails_after (part p ∷ ss) (r.more ++ ss) t rest left f (tree (node r h.0 t h.1 s.0) s.1) (ap (λ (xs : List Piece). t ∷ xs) s.2) goes
  go None e h = passed (left_out p) refl where
    passed : (o : Option (PartValue p)) → left_out p ≡ o → FailsAt (part p ∷ ss) (t ∷ rest) left
    passed (Some v) out =
        let goes : (xs : List Piece) → skip (t ∷ xs) (part p ∷ ss) ≡ skip (t ∷ xs) ss = λ xs. ap (from xs) e ∙ ap (other xs) out in
        fails_without ss p v (t ∷ rest) left out (later left (sym (goes rest) ∙ failed)) (same_after p ss t rest goes)
    passed None out =
        let stops : (xs : List Piece) → skip (t ∷ xs) (part p ∷ ss) ≡ Err (suc (length xs)) = λ xs. ap (from xs) e ∙ ap (other xs) out in
        let left_is : suc (length rest) ≡ left = err_is (sym (stops rest) ∙ failed) in
        rw left_is at (fails_here (part p ∷ ss) t rest stops)

fails_turn : (t : Piece) (rest : List Piece) → Faulty rest → (ss : Syms) (left : ℕ) → skip (t ∷ rest) ss ≡ Err left → FailsAt ss (t ∷ rest) left
unfolding skip
fails_turn t rest more [] left failed = absurd (cc)
fails_turn t rest more (silent x ∷ ss) left failed = fails_token ss (silent x ∷ ss) x t rest left more (λ trees fits. (leaf t fits trees, refl)) (λ xs. refl) failed
fails_turn t rest more (token x ∷ ss) left failed = fails_token ss (token x ∷ ss) x t rest left more (λ trees fits. (keep t fits trees, refl)) (λ xs. refl) failed
fails_turn t rest more (part p ∷ ss) left failed = fails_part p ss t rest left more (fails_turn t rest more ss) failed

-- ---- where no token is left

fails_end : (ss : Syms) (left : ℕ) → skip [] ss ≡ Err left → FailsAt ss [] left
unfolding skip
fails_end [] left failed = absurd (cc)
fails_end (silent x ∷ ss) left failed = rw (err_is failed) at (fails_short (silent x ∷ ss) refl)
fails_end (token x ∷ ss) left failed = rw (err_is failed) at (fails_short (token x ∷ ss) refl)
fails_end (part p ∷ ss) left failed = go (left_out p) refl (fails_end ss) where
  go : (o : Option (PartValue p)) → left_out p ≡ o → ((l : ℕ) → skip [] ss ≡ Err l → FailsAt ss [] l) → FailsAt (part p ∷ ss) [] left
  go (Some v) out later =
      let goes : skip [] (part p ∷ ss) ≡ skip [] ss = ap (without (λ v. skip_finish ss) 0) out in
      fails_without ss p v [] left out (later left (sym goes ∙ failed)) (by_first goes)
    where
      by_first : skip [] (part p ∷ ss) ≡ skip [] ss → (xs : List Piece) → first_is [] xs → skip xs (part p ∷ ss) ≡ skip xs ss
      by_first goes [] first = goes
      by_first goes (x ∷ xs) first = absurd first
  go None out later =
      let stops : skip [] (part p ∷ ss) ≡ Err 0 = ap (without (λ v. skip_finish ss) 0) out in
      rw (err_is (sym stops ∙ failed)) at (fails_short (part p ∷ ss) stops)

pub faulty : (tokens : List Piece) (ss : Syms) (left : ℕ) → skip tokens ss ≡ Err left → FailsAt ss tokens left
faulty [] ss left failed = fails_end ss left failed
faulty (t ∷ rest) ss left failed = fails_turn t rest (faulty rest) ss left failed
