-- Trees side by side, and how they end.
use Rattle.std.proofs.Common.{◌≡◌, Bool, true, false, List, [], ◌∷◌, ◌++◌, Option, Some, None, refl, sym, ◌∙◌, ap, append_assoc}
use Rattle.std.specs.Prelude.{◌&&◌, ◌||◌, not, is_none}
use Rattle.std.proofs.lemmas.Bool.{and_parts}
use Rattle.dy_lex.specs.Tokens.{Piece}
use Rattle.dy_grammar.specs.Tables.{silent, token, part, Takes, apply, followed_by}
use Rattle.dy_grammar.specs.Parts.{Part, PartValue, MaybeListed}
use Rattle.dy_grammar.specs.Grammar.{Syms, rules, left_out}
use Rattle.dy_grammar.specs.Trees.{Tree, Trees, node, absent, none, leaf, keep, tree, leaves, all_leaves, value, values}
use Rattle.dy_grammar.specs.Mirrors.Distinct.{may_meet, opener, is_opened, may_go_on, may_end_open, starts_closed, is_clear}
use Rattle.dy_grammar.proofs.Apart.{apart_false, not_met}
use Rattle.dy_grammar.proofs.Table.{is_clear_rule}

-- ---- what stands at the end

-- the last part of a tree is left out
abbrev mutual
  pub ends_open : {p : Part} → Tree p → Bool
  ends_open (node rule is_rule t fits ts) = end_open ts false
  ends_open (absent v e) = true

  -- so it is after these trees, where it was so before them or not
  pub end_open : {ss : Syms} → Trees ss → Bool → Bool
  end_open none before = before
  end_open (leaf t fits ts) before = end_open ts false
  end_open (keep t fits ts) before = end_open ts false
  end_open (tree x ts) before = end_open ts (ends_open x)

left_goes_on : (p : Part) (v : PartValue p) → left_out p ≡ Some v → may_go_on p ≡ true
left_goes_on (MaybeListed x) v e = refl
left_goes_on _ v e = absurd (cc)

left_not_none : {V : Type 0} (o : Option V) (v : V) → o ≡ Some v → is_none o ≡ true → ⊥
left_not_none None v e none_ = cc
left_not_none (Some w) v e none_ = cc

-- a test that is asked for
clear_now : (may test later : Bool) → ((not may || test) && later) ≡ true → may ≡ true → test ≡ true
clear_now true test later clear holds = (and_parts test later clear).0
clear_now false test later clear holds = absurd (cc)

-- a tree that ends so is one of a part that may go on
mutual
  pub goes_on : {p : Part} (x : Tree p) → ends_open x ≡ true → may_go_on p ≡ true
  goes_on {p} (node rule is_rule t fits ts) open_ = (is_clear_rule p rule is_rule).1 (may_end ts false false (λ e. e) open_)
  goes_on {p} (absent v e) open_ = left_goes_on p v e

  may_end : {ss : Syms} (ts : Trees ss) (before may : Bool) → (before ≡ true → may ≡ true) → end_open ts before ≡ true → may_end_open may ss ≡ true
  may_end none before may so open_ = so open_
  may_end (leaf t fits ts) before may so open_ = may_end ts false false (λ e. e) open_
  may_end (keep t fits ts) before may so open_ = may_end ts false false (λ e. e) open_
  may_end (tree {p = p} x ts) before may so open_ = may_end ts (ends_open x) (may_go_on p) (goes_on x) open_

-- what stands after an open end is no `(`
pub closed_after : {ss : Syms} (ts : Trees ss) (before may : Bool) (rest : List Piece) → is_clear may ss ≡ true → may ≡ true → (end_open ts before ≡ true → is_opened rest ≡ false) → before ≡ true → is_opened (all_leaves ts ++ rest) ≡ false
closed_after none before may rest clear goes_on closed open_ = closed open_
closed_after (leaf {x = x} t fits ts) before may rest clear goes_on closed open_ = apart_false opener x t (clear_now may (not (may_meet opener x)) _ clear goes_on) fits
closed_after (keep {x = x} t fits ts) before may rest clear goes_on closed open_ = apart_false opener x t (clear_now may (not (may_meet opener x)) _ clear goes_on) fits
closed_after (tree {p = p} (node rule is_rule t fits us) ts) before may rest clear goes_on closed open_ =
    let starts = and_parts (is_none (left_out p)) _ (clear_now may (starts_closed p) _ clear goes_on) in
    apart_false opener rule.first t (not_met (rules p) rule opener starts.1 is_rule) fits
closed_after (tree {p = p} (absent v e) ts) before may rest clear goes_on closed open_ =
    let starts = and_parts (is_none (left_out p)) _ (clear_now may (starts_closed p) _ clear goes_on) in
    absurd (left_not_none (left_out p) v e starts.0)

-- where it is closed before, what holds of an open end holds
pub open_later : {ss : Syms} (ts : Trees ss) (before : Bool) → end_open ts false ≡ true → end_open ts before ≡ true
open_later none before open_ = absurd (cc)
open_later (leaf t fits ts) before open_ = open_
open_later (keep t fits ts) before open_ = open_
open_later (tree x ts) before open_ = open_

-- ---- side by side

-- Trees of two lists of symbols, one after the other, that have these leaves and these values
pub record Splits (A X : Type 0) (rs ss : Syms) (ts : Trees (rs ++ ss)) (g : Takes PartValue rs A) (f : A → Takes PartValue ss X) : Type 0 where
  pub first : Trees rs
  pub second : Trees ss
  pub split : all_leaves ts ≡ all_leaves first ++ all_leaves second
  pub value_is : apply PartValue X (rs ++ ss) (followed_by PartValue A X rs ss g f) (values ts) ≡ apply PartValue X ss (f (apply PartValue A rs g (values first))) (values second)
  pub end_is : (before : Bool) → end_open ts before ≡ end_open second (end_open first before)

pub splits : (A X : Type 0) (rs ss : Syms) (ts : Trees (rs ++ ss)) (g : Takes PartValue rs A) (f : A → Takes PartValue ss X) → Splits A X rs ss ts g f
splits A X [] ss ts g f = record { first = none; second = ts; split = refl; value_is = refl; end_is = λ before. refl }
splits A X (silent x ∷ rs) ss (leaf t fits ts) g f =
    let more = splits A X rs ss ts g f in
    record { first = leaf t fits more.first; second = more.second; split = ap (λ (xs : List Piece). t ∷ xs) more.split; value_is = more.value_is; end_is = λ before. more.end_is false }
splits A X (token x ∷ rs) ss (keep t fits ts) g f =
    let more = splits A X rs ss ts (g _) f in
    record { first = keep t fits more.first; second = more.second; split = ap (λ (xs : List Piece). t ∷ xs) more.split; value_is = more.value_is; end_is = λ before. more.end_is false }
splits A X (part p ∷ rs) ss (tree x ts) g f =
    let more = splits A X rs ss ts (g (value x)) f in
    record { first = tree x more.first; second = more.second; split = ap (λ (xs : List Piece). leaves x ++ xs) more.split ∙ sym (append_assoc (leaves x) (all_leaves more.first) (all_leaves more.second)); value_is = more.value_is; end_is = λ before. more.end_is (ends_open x) }

-- what is clear after an open end is clear
pub clear_later : (may : Bool) (ss : Syms) → is_clear may ss ≡ true → is_clear false ss ≡ true
clear_later may [] clear = refl
clear_later may (silent x ∷ ss) clear = (and_parts (not may || not (may_meet opener x)) _ clear).1
clear_later may (token x ∷ ss) clear = (and_parts (not may || not (may_meet opener x)) _ clear).1
clear_later may (part p ∷ ss) clear = (and_parts (not may || starts_closed p) _ clear).1
