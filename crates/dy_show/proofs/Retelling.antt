-- Tokens with the kinds and texts of a value's canonical text are a tree with this value again, but for lines.
use Rattle.std.proofs.Common.{◌≡◌, ◌+◌, ◌≤◌, true, List, [], ◌∷◌, ◌++◌, map, Some, None, refl, sym, ap, subst, ◌∙◌, inl, inr, arith}
use Rattle.std.specs.Prelude.{◌⊎◌}
use Rattle.std.proofs.lemmas.Bool.{and_parts, and_from}
use Rattle.std.proofs.lemmas.List.{map-append}
use Rattle.dy_lex.specs.Tokens.{Piece}
use Rattle.dy_grammar.specs.Terminals.{Terminal, accepts, TokenValue, token_value}
use Rattle.dy_grammar.specs.Tables.{silent, token, part, Values, apply}
use Rattle.dy_grammar.specs.Parts.{Item, Part, AFile, Decls, TableEnd, LastingOpen, OnArgs, RecvOpen, StartEnd, MsgEnd, One, ManyTo, Commas, MoreTo, ListEnd, MaybeListed, PartValue}
use Rattle.dy_grammar.specs.Grammar.{Syms, RuleOf, rules, left_out}
use Rattle.dy_grammar.specs.Trees.{Tree, Trees, node, absent, none, leaf, keep, tree, IsAmong, leaves, all_leaves, value, values}
use Rattle.dy_grammar.specs.Levels.{is_within, list_is_within, is_shallow, are_shallow}
use Rattle.dy_show.specs.Shapes.{Shape, piece_shape, silent_shape, value_shape, bare_value, part_shapes, bare, bare_item, all_shown, bare_values, is_this, are_this, is_end, ends, IsLawful, AreLawful, silent_ends}
use Rattle.dy_show.proofs.TokenValues.{kept_again, silent_again, accepts_same, kept_same}
use Rattle.dy_show.proofs.Fitting.{Told, ToldAll, IsOther, PartRule, among_rules}
use Rattle.dy_show.proofs.PartRules.{part_rules}

-- ---- lists of shapes

pub lawful_prefix : (xs ys : List Shape) → AreLawful (xs ++ ys) → AreLawful xs
lawful_prefix [] ys all = tt
lawful_prefix (x ∷ xs) ys all = (all.0, lawful_prefix xs ys all.1)

lawful_suffix : (xs ys : List Shape) → AreLawful (xs ++ ys) → AreLawful ys
lawful_suffix [] ys all = all
lawful_suffix (x ∷ xs) ys all = lawful_suffix xs ys all.1

pub lawful_append : (xs ys : List Shape) → AreLawful xs → AreLawful ys → AreLawful (xs ++ ys)
lawful_append [] ys a b = b
lawful_append (x ∷ xs) ys a b = (a.0, lawful_append xs ys a.1 b)

pub ends_append : (xs ys : List Shape) → ends (xs ++ ys) ≡ ends xs + ends ys
ends_append [] ys = omega arith
ends_append (x ∷ xs) ys = omega (arith, ends_append xs ys)

-- a list whose image is two lists side by side
record Halves (ts : List Piece) (xs ys : List Shape) : Type 0 where
  first : List Piece
  second : List Piece
  split : ts ≡ first ++ second
  first_is : map piece_shape first ≡ xs
  second_is : map piece_shape second ≡ ys

halves : (ts : List Piece) (xs ys : List Shape) → map piece_shape ts ≡ xs ++ ys → Halves ts xs ys
halves ts [] ys same = record { first = []; second = ts; split = refl; first_is = refl; second_is = same }
halves [] (x ∷ xs) ys same = absurd (cc)
halves (t ∷ ts) (x ∷ xs) ys same =
    let more = halves ts xs ys (let e : map piece_shape ts ≡ xs ++ ys = cc in e) in
    let first_is : piece_shape t ≡ x = cc in
    record {
      first = t ∷ more.first;
      second = more.second;
      split = ap (λ (us : List Piece). t ∷ us) more.split;
      first_is = λ i. first_is i ∷ more.first_is i;
      second_is = more.second_is;
    }

-- ---- what is on a level is so whatever its lines

list_within_bare : {A : Type 0} (x : Item) (f : A → A) (vs ws : List A) → map f vs ≡ map f ws → list_is_within x vs ≡ list_is_within x ws
list_within_bare x f [] [] same = refl
list_within_bare x f [] (w ∷ ws) same = absurd (cc)
list_within_bare x f (v ∷ vs) [] same = absurd (cc)
list_within_bare x f (v ∷ vs) (w ∷ ws) same = refl

within_same : (p : Part) (v w : PartValue p) → bare p v ≡ bare p w → is_within p v ≡ is_within p w
within_same AFile v w same = refl
within_same Decls v w same = refl
within_same TableEnd v w same = refl
within_same LastingOpen v w same = refl
within_same OnArgs v w same = refl
within_same RecvOpen v w same = refl
within_same StartEnd v w same = refl
within_same MsgEnd v w same = refl
within_same (One x) v w same = refl
within_same (ManyTo x) v w same = list_within_bare x (bare_item x) v w same
within_same (Commas x) v w same = list_within_bare x (bare_item x) v w same
within_same (MoreTo end x) v w same = refl
within_same (ListEnd word x) v w same = refl
within_same (MaybeListed x) v w same = refl

-- ---- ends that a rule asks for stand in its tree

silent_few : {ss : Syms} (ts : Trees ss) → are_this ss ≡ true → silent_ends ss ≤ ends (map piece_shape (all_leaves ts))
silent_few none plain = omega arith
silent_few {ss = silent x ∷ ss} (leaf t fits ts) plain =
    let both = and_parts (is_this x) (are_this ss) plain in
    let same : is_end (silent_shape x) ≡ is_end (piece_shape t) = ap is_end (silent_again x t both.0 fits) in
    let more = silent_few ts both.1 in
    rw same (omega arith)
silent_few {ss = token x ∷ ss} (keep t fits ts) plain = let more = silent_few ts plain in omega arith
silent_few {ss = part p ∷ ss} (tree x ts) plain =
    let more = silent_few ts plain in
    rw (map-append, ends_append) (omega arith)

-- ---- trees

abbrev first_of : Shape → List Shape → Shape
first_of other [] = other
first_of other (x ∷ xs) = x

abbrev rest_of : List Shape → List Shape
rest_of [] = []
rest_of (x ∷ xs) = xs

-- no tokens for no symbols
none_told : (us : List Piece) → map piece_shape us ≡ [] → ToldAll [] tt us
none_told [] same = record { trees = none; spelled = refl; same = refl; shallow = refl }
none_told (u ∷ us) same = absurd (cc)

pub record Retold (p : Part) (v : PartValue p) (xs : List Piece) : Type 0 where
  pub lawful : AreLawful (part_shapes p v)
  pub few : ends (part_shapes p v) ≤ ends (map piece_shape xs)
  pub told : (ts : List Piece) → map piece_shape ts ≡ part_shapes p v → Told p v ts

record RetoldAll (ss : Syms) (vs : Values PartValue ss) (xs : List Piece) : Type 0 where
  lawful : AreLawful (all_shown ss vs)
  few : ends (all_shown ss vs) ≤ ends (map piece_shape xs)
  told : (ts : List Piece) → map piece_shape ts ≡ all_shown ss vs → ToldAll ss vs ts

-- a part that is left out has no tokens
absent_shown : (p : Part) (v : PartValue p) → left_out p ≡ Some v → part_shapes p v ≡ []
absent_shown (MaybeListed x) v out = let e : None ≡ v = cc in ap (part_shapes (MaybeListed x)) (sym e)
absent_shown _ v out = absurd (cc)

absent_told : (p : Part) (v : PartValue p) → left_out p ≡ Some v → part_shapes p v ≡ [] → (ts : List Piece) → map piece_shape ts ≡ part_shapes p v → Told p v ts
absent_told p v out empty [] same = record { tree = absent v out; spelled = refl; same = refl; shallow = refl }
absent_told p v out empty (t ∷ ts) same = absurd (cc)

absent_retold : (p : Part) (v : PartValue p) → left_out p ≡ Some v → Retold p v []
absent_retold p v out =
    let empty = absent_shown p v out in
    record { lawful = rw empty tt; few = rw empty (omega arith); told = absent_told p v out empty }

abbrev value_made : (p : Part) (rule : RuleOf (PartValue p)) (t : Piece) → Values PartValue rule.more → PartValue p
value_made p rule t vs = apply PartValue (PartValue p) rule.more (rule.make (token_value rule.first t)) vs

-- a node by this rule, where the canonical text has the tokens that the rule asks for
node_told : (p : Part) (rule : RuleOf (PartValue p)) (is_rule : IsAmong rule (rules p)) (t : Piece) (fits : accepts rule.first t ≡ true)
    (vs : Values PartValue rule.more) → is_within p (value_made p rule t vs) ≡ true → PartRule p rule
    → ((us : List Piece) → map piece_shape us ≡ all_shown rule.more vs → ToldAll rule.more vs us)
    → part_shapes p (value_made p rule t vs) ≡ piece_shape t ∷ all_shown rule.more vs
    → (us : List Piece) → map piece_shape us ≡ part_shapes p (value_made p rule t vs) → Told p (value_made p rule t vs) us
node_told p rule is_rule t fits vs within by more is [] same = absurd (let bad : ◌≡◌ {A = List Shape} [] (piece_shape t ∷ all_shown rule.more vs) = same ∙ is in cc)
node_told p rule is_rule t fits vs within by more is (u ∷ us) same =
    let both : ◌≡◌ {A = List Shape} (piece_shape u ∷ map piece_shape us) (piece_shape t ∷ all_shown rule.more vs) = same ∙ is in
    let first : piece_shape u ≡ piece_shape t = ap (first_of (piece_shape u)) both in
    let rest : map piece_shape us ≡ all_shown rule.more vs = ap rest_of both in
    let told = more us rest in
    let same_value : bare p (value_made p rule u (values told.trees)) ≡ bare p (value_made p rule t vs) =
    by.respects (token_value rule.first u) (values told.trees)
    ∙ ap (λ (k : TokenValue rule.first). apply PartValue (PartValue p) rule.more (rule.make k) (bare_values rule.more (values told.trees))) (kept_same rule.first t u first)
    ∙ ap (λ (ws : Values PartValue rule.more). apply PartValue (PartValue p) rule.more (rule.make (bare_value rule.first (token_value rule.first t))) ws) told.same
    ∙ sym (by.respects (token_value rule.first t) vs) in
    record {
      tree = node rule is_rule u (accepts_same rule.first t u first fits) told.trees;
      spelled = ap (λ (ws : List Piece). u ∷ ws) told.spelled;
      same = same_value;
      shallow = and_from _ (are_shallow told.trees) (within_same p _ _ same_value ∙ within) told.shallow;
    }

node_retold : (p : Part) (rule : RuleOf (PartValue p)) (is_rule : IsAmong rule (rules p)) (t : Piece) (fits : accepts rule.first t ≡ true) (ts : Trees rule.more)
    → is_within p (value_made p rule t (values ts)) ≡ true → PartRule p rule → IsLawful (piece_shape t) → RetoldAll rule.more (values ts) (all_leaves ts)
    → (part_shapes p (value_made p rule t (values ts)) ≡ value_shape rule.first (token_value rule.first t) ∷ all_shown rule.more (values ts)) ⊎ IsOther p (value_made p rule t (values ts)) (silent_ends rule.more)
    → Retold p (value_made p rule t (values ts)) (t ∷ all_leaves ts)
node_retold p rule is_rule t fits ts within by lawful more (inl shows) =
    let is : part_shapes p (value_made p rule t (values ts)) ≡ piece_shape t ∷ all_shown rule.more (values ts) =
    shows ∙ ap (λ (s : Shape). s ∷ all_shown rule.more (values ts)) (kept_again rule.first t fits lawful) in
    record {
      lawful = subst (λ (xs : List Shape). AreLawful xs) (sym is) (lawful, more.lawful);
      few = rw is (let f = more.few in omega arith);
      told = node_told p rule is_rule t fits (values ts) within by more.told is;
    }
node_retold p rule is_rule t fits ts within by lawful more (inr other) = record {
  lawful = other.lawful;
  few = let f = silent_few ts by.plain in omega (arith, other.few, f);
  told = other.told;
}

-- symbols, one after another

silent_told : (x : Terminal) (ss : Syms) (t : Piece) (fits : accepts x t ≡ true) (vs : Values PartValue ss) → silent_shape x ≡ piece_shape t
    → ((us : List Piece) → map piece_shape us ≡ all_shown ss vs → ToldAll ss vs us)
    → (us : List Piece) → map piece_shape us ≡ silent_shape x ∷ all_shown ss vs → ToldAll (silent x ∷ ss) vs us
silent_told x ss t fits vs is more [] same = absurd (cc)
silent_told x ss t fits vs is more (u ∷ us) same =
    let first : piece_shape u ≡ silent_shape x = ap (first_of (piece_shape u)) same in
    let told = more us (ap rest_of same) in
    record { trees = leaf u (accepts_same x t u (first ∙ is) fits) told.trees; spelled = ap (λ (ws : List Piece). u ∷ ws) told.spelled; same = told.same; shallow = told.shallow }

kept_told : (x : Terminal) (ss : Syms) (t : Piece) (fits : accepts x t ≡ true) (vs : Values PartValue ss) → value_shape x (token_value x t) ≡ piece_shape t
    → ((us : List Piece) → map piece_shape us ≡ all_shown ss vs → ToldAll ss vs us)
    → (us : List Piece) → map piece_shape us ≡ value_shape x (token_value x t) ∷ all_shown ss vs → ToldAll (token x ∷ ss) (token_value x t, vs) us
kept_told x ss t fits vs is more [] same = absurd (cc)
kept_told x ss t fits vs is more (u ∷ us) same =
    let first : piece_shape u ≡ value_shape x (token_value x t) = ap (first_of (piece_shape u)) same in
    let told = more us (ap rest_of same) in
    let kept_is = kept_same x t u (first ∙ is) in
    record {
      trees = keep u (accepts_same x t u (first ∙ is) fits) told.trees;
      spelled = ap (λ (ws : List Piece). u ∷ ws) told.spelled;
      same = λ i. (kept_is i, told.same i);
      shallow = told.shallow;
    }

part_told : (p : Part) (ss : Syms) (v : PartValue p) (vs : Values PartValue ss)
    → ((us : List Piece) → map piece_shape us ≡ part_shapes p v → Told p v us)
    → ((us : List Piece) → map piece_shape us ≡ all_shown ss vs → ToldAll ss vs us)
    → (us : List Piece) → map piece_shape us ≡ part_shapes p v ++ all_shown ss vs → ToldAll (part p ∷ ss) (v, vs) us
part_told p ss v vs one more us same =
    let parts = halves us (part_shapes p v) (all_shown ss vs) same in
    let first = one parts.first parts.first_is in
    let rest = more parts.second parts.second_is in
    record {
      trees = tree first.tree rest.trees;
      spelled = parts.split ∙ ap (λ (ws : List Piece). ws ++ parts.second) first.spelled ∙ ap (λ (ws : List Piece). leaves first.tree ++ ws) rest.spelled;
      same = λ i. (first.same i, rest.same i);
      shallow = and_from _ (are_shallow rest.trees) first.shallow rest.shallow;
    }

mutual
  pub retold : {p : Part} (x : Tree p) → is_shallow x ≡ true → AreLawful (map piece_shape (leaves x)) → Retold p (value x) (leaves x)
  retold {p = p} (node rule is_rule t fits ts) shallow lawful =
      let both = and_parts (is_within p (value_made p rule t (values ts))) (are_shallow ts) shallow in
      let by = among_rules p (rules p) rule is_rule (part_rules p) in
      node_retold p rule is_rule t fits ts both.0 by lawful.0 (retold_all ts by.plain both.1 lawful.1) (by.shows (token_value rule.first t) (values ts) both.0)
  retold {p = p} (absent v out) shallow lawful = absent_retold p v out

  retold_all : {ss : Syms} (ts : Trees ss) → are_this ss ≡ true → are_shallow ts ≡ true → AreLawful (map piece_shape (all_leaves ts)) → RetoldAll ss (values ts) (all_leaves ts)
  retold_all none plain shallow lawful = record { lawful = tt; few = omega arith; told = none_told }
  retold_all {ss = silent x ∷ ss} (leaf t fits ts) plain shallow lawful =
      let both = and_parts (is_this x) (are_this ss) plain in
      let more = retold_all ts both.1 shallow lawful.1 in
      let is = silent_again x t both.0 fits in
      let same : is_end (silent_shape x) ≡ is_end (piece_shape t) = ap is_end is in
      record {
        lawful = (subst (λ (s : Shape). IsLawful s) (sym is) lawful.0, more.lawful);
        few = rw same (let f = more.few in omega arith);
        told = silent_told x ss t fits (values ts) is more.told;
      }
  retold_all {ss = token x ∷ ss} (keep t fits ts) plain shallow lawful =
      let more = retold_all ts plain shallow lawful.1 in
      let is = kept_again x t fits lawful.0 in
      let same : is_end (value_shape x (token_value x t)) ≡ is_end (piece_shape t) = ap is_end is in
      record {
        lawful = (subst (λ (s : Shape). IsLawful s) (sym is) lawful.0, more.lawful);
        few = rw same (let f = more.few in omega arith);
        told = kept_told x ss t fits (values ts) is more.told;
      }
  retold_all {ss = part p ∷ ss} (tree x ts) plain shallow lawful =
      let both = and_parts (is_shallow x) (are_shallow ts) shallow in
      let split : map piece_shape (leaves x ++ all_leaves ts) ≡ map piece_shape (leaves x) ++ map piece_shape (all_leaves ts) = map-append piece_shape (leaves x) (all_leaves ts) in
      let all = subst (λ (xs : List Shape). AreLawful xs) split lawful in
      let one = retold x both.0 (lawful_prefix (map piece_shape (leaves x)) (map piece_shape (all_leaves ts)) all) in
      let more = retold_all ts plain both.1 (lawful_suffix (map piece_shape (leaves x)) (map piece_shape (all_leaves ts)) all) in
      record {
        lawful = lawful_append (part_shapes p (value x)) (all_shown ss (values ts)) one.lawful more.lawful;
        few = rw (split, ends_append (part_shapes p (value x)), ends_append (map piece_shape (leaves x))) (let f = one.few in let g = more.few in omega arith);
        told = part_told p ss (value x) (values ts) one.told more.told;
      }
