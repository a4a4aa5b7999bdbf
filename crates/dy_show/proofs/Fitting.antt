-- When a rule makes a value whose canonical text has the tokens that the rule asks for.
use Rattle.std.proofs.Common.{◌≡◌, ℕ, ◌≤◌, Bool, true, List, [], ◌∷◌, ◌++◌, map, refl, sym, ap, subst, ◌∙◌, append_assoc, inl, inr}
use Rattle.std.specs.Prelude.{◌⊎◌}
use Rattle.std.proofs.lemmas.Bool.{and_parts, and_from}
use Rattle.dy_lex.specs.Tokens.{Piece}
use Rattle.dy_grammar.specs.Terminals.{TokenValue}
use Rattle.dy_grammar.specs.Tables.{silent, token, part, Takes, Values, apply}
use Rattle.dy_grammar.specs.Parts.{Part, PartValue}
use Rattle.dy_grammar.specs.Grammar.{Syms, RuleOf, with_more}
use Rattle.dy_grammar.proofs.SideBySide.{first_values, later_values, apply_split}
use Rattle.dy_grammar.specs.Trees.{Tree, Trees, IsAmong, leaves, all_leaves, value, values}
use Rattle.dy_grammar.specs.Levels.{is_within, is_shallow, are_shallow}
use Rattle.dy_show.specs.Shapes.{Shape, piece_shape, silent_shape, value_shape, bare_value, part_shapes, bare, all_shown, bare_values, are_this, ends, AreLawful, silent_ends}

-- The tokens of what the rule makes are those that it asks for, and it makes the same of the same.
pub record RuleFits (X : Type 0) (show : X → List Shape) (bare_ : X → X) (fine : X → Bool) (r : RuleOf X) : Type 0 where
  pub plain : are_this r.more ≡ true
  pub shows : (k : TokenValue r.first) (vs : Values PartValue r.more) → fine (apply PartValue X r.more (r.make k) vs) ≡ true →
      show (apply PartValue X r.more (r.make k) vs) ≡ value_shape r.first k ∷ all_shown r.more vs
  pub respects : (k : TokenValue r.first) (vs : Values PartValue r.more) →
      bare_ (apply PartValue X r.more (r.make k) vs) ≡ apply PartValue X r.more (r.make (bare_value r.first k)) (bare_values r.more vs)

abbrev pub AllFit : (X : Type 0) → (X → List Shape) → (X → X) → (X → Bool) → List (RuleOf X) → Type 0
AllFit X show bare_ fine [] = Unit {0}
AllFit X show bare_ fine (r ∷ rs) = RuleFits X show bare_ fine r × AllFit X show bare_ fine rs

-- ---- symbols side by side

shown_split : (rs ss : Syms) (vs : Values PartValue (rs ++ ss)) → all_shown (rs ++ ss) vs ≡ all_shown rs (first_values rs ss vs) ++ all_shown ss (later_values rs ss vs)
shown_split [] ss vs = refl
shown_split (silent x ∷ rs) ss vs = ap (λ xs. silent_shape x ∷ xs) (shown_split rs ss vs)
shown_split (token x ∷ rs) ss vs = ap (λ xs. value_shape x vs.0 ∷ xs) (shown_split rs ss vs.1)
shown_split (part p ∷ rs) ss vs =
    ap (λ xs. part_shapes p vs.0 ++ xs) (shown_split rs ss vs.1) ∙ sym (append_assoc (part_shapes p vs.0) (all_shown rs (first_values rs ss vs.1)) (all_shown ss (later_values rs ss vs.1)))

prefix_bare : (rs ss : Syms) (vs : Values PartValue (rs ++ ss)) → first_values rs ss (bare_values (rs ++ ss) vs) ≡ bare_values rs (first_values rs ss vs)
prefix_bare [] ss vs = refl
prefix_bare (silent x ∷ rs) ss vs = prefix_bare rs ss vs
prefix_bare (token x ∷ rs) ss vs = λ i. (bare_value x vs.0, prefix_bare rs ss vs.1 i)
prefix_bare (part p ∷ rs) ss vs = λ i. (bare p vs.0, prefix_bare rs ss vs.1 i)

back_bare : (rs ss : Syms) (vs : Values PartValue (rs ++ ss)) → later_values rs ss (bare_values (rs ++ ss) vs) ≡ bare_values ss (later_values rs ss vs)
back_bare [] ss vs = refl
back_bare (silent x ∷ rs) ss vs = back_bare rs ss vs
back_bare (token x ∷ rs) ss vs = back_bare rs ss vs.1
back_bare (part p ∷ rs) ss vs = back_bare rs ss vs.1

plain_append : (rs ss : Syms) → are_this rs ≡ true → are_this ss ≡ true → are_this (rs ++ ss) ≡ true
plain_append [] ss a b = b
plain_append (silent x ∷ rs) ss a b = let p = and_parts _ (are_this rs) a in and_from _ (are_this (rs ++ ss)) p.0 (plain_append rs ss p.1 b)
plain_append (token x ∷ rs) ss a b = plain_append rs ss a b
plain_append (part p ∷ rs) ss a b = plain_append rs ss a b

-- ---- rules that go on

-- what is made of a value and what follows it
pub record Grows (A X : Type 0) (show_a : A → List Shape) (bare_a : A → A) (fine_a : A → Bool) (show_x : X → List Shape) (bare_x : X → X) (fine_x : X → Bool) (more : Syms) (make : A → Takes PartValue more X) : Type 0 where
  pub plain : are_this more ≡ true
  pub fine : (a : A) (ws : Values PartValue more) → fine_x (apply PartValue X more (make a) ws) ≡ true → fine_a a ≡ true
  pub shows : (a : A) (ws : Values PartValue more) → show_x (apply PartValue X more (make a) ws) ≡ show_a a ++ all_shown more ws
  pub respects : (a : A) (ws : Values PartValue more) → bare_x (apply PartValue X more (make a) ws) ≡ apply PartValue X more (make (bare_a a)) (bare_values more ws)

grown : (A X : Type 0) (show_a : A → List Shape) (bare_a : A → A) (fine_a : A → Bool) (show_x : X → List Shape) (bare_x : X → X) (fine_x : X → Bool) (more : Syms) (make : A → Takes PartValue more X)
    → Grows A X show_a bare_a fine_a show_x bare_x fine_x more make → (r : RuleOf A) → RuleFits A show_a bare_a fine_a r → RuleFits X show_x bare_x fine_x (with_more more make r)
grown A X show_a bare_a fine_a show_x bare_x fine_x more make grows r fits = record {
  plain = plain_append r.more more fits.plain grows.plain;
  shows = λ k vs fine.
      let a = apply PartValue A r.more (r.make k) (first_values r.more more vs) in
      let ws = later_values r.more more vs in
      let is = apply_split A X r.more more (r.make k) make vs in
      let fine_is : fine_a a ≡ true = grows.fine a ws (subst (λ (x : X). fine_x x ≡ true) is fine) in
      ap show_x is ∙ grows.shows a ws ∙ ap (λ (xs : List Shape). xs ++ all_shown more ws) (fits.shows k (first_values r.more more vs) fine_is)
      ∙ ap (λ (xs : List Shape). value_shape r.first k ∷ xs) (sym (shown_split r.more more vs));
  respects = λ k vs.
      let a = apply PartValue A r.more (r.make k) (first_values r.more more vs) in
      let ws = later_values r.more more vs in
      let is = apply_split A X r.more more (r.make k) make vs in
      let bare_is = apply_split A X r.more more (r.make (bare_value r.first k)) make (bare_values (r.more ++ more) vs) in
      ap bare_x is ∙ grows.respects a ws
      ∙ ap (λ (b : A). apply PartValue X more (make b) (bare_values more ws)) (fits.respects k (first_values r.more more vs))
      ∙ ap (λ (us : Values PartValue r.more). apply PartValue X more (make (apply PartValue A r.more (r.make (bare_value r.first k)) us)) (bare_values more ws)) (sym (prefix_bare r.more more vs))
      ∙ ap (λ (us : Values PartValue more). apply PartValue X more (make (apply PartValue A r.more (r.make (bare_value r.first k)) (first_values r.more more (bare_values (r.more ++ more) vs)))) us) (sym (back_bare r.more more vs))
      ∙ sym bare_is;
}

pub all_grown : (A X : Type 0) (show_a : A → List Shape) (bare_a : A → A) (fine_a : A → Bool) (show_x : X → List Shape) (bare_x : X → X) (fine_x : X → Bool) (more : Syms) (make : A → Takes PartValue more X)
    → Grows A X show_a bare_a fine_a show_x bare_x fine_x more make → (rs : List (RuleOf A)) → AllFit A show_a bare_a fine_a rs → AllFit X show_x bare_x fine_x (map (with_more more make) rs)
all_grown A X show_a bare_a fine_a show_x bare_x fine_x more make grows [] fits = tt
all_grown A X show_a bare_a fine_a show_x bare_x fine_x more make grows (r ∷ rs) fits =
    (grown A X show_a bare_a fine_a show_x bare_x fine_x more make grows r fits.0, all_grown A X show_a bare_a fine_a show_x bare_x fine_x more make grows rs fits.1)

-- ---- parts

-- These tokens are a tree of the part, with this value but for lines.
pub record Told (p : Part) (v : PartValue p) (ts : List Piece) : Type 0 where
  pub tree : Tree p
  pub spelled : ts ≡ leaves tree
  pub same : bare p (value tree) ≡ bare p v
  pub shallow : is_shallow tree ≡ true

pub record ToldAll (ss : Syms) (vs : Values PartValue ss) (ts : List Piece) : Type 0 where
  pub trees : Trees ss
  pub spelled : ts ≡ all_leaves trees
  pub same : bare_values ss (values trees) ≡ bare_values ss vs
  pub shallow : are_shallow trees ≡ true

-- The canonical text of the value has other tokens than the rule asks for, and with at most so many ends.
pub record IsOther (p : Part) (v : PartValue p) (most : ℕ) : Type 0 where
  pub lawful : AreLawful (part_shapes p v)
  pub few : ends (part_shapes p v) ≤ most
  pub told : (ts : List Piece) → map piece_shape ts ≡ part_shapes p v → Told p v ts

pub record PartRule (p : Part) (r : RuleOf (PartValue p)) : Type 0 where
  pub plain : are_this r.more ≡ true
  pub shows : (k : TokenValue r.first) (vs : Values PartValue r.more) → is_within p (apply PartValue (PartValue p) r.more (r.make k) vs) ≡ true →
      (part_shapes p (apply PartValue (PartValue p) r.more (r.make k) vs) ≡ value_shape r.first k ∷ all_shown r.more vs)
      ⊎ IsOther p (apply PartValue (PartValue p) r.more (r.make k) vs) (silent_ends r.more)
  pub respects : (k : TokenValue r.first) (vs : Values PartValue r.more) →
      bare p (apply PartValue (PartValue p) r.more (r.make k) vs) ≡ apply PartValue (PartValue p) r.more (r.make (bare_value r.first k)) (bare_values r.more vs)

abbrev pub PartRules : (p : Part) → List (RuleOf (PartValue p)) → Type 0
PartRules p [] = Unit {0}
PartRules p (r ∷ rs) = PartRule p r × PartRules p rs

pub fits_part : (p : Part) (r : RuleOf (PartValue p)) → RuleFits (PartValue p) (part_shapes p) (bare p) (is_within p) r → PartRule p r
fits_part p r fits = record { plain = fits.plain; shows = λ k vs fine. inl (fits.shows k vs fine); respects = fits.respects }

pub fit_part : (p : Part) (rs : List (RuleOf (PartValue p))) → AllFit (PartValue p) (part_shapes p) (bare p) (is_within p) rs → PartRules p rs
fit_part p [] fits = tt
fit_part p (r ∷ rs) fits = (fits_part p r fits.0, fit_part p rs fits.1)

pub among_rules : (p : Part) (rs : List (RuleOf (PartValue p))) (r : RuleOf (PartValue p)) → IsAmong r rs → PartRules p rs → PartRule p r
among_rules p [] r is all = absurd is
among_rules p (q ∷ rs) r (inl same) all = subst (λ (x : RuleOf (PartValue p)). PartRule p x) (sym same) all.0
among_rules p (q ∷ rs) r (inr later) all = among_rules p rs r later all.1
