-- Rules that begin with different tokens are told apart by their first token.
use Rattle.std.proofs.Common.{◌≡◌, ℕ, true, false, ◌&&◌, List, [], ◌∷◌, Option, Some, None, refl, sym, ◌∙◌, ap, inl, inr}
use Rattle.std.specs.Prelude.{IfSome, not}
use Rattle.std.specs.List.{list_all}
use Rattle.std.specs.Str.{bytes_eq}
use Rattle.std.proofs.lemmas.Bool.{and_parts, and_from, cond_both, both_ways, not-true, false_from_ne_true}
use Rattle.std.proofs.lemmas.Slice.Eq.{bytes_eq-Decides}
use Rattle.dy_term.specs.Characters.{is_long_word}
use Rattle.dy_lex.specs.declared.tokens.TokenKind.{TokenKind}
use Rattle.dy_lex.specs.declared.tokens.TokenKind.TheVariants.{Word, Number, Text, Symbol}
use Rattle.dy_lex.specs.Tokens.{Piece}
use Rattle.dy_grammar.specs.Words.{is_reserved}
use Rattle.dy_grammar.specs.Terminals.{Terminal, This, AName, AText, ANumber, same_kind, is_free_word, is_short_number, accepts}
use Rattle.dy_grammar.specs.Grammar.{RuleOf}
use Rattle.dy_grammar.specs.Trees.{IsAmong}
use Rattle.dy_grammar.specs.Mirrors.Machine.{rule_for}
use Rattle.dy_grammar.specs.Mirrors.Distinct.{kind_of, may_meet, are_distinct, firsts}

-- the rule that is found is one of these, and the token begins it
pub found : {X : Type 0} (rs : List (RuleOf X)) (t : Piece) → IfSome (rule_for rs t) (λ r. IsAmong r rs × (accepts r.first t ≡ true))
found [] t = tt
found (r ∷ rs) t = cond_both (accepts r.first t) (Some r) (rule_for rs t) (λ o. IfSome o (λ r'. IsAmong r' (r ∷ rs) × (accepts r'.first t ≡ true))) (λ fits. (inl refl, fits)) (λ other. weaker (rule_for rs t) (found rs t)) where
  weaker : (o : Option _) → IfSome o (λ r'. IsAmong r' rs × (accepts r'.first t ≡ true)) → IfSome o (λ r'. IsAmong r' (r ∷ rs) × (accepts r'.first t ≡ true))
  weaker None h = tt
  weaker (Some r') h = (inr h.0, h.1)

-- ---- kinds of tokens

kind_is : (a b : TokenKind) → same_kind a b ≡ true → a ≡ b
kind_is Word Word e = refl
kind_is Number Number e = refl
kind_is Text Text e = refl
kind_is Symbol Symbol e = refl
kind_is Word Number e = cc
kind_is Word Text e = cc
kind_is Word Symbol e = cc
kind_is Number Word e = cc
kind_is Number Text e = cc
kind_is Number Symbol e = cc
kind_is Text Word e = cc
kind_is Text Number e = cc
kind_is Text Symbol e = cc
kind_is Symbol Word e = cc
kind_is Symbol Number e = cc
kind_is Symbol Text e = cc

pub same_kind-refl : (a : TokenKind) → same_kind a a ≡ true
same_kind-refl Word = refl
same_kind-refl Number = refl
same_kind-refl Text = refl
same_kind-refl Symbol = refl

-- a token has the kind that is asked for
kind_fits : (x : Terminal) (t : Piece) → accepts x t ≡ true → t.kind ≡ kind_of x
kind_fits (This kind text) t fits = kind_is t.kind kind (and_parts (same_kind t.kind kind) (bytes_eq t.text text) fits).0
kind_fits AName t fits = kind_is t.kind Word (and_parts (same_kind t.kind Word) (is_free_word t.text) fits).0
kind_fits AText t fits = kind_is t.kind Text (and_parts (same_kind t.kind Text) _ fits).0
kind_fits ANumber t fits = kind_is t.kind Number (and_parts (same_kind t.kind Number) (is_short_number t.text) fits).0

-- no token has two kinds
kinds_apart : (x y : Terminal) (t : Piece) → same_kind (kind_of x) (kind_of y) ≡ false → accepts x t ≡ true → accepts y t ≡ true → ⊥
kinds_apart x y t apart fits_x fits_y =
    let same : kind_of x ≡ kind_of y = sym (kind_fits x t fits_x) ∙ kind_fits y t fits_y in
    both_ways _ apart (rw same (same_kind-refl (kind_of y)))

-- a reserved word is no name
words_apart : (kind : TokenKind) (text : List ℕ) (t : Piece) → (same_kind kind Word && not (is_reserved text)) ≡ false → accepts (This kind text) t ≡ true → accepts AName t ≡ true → ⊥
words_apart kind text t apart fits_x fits_y =
    let this = and_parts (same_kind t.kind kind) (bytes_eq t.text text) fits_x in
    let a_name = and_parts (same_kind t.kind Word) (is_free_word t.text) fits_y in
    let kinds : kind ≡ Word = sym (kind_is t.kind kind this.0) ∙ kind_is t.kind Word a_name.0 in
    let texts : t.text ≡ text = (bytes_eq-Decides t.text text).0 this.1 in
    let not_reserved : not (is_reserved text) ≡ true = rw texts at (and_parts (is_long_word t.text) (not (is_reserved t.text)) a_name.1).1 in
    both_ways _ apart (rw (kinds, not_reserved))

-- no token is asked for by both
pub apart : (x y : Terminal) (t : Piece) → may_meet x y ≡ false → accepts x t ≡ true → accepts y t ≡ true → ⊥
apart (This kind text) (This other_kind other) t e fits_x fits_y =
    let this = and_parts (same_kind t.kind kind) (bytes_eq t.text text) fits_x in
    let that = and_parts (same_kind t.kind other_kind) (bytes_eq t.text other) fits_y in
    let kinds : kind ≡ other_kind = sym (kind_is t.kind kind this.0) ∙ kind_is t.kind other_kind that.0 in
    let texts : text ≡ other = sym ((bytes_eq-Decides t.text text).0 this.1) ∙ (bytes_eq-Decides t.text other).0 that.1 in
    both_ways _ e (rw (kinds, texts) (and_from _ _ (same_kind-refl other_kind) ((bytes_eq-Decides other other).1 refl)))
apart (This kind text) AName t e fits_x fits_y = words_apart kind text t e fits_x fits_y
apart (This kind text) AText t e fits_x fits_y = kinds_apart (This kind text) AText t e fits_x fits_y
apart (This kind text) ANumber t e fits_x fits_y = kinds_apart (This kind text) ANumber t e fits_x fits_y
apart AName (This kind text) t e fits_x fits_y = words_apart kind text t e fits_y fits_x
apart AName AName t e fits_x fits_y = kinds_apart AName AName t e fits_x fits_y
apart AName AText t e fits_x fits_y = kinds_apart AName AText t e fits_x fits_y
apart AName ANumber t e fits_x fits_y = kinds_apart AName ANumber t e fits_x fits_y
apart AText y t e fits_x fits_y = kinds_apart AText y t e fits_x fits_y
apart ANumber y t e fits_x fits_y = kinds_apart ANumber y t e fits_x fits_y

-- what one asks for is not what the other asks for
pub apart_false : (x y : Terminal) (t : Piece) → not (may_meet x y) ≡ true → accepts y t ≡ true → accepts x t ≡ false
apart_false x y t e fits = false_from_ne_true _ (λ first. apart x y t (not-true _ e) first fits)

-- ---- rules

-- a token that none of these asks for
pub not_met : {X : Type 0} (rs : List (RuleOf X)) (r : RuleOf X) (x : Terminal) → list_all (λ y. not (may_meet x y)) (firsts rs) ≡ true → IsAmong r rs → not (may_meet x r.first) ≡ true
not_met [] r x all among = absurd among
not_met (q ∷ rs) r x all (inl same) = rw same (and_parts (not (may_meet x q.first)) _ all).0
not_met (q ∷ rs) r x all (inr among) = not_met rs r x (and_parts (not (may_meet x q.first)) _ all).1 among

-- the first rule that a token begins is the only one
pub only_found : {X : Type 0} (rs : List (RuleOf X)) (r : RuleOf X) (t : Piece) → are_distinct (firsts rs) ≡ true → IsAmong r rs → accepts r.first t ≡ true → rule_for rs t ≡ Some r
only_found [] r t distinct among fits = absurd among
only_found (q ∷ rs) r t distinct (inl same) fits =
    let first : accepts q.first t ≡ true = rw same at fits in
    rw first (ap Some (sym same))
only_found (q ∷ rs) r t distinct (inr among) fits =
    let parts = and_parts (list_all (λ y. not (may_meet q.first y)) (firsts rs)) (are_distinct (firsts rs)) distinct in
    rw (apart_false q.first r.first t (not_met rs r q.first parts.0 among) fits) (only_found rs r t parts.1 among fits)
