-- Two tests of the table. No two rules of a part begin with the same token. What may be left out is not
-- followed by a token that it begins with.
use Rattle.std.specs.Prelude.{Bool, true, false, ◌&&◌, ◌||◌, not, is_none, List, [], ◌∷◌, codes}
use Rattle.std.specs.List.{list_all}
use Rattle.std.specs.Str.{bytes_eq}
use Rattle.dy_lex.specs.Tokens.{Piece}
use Rattle.dy_lex.specs.declared.tokens.TokenKind.{TokenKind}
use Rattle.dy_lex.specs.declared.tokens.TokenKind.TheVariants.{Word, Number, Text, Symbol}
use Rattle.dy_grammar.specs.Words.{is_reserved}
use Rattle.dy_grammar.specs.Terminals.{Terminal, This, AName, AText, ANumber, same_kind, accepts}
use Rattle.dy_grammar.specs.Tables.{silent, token, part}
use Rattle.dy_grammar.specs.Parts.{Part, One, AnExpr, ARecipe, MaybeListed}
use Rattle.dy_grammar.specs.Grammar.{Syms, RuleOf, rules, left_out}

-- the kind of token that is asked for
abbrev pub kind_of : Terminal → TokenKind
kind_of (This kind text) = kind
kind_of AName = Word
kind_of AText = Text
kind_of ANumber = Number

-- one token may be what both ask for
abbrev pub may_meet : Terminal → Terminal → Bool
may_meet (This kind text) (This other_kind other) = same_kind kind other_kind && bytes_eq text other
may_meet (This kind text) AName = same_kind kind Word && not (is_reserved text)
may_meet AName (This kind text) = same_kind kind Word && not (is_reserved text)
may_meet x y = same_kind (kind_of x) (kind_of y)

-- no token is asked for by two of them
abbrev pub are_distinct : List Terminal → Bool
are_distinct [] = true
are_distinct (x ∷ xs) = list_all (λ y. not (may_meet x y)) xs && are_distinct xs

-- the tokens that rules begin with
abbrev pub firsts : {X : Type 0} → List (RuleOf X) → List Terminal
firsts [] = []
firsts (r ∷ rs) = r.first ∷ firsts rs

-- what may be left out begins with `(`
abbrev pub opener : Terminal
opener = This Symbol (codes "(")

abbrev pub is_opened : List Piece → Bool
is_opened [] = false
is_opened (t ∷ rest) = accepts opener t

-- the part may end with one that is left out
abbrev pub may_go_on : Part → Bool
may_go_on (MaybeListed x) = true
may_go_on (One (AnExpr level)) = true
may_go_on (One (ARecipe level)) = true
may_go_on _ = false

-- the symbols may end with a part that is left out, where those before them may
abbrev pub may_end_open : Bool → Syms → Bool
may_end_open before [] = before
may_end_open before (silent x ∷ ss) = may_end_open false ss
may_end_open before (token x ∷ ss) = may_end_open false ss
may_end_open before (part p ∷ ss) = may_end_open (may_go_on p) ss

-- a part that is not left out, and does not begin with `(`
abbrev pub starts_closed : Part → Bool
starts_closed p = is_none (left_out p) && list_all (λ x. not (may_meet opener x)) (firsts (rules p))

-- no part that is left out stands before `(`
abbrev pub is_clear : Bool → Syms → Bool
is_clear before [] = true
is_clear before (silent x ∷ ss) = (not before || not (may_meet opener x)) && is_clear false ss
is_clear before (token x ∷ ss) = (not before || not (may_meet opener x)) && is_clear false ss
is_clear before (part p ∷ ss) = (not before || starts_closed p) && is_clear (may_go_on p) ss

-- so it is inside each rule of a part, and only a part that may go on ends so
abbrev pub are_clear : {X : Type 0} → Bool → List (RuleOf X) → Bool
are_clear goes_on [] = true
are_clear goes_on (r ∷ rs) =
    (is_clear false r.more && (not (may_end_open false r.more) || goes_on)) && are_clear goes_on rs
