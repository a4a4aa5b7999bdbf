-- What statements share, as the code reads it.
use Rattle.std.specs.Prelude.{ℕ, List, [], ◌∷◌, codes, Ok}
use Rattle.dy_lex.specs.declared.tokens.TokenKind.TheVariants.{Word, Symbol}
use Rattle.dy_lex.specs.Tokens.{Piece}
use Rattle.dy_syntax.specs.Names.{Id, Quote, UseText}
use Rattle.dy_grammar.specs.Terminals.{This, AName, AText}
use Rattle.dy_grammar.specs.Parts.{Item, ItemValue, One, ANm, AUse, AnExpr, AStatement}
use Rattle.dy_syntax.specs.Expressions.{Expr}
use Rattle.dy_syntax.specs.Statements.{Statement, Check}
use Rattle.dy_grammar.specs.Grammar.{Rules, text, left_paren, right_paren, semicolon, commas, does, does_certify, does_find, does_use, does_split, does_open, does_popen, does_verify, does_check, does_same}
use Rattle.dy_grammar.specs.Mirrors.Machine.{◌>>=◌, Reads, at, token_at, syms_at}
use Rattle.dy_parse.specs.Mirrors.Lists.{in_parentheses_at}

-- a key, `using`, and its usage
abbrev pub keyed_at : List Piece → Reads (Id × UseText)
keyed_at tokens =
    token_at AName tokens >>= λ key. token_at (This Word (codes "using")) key.1 >>= λ y. at (One AUse) y.1 >>= λ usage.
    Ok ((key.0, usage.0), usage.1)

-- a tag, and items in parentheses
abbrev pub tagged_at : (x : Item) → List Piece → Reads (Quote × List (ItemValue x))
tagged_at x tokens =
    token_at AText tokens >>= λ tag. in_parentheses_at x tag.1 >>= λ items. Ok ((tag.0, items.0), items.1)

-- `ad`, an expression, and `;`
abbrev pub ad_end_at : List Piece → Reads Expr
ad_end_at tokens =
    token_at (This Word (codes "ad")) tokens >>= λ y. at (One (AnExpr 1)) y.1 >>= λ ad.
    token_at (This Symbol (codes ";")) ad.1 >>= λ z.
    Ok (ad.0, z.1)

-- the tuple whose code is compared, and the end of the statement
abbrev pub checked_at : ℕ → Id → Id → UseText → List Piece → Reads Statement
checked_at line value key usage tokens =
    syms_at Statement (text ∷ left_paren ∷ commas ANm ∷ right_paren ∷ semicolon ∷ [])
    (λ tag args. does line (Check value key usage tag args)) tokens

-- the last statements of the table, and the later ones
abbrev pub last_rules : Rules AStatement
last_rules = does_popen ∷ does_verify ∷ does_check ∷ does_same ∷ []

abbrev pub later_rules : Rules AStatement
later_rules = does_certify ∷ does_find ∷ does_use ∷ does_split ∷ does_open ∷ last_rules
