-- Declarations, one at a time, as the code reads them, and the plan that ends them.
use Rattle.std.specs.Prelude.{ℕ, ◌-◌, Bool, false, ◌||◌, slice_get, unwrap_or, List, [], ◌∷◌, ◌++◌, length, codes, Ok, Err, if◌then◌else◌}
use Rattle.std.specs.Option.{option_map}
use Rattle.dy_lex.specs.declared.tokens.TokenKind.TheVariants.{Word, Symbol}
use Rattle.dy_lex.specs.Tokens.{Piece}
use Rattle.dy_syntax.specs.Plans.{Plan}
use Rattle.dy_syntax.specs.Files.{Decl}
use Rattle.dy_grammar.specs.Terminals.{This, accepts}
use Rattle.dy_grammar.specs.Tables.{part}
use Rattle.dy_grammar.specs.Parts.{ARound, ManyTo}
use Rattle.dy_grammar.specs.Grammar.{left_brace, mark, end_of_input}
use Rattle.dy_grammar.specs.Mirrors.Machine.{◌>>=◌, Reads, syms_at}

-- no declaration follows: the end of the input, or a plan
unfoldable pub ends_decls : List Piece → Bool
ends_decls [] = false
ends_decls (t ∷ rest) = accepts (This Symbol end_of_input) t || accepts (This Word (codes "plan")) t

-- what follows the word `plan`
abbrev pub plan_body : List Piece → Reads Plan
plan_body tokens =
    syms_at Plan (left_brace ∷ part (ManyTo ARound) ∷ mark end_of_input ∷ [])
    (λ rounds. record { rounds = rounds }) tokens

-- the end of the input, or a plan
unfoldable pub plan_at : List Piece → Reads Plan
plan_at [] = Err 0
plan_at (t ∷ rest) =
    if accepts (This Symbol end_of_input) t then Ok (record { rounds = [] }, rest)
    else if accepts (This Word (codes "plan")) t then plan_body rest
    else Err (length (t ∷ rest))

-- a plan, and no declarations before it
abbrev pub alone : Reads Plan → Reads (List Decl × Plan)
alone plan = plan >>= λ y. Ok (([], y.0), y.1)

-- these declarations, and those that are read
abbrev pub with_decls : List Decl → Reads (List Decl × Plan) → Reads (List Decl × Plan)
with_decls prefix read = read >>= λ y. Ok ((prefix ++ y.0.0, y.0.1), y.1)

-- the line of the token where so many are left; none is left at the end
abbrev pub line_where : ℕ → List Piece → ℕ → ℕ
line_where left tokens last = unwrap_or (option_map (λ t. t.line) (slice_get tokens (length tokens - left))) last
