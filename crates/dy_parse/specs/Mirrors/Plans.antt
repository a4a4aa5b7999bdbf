-- What a step does, as the code reads it.
use Rattle.std.specs.Prelude.{List, [], ◌∷◌, codes, Err, if◌then◌else◌}
use Rattle.dy_lex.specs.Tokens.{Piece}
use Rattle.dy_syntax.specs.Names.{Id}
use Rattle.dy_syntax.specs.Plans as p
use Rattle.dy_syntax.specs.Plans.{Action}
use Rattle.dy_lex.specs.declared.tokens.TokenKind.TheVariants.{Word}
use Rattle.dy_grammar.specs.Terminals.{This, AName, accepts}
use Rattle.dy_grammar.specs.Tables.{part}
use Rattle.dy_grammar.specs.Parts.{AnId, ARecipe, StartEnd}
use Rattle.dy_grammar.specs.Grammar.{one, name, number, left_paren, semicolon, commas}
use Rattle.dy_grammar.specs.Mirrors.Machine.{◌>>=◌, Reads, token_at, syms_at}

-- what follows the principal
abbrev pub start_at : Id → List Piece → Reads Action
start_at principal tokens = syms_at Action (name ∷ left_paren ∷ commas AnId ∷ part StartEnd ∷ [])
    (λ handler args end. p.Start principal handler args end.0 end.1) tokens

-- what follows `corrupt`
abbrev pub corrupt_at : List Piece → Reads Action
corrupt_at tokens = syms_at Action (name ∷ name ∷ number ∷ semicolon ∷ [])
    (λ principal session version. p.Corrupt principal session version) tokens

-- what follows `forge`
abbrev pub forge_at : List Piece → Reads Action
forge_at tokens = syms_at Action (semicolon ∷ []) p.Forge tokens

-- what follows `inject`
abbrev pub inject_at : List Piece → Reads Action
inject_at tokens = syms_at Action (one (ARecipe 1) ∷ semicolon ∷ []) (λ recipe. p.Inject recipe) tokens

abbrev pub start_step_at : List Piece → Reads Action
start_step_at tokens = token_at AName tokens >>= λ y. start_at y.0 y.1

-- what a step does, by its first word
abbrev pub action_at : List Piece → Reads Action
action_at [] = Err 0
action_at (t ∷ rest) =
    if accepts (This Word (codes "corrupt")) t then corrupt_at rest
    else if accepts (This Word (codes "forge")) t then forge_at rest
    else if accepts (This Word (codes "inject")) t then inject_at rest
    else start_step_at (t ∷ rest)
