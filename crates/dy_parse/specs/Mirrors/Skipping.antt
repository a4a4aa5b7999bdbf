-- Reading on by the grammar where nothing is built, one symbol at a time.
use Rattle.std.specs.Prelude.{◌≡◌, ℕ, Bool, false, is_some, List, [], ◌∷◌, ◌++◌, map, reverse, codes, Option, Some, None, Result, Ok, Err, if◌then◌else◌}
use Rattle.std.specs.Option.{option_map}
use Rattle.dy_lex.specs.Tokens.{Piece}
use Rattle.dy_parse.specs.declared.skipping.Due.{Due}
use Rattle.dy_parse.specs.declared.skipping.Due.TheVariants as dues
use Rattle.dy_parse.specs.declared.cursor.Fault.{Fault}
use Rattle.dy_parse.specs.declared.cursor.Fault.TheVariants as faults
use Rattle.dy_grammar.specs.declared.limits.TheConstants.{TOO_DEEP}
use Rattle.dy_grammar.specs.Terminals.{accepts}
use Rattle.dy_grammar.specs.Tables.{Sym, silent, token, part}
use Rattle.dy_grammar.specs.Parts.{ANm, AUse, AnInner, AnExpr, ARecipe, Parenthesis, Part, Commas, MoreTo, MaybeListed}
use Rattle.dy_grammar.specs.Grammar.{Syms, RuleOf, word, mark, name, text, number, one, rules, left_out}
use Rattle.dy_grammar.specs.Mirrors.Machine.{◌>>=◌, Reads, rule_for, skip}

-- what is due in the code
abbrev pub sym_of : Due → Sym Part
sym_of dues.Opening = mark (codes "(")
sym_of dues.Comma = mark (codes ",")
sym_of dues.Closing = mark (codes ")")
sym_of dues.Dot = mark (codes ".")
sym_of dues.Using = word (codes "using")
sym_of dues.Name = name
sym_of dues.Text = text
sym_of dues.Number = number
sym_of dues.Nm = one ANm
sym_of dues.Use = one AUse
sym_of dues.Nms = part (Commas ANm)
sym_of dues.MoreNms = part (MoreTo Parenthesis ANm)
sym_of dues.Label = one (AnInner TOO_DEEP)
sym_of dues.Expr = one (AnExpr TOO_DEEP)
sym_of dues.Exprs = part (Commas (AnExpr TOO_DEEP))
sym_of dues.MoreExprs = part (MoreTo Parenthesis (AnExpr TOO_DEEP))
sym_of dues.Fields = part (MaybeListed (AnExpr TOO_DEEP))
sym_of dues.Recipe = one (ARecipe TOO_DEEP)
sym_of dues.Recipes = part (Commas (ARecipe TOO_DEEP))
sym_of dues.MoreRecipes = part (MoreTo Parenthesis (ARecipe TOO_DEEP))
sym_of dues.Parts = part (MaybeListed (ARecipe TOO_DEEP))

-- the last one of a stack is due first
abbrev pub syms_of : List Due → Syms
syms_of stack = map sym_of (reverse stack)

abbrev pub more_of : {X : Type 0} → Option (RuleOf X) → Option Syms
more_of None = None
more_of (Some r) = Some r.more

-- what follows the token in the rule that it begins
unfoldable pub more_for : Part → Piece → Option Syms
more_for p t = more_of (rule_for (rules p) t)

-- the code goes on after what is skipped
abbrev pub Skips : Result (List Piece) Fault → Result (List Piece) ℕ → Type 0
Skips (Ok rest) skipped = skipped ≡ Ok rest
Skips (Err (faults.At left)) skipped = skipped ≡ Err left
Skips (Err faults.Memory) skipped = Unit {0}

-- what follows a token that begins a symbol
abbrev pub after_sym : Sym Part → Piece → Option Syms
after_sym (silent x) t = if accepts x t then Some [] else None
after_sym (token x) t = if accepts x t then Some [] else None
after_sym (part p) t = more_for p t

-- no token that belongs to the symbol is next
abbrev pub IsOther : Sym Part → List Piece → Type 0
IsOther s [] = Unit {0}
IsOther s (t ∷ rest) = after_sym s t ≡ None

-- reading what is due goes on with more, and then later, in the tokens that are left
abbrev pub GoesOn : Due → List Piece → List Due → List Due → List Piece → Type 0
GoesOn due tokens later more rest =
    (ss : Syms) → skip tokens (sym_of due ∷ ss) ≡ skip rest (syms_of more ++ (syms_of later ++ ss))

-- the symbol may be left out
abbrev pub can_pass : Sym Part → Bool
can_pass (silent x) = false
can_pass (token x) = false
can_pass (part p) = is_some (left_out p)

-- in a list: what ends it, or an item and the rest
abbrev pub items_for : Bool → Option Syms → Syms → Option Syms
items_for ends item later = if ends then Some [] else option_map (λ more. more ++ later) item

-- a part that is not built: what is left, and what stands for it on the line of its first token
abbrev pub deep_at : {V : Type 0} → (ℕ → V) → Part → List Piece → Reads V
deep_at make p [] = Err 0
deep_at make p (t ∷ rest) = skip (t ∷ rest) (part p ∷ []) >>= λ left. Ok (make t.line, left)
