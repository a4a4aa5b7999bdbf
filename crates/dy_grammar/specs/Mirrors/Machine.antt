-- Reading from left to right: what is due is a list of symbols. The laws of this crate tie it to trees.
use Rattle.std.specs.Prelude.{ℕ, suc, List, [], ◌∷◌, ◌++◌, length, Option, Some, None, Result, Ok, Err, if◌then◌else◌}
use Rattle.dy_lex.specs.Tokens.{Piece}
use Rattle.dy_grammar.specs.Terminals.{Terminal, accepts, TokenValue, token_value}
use Rattle.dy_grammar.specs.Tables.{silent, token, part, Takes, followed_by}
use Rattle.dy_grammar.specs.Parts.{Part, PartValue}
use Rattle.dy_grammar.specs.Grammar.{Syms, RuleOf, rules, left_out}

infixl 10 ◌>>=◌
abbrev pub ◌>>=◌ : {A B E : Type 0} → Result A E → (A → Result B E) → Result B E
(Ok x) >>= f = f x
(Err e) >>= f = Err e

-- the first rule that this token begins
abbrev pub rule_for : {X : Type 0} → List (RuleOf X) → Piece → Option (RuleOf X)
rule_for [] t = None
rule_for (r ∷ rs) t = if accepts r.first t then Some r else rule_for rs t

-- the value, and what is left; or how many tokens are left where reading fails
abbrev pub Reads : Type 0 → Type 0
Reads X = Result (X × List Piece) ℕ

-- f goes on with the value of a part that is left out, if it may be
abbrev pub without : {V R : Type 0} → (V → Result R ℕ) → ℕ → Option V → Result R ℕ
without f left None = Err left
without f left (Some v) = f v

-- with the symbols of a rule in the place of its part
abbrev pub by_rule : (X : Type 0) (p : Part) → Piece → ((ss : Syms) → Takes PartValue ss X → Reads X)
    → (ss : Syms) → (PartValue p → Takes PartValue ss X) → Reads X → Option (RuleOf (PartValue p)) → Reads X
by_rule X p t go ss f other None = other
by_rule X p t go ss f other (Some r) =
    go (r.more ++ ss) (followed_by PartValue (PartValue p) X r.more ss (r.make (token_value r.first t)) f)

-- at a token: `go` goes on after it
abbrev pub turn : (X : Type 0) → Piece → List Piece → ((ss : Syms) → Takes PartValue ss X → Reads X)
    → (ss : Syms) → Takes PartValue ss X → Reads X
turn X t rest go [] x = Ok (x, t ∷ rest)
turn X t rest go (silent x ∷ ss) f = if accepts x t then go ss f else Err (suc (length rest))
turn X t rest go (token x ∷ ss) f = if accepts x t then go ss (f (token_value x t)) else Err (suc (length rest))
turn X t rest go (part p ∷ ss) f =
    by_rule X p t go ss f (without (λ v. turn X t rest go ss (f v)) (suc (length rest)) (left_out p))
    (rule_for (rules p) t)

-- where no token is left
abbrev pub finish : (X : Type 0) → (ss : Syms) → Takes PartValue ss X → Reads X
finish X [] x = Ok (x, [])
finish X (silent x ∷ ss) f = Err 0
finish X (token x ∷ ss) f = Err 0
finish X (part p ∷ ss) f = without (λ v. finish X ss (f v)) 0 (left_out p)

unfoldable pub run : (X : Type 0) → List Piece → (ss : Syms) → Takes PartValue ss X → Reads X
run X [] ss f = finish X ss f
run X (t ∷ rest) ss f = turn X t rest (run X rest) ss f

-- the part at the start of tokens
unfoldable pub at : (p : Part) → List Piece → Reads (PartValue p)
at p tokens = run (PartValue p) tokens (part p ∷ []) (λ v. v)

-- ---- the same with no values: what is left, or how many tokens are left where reading fails

abbrev pub skip_by_rule : {X : Type 0} → (Syms → Result (List Piece) ℕ) → Syms → Result (List Piece) ℕ
    → Option (RuleOf X) → Result (List Piece) ℕ
skip_by_rule go ss other None = other
skip_by_rule go ss other (Some r) = go (r.more ++ ss)

abbrev pub skip_turn : Piece → List Piece → (Syms → Result (List Piece) ℕ) → Syms → Result (List Piece) ℕ
skip_turn t rest go [] = Ok (t ∷ rest)
skip_turn t rest go (silent x ∷ ss) = if accepts x t then go ss else Err (suc (length rest))
skip_turn t rest go (token x ∷ ss) = if accepts x t then go ss else Err (suc (length rest))
skip_turn t rest go (part p ∷ ss) =
    skip_by_rule go ss (without (λ v. skip_turn t rest go ss) (suc (length rest)) (left_out p)) (rule_for (rules p) t)

abbrev pub skip_finish : Syms → Result (List Piece) ℕ
skip_finish [] = Ok []
skip_finish (silent x ∷ ss) = Err 0
skip_finish (token x ∷ ss) = Err 0
skip_finish (part p ∷ ss) = without (λ v. skip_finish ss) 0 (left_out p)

unfoldable pub skip : List Piece → Syms → Result (List Piece) ℕ
skip [] ss = skip_finish ss
skip (t ∷ rest) ss = skip_turn t rest (skip rest) ss

-- ---- symbols one after another, as the code reads them

-- what is kept of the token, if it is one that is asked for
unfoldable pub token_value_if : (x : Terminal) → Piece → Option (TokenValue x)
token_value_if x t = if accepts x t then Some (token_value x t) else None

abbrev pub take_or_stop : {A : Type 0} → List Piece → Option A → Reads A
take_or_stop rest None = Err (suc (length rest))
take_or_stop rest (Some v) = Ok (v, rest)

unfoldable pub token_at : (x : Terminal) → List Piece → Reads (TokenValue x)
token_at x [] = Err 0
token_at x (t ∷ rest) = take_or_stop rest (token_value_if x t)

abbrev pub syms_at : (X : Type 0) (ss : Syms) → Takes PartValue ss X → List Piece → Reads X
syms_at X [] x tokens = Ok (x, tokens)
syms_at X (silent x ∷ ss) f tokens = token_at x tokens >>= λ y. syms_at X ss f y.1
syms_at X (token x ∷ ss) f tokens = token_at x tokens >>= λ y. syms_at X ss (f y.0) y.1
syms_at X (part p ∷ ss) f tokens = at p tokens >>= λ y. syms_at X ss (f y.0) y.1

-- the first of these rules that the token begins, and what follows
abbrev pub choose : (X : Type 0) → List (RuleOf X) → Piece → List Piece → Reads X → Reads X
choose X [] t rest other = other
choose X (r ∷ rs) t rest other =
    if accepts r.first t then syms_at X r.more (r.make (token_value r.first t)) rest else choose X rs t rest other

-- nothing, if the part may be left out
abbrev pub nothing : (p : Part) → List Piece → Reads (PartValue p)
nothing p tokens = without (λ v. Ok (v, tokens)) (length tokens) (left_out p)

abbrev pub by_rules : (p : Part) → List Piece → Reads (PartValue p)
by_rules p [] = nothing p []
by_rules p (t ∷ rest) = choose (PartValue p) (rules p) t rest (nothing p (t ∷ rest))

-- a single rule by its first token, as other parts are read otherwise
abbrev pub single : (X : Type 0) → List (RuleOf X) → List Piece → Reads X → Reads X
single X [] tokens other = other
single X (r ∷ []) tokens other = token_at r.first tokens >>= λ y. syms_at X r.more (r.make y.0) y.1
single X (r ∷ q ∷ rs) tokens other = other

-- what follows the first token of a rule
abbrev pub after_first : {X : Type 0} (r : RuleOf X) → TokenValue r.first → List Piece → Reads X
after_first {X = X} r k rest = syms_at X r.more (r.make k) rest

-- by the first of these rules that the next token begins
abbrev pub by_these : (X : Type 0) → List (RuleOf X) → List Piece → Reads X
by_these X rs [] = Err 0
by_these X rs (t ∷ rest) = choose X rs t rest (Err (suc (length rest)))

-- a part is kept as it stands
abbrev pub built : {X : Type 0} → ℕ → X → X
built line x = x
