-- Lists, one item at a time, as the code reads them.
use Rattle.std.specs.Prelude.{ℕ, List, [], ◌∷◌, ◌++◌, Option, Some, None, Ok, codes, if◌then◌else◌}
use Rattle.dy_lex.specs.declared.tokens.TokenKind.TheVariants.{Symbol}
use Rattle.dy_lex.specs.Tokens.{Piece}
use Rattle.dy_syntax.specs.Names.{UseText}
use Rattle.dy_syntax.specs.Labels.{LabelText}
use Rattle.dy_parse.specs.declared.declarations.Listing as listings
use Rattle.dy_parse.specs.declared.declarations.Listing.TheVariants as words
use Rattle.dy_parse.specs.declared.lists.Rest.{Rest}
use Rattle.dy_parse.specs.declared.lists.Rest.TheVariants as rests
use Rattle.dy_grammar.specs.Terminals.{This, accepts}
use Rattle.dy_grammar.specs.Parts.{Item, ItemValue, Parenthesis, Semicolon, Listing, Requires, After, Knows, One, ManyTo, Commas, MoreTo, ALabel, AUse}
use Rattle.dy_grammar.specs.Mirrors.Machine.{◌>>=◌, Reads, at, token_at}

-- what stands after this symbol
unfoldable pub after_mark : List ℕ → List Piece → Option (List Piece)
after_mark m [] = None
after_mark m (t ∷ rest) = if accepts (This Symbol m) t then Some rest else None

-- a value, where a list ends
abbrev pub end_or : {A : Type 0} → Option (List Piece) → A → Reads A → Reads A
end_or None v other = other
end_or (Some rest) v other = Ok (v, rest)

-- these items, and those that are read
abbrev pub with_prefix : {A : Type 0} → List A → Reads (List A) → Reads (List A)
with_prefix prefix read = read >>= λ y. Ok (prefix ++ y.0, y.1)

-- an item, and those that are read after it
abbrev pub before : {A : Type 0} → Reads A → (List Piece → Reads (List A)) → Reads (List A)
before first later = first >>= λ y. later y.1 >>= λ z. Ok (y.0 ∷ z.0, z.1)

-- the rest of a list
abbrev pub rest_at : (kind : Rest) (x : Item) → List Piece → Reads (List (ItemValue x))
rest_at rests.Braces x = at (ManyTo x)
rest_at rests.Parentheses x = at (MoreTo Parenthesis x)
rest_at rests.Semicolon x = at (MoreTo Semicolon x)

-- what ends it
abbrev pub rest_mark : Rest → List ℕ
rest_mark rests.Braces = codes "}"
rest_mark rests.Parentheses = codes ")"
rest_mark rests.Semicolon = codes ";"

-- its next item, after a comma where one stands between items
abbrev pub next_at : Rest → (x : Item) → List Piece → Reads (ItemValue x)
next_at rests.Braces x tokens = at (One x) tokens
next_at rests.Parentheses x tokens = token_at (This Symbol (codes ",")) tokens >>= λ y. at (One x) y.1
next_at rests.Semicolon x tokens = token_at (This Symbol (codes ",")) tokens >>= λ y. at (One x) y.1

-- items in parentheses
abbrev pub in_parentheses_at : (x : Item) → List Piece → Reads (List (ItemValue x))
in_parentheses_at x tokens = token_at (This Symbol (codes "(")) tokens >>= λ y. at (Commas x) y.1

-- the word that begins a list of events
abbrev pub listing_of : listings.Listing → Listing
listing_of words.Requires = Requires
listing_of words.After = After
listing_of words.Knows = Knows

-- a label, and a usage
abbrev pub label_and_use_at : List Piece → Reads (LabelText × UseText)
label_and_use_at tokens = at (One ALabel) tokens >>= λ y. at (One AUse) y.1 >>= λ z. Ok ((y.0, z.0), z.1)
