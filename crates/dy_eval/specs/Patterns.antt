-- Patterns, and the fields that they are matched against.
use Rattle.std.specs.Prelude.{ℕ, zero, suc, Bool, true, false, ◌&&◌, List, [], ◌∷◌, ◌++◌, map, length}
use Rattle.std.specs.Prelude.{Option, Some, None, if◌then◌else◌}
use Rattle.std.specs.Option.{option_map, option_to_list, is_some}
use Rattle.dy_term.specs.Terms.{Term, Lit, Pair}
use Rattle.dy_term.specs.Sameness.{is_same}
use Rattle.dy_syntax.specs.Names.{Id, Quote}
use Rattle.dy_syntax.specs.Statements.{Pattern, Bind, Named, Equal}
use Rattle.dy_eval.specs.declared.written.Written.{Written}
use Rattle.dy_eval.specs.Doings.{Effect, Writes, Fails}
use Rattle.dy_eval.specs.Names.{Names, bytes_for, principal_in}

-- A variable takes every value, `name y` takes names alone, and `=y` takes the value of y.
abbrev pub fits_one : Names → Pattern → Term → Bool
fits_one names (Bind name) field = true
fits_one names (Named line name) field = is_some (principal_in field)
fits_one names (Equal line to) field = is_same field (bytes_for names to)

-- The fields are as many as the patterns, and each fits its own.
abbrev pub fits : Names → List Pattern → List Term → Bool
fits names [] [] = true
fits names (pattern ∷ patterns) (field ∷ fields) = fits_one names pattern field && fits names patterns fields
fits names _ _ = false

-- the variable of a pattern that takes the value
abbrev pub variable_in : Pattern → Option Id
variable_in (Bind name) = Some name
variable_in (Named line name) = Some name
variable_in (Equal line to) = None

-- what a pattern writes in place of its variable
abbrev pub written_by_one : Pattern → Term → List Written
written_by_one pattern field =
    map (λ id. record { word = id.word; bytes = field }) (option_to_list (variable_in pattern))

-- what patterns write, each of its own field
abbrev pub written_by : List Pattern → List Term → List Written
written_by (pattern ∷ patterns) (field ∷ fields) = written_by_one pattern field ++ written_by patterns fields
written_by _ _ = []

-- Patterns are matched against fields.
abbrev pub match_patterns : Names → List Pattern → List Term → Effect
match_patterns names patterns fields = if fits names patterns fields then Writes (written_by patterns fields) else Fails

-- The first of so many terms that are nested to the right as pairs, and those after it; one more than the number.
abbrev pub terms_in : ℕ → Term → Option (List Term)
terms_in zero term = Some (term ∷ [])
terms_in (suc more) (Pair first rest) = option_map (λ terms. first ∷ terms) (terms_in more rest)
terms_in (suc more) _ = None

-- the fields of a tuple of this tag and so many fields
abbrev pub fields_in : List ℕ → ℕ → Term → Option (List Term)
fields_in tag zero term = if is_same term (Lit tag) then Some [] else None
fields_in tag (suc more) (Pair first rest) = if is_same first (Lit tag) then terms_in more rest else None
fields_in tag (suc more) _ = None

-- The fields, if there are any, are matched.
abbrev pub match_if : Names → List Pattern → Option (List Term) → Effect
match_if names patterns None = Fails
match_if names patterns (Some fields) = match_patterns names patterns fields

-- The message, if there is one, must be a tuple of this tag with as many fields as patterns, and they are matched.
abbrev pub match_tuple : Names → Quote → List Pattern → Option Term → Effect
match_tuple names tag patterns None = Fails
match_tuple names tag patterns (Some message) = match_if names patterns (fields_in tag.text (length patterns) message)
