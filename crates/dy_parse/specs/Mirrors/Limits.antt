-- How the code finds the first limit that is broken: it keeps the least one so far.
use Rattle.std.specs.Prelude.{ℕ, ◌-◌, ◌==◌, ◌&&◌, ◌||◌, Bool, true, false, nat_lt, List, [], ◌∷◌, ◌++◌, Option, Some, None, if◌then◌else◌}
use Rattle.std.specs.Option.{option_map}
use Rattle.std.specs.List.{list_any}
use Rattle.std.specs.Str.{bytes_eq}
use Rattle.dy_syntax.specs.Names.{Id}
use Rattle.dy_parse.specs.declared.limits.least.Broken as broken
use Rattle.dy_parse.specs.declared.limits.least.First as first
use Rattle.dy_parse.specs.declared.limits.counts.Count.{Count}
use Rattle.dy_parse.specs.declared.limits.counts.Count.TheVariants.{Room, Past}
use Rattle.dy_parse.specs.declared.limits.principals.Met as met
use Rattle.dy_parse.specs.Limits.{Excess, number}

abbrev pub excess_of : broken.Broken → Excess
excess_of x = record { which = x.which; line = x.line }

abbrev pub first_of : first.First → Option Excess
first_of f = option_map excess_of f.found

-- by line, and on one line by number
abbrev pub is_before : Excess → Excess → Bool
is_before a b = nat_lt a.line b.line || (a.line == b.line && nat_lt (number a.which) (number b.which))

-- the first one, with one more
abbrev pub note : Excess → Option Excess → Option Excess
note x None = Some x
note x (Some first) = if is_before x first then Some x else Some first

-- with all of these
abbrev pub note_all : List Excess → Option Excess → Option Excess
note_all [] first = first
note_all (x ∷ xs) first = note_all xs (note x first)

-- ---- lists that are counted piece by piece

-- one more member, on this line
abbrev pub count_one : ℕ → Count → Count
count_one line (Room n) = if n == 0 then Past line else Room (n - 1)
count_one line (Past first) = Past first

abbrev pub count_all : List ℕ → Count → Count
count_all [] count = count
count_all (line ∷ lines) count = count_all lines (count_one line count)

-- the line of the first that is too many
abbrev pub past : Count → List ℕ
past (Room n) = []
past (Past line) = line ∷ []

abbrev pub is_past : Count → Bool
is_past (Room n) = false
is_past (Past line) = true

-- ---- different principals

-- the words so far, and how many they are
pub record Met : Type 0 where
  pub words : List (List ℕ)
  pub count : Count

abbrev pub met_of : met.Met → Met
met_of m = record { words = m.words.items; count = m.count }

-- with one more principal
abbrev pub meet : Id → Met → Met
meet id met =
    if is_past met.count || list_any (λ word. bytes_eq word id.word) met.words then met
    else record { words = met.words ++ id.word ∷ []; count = count_one id.line met.count }

abbrev pub meet_all : List Id → Met → Met
meet_all [] met = met
meet_all (id ∷ ids) met = meet_all ids (meet id met)
