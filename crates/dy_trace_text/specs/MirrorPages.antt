-- How the code writes a line: part after part, each with a space before it. It mirrors the code: `ListText` defines
-- what a line is.
use Rattle.std.specs.Prelude.{ℕ, List, [], ◌∷◌, ◌++◌, codes}

-- what was written, and then one part more
abbrev pub put_part : List ℕ → List ℕ → List ℕ
put_part page part = page ++ (codes " " ++ part)

abbrev pub put_parts : List ℕ → List (List ℕ) → List ℕ
put_parts page [] = page
put_parts page (part ∷ more) = put_parts (put_part page part) more
