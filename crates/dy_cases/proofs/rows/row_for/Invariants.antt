use Rattle.std.proofs.Common.{◌≡◌, map, drop, find}
use Rattle.std.specs.Str.{bytes_eq}
use Rattle.dy_syntax.specs.Meaning.{row_of}
use Rattle.dy_cases.proofs.rows.row_for.Given as goal

-- The first that is left is the first of all.
abbrev pub invariant-loop-row : goal.invariant-loop-row
invariant-loop-row l =
    find (λ row. bytes_eq row.text.text l.text) (map row_of (drop l.row-index l.rows)) ≡ find (λ row. bytes_eq row.text.text l.text) (map row_of l.rows)
