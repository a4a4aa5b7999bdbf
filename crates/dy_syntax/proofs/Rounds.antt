-- The rounds of a plan, from one place on.
use Rattle.std.proofs.Common.{◌≡◌, ℕ, ◌+◌, ◌<◌, Option, List, map, drop, length, get_or, refl}
use Rattle.std.specs.List.{flat_map}
use Rattle.std.proofs.lemmas.List.{drop_more}
use Rattle.dy_syntax.specs.declared.plans.Round.{Round}
use Rattle.dy_syntax.specs.Files.{File}
use Rattle.dy_syntax.specs.Meaning.{step_of, round_of}
use Rattle.dy_syntax.specs.Plans as p
use Rattle.dy_syntax.specs.Scopes.{Scope}
use Rattle.dy_syntax.specs.Parts.{Together}
use Rattle.dy_syntax.specs.Places.{parts_of_action, parts_of_rounds}
use Rattle.dy_syntax.specs.Rules.{Fault}
use Rattle.dy_syntax.specs.MirrorFaults.{note_part, note_parts}
use Rattle.dy_syntax.proofs.Noted.{note_parts_append}

pub rounds_more : (file : File) (scope : Scope) (xs : List Round) (i : ℕ) (x : Round) (least : Option Fault) → i < length xs → x ≡ get_or xs i x
    → note_parts file scope (parts_of_rounds i (map round_of (drop i xs))) least
    ≡ note_parts file scope (parts_of_rounds (i + 1) (map round_of (drop (i + 1) xs)))
    (note_parts file scope (flat_map (λ (s : p.Step). parts_of_action i s.action) (map step_of x.steps)) (note_part file scope (Together (map step_of x.steps)) least))
rounds_more file scope xs i x least in_xs x_is =
    rw (drop_more xs i x in_xs, ← x_is, note_parts_append file scope (flat_map (λ (s : p.Step). parts_of_action i s.action) (map step_of x.steps))) refl
