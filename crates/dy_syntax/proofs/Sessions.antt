-- Steps and their sessions, from one place on.
use Rattle.std.proofs.Common.{◌≡◌, ℕ, ◌+◌, ◌<◌, true, Option, Some, List, map, drop, length, get_or, refl}
use Rattle.std.specs.Str.{bytes_eq}
use Rattle.std.specs.List.{flat_map}
use Rattle.std.proofs.lemmas.List.{drop_more}
use Rattle.dy_syntax.specs.declared.plans.Step.{Step}
use Rattle.dy_syntax.specs.declared.rules.sessions.Sessions.{Sessions}
use Rattle.dy_syntax.specs.Meaning.{step_of}
use Rattle.dy_syntax.specs.MirrorMeaning.{sessions_of}
use Rattle.dy_syntax.specs.Rules.{Fault}
use Rattle.dy_syntax.specs.Rules.Plans.{step_in, lines_of_clash, lines_of_same_session}
use Rattle.dy_syntax.specs.MirrorFaults.{note_lines}
use Rattle.dy_syntax.proofs.Noted.{note_lines_append}

-- the step at this place has the name
pub step_found : (xs : List Step) (i : ℕ) (x : Step) (name : List ℕ) → i < length xs → x ≡ get_or xs i x → bytes_eq x.name.word name ≡ true
    → step_in (map step_of (drop i xs)) name ≡ Some (step_of x)
step_found xs i x name in_xs x_is same = rw (drop_more xs i x in_xs, ← x_is, same) refl

-- what is named again
pub sessions_more : (xs : List Sessions) (i : ℕ) (x : Sessions) (least : Option Fault) → i < length xs → x ≡ get_or xs i x
    → note_lines 11 (lines_of_same_session (map sessions_of (drop i xs))) least
    ≡ note_lines 11 (lines_of_same_session (map sessions_of (drop (i + 1) xs))) (note_lines 11 (flat_map (lines_of_clash (sessions_of x)) (map sessions_of (drop (i + 1) xs))) least)
sessions_more xs i x least in_xs x_is =
    rw (drop_more xs i x in_xs, ← x_is, note_lines_append 11 (flat_map (lines_of_clash (sessions_of x)) (map sessions_of (drop (i + 1) xs)))) refl
