-- The statements of a handler, from one place on.
use Rattle.std.proofs.Common.{◌≡◌, ℕ, ◌+◌, ◌-◌, ◌<◌, ◌==◌, ◌∙◌, sym, true, false, Option, List, [], ◌∷◌, map, drop, length, get_or, refl, arith, inl, inr}
use Rattle.std.proofs.lemmas.Bool.{cases_lt, eq-eqb, ne_eqb}
use Rattle.std.proofs.lemmas.List.{drop_more, length-map, length-drop}
use Rattle.dy_syntax.specs.declared.statements.Statement.{Statement}
use Rattle.dy_syntax.specs.Files.{File}
use Rattle.dy_syntax.specs.Meaning.{act_of, statement_of}
use Rattle.dy_syntax.specs.Scopes.{Scope, with_bound, act_binds}
use Rattle.dy_syntax.specs.Parts.{parts_of_act}
use Rattle.dy_syntax.specs.Places.{is_empty, body_places}
use Rattle.dy_syntax.specs.Rules.{Fault}
use Rattle.dy_syntax.specs.MirrorFaults.{note_parts, note_places}
use Rattle.dy_syntax.proofs.Noted.{note_places_append, note_within}

empty_at_none : {X : Type 0} (xs : List X) → length xs ≡ 0 → is_empty xs ≡ true
empty_at_none [] h = refl
empty_at_none (x ∷ xs) h = absurd (omega arith)

not_empty : {X : Type 0} (xs : List X) → 0 < length xs → is_empty xs ≡ false
not_empty [] h = absurd (omega arith)
not_empty (x ∷ xs) h = refl

-- the statement at this place is the last one
is_last : (xs : List Statement) (i : ℕ) → i < length xs → is_empty (map statement_of (drop (i + 1) xs)) ≡ (i + 1 == length xs)
is_last xs i in_xs =
    let rest : length (map statement_of (drop (i + 1) xs)) ≡ length xs - (i + 1) = length-map (drop (i + 1) xs) statement_of ∙ length-drop (i + 1) xs in
    elim (cases_lt (i + 1) (length xs)) [
      | inl more ↦ not_empty _ (omega (arith, rest)) ∙ sym (ne_eqb (i + 1) (length xs) (λ e. omega (arith, e)))
      | inr done ↦ empty_at_none _ (omega (arith, rest)) ∙ sym (eq-eqb (i + 1) (length xs) (omega arith))
    ]

pub body_more : (file : File) (scope : Scope) (xs : List Statement) (i : ℕ) (x : Statement) (least : Option Fault)
    → i < length xs → x ≡ get_or xs i x
    → note_places file (body_places scope (map statement_of (drop i xs))) least
    ≡ note_places file (body_places (with_bound scope (act_binds (act_of x.act))) (map statement_of (drop (i + 1) xs)))
    (note_parts file scope (parts_of_act x.line (i + 1 == length xs) (act_of x.act)) least)
body_more file scope xs i x least in_xs x_is =
    rw (drop_more xs i x in_xs, ← x_is, note_places_append file, note_within file scope, is_last xs i in_xs) refl
