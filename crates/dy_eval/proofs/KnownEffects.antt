-- Effects that are known in part.
use Rattle.std.proofs.Common.{◌≡◌, ◌∙◌, ap, ℕ, true, false, Some, None, List, refl}
use Rattle.std.specs.Option.{option_and_then}
use Rattle.std.specs.Str.{bytes_eq}
use Rattle.dy_term.specs.Terms.{Term}
use Rattle.dy_syntax.specs.Statements.{OnPart}
use Rattle.dy_entry.specs.Entries.{Entry}
use Rattle.dy_entry.specs.LookUps.{state_at, newest}
use Rattle.dy_eval.specs.declared.items.Item.{Item}
use Rattle.dy_eval.specs.Doings.{Puts, Fails}
use Rattle.dy_eval.specs.Names.{Names}
use Rattle.dy_eval.specs.Values.{are_small}
use Rattle.dy_eval.specs.Patterns.{match_patterns, match_if}
use Rattle.dy_eval.specs.Past.{Stored, state_in, fields_tagged, go_on}
use Rattle.dy_eval.specs.Effects.{puts_all}

pub puts_small : (item : List Term → Item) (terms : List Term) → are_small terms ≡ true → puts_all item terms ≡ Puts (item terms) None
puts_small item terms small = rw small refl

pub puts_none : (item : List Term → Item) (terms : List Term) → are_small terms ≡ false → puts_all item terms ≡ Fails
puts_none item terms large = rw large refl

-- a handler goes on from what is stored as the newest version
pub gone_on_found : (X : List Entry) (names : Names) (on : OnPart) (index : ℕ) (s : Stored)
    → state_at X names.principal names.session (newest X names.principal names.session) ≡ Some index → state_in X index ≡ Some s
    → bytes_eq s.tag on.state.word ≡ true → go_on X names on ≡ match_patterns names on.pats s.fields
gone_on_found X names on index s at is tagged =
    ap (λ found. match_if names on.pats (option_and_then (fields_tagged on.state.word) (option_and_then (state_in X) found))) at
    ∙ ap (λ found. match_if names on.pats (option_and_then (fields_tagged on.state.word) found)) is
    ∙ rw tagged refl
