-- What the words of a handler may stand for in an instance of it.
use Rattle.std.specs.Prelude.{◌≡◌, ℕ, zero, suc, ◌+◌, List, find, Option, Some, unwrap_or, slice_get}
use Rattle.std.specs.Option.{option_map, option_and_then}
use Rattle.std.specs.Str.{bytes_eq}
use Rattle.dy_term.specs.Terms as trees
use Rattle.dy_term.specs.Terms.{Term}
use Rattle.dy_label.specs.Words.{Choice}
use Rattle.dy_syntax.specs.Names.{Id, Named}
use Rattle.dy_typing.specs.Names.{number_in}
use Rattle.dy_eval.specs.Names.{Names, principal_in}

-- the value of the variable of this number: `self` has number 0, and the others are numbered as they were written
abbrev pub value_numbered : Names → ℕ → Term
value_numbered names zero = trees.Name names.principal
value_numbered names (suc number) =
    unwrap_or (option_map (λ w. w.bytes) (slice_get names.written number)) (trees.Name names.principal)

-- the principal whose name is written in place of a word
abbrev pub principal_written : Names → List ℕ → Option (List ℕ)
principal_written names word =
    option_and_then (λ w. principal_in w.bytes) (find (λ w. bytes_eq w.word word) names.written)

-- The choice agrees with what is written so far in an instance, where this was the newest version of its session when
-- it began. A handler's name in whose place a principal's name is written stands for that principal. A name in whose
-- place nothing is written yet may stand for any.
pub record Agrees (handler_words : List (List ℕ)) (newest : ℕ) (names : Names) (choice : Choice) : Type 0 where
  pub self : choice.principals 0 ≡ names.principal
  pub session : choice.session ≡ names.session
  pub prior : choice.prior ≡ newest
  pub next : choice.next ≡ newest + 1
  pub named : (id : Id) (number : ℕ) (principal : List ℕ) → number_in handler_words (Named id) ≡ Some number
      → principal_written names id.word ≡ Some principal → choice.principals number ≡ principal
