-- When words stand for the same in a trace as in the typing rules.
use Rattle.std.specs.Prelude.{◌≡◌, ℕ, true, false, List, map, Option, Some}
use Rattle.std.specs.Option.{option_map}
use Rattle.dy_label.specs.Words.{Atom, ThisSession, Choice, place_of}
use Rattle.dy_syntax.specs.Names.{Id, Nm}
use Rattle.dy_syntax.specs.Scopes.{Scope, InHandler, is_among, is_bound}
use Rattle.dy_syntax.specs.Rules.Words.{has_session, has_here, has_versions}
use Rattle.dy_typing.specs.Names.{Setting, Stands, stands_for, stands_number}
use Rattle.dy_eval.specs.Names.{Names, bytes_at, bytes_for}
use Rattle.dy_sound.specs.Fields.{IsName}
use Rattle.dy_sound.specs.Words.{Words, value_meant, principal_meant}
use Rattle.dy_sound.specs.Names.{Agrees}
use Rattle.dy_sound.specs.InScope.{IsNamed}

-- the words in whose place something is written
abbrev pub words_written : Names → List (List ℕ)
words_written names = map (λ w. w.word) names.written

-- a handler's scope in an instance: its names, and the words in whose place something is written
abbrev pub scope_in : List (List ℕ) → Names → Scope
scope_in handler_words names =
    record { place = InHandler true true; names = handler_words; bound = words_written names }

-- The choice agrees with what is written in the instance, and in the place of a handler's name a name is written.
pub record HandlerMatches (handler_words : List (List ℕ)) (newest : ℕ) (names : Names) (choice : Choice) : Type 0 where
  pub agrees : Agrees handler_words newest names choice
  pub are_names : (id : Id) → is_among id.word handler_words ≡ true → is_among id.word (words_written names) ≡ true
      → IsName (bytes_at names id.word)

-- There is a number and a principal, and the name of this number stands for this principal.
pub record IsPrincipalOf (choice : Choice) (number : Option ℕ) (principal : Option (List ℕ)) : Type 0 where
  pub of_name : ℕ
  pub number_is : number ≡ Some of_name
  pub principal_is : principal ≡ Some (choice.principals of_name)

-- A declaration's words stand for the same in a trace as in a handler. `stands` has what the handler has in the place
-- of its parameters and fields, and `words` their values in the trace. `here` is the version that a state has.
pub record Matches (setting : Setting) (choice : Choice) (names : Names) (scope : Scope) (stands : Stands)
    (here : Option Atom) (words : Words) : Type 0 where
  pub principals_match : (name : Nm) → IsNamed scope name
      → IsPrincipalOf choice (stands_number setting stands name) (principal_meant words name)
  pub session_matches : has_session scope.place ≡ true → words.session ≡ Some (place_of choice ThisSession)
  pub here_matches : has_here scope.place ≡ true → words.here ≡ option_map (place_of choice) here
  pub has_no_versions : has_versions scope.place ≡ false
  pub values_match : (name given : Nm) → is_bound scope name ≡ true → stands_for stands name ≡ Some given
      → value_meant words name ≡ Some (bytes_for names given)
