-- The handlers of a file, one more at a time.
use Rattle.std.proofs.Common.{◌≡◌, List, [], ◌∷◌, ◌++◌, Contains, Some, subst, inl, inr}
use Rattle.std.proofs.lemmas.List.Elements.{Contains-append_right, Contains-append_cases}
use Rattle.dy_syntax.specs.Statements as statements
use Rattle.dy_syntax.specs.Files.{Decl, Usage, Case, Event, State, Handler}
use Rattle.dy_cases.specs.DeclaredParts.{handler_in, handlers_in}
use Rattle.dy_typing.specs.Typing.{HasDerivation, AreTyped}
use Rattle.dy_check.specs.Range.{HasFewNames, IsShort, AreShort}
use Rattle.dy_check.proofs.Members.{in_first, in_one, from_filter_map}

-- an element between those before it and those after it
pub in_middle : {A : Type 0} (before : List A) (x : A) (after : List A) → Contains (before ++ x ∷ after) x
in_middle before x after = Contains-append_right before (x ∷ after) x (in_first x after)

short_handler : (decl : Decl) (handler : statements.Handler) → handler_in decl ≡ Some handler → IsShort decl → HasFewNames handler
short_handler (Handler one) handler is h =
    let same : one ≡ handler = cc in
    subst HasFewNames same h
short_handler (Usage usage) handler is h = cc
short_handler (Case case) handler is h = cc
short_handler (Event event) handler is h = cc
short_handler (State state) handler is h = cc

-- Each handler of a file whose declarations are short has few names.
pub handler_is_short : (decls : List Decl) (handler : statements.Handler) → AreShort decls → Contains (handlers_in decls) handler → HasFewNames handler
handler_is_short decls handler short h =
    let found = from_filter_map handler_in decls handler h in
    short_handler found.0 handler found.2 (short found.0 found.1)

-- one typed handler more
pub AreTyped-more : (decls : List Decl) (handlers : List statements.Handler) (handler : statements.Handler) → AreTyped decls handlers
    → HasDerivation decls handler → AreTyped decls (handlers ++ handler ∷ [])
AreTyped-more decls handlers handler typed one other h = elim (Contains-append_cases handlers (handler ∷ []) other h) [
  | inl before ↦ typed other before
  | inr last ↦ subst (λ (x : statements.Handler). HasDerivation decls x) (in_one handler other last) one
]
