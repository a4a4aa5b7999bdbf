-- What is found by name is declared, and so it is short where all declarations are.
use Rattle.std.proofs.Common.{◌≡◌, ℕ, Bool, true, false, ◌&&◌, List, [], ◌∷◌, Contains, Option, Some, None, if◌then◌else◌, refl, sym, subst}
use Rattle.std.specs.Str.{bytes_eq}
use Rattle.dy_syntax.specs.Declarations.{CaseDecl, EventDecl, StateDecl}
use Rattle.dy_syntax.specs.Files.{Decl, Usage, Case, Event, State, Handler}
use Rattle.dy_syntax.specs.LookUps.{case_named, event_named, state_named}
use Rattle.dy_check.specs.Range.{AreShort, CaseIsShort, EventIsShort, StateIsShort, IsShort}
use Rattle.dy_check.proofs.Members.{in_first, in_later}

fewer : (decl : Decl) (decls : List Decl) → AreShort (decl ∷ decls) → AreShort decls
fewer decl decls h = λ other among. h other (in_later decl other decls among)

-- what is chosen, where a test decides between the first and what is found later
chosen : {A : Type 0} (P : A → Type 0) (b : Bool) (x : A) (later : Option A) (y : A) → P x → (later ≡ Some y → P y) → (if b then Some x else later) ≡ Some y → P y
chosen {A} P true x later y p h is = let same : x ≡ y = cc in subst P same p
chosen P false x later y p h is = h is

pub short_case : (decls : List Decl) (usage tag : List ℕ) (case : CaseDecl) → AreShort decls → case_named decls usage tag ≡ Some case → CaseIsShort case
short_case [] usage tag case h is = cc
short_case (Case other ∷ decls) usage tag case h is =
    chosen CaseIsShort (bytes_eq other.usage.word usage && bytes_eq other.tag.text tag) other (case_named decls usage tag) case
    (h (Case other) (in_first (Case other) decls)) (short_case decls usage tag case (fewer (Case other) decls h)) is
short_case (Usage other ∷ decls) usage tag case h is = short_case decls usage tag case (fewer (Usage other) decls h) is
short_case (Event other ∷ decls) usage tag case h is = short_case decls usage tag case (fewer (Event other) decls h) is
short_case (State other ∷ decls) usage tag case h is = short_case decls usage tag case (fewer (State other) decls h) is
short_case (Handler other ∷ decls) usage tag case h is = short_case decls usage tag case (fewer (Handler other) decls h) is

pub short_event : (decls : List Decl) (name : List ℕ) (event : EventDecl) → AreShort decls → event_named decls name ≡ Some event → EventIsShort event
short_event [] name event h is = cc
short_event (Event other ∷ decls) name event h is =
    chosen EventIsShort (bytes_eq other.name.word name) other (event_named decls name) event
    (h (Event other) (in_first (Event other) decls)) (short_event decls name event (fewer (Event other) decls h)) is
short_event (Usage other ∷ decls) name event h is = short_event decls name event (fewer (Usage other) decls h) is
short_event (Case other ∷ decls) name event h is = short_event decls name event (fewer (Case other) decls h) is
short_event (State other ∷ decls) name event h is = short_event decls name event (fewer (State other) decls h) is
short_event (Handler other ∷ decls) name event h is = short_event decls name event (fewer (Handler other) decls h) is

pub short_state : (decls : List Decl) (name : List ℕ) (state : StateDecl) → AreShort decls → state_named decls name ≡ Some state → StateIsShort state
short_state [] name state h is = cc
short_state (State other ∷ decls) name state h is =
    chosen StateIsShort (bytes_eq other.name.word name) other (state_named decls name) state
    (h (State other) (in_first (State other) decls)) (short_state decls name state (fewer (State other) decls h)) is
short_state (Usage other ∷ decls) name state h is = short_state decls name state (fewer (Usage other) decls h) is
short_state (Case other ∷ decls) name state h is = short_state decls name state (fewer (Case other) decls h) is
short_state (Event other ∷ decls) name state h is = short_state decls name state (fewer (Event other) decls h) is
short_state (Handler other ∷ decls) name state h is = short_state decls name state (fewer (Handler other) decls h) is
