-- A look-up by name finds the first declaration of that name.
use Rattle.std.proofs.Common.{◌≡◌, ℕ, ◌&&◌, cond, List, [], ◌∷◌, Option, Some, find, refl, ap, ◌∙◌}
use Rattle.std.specs.Bool.{Decides}
use Rattle.std.specs.List.{filter_map}
use Rattle.std.specs.Str.{bytes_eq}
use Rattle.std.proofs.lemmas.Bool.{and_parts, and_from}
use Rattle.std.proofs.lemmas.Slice.Eq.{bytes_eq-Decides}
use Rattle.dy_syntax.specs.Declarations as d
use Rattle.dy_syntax.specs.Files.{Decl, Usage, Case, Event, State, Handler}
use Rattle.dy_syntax.specs.LookUps.{usage_named, case_named, event_named, state_named}
use Rattle.dy_cases.specs.DeclaredParts.{usage_in, case_in, event_in, state_in}
use Rattle.dy_cases.specs.MirrorTables.{Pair, same_pair, usage_name, case_name, event_name, state_name}

pub same_pair-Decides : (pair other : Pair) → Decides (same_pair pair other) (pair ≡ other)
same_pair-Decides pair other = (
  λ h.
      let parts = and_parts (bytes_eq pair.0 other.0) (bytes_eq pair.1 other.1) h in
      ap (λ (usage : List ℕ). (usage, pair.1)) ((bytes_eq-Decides pair.0 other.0).0 parts.0)
      ∙ ap (λ (tag : List ℕ). (other.0, tag)) ((bytes_eq-Decides pair.1 other.1).0 parts.1),
  λ h.
      and_from (bytes_eq pair.0 other.0) (bytes_eq pair.1 other.1)
      ((bytes_eq-Decides pair.0 other.0).1 (ap (λ (p : Pair). p.0) h)) ((bytes_eq-Decides pair.1 other.1).1 (ap (λ (p : Pair). p.1) h)),
)

pub usage_named-find : (decls : List Decl) (name : List ℕ) → usage_named decls name ≡ find (λ usage. bytes_eq (usage_name usage) name) (filter_map usage_in decls)
usage_named-find [] name = refl
usage_named-find (Usage usage ∷ decls) name = ap (λ (o : Option d.UsageDecl). cond (bytes_eq usage.name.word name) (Some usage) o) (usage_named-find decls name)
usage_named-find (Case case ∷ decls) name = usage_named-find decls name
usage_named-find (Event event ∷ decls) name = usage_named-find decls name
usage_named-find (State state ∷ decls) name = usage_named-find decls name
usage_named-find (Handler handler ∷ decls) name = usage_named-find decls name

pub case_named-find : (decls : List Decl) (usage tag : List ℕ) → case_named decls usage tag ≡ find (λ case. same_pair (case_name case) (usage, tag)) (filter_map case_in decls)
case_named-find [] usage tag = refl
case_named-find (Case case ∷ decls) usage tag =
    ap (λ (o : Option d.CaseDecl). cond (bytes_eq case.usage.word usage && bytes_eq case.tag.text tag) (Some case) o) (case_named-find decls usage tag)
case_named-find (Usage other ∷ decls) usage tag = case_named-find decls usage tag
case_named-find (Event event ∷ decls) usage tag = case_named-find decls usage tag
case_named-find (State state ∷ decls) usage tag = case_named-find decls usage tag
case_named-find (Handler handler ∷ decls) usage tag = case_named-find decls usage tag

pub event_named-find : (decls : List Decl) (name : List ℕ) → event_named decls name ≡ find (λ event. bytes_eq (event_name event) name) (filter_map event_in decls)
event_named-find [] name = refl
event_named-find (Event event ∷ decls) name = ap (λ (o : Option d.EventDecl). cond (bytes_eq event.name.word name) (Some event) o) (event_named-find decls name)
event_named-find (Usage usage ∷ decls) name = event_named-find decls name
event_named-find (Case case ∷ decls) name = event_named-find decls name
event_named-find (State state ∷ decls) name = event_named-find decls name
event_named-find (Handler handler ∷ decls) name = event_named-find decls name

pub state_named-find : (decls : List Decl) (name : List ℕ) → state_named decls name ≡ find (λ state. bytes_eq (state_name state) name) (filter_map state_in decls)
state_named-find [] name = refl
state_named-find (State state ∷ decls) name = ap (λ (o : Option d.StateDecl). cond (bytes_eq state.name.word name) (Some state) o) (state_named-find decls name)
state_named-find (Usage usage ∷ decls) name = state_named-find decls name
state_named-find (Case case ∷ decls) name = state_named-find decls name
state_named-find (Event event ∷ decls) name = state_named-find decls name
state_named-find (Handler handler ∷ decls) name = state_named-find decls name
