-- In a well-formed file a `store` is the last statement of its handler.
use Rattle.std.proofs.Common.{◌≡◌, ℕ, Bool, true, false, List, [], ◌∷◌, ◌++◌, map, Option, Some, None, if◌then◌else◌, inl, inr, refl, ap, sym, subst}
use Rattle.std.specs.Option.{option_to_list}
use Rattle.std.specs.List.{flat_map}
use Rattle.std.specs.Str.{bytes_eq}
use Rattle.dy_syntax.specs.Statements as statements
use Rattle.dy_syntax.specs.Statements.{Statement, OnPart, Act, Store}
use Rattle.dy_syntax.specs.Files.{Decl, Usage, Case, State, Handler, File}
use Rattle.dy_syntax.specs.Files as files
use Rattle.dy_syntax.specs.LookUps.{handler_named}
use Rattle.dy_syntax.specs.Parts.{Bound, Stored, parts_of_act}
use Rattle.dy_syntax.specs.Scopes.{Scope, is_store, with_bound, act_binds, handler_scope, no_scope, bound_first, pattern_binds, on_pats, variables}
use Rattle.dy_syntax.specs.Places.{Place, places_in, decl_places, declared_places, plan_places, body_places, on_places, within, is_empty}
use Rattle.dy_syntax.specs.Rules.{faults_at, IsIn, IsWellFormed}
use Rattle.dy_eval.specs.Lines.{Line, GoesOn, Does, kind_in, lines_of}

pub in_right : {X : Type 0} (x : X) (xs ys : List X) → IsIn x ys → IsIn x (xs ++ ys)
in_right x [] ys at = at
in_right x (z ∷ xs) ys at = inr (in_right x xs ys at)

pub in_left : {X : Type 0} (x : X) (xs ys : List X) → IsIn x xs → IsIn x (xs ++ ys)
in_left x [] ys at = absurd at
in_left x (z ∷ xs) ys (inl here) = inl here
in_left x (z ∷ xs) ys (inr later) = inr (in_left x xs ys later)

in_flat : {X Y : Type 0} (f : X → List Y) (y : Y) (x : X) (xs : List X) → IsIn x xs → IsIn y (f x) → IsIn y (flat_map f xs)
in_flat f y x [] at inner = absurd at
in_flat f y x (z ∷ xs) (inl here) inner = in_left y (f z) (flat_map f xs) (subst (λ w. IsIn y (f w)) (sym here) inner)
in_flat f y x (z ∷ xs) (inr later) inner = in_right y (f z) (flat_map f xs) (in_flat f y x xs later inner)

inside : (a b : statements.Handler) → Some a ≡ Some b → a ≡ b
inside a b same = cc

here_or_later : (handler : statements.Handler) (decls : List Decl) (name : List ℕ) (h : statements.Handler) (b : Bool)
    → (if b then Some handler else handler_named decls name) ≡ Some h → (handler_named decls name ≡ Some h → IsIn (Handler h) decls)
    → IsIn (Handler h) (Handler handler ∷ decls)
here_or_later handler decls name h true same later = inl (ap Handler (inside handler h same))
here_or_later handler decls name h false same later = inr (later same)

-- a handler that is found by its name is declared
handler_in : (decls : List Decl) (name : List ℕ) (h : statements.Handler) → handler_named decls name ≡ Some h → IsIn (Handler h) decls
handler_in [] name h found = absurd cc
handler_in (Handler handler ∷ decls) name h found = here_or_later handler decls name h (bytes_eq handler.name.word name) found (handler_in decls name h)
handler_in (Usage usage ∷ decls) name h found = inr (handler_in decls name h found)
handler_in (Case case ∷ decls) name h found = inr (handler_in decls name h found)
handler_in (files.Event event ∷ decls) name h found = inr (handler_in decls name h found)
handler_in (State state ∷ decls) name h found = inr (handler_in decls name h found)

-- each `store` in it is the last one
abbrev pub StoresLast : List Statement → Type 0
StoresLast [] = Unit {0}
StoresLast (statement ∷ rest) = (is_store statement.act ≡ true → rest ≡ []) × StoresLast rest

module _ (file : File) (fine : IsWellFormed file) where
  no_fault : (place : Place) → IsIn place (places_in file) → (rule line : ℕ) → IsIn (record { line = line; rule = rule }) (faults_at file place) → ⊥
  no_fault place at rule line fault = fine rule line (record { place = place; of_file = at; fault = fault })

  stored_last : (scope : Scope) (line : ℕ) (rest : List Statement) (act : Act)
      → ((place : Place) → IsIn place (within scope (parts_of_act line (is_empty rest) act)) → IsIn place (places_in file))
      → is_store act ≡ true → rest ≡ []
  stored_last scope line [] act places stores = refl
  stored_last scope line (next ∷ more) (Store state fields) places stores =
      absurd (no_fault (record { scope = scope; part = Stored line false }) (places _ (inl refl)) 9 line (inl refl))
  stored_last scope line (next ∷ more) act places stores = absurd cc

  body_stores_last : (scope : Scope) (body : List Statement) → ((place : Place) → IsIn place (body_places scope body) → IsIn place (places_in file)) → StoresLast body
  body_stores_last scope [] places = tt
  body_stores_last scope (statement ∷ rest) places =
      let own = within scope (parts_of_act statement.line (is_empty rest) statement.act) in
      let inner = with_bound scope (act_binds statement.act) in (
        stored_last scope statement.line rest statement.act (λ place at. places place (in_left place own (body_places inner rest) at)),
        body_stores_last inner rest (λ place at. places place (in_right place own (body_places inner rest) at)),
      )

  handler_stores_last : (name : List ℕ) (h : statements.Handler) → handler_named file.decls name ≡ Some h → StoresLast h.body
  handler_stores_last name h found =
      let first = handler_scope h (bound_first h) in
      let scope = with_bound first (flat_map pattern_binds (on_pats h)) in
      let before = within no_scope (Bound (variables h) ∷ []) ++ on_places first h.on in
      body_stores_last scope h.body (λ place at.
      in_right place (declared_places file.decls) (flat_map (decl_places file.decls) file.decls ++ plan_places file.plan.rounds)
      (in_left place (flat_map (decl_places file.decls) file.decls) (plan_places file.plan.rounds)
      (in_flat (decl_places file.decls) place (Handler h) file.decls (handler_in file.decls name h found)
      (in_right place before (body_places scope h.body) at))))

-- the line is a `store`
abbrev pub is_store_line : Line → Bool
is_store_line (GoesOn on) = false
is_store_line (Does kind act) = is_store act

-- the same of the lines of a handler that runs
abbrev pub LinesStoreLast : List Line → Type 0
LinesStoreLast [] = Unit {0}
LinesStoreLast (line ∷ rest) = (is_store_line line ≡ true → rest ≡ []) × LinesStoreLast rest

module _ (decls : List Decl) where
  body_lines : (body : List Statement) → StoresLast body → LinesStoreLast (map (λ s. Does (kind_in decls s.act) s.act) body)
  body_lines [] last = tt
  body_lines (statement ∷ rest) last = ((λ stores. ap (λ ss. map (λ s. Does (kind_in decls s.act) s.act) ss) (last.0 stores)), body_lines rest last.1)

  with_on : (on : Option OnPart) (lines : List Line) → LinesStoreLast lines → LinesStoreLast (map GoesOn (option_to_list on) ++ lines)
  with_on None lines last = last
  with_on (Some on) lines last = ((λ stores. absurd cc), last)

-- the lines of each declared handler
pub lines_store_last : (file : File) → IsWellFormed file → (name : List ℕ) (h : statements.Handler) → handler_named file.decls name ≡ Some h → LinesStoreLast (lines_of file.decls h)
lines_store_last file fine name h found =
    with_on file.decls h.on (map (λ s. Does (kind_in file.decls s.act) s.act) h.body) (body_lines file.decls h.body (handler_stores_last file fine name h found))
