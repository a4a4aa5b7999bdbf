-- The parts of a handler's statement are places of its file, in the scope of what is bound before the statement.
use Rattle.std.proofs.Common.{◌≡◌, ℕ, List, [], ◌∷◌, ◌++◌, map, Contains, inl, inr, sym, ap, subst, ◌∙◌, append_assoc}
use Rattle.std.specs.List.{flat_map}
use Rattle.std.proofs.lemmas.List.{append-nil, map-append}
use Rattle.dy_syntax.specs.Names.{Id}
use Rattle.dy_syntax.specs.Statements as statements
use Rattle.dy_syntax.specs.Statements.{Statement}
use Rattle.dy_syntax.specs.Files.{Handler, File}
use Rattle.dy_syntax.specs.Scopes as scopes
use Rattle.dy_syntax.specs.Scopes.{Scope, words_of, handler_scope, with_bound, pattern_binds, on_pats, act_binds}
use Rattle.dy_syntax.specs.Parts.{Part, parts_of_act}
use Rattle.dy_syntax.specs.Places.{Place, within, is_empty, on_places, body_places, handler_places, decl_places, declared_places, plan_places, places_in}
use Rattle.dy_syntax.specs.Rules.{IsIn}
use Rattle.dy_sound.proofs.Lists.{Contains-none, Contains-cases}
use Rattle.dy_sound.specs.StatementsAreSound.{bound_after}

pub IsIn-left : {A : Type 0} (x : A) (xs ys : List A) → IsIn x xs → IsIn x (xs ++ ys)
IsIn-left x [] ys h = absurd h
IsIn-left x (y ∷ xs) ys (inl is) = inl is
IsIn-left x (y ∷ xs) ys (inr later) = inr (IsIn-left x xs ys later)

pub IsIn-right : {A : Type 0} (x : A) (xs ys : List A) → IsIn x ys → IsIn x (xs ++ ys)
IsIn-right x [] ys h = h
IsIn-right x (y ∷ xs) ys h = inr (IsIn-right x xs ys h)

pub IsIn-map : {A B : Type 0} (f : A → B) (x : A) (xs : List A) → IsIn x xs → IsIn (f x) (map f xs)
IsIn-map f x [] h = absurd h
IsIn-map f x (y ∷ xs) (inl is) = inl (ap f is)
IsIn-map f x (y ∷ xs) (inr later) = inr (IsIn-map f x xs later)

pub IsIn-from : {A : Type 0} (x : A) (xs : List A) → Contains xs x → IsIn x xs
IsIn-from x [] h = absurd (Contains-none x h)
IsIn-from x (y ∷ xs) h = elim (Contains-cases y xs x h) [ inl is ↦ inl is | inr later ↦ inr (IsIn-from x xs later) ]

pub IsIn-flat_map : {A B : Type 0} (f : A → List B) (x : A) (y : B) (xs : List A) → IsIn x xs → IsIn y (f x) → IsIn y (flat_map f xs)
IsIn-flat_map f x y [] h of_x = absurd h
IsIn-flat_map {B = B} f x y (z ∷ xs) (inl is) of_x = IsIn-left y (f z) (flat_map f xs) (subst (λ one. IsIn y (f one)) (sym is) of_x)
IsIn-flat_map f x y (z ∷ xs) (inr later) of_x = IsIn-right y (f z) (flat_map f xs) (IsIn-flat_map f x y xs later of_x)

-- what is seen after these statements
abbrev seen : Scope → List Statement → Scope
seen scope [] = scope
seen scope (statement ∷ done) = seen (with_bound scope (act_binds statement.act)) done

in_body : (scope : Scope) (done later : List Statement) (statement : Statement) (part : Part) → IsIn part (parts_of_act statement.line (is_empty later) statement.act)
    → IsIn (record { scope = seen scope done; part = part }) (body_places scope (done ++ statement ∷ later))
in_body scope [] later statement part h =
    IsIn-left (record { scope = scope; part = part }) (within scope (parts_of_act statement.line (is_empty later) statement.act)) (body_places (with_bound scope (act_binds statement.act)) later)
    (IsIn-map (λ (p : Part). record { scope = scope; part = p }) part (parts_of_act statement.line (is_empty later) statement.act) h)
in_body scope (first ∷ done) later statement part h =
    IsIn-right (record { scope = seen (with_bound scope (act_binds first.act)) done; part = part })
    (within scope (parts_of_act first.line (is_empty (done ++ statement ∷ later)) first.act))
    (body_places (with_bound scope (act_binds first.act)) (done ++ statement ∷ later))
    (in_body (with_bound scope (act_binds first.act)) done later statement part h)

module _ (handler : statements.Handler) where
  bound_more : (ids more : List Id) → with_bound (handler_scope handler ids) more ≡ handler_scope handler (ids ++ more)
  bound_more ids more =
      ap (λ (bound : List (List ℕ)). record { place = (handler_scope handler ids).place; names = (handler_scope handler ids).names; bound = bound })
      (sym (map-append (λ (id : Id). id.word) ids more))

  seen_is : (ids : List Id) (done : List Statement) → seen (handler_scope handler ids) done ≡ handler_scope handler (ids ++ flat_map (λ s. act_binds s.act) done)
  seen_is ids [] = ap (handler_scope handler) (sym (append-nil ids))
  seen_is ids (statement ∷ done) =
      ap (λ (scope : Scope). seen scope done) (bound_more ids (act_binds statement.act))
      ∙ seen_is (ids ++ act_binds statement.act) done
      ∙ ap (handler_scope handler) (append_assoc ids (act_binds statement.act) (flat_map (λ s. act_binds s.act) done))

  seen_then : (done : List Statement)
      → seen (with_bound (handler_scope handler (scopes.bound_first handler)) (flat_map pattern_binds (on_pats handler))) done ≡ handler_scope handler (bound_after handler done)
  seen_then done =
      ap (λ (scope : Scope). seen scope done) (bound_more (scopes.bound_first handler) (flat_map pattern_binds (on_pats handler)))
      ∙ seen_is (scopes.bound_first handler ++ flat_map pattern_binds (on_pats handler)) done

  in_handler : (done later : List Statement) (statement : Statement) (part : Part) → handler.body ≡ done ++ statement ∷ later
      → IsIn part (parts_of_act statement.line (is_empty later) statement.act)
      → IsIn (record { scope = handler_scope handler (bound_after handler done); part = part }) (handler_places handler)
  in_handler done later statement part body h =
      let first = handler_scope handler (scopes.bound_first handler) in
      let then = with_bound first (flat_map pattern_binds (on_pats handler)) in
      let place : Place = record { scope = handler_scope handler (bound_after handler done); part = part } in
      let found : IsIn place (body_places then handler.body) =
      subst (λ (b : List Statement). IsIn place (body_places then b)) (sym body)
      (subst (λ (scope : Scope). IsIn (record { scope = scope; part = part }) (body_places then (done ++ statement ∷ later))) (seen_then done)
      (in_body then done later statement part h)) in
      inr (IsIn-right place (on_places first handler.on) (body_places then handler.body) found)

  -- The parts of the `on` part.
  pub on_part_in_handler : (part : Part) → IsIn (record { scope = handler_scope handler (scopes.bound_first handler); part = part }) (on_places (handler_scope handler (scopes.bound_first handler)) handler.on)
      → IsIn (record { scope = handler_scope handler (scopes.bound_first handler); part = part }) (handler_places handler)
  on_part_in_handler part h =
      let first = handler_scope handler (scopes.bound_first handler) in
      let then = with_bound first (flat_map pattern_binds (on_pats handler)) in
      inr (IsIn-left (record { scope = first; part = part }) (on_places first handler.on) (body_places then handler.body) h)

module _ (file : File) (handler : statements.Handler) (is_declared : Contains file.decls (Handler handler)) where
  -- What is a place of a handler is a place of its file.
  pub in_file : (place : Place) → IsIn place (handler_places handler) → IsIn place (places_in file)
  in_file place h =
      IsIn-right place (declared_places file.decls) (flat_map (decl_places file.decls) file.decls ++ plan_places file.plan.rounds)
      (IsIn-left place (flat_map (decl_places file.decls) file.decls) (plan_places file.plan.rounds)
      (IsIn-flat_map (decl_places file.decls) (Handler handler) place file.decls (IsIn-from (Handler handler) file.decls is_declared) h))

  -- Each part of a statement is a place of the file.
  pub statement_part : (done later : List Statement) (statement : Statement) → handler.body ≡ done ++ statement ∷ later
      → (part : Part) → IsIn part (parts_of_act statement.line (is_empty later) statement.act)
      → IsIn (record { scope = handler_scope handler (bound_after handler done); part = part }) (places_in file)
  statement_part done later statement body part h =
      in_file (record { scope = handler_scope handler (bound_after handler done); part = part }) (in_handler handler done later statement part body h)
