-- The claims that are made of a key by its usages.
use Rattle.std.proofs.Common.{◌≡◌, ℕ, ◌+◌, ◌<◌, Bool, true, false, List, [], ◌∷◌, ◌++◌, map, take, length, get_or, Some, None, if◌then◌else◌, filter, refl, ap, ◌∙◌}
use Rattle.std.specs.List.{filter_map, cons_option}
use Rattle.std.proofs.lemmas.List.Elements.{filter_map-append}
use Rattle.dy_syntax.specs.Files.{Decl}
use Rattle.dy_types.specs.Claims.{ClaimOf, claimed_use, uses_in, KnownOf, Known}
use Rattle.dy_types.specs.Tables.{Table, KnownHasTables, ClaimsHaveTables}
use Rattle.dy_check.specs.declared.expressions.Made.{Made}
use Rattle.dy_check.specs.MirrorKeys.{claim_made, claims_made}
use Rattle.dy_check.proofs.Members.{filter_map-same}
use Rattle.dy_check.proofs.AlikeClaims.{ClaimsHaveTables-same}
use Rattle.dy_check.proofs.SideBySide.{map_more}

-- what is made by one claim more
pub claims_made_more : {A L M : Type 0} (f : A → ClaimOf L) (decls : List Decl) (made : Made) (label : M) (xs : List A) (i : ℕ) (x : A) → i < length xs → x ≡ get_or xs i x
    → claims_made decls made label (uses_in (map f (take (i + 1) xs)))
    ≡ claims_made decls made label (uses_in (map f (take i xs))) ++ claims_made decls made label (uses_in (f x ∷ []))
claims_made_more {A} {L} {M} f decls made label xs i x below is =
    let earlier = map f (take i xs) in
    ap (λ (ys : List (ClaimOf L)). claims_made decls made label (uses_in ys)) (map_more f xs i x below is)
    ∙ ap (filter_map (claim_made decls made label)) (filter_map-append claimed_use earlier (f x ∷ []))
    ∙ filter_map-append (claim_made decls made label) (uses_in earlier) (uses_in (f x ∷ []))

-- Only the usages of the claims count.
pub claims_made_same : (decls : List Decl) (made : Made) (value : Known) (kept : KnownOf Table) (claims : List (ClaimOf Table)) → KnownHasTables value kept
    → ClaimsHaveTables (claims_made decls made value.lo (uses_in kept.claims)) claims
    → ClaimsHaveTables (claims_made decls made value.lo (uses_in value.claims)) claims
claims_made_same decls made value kept claims h k =
    ClaimsHaveTables-same (claims_made decls made value.lo (uses_in kept.claims)) (claims_made decls made value.lo (uses_in value.claims)) claims
    (filter_map-same (claim_made decls made value.lo) (uses_in kept.claims) (uses_in value.claims)
    (record { into = λ usage. (h.claims.uses usage).1; back = λ usage. (h.claims.uses usage).0 }))
    k

-- what is made of those that pass a test
pub made_of_passed : {A B : Type 0} (p : A → Bool) (f : A → B) (xs : List A) → filter_map (λ x. if p x then Some (f x) else None) xs ≡ map f (filter p xs)
made_of_passed p f [] = refl
made_of_passed p f (x ∷ xs) =
    ap (cons_option (if p x then Some (f x) else None)) (made_of_passed p f xs)
    ∙ one (p x)
  where
    one : (b : Bool) → cons_option (if b then Some (f x) else None) (map f (filter p xs)) ≡ map f (if b then x ∷ filter p xs else filter p xs)
    one true = refl
    one false = refl
