-- What is known of an expression by stronger knowledge is stronger.
use Rattle.std.proofs.Common.{◌≡◌, ℕ, List, [], ◌∷◌, map, Contains, Option, Some, None, refl, subst}
use Rattle.std.specs.List.{filter, filter_map, AllZip}
use Rattle.std.specs.Option.{option_map}
use Rattle.std.proofs.lemmas.Bool.{and_parts, and_from}
use Rattle.dy_label.specs.Labels.{Public}
use Rattle.dy_label.specs.Words.{StaticLabel, Implies}
use Rattle.dy_syntax.specs.Names.{KindText, Pke, Sig}
use Rattle.dy_syntax.specs.Expressions.{Expr, Exprs, Nm, Lit, Tuple, Pair, Pk, Vk, Penc, Aead, Sign, Mac, Kdf, Hash, Nil, Cons}
use Rattle.dy_syntax.specs.Files.{Decl}
use Rattle.dy_syntax.specs.Declarations.{Row}
use Rattle.dy_cases.specs.DeclaredParts.{row_named}
use Rattle.dy_types.specs.Claims.{StaticUse, Claim, Use, Known, plain, uses_in, IsWeaker}
use Rattle.dy_types.specs.Claims as claims
use Rattle.dy_typing.specs.Knowledge.{Knowledge, known_of, IsWeakerKnowledge}
use Rattle.dy_typing.specs.Expressions.{is_of_kind, meet_all, known_together, labels_alone, public_key, verification_key, derived_claim, derived_key, known_of_expr, knowns_of_exprs}
use Rattle.dy_typing.proofs.Elements.{filter_map-from, Contains-filter_map, map-from, Contains-map, filter-from, Contains-filter}
use Rattle.dy_typing.proofs.ValueLaws.{Laws}
use Rattle.dy_typing.proofs.Meets.{opens, Implies-itself}
use Rattle.dy_typing.proofs.StrongerClaims.{IsWeaker-from_claims, HaveClaims-itself}
use Rattle.dy_typing.proofs.Known.{known_of-weaker}

-- Each of these is weaker than the one in its place.
abbrev pub AreWeaker : List Known → List Known → Type 0
AreWeaker stronger weaker = AllZip IsWeaker stronger weaker

meet_all-hi : (stronger weaker : List Known) → AreWeaker stronger weaker
    → Implies (meet_all (map (λ part. part.hi) weaker)) (meet_all (map (λ part. part.hi) stronger))
meet_all-hi [] [] h = λ choice corruptions opened. refl
meet_all-hi [] (part ∷ weaker) h = absurd h
meet_all-hi (part ∷ stronger) [] h = absurd h
meet_all-hi (first ∷ stronger) (part ∷ weaker) h = λ choice corruptions opened.
    let label = opens choice corruptions in
    let parts = and_parts (label part.hi) (label (meet_all (map (λ other. other.hi) weaker))) opened in
    and_from (label first.hi) (label (meet_all (map (λ other. other.hi) stronger)))
    (h.0.hi choice corruptions parts.0) (meet_all-hi stronger weaker h.1 choice corruptions parts.1)

meet_all-lo : (stronger weaker : List Known) → AreWeaker stronger weaker
    → Implies (meet_all (map (λ part. part.lo) stronger)) (meet_all (map (λ part. part.lo) weaker))
meet_all-lo [] [] h = λ choice corruptions opened. refl
meet_all-lo [] (part ∷ weaker) h = absurd h
meet_all-lo (part ∷ stronger) [] h = absurd h
meet_all-lo (first ∷ stronger) (part ∷ weaker) h = λ choice corruptions opened.
    let label = opens choice corruptions in
    let parts = and_parts (label first.lo) (label (meet_all (map (λ other. other.lo) stronger))) opened in
    and_from (label part.lo) (label (meet_all (map (λ other. other.lo) weaker)))
    (h.0.lo choice corruptions parts.0) (meet_all-lo stronger weaker h.1 choice corruptions parts.1)

-- From stronger parts comes a stronger whole.
pub known_together-weaker : Laws → (stronger weaker : List Known) → AreWeaker stronger weaker
    → IsWeaker (known_together stronger) (known_together weaker)
known_together-weaker laws stronger weaker h =
    IsWeaker-from_claims laws (known_together stronger) (known_together weaker)
    (meet_all-hi stronger weaker h) (meet_all-lo stronger weaker h) (HaveClaims-itself [])

-- The labels alone are stronger.
pub labels_alone-weaker : Laws → (stronger weaker : Known) → IsWeaker stronger weaker
    → IsWeaker (labels_alone stronger) (labels_alone weaker)
labels_alone-weaker laws stronger weaker h =
    IsWeaker-from_claims laws (labels_alone stronger) (labels_alone weaker) h.hi h.lo (HaveClaims-itself [])

-- the usages of this kind that a key has
abbrev uses_of_kind : List Decl → KindText → Known → List StaticUse
uses_of_kind decls kind key = filter (λ usage. is_of_kind decls kind usage.usage) (uses_in key.claims)

-- A usage of this kind that the weaker key has, the stronger one has.
use_of_kind : (decls : List Decl) (kind : KindText) (stronger weaker : Known) → IsWeaker stronger weaker
    → (usage : StaticUse) → Contains (uses_of_kind decls kind weaker) usage
    → Contains (uses_of_kind decls kind stronger) usage
use_of_kind decls kind stronger weaker h usage has =
    let test = λ (other : StaticUse). is_of_kind decls kind other.usage in
    let found = filter-from test (uses_in weaker.claims) usage has in
    Contains-filter test (uses_in stronger.claims) usage (h.uses usage found.0) found.1

-- A claim on a key, of the one kind or the other, is made for its usages by the stronger key as well.
key_claim : (make : StaticLabel → StaticUse → Claim) (decls : List Decl) (kind : KindText) (stronger weaker : Known)
    → IsWeaker stronger weaker → (label : StaticLabel) (usage : StaticUse)
    → ((other : StaticLabel) (use_of : StaticUse) → make other use_of ≡ make label usage
    → (other ≡ label) × (use_of ≡ usage))
    → Contains (map (make weaker.lo) (uses_of_kind decls kind weaker)) (make label usage)
    → (other : StaticLabel) × Contains (map (make stronger.lo) (uses_of_kind decls kind stronger)) (make other usage)
    × Implies other label
key_claim make decls kind stronger weaker h label usage parts has =
    let found = map-from (make weaker.lo) (uses_of_kind decls kind weaker) (make label usage) has in
    let same = parts weaker.lo found.0 found.2 in
    let had = subst (λ (u : StaticUse). Contains (uses_of_kind decls kind stronger) u) same.1
    (use_of_kind decls kind stronger weaker h found.0 found.1) in (
      stronger.lo,
      Contains-map (make stronger.lo) (uses_of_kind decls kind stronger) usage had,
      subst (λ (l : StaticLabel). Implies stronger.lo l) same.0 h.lo,
    )

-- no claim of the other kinds is made on a key
no_claim : {P : Type 0} (make : StaticLabel → StaticUse → Claim) (lo : StaticLabel) (uses : List StaticUse) (claim : Claim)
    → ((usage : StaticUse) → make lo usage ≡ claim → ⊥) → Contains (map (make lo) uses) claim → P
no_claim make lo uses claim differ has = let found = map-from (make lo) uses claim has in absurd (differ found.0 found.2)

-- The public key of a key that is known better is known better.
pub public_key-weaker : Laws → (decls : List Decl) (stronger weaker : Known) → IsWeaker stronger weaker
    → IsWeaker (public_key decls stronger) (public_key decls weaker)
public_key-weaker laws decls stronger weaker h =
    let uses = uses_of_kind decls Pke weaker in
    IsWeaker-from_claims laws (public_key decls stronger) (public_key decls weaker) (Implies-itself Public) (Implies-itself Public)
    (record {
      uses = λ usage. no_claim claims.Pk weaker.lo uses (Use usage) (λ other e. cc);
      pks = λ label usage. key_claim claims.Pk decls Pke stronger weaker h label usage (λ other use_of e. (cc, cc));
      vks = λ label usage. no_claim claims.Pk weaker.lo uses (claims.Vk label usage) (λ other e. cc);
    })

-- The verification key of a key that is known better is known better.
pub verification_key-weaker : Laws → (decls : List Decl) (stronger weaker : Known) → IsWeaker stronger weaker
    → IsWeaker (verification_key decls stronger) (verification_key decls weaker)
verification_key-weaker laws decls stronger weaker h =
    let uses = uses_of_kind decls Sig weaker in
    IsWeaker-from_claims laws (verification_key decls stronger) (verification_key decls weaker)
    (Implies-itself Public) (Implies-itself Public)
    (record {
      uses = λ usage. no_claim claims.Vk weaker.lo uses (Use usage) (λ other e. cc);
      pks = λ label usage. no_claim claims.Vk weaker.lo uses (claims.Pk label usage) (λ other e. cc);
      vks = λ label usage. key_claim claims.Vk decls Sig stronger weaker h label usage (λ other use_of e. (cc, cc));
    })

-- a key that is derived has usages alone
no_derived : {P : Type 0} (row : Option Row) (usage : StaticUse) (claim : Claim)
    → ((other : StaticUse) → Use other ≡ claim → ⊥)
    → option_map (λ (given : Row). Use (record { usage = given.usage.word; args = usage.args })) row ≡ Some claim → P
no_derived None usage claim differ e = absurd (cc)
no_derived (Some given) usage claim differ e =
    absurd (differ (record { usage = given.usage.word; args = usage.args }) (cc))

-- A usage that the key of the weaker knowledge gives to what is derived, the stronger one gives.
derived_use : (decls : List Decl) (text : List ℕ) (stronger weaker : Known) → IsWeaker stronger weaker → (usage : StaticUse)
    → Contains (filter_map (derived_claim decls text) (uses_in weaker.claims)) (Use usage)
    → Contains (filter_map (derived_claim decls text) (uses_in stronger.claims)) (Use usage)
derived_use decls text stronger weaker h usage has =
    let found = filter_map-from (derived_claim decls text) (uses_in weaker.claims) (Use usage) has in
    Contains-filter_map (derived_claim decls text) (uses_in stronger.claims) found.0 (Use usage)
    (h.uses found.0 found.1) found.2

derives_none : {P : Type 0} (decls : List Decl) (text : List ℕ) (weaker : Known) (claim : Claim)
    → ((other : StaticUse) → Use other ≡ claim → ⊥)
    → Contains (filter_map (derived_claim decls text) (uses_in weaker.claims)) claim → P
derives_none decls text weaker claim differ has =
    let found = filter_map-from (derived_claim decls text) (uses_in weaker.claims) claim has in
    no_derived (row_named decls found.0.usage text) found.0 claim differ found.2

-- The key that is derived from one that is known better is known better.
pub derived_key-weaker : Laws → (decls : List Decl) (text : List ℕ) (stronger weaker : Known) → IsWeaker stronger weaker
    → IsWeaker (derived_key decls text stronger) (derived_key decls text weaker)
derived_key-weaker laws decls text stronger weaker h =
    IsWeaker-from_claims laws (derived_key decls text stronger) (derived_key decls text weaker) h.hi h.lo
    (record {
      uses = derived_use decls text stronger weaker h;
      pks = λ label usage. derives_none decls text weaker (claims.Pk label usage) (λ other e. cc);
      vks = λ label usage. derives_none decls text weaker (claims.Vk label usage) (λ other e. cc);
    })

-- An expression is known better by stronger knowledge, and so are those in a row.
mutual
  pub known_of_expr-weaker : Laws → (decls : List Decl) (stronger weaker : Knowledge) → IsWeakerKnowledge stronger weaker
      → (expr : Expr) → IsWeaker (known_of_expr decls stronger expr) (known_of_expr decls weaker expr)
  known_of_expr-weaker laws decls stronger weaker h (Nm name) = known_of-weaker laws stronger weaker h name
  known_of_expr-weaker laws decls stronger weaker h (Lit quote) = laws.itself plain
  known_of_expr-weaker laws decls stronger weaker h (Tuple tag args) =
      known_together-weaker laws (knowns_of_exprs decls stronger args) (knowns_of_exprs decls weaker args)
      (knowns_of_exprs-weaker laws decls stronger weaker h args)
  known_of_expr-weaker laws decls stronger weaker h (Pair line first second) =
      known_together-weaker laws
      (known_of_expr decls stronger first ∷ known_of_expr decls stronger second ∷ [])
      (known_of_expr decls weaker first ∷ known_of_expr decls weaker second ∷ [])
      (known_of_expr-weaker laws decls stronger weaker h first, (known_of_expr-weaker laws decls stronger weaker h second, tt))
  known_of_expr-weaker laws decls stronger weaker h (Pk line key) =
      public_key-weaker laws decls (known_of stronger key) (known_of weaker key) (known_of-weaker laws stronger weaker h key)
  known_of_expr-weaker laws decls stronger weaker h (Vk line key) =
      verification_key-weaker laws decls (known_of stronger key) (known_of weaker key)
      (known_of-weaker laws stronger weaker h key)
  known_of_expr-weaker laws decls stronger weaker h (Penc line key usage tag args) = laws.itself plain
  known_of_expr-weaker laws decls stronger weaker h (Aead line key usage tag args ad) =
      labels_alone-weaker laws (known_of_expr decls stronger ad) (known_of_expr decls weaker ad)
      (known_of_expr-weaker laws decls stronger weaker h ad)
  known_of_expr-weaker laws decls stronger weaker h (Sign line key usage tag args) =
      known_together-weaker laws (knowns_of_exprs decls stronger args) (knowns_of_exprs decls weaker args)
      (knowns_of_exprs-weaker laws decls stronger weaker h args)
  known_of_expr-weaker laws decls stronger weaker h (Mac line key usage tag args) =
      known_together-weaker laws (knowns_of_exprs decls stronger args) (knowns_of_exprs decls weaker args)
      (knowns_of_exprs-weaker laws decls stronger weaker h args)
  known_of_expr-weaker laws decls stronger weaker h (Kdf line key context input) =
      derived_key-weaker laws decls context.text (known_of stronger key) (known_of weaker key)
      (known_of-weaker laws stronger weaker h key)
  known_of_expr-weaker laws decls stronger weaker h (Hash line message) =
      labels_alone-weaker laws (known_of_expr decls stronger message) (known_of_expr decls weaker message)
      (known_of_expr-weaker laws decls stronger weaker h message)

  pub knowns_of_exprs-weaker : Laws → (decls : List Decl) (stronger weaker : Knowledge) → IsWeakerKnowledge stronger weaker
      → (exprs : Exprs) → AreWeaker (knowns_of_exprs decls stronger exprs) (knowns_of_exprs decls weaker exprs)
  knowns_of_exprs-weaker laws decls stronger weaker h Nil = tt
  knowns_of_exprs-weaker laws decls stronger weaker h (Cons first rest) =
      (known_of_expr-weaker laws decls stronger weaker h first, knowns_of_exprs-weaker laws decls stronger weaker h rest)
