-- What is known of public keys, verification keys and derived keys holds.
use Rattle.std.proofs.Common.{◌≡◌, ℕ, Bool, true, false, cond, List, [], ◌∷◌, map, filter, Contains, Option, Some, None, ◌⊎◌, inl, inr, refl, sym, ap, subst, ◌∙◌}
use Rattle.std.specs.Prelude.{if◌then◌else◌}
use Rattle.std.specs.Option.{option_map, option_and_then}
use Rattle.dy_term.specs.Terms as trees
use Rattle.dy_term.specs.Terms.{Term}
use Rattle.dy_label.specs.Labels.{Label, Public}
use Rattle.dy_label.specs.Words.{Choice, meaning_of}
use Rattle.dy_label.specs.declared.usages.Kind as kind
use Rattle.dy_types.specs.Claims.{StaticUse, Claim, Known, Use, uses_in, plain}
use Rattle.dy_types.specs.Claims as claims
use Rattle.dy_syntax.specs.Names.{Pke, Sig}
use Rattle.dy_syntax.specs.Declarations.{Row}
use Rattle.dy_syntax.specs.Files.{Decl}
use Rattle.dy_cases.specs.DeclaredParts.{row_named}
use Rattle.dy_cases.specs.Derived.{kind_named, is_kdf, derived_usage}
use Rattle.dy_typing.specs.Expressions.{is_of_kind, labels_alone, public_key, verification_key, derived_claim, derived_key}
use Rattle.dy_entry.specs.Entries.{Entry}
use Rattle.dy_entry.specs.ValueLabels.{label_of}
use Rattle.dy_sound.specs.Usages.{usage_of}
use Rattle.dy_sound.specs.Flows.{Flows, IsShown}
use Rattle.dy_sound.specs.Fields.{IsMadeOf}
use Rattle.dy_sound.specs.Knowledge.{usage_chosen, ClaimHolds, KnownHolds}
use Rattle.dy_sound.specs.DerivedKeys.{TablesFit}
use Rattle.dy_sound.specs.LawsBelow.{LawsBelow}
use Rattle.dy_sound.proofs.Lists.{Contains-none, Contains-cases, Contains-first, Contains-later}
use Rattle.dy_sound.proofs.Elements.{filter_map-from, map-from}
use Rattle.dy_sound.proofs.DerivedValues.{shown_by_flow}
use Rattle.dy_sound.proofs.Weaker.{use_holds}

-- what passes a test stands among what is tested
among_tested : {A : Type 0} (test : A → Bool) (xs : List A) (y : A) → Contains (filter test xs) y → Contains xs y
among_tested test [] y h = h
among_tested {A = A} test (x ∷ xs) y h = by_test (test x) h (among_tested test xs y) where
  by_test : (b : Bool) → Contains (cond b (x ∷ filter test xs) (filter test xs)) y → (Contains (filter test xs) y → Contains xs y) → Contains (x ∷ xs) y
  by_test false has later = Contains-later x xs y (later has)
  by_test true has later = elim (Contains-cases x (filter test xs) y has) [
    | inl is ↦ subst (λ (z : A). Contains (x ∷ xs) z) is (Contains-first x xs)
    | inr rest ↦ Contains-later x xs y (later rest)
  ]

module _ (below : LawsBelow) (decls : List Decl) (T : List Entry) (choice : Choice) where
  -- Of a value that all may know, what is known is that.
  pub plain_holds : (value : Term) → label_of T value ≡ Public → KnownHolds decls T choice value plain
  plain_holds value is = record {
    is_open_by_hi = subst (λ (l : Label). Flows T Public l) (sym is) (record { opens = λ C over opened. opened });
    opens_lo = record { opens = λ C over opened. refl };
    claims_hold = λ claim none. absurd (Contains-none claim none);
  }

  -- A value whose label is that of another is open as the other is.
  pub labels_hold : (value other : Term) (known : Known) → label_of T value ≡ label_of T other → KnownHolds decls T choice other known
      → KnownHolds decls T choice value (labels_alone known)
  labels_hold value other known is h = record {
    is_open_by_hi = subst (λ (l : Label). Flows T (meaning_of choice known.hi) l) (sym is) h.is_open_by_hi;
    opens_lo = subst (λ (l : Label). Flows T l (meaning_of choice known.lo)) (sym is) h.opens_lo;
    claims_hold = λ claim none. absurd (Contains-none claim none);
  }

  module _ (key : Term) (known : Known) (h : KnownHolds decls T choice key known) where
    -- A key that is made of one with a usage belongs to a key of this usage.
    made_of : (make : Term → Term) (usage : StaticUse) → Contains (uses_in known.claims) usage
        → IsMadeOf make decls T (make key) (meaning_of choice known.lo) (usage_chosen decls choice usage) ⊎ IsShown T (meaning_of choice known.lo)
    made_of make usage has = elim (use_holds below decls T choice key known h usage has) [
      | inl has_usage ↦ inl (record { key = key; value_is = refl; has_usage = has_usage; opens = h.opens_lo })
      | inr shown ↦ inr (shown_by_flow below decls T h.opens_lo shown)
    ]

    pub public_key_holds : KnownHolds decls T choice (trees.Pk key) (public_key decls known)
    public_key_holds = record {
      is_open_by_hi = record { opens = λ C over opened. refl };
      opens_lo = record { opens = λ C over opened. refl };
      claims_hold = λ claim has.
          let found = map-from (claims.Pk known.lo) (filter (λ usage. is_of_kind decls Pke usage.usage) (uses_in known.claims)) claim has in
          subst (λ (c : Claim). ClaimHolds decls T choice (trees.Pk key) c) found.2
          (made_of trees.Pk found.0 (among_tested (λ usage. is_of_kind decls Pke usage.usage) (uses_in known.claims) found.0 found.1));
    }

    pub verification_key_holds : KnownHolds decls T choice (trees.Vk key) (verification_key decls known)
    verification_key_holds = record {
      is_open_by_hi = record { opens = λ C over opened. refl };
      opens_lo = record { opens = λ C over opened. refl };
      claims_hold = λ claim has.
          let found = map-from (claims.Vk known.lo) (filter (λ usage. is_of_kind decls Sig usage.usage) (uses_in known.claims)) claim has in
          subst (λ (c : Claim). ClaimHolds decls T choice (trees.Vk key) c) found.2
          (made_of trees.Vk found.0 (among_tested (λ usage. is_of_kind decls Sig usage.usage) (uses_in known.claims) found.0 found.1));
    }

    module _ (fit : TablesFit decls) (text : List ℕ) (input : Term) where
      -- A key that is derived from one with a usage has the usage of the row, for the same owners.
      usage_derived : (usage : StaticUse) (row : Row) → row_named decls usage.usage text ≡ Some row → usage_of decls T key ≡ Some (usage_chosen decls choice usage)
          → usage_of decls T (trees.Kdf key text input) ≡ Some (usage_chosen decls choice (record { usage = row.usage.word; args = usage.args }))
      usage_derived usage row found has_usage =
          let owners = map choice.principals usage.args in
          ap (option_and_then (λ u. derived_usage decls u text)) has_usage
          ∙ ap (λ (kind_ : kind.Kind). if is_kdf kind_
          then option_map (λ (r : Row). record { kind = kind_named r.kind; name = r.usage.word; owners = owners }) (row_named decls usage.usage text) else None)
          (fit.are_of_kdf usage.usage text row found)
          ∙ ap (option_map (λ (r : Row). record { kind = kind_named r.kind; name = r.usage.word; owners = owners })) found
          ∙ ap (λ (kind_ : kind.Kind). Some (record { kind = kind_; name = row.usage.word; owners = owners })) (fit.rows_say_kinds usage.usage text row found)

      claim_derived : (usage : StaticUse) (claim : Claim) → Contains (uses_in known.claims) usage → derived_claim decls text usage ≡ Some claim
          → ClaimHolds decls T choice (trees.Kdf key text input) claim
      claim_derived usage claim has derived = by_row (row_named decls usage.usage text) refl derived where
        by_row : (row : Option Row) → row_named decls usage.usage text ≡ row
            → option_map (λ (r : Row). Use (record { usage = r.usage.word; args = usage.args })) row ≡ Some claim → ClaimHolds decls T choice (trees.Kdf key text input) claim
        by_row None found is = absurd cc
        by_row (Some row) found is =
            let same : Use (record { usage = row.usage.word; args = usage.args }) ≡ claim = cc in
            subst (λ (c : Claim). ClaimHolds decls T choice (trees.Kdf key text input) c) same
            (elim (use_holds below decls T choice key known h usage has) [
              | inl has_usage ↦ inl (usage_derived usage row found has_usage)
              | inr shown ↦ inr shown
            ])

      pub derived_key_holds : KnownHolds decls T choice (trees.Kdf key text input) (derived_key decls text known)
      derived_key_holds = record {
        is_open_by_hi = h.is_open_by_hi;
        opens_lo = h.opens_lo;
        claims_hold = λ claim has.
            let found = filter_map-from (derived_claim decls text) (uses_in known.claims) claim has in
            claim_derived found.0 claim found.1 found.2;
      }
