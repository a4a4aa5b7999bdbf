-- Knowledge of one value, when more is known of it.
use Rattle.std.proofs.Common.{◌≡◌, ℕ, suc, ◌<◌, List, length, Contains, inl, inr, sym, subst, ◌∙◌, arith}
use Rattle.std.specs.Prelude.{slice_get, slice_set, unwrap_or}
use Rattle.std.proofs.lemmas.Bool.{or_cases, and_from, cases_lt, cases_eq}
use Rattle.std.proofs.lemmas.List.{length-set, get_or_past, get_or-set_same, get_or-set_other}
use Rattle.std.proofs.lemmas.List.Elements.{Contains-append_cases, Contains-push_cases}
use Rattle.std.proofs.lemmas.Option.{unwrap_or-slice_get}
use Rattle.dy_term.specs.Terms.{Term}
use Rattle.dy_label.specs.Words.{Choice}
use Rattle.dy_types.specs.Claims.{Claim, Known, unknown, identify_with}
use Rattle.dy_types.specs.Facts.{Fact}
use Rattle.dy_syntax.specs.Files.{Decl}
use Rattle.dy_typing.specs.Knowledge.{Knowledge, known_at, with_claims, with_value, add_fact}
use Rattle.dy_entry.specs.Entries.{Entry}
use Rattle.dy_eval.specs.Names.{Names}
use Rattle.dy_sound.specs.Names.{value_numbered}
use Rattle.dy_sound.specs.Knowledge.{ClaimHolds, KnownHolds, FactHolds, Holds}

value_at-set_same : (values : List Known) (known : Known) (number : ℕ) → number < length values
    → unwrap_or (slice_get (slice_set values number known) number) unknown ≡ known
value_at-set_same values known number within =
    unwrap_or-slice_get (slice_set values number known) number unknown ∙ get_or-set_same values number known unknown within

value_at-set_other : (values : List Known) (known : Known) (at number : ℕ) → (number ≡ at → ⊥)
    → unwrap_or (slice_get (slice_set values at known) number) unknown ≡ unwrap_or (slice_get values number) unknown
value_at-set_other values known at number other =
    unwrap_or-slice_get (slice_set values at known) number unknown
    ∙ get_or-set_other values at number known unknown other
    ∙ sym (unwrap_or-slice_get values number unknown)

value_at-past : (values : List Known) (number : ℕ) → length values < suc number → unwrap_or (slice_get values number) unknown ≡ unknown
value_at-past values number past = unwrap_or-slice_get values number unknown ∙ get_or_past values number unknown (omega arith)

module _ (decls : List Decl) (T : List Entry) (choice : Choice) where
  -- What is known of two values that are one holds of it together.
  pub both_hold : (value : Term) (first second : Known) → KnownHolds decls T choice value first → KnownHolds decls T choice value second
      → KnownHolds decls T choice value (identify_with first second)
  both_hold value first second h g = record {
    is_open_by_hi = record {
      opens = λ C over opened. elim (or_cases _ _ opened) [ inl one ↦ h.is_open_by_hi.opens C over one | inr other ↦ g.is_open_by_hi.opens C over other ];
    };
    opens_lo = record { opens = λ C over opened. and_from _ _ (h.opens_lo.opens C over opened) (g.opens_lo.opens C over opened) };
    claims_hold = λ claim stands. elim (Contains-append_cases first.claims second.claims claim stands) [ inl one ↦ h.claims_hold claim one | inr other ↦ g.claims_hold claim other ];
  }

  -- More claims that hold may be made.
  pub claimed_too : (value : Term) (known : Known) (said : List Claim) → KnownHolds decls T choice value known
      → ((claim : Claim) → Contains said claim → ClaimHolds decls T choice value claim) → KnownHolds decls T choice value (with_claims known said)
  claimed_too value known said h more = record {
    is_open_by_hi = h.is_open_by_hi;
    opens_lo = h.opens_lo;
    claims_hold = λ claim stands. elim (Contains-append_cases known.claims said claim stands) [ inl one ↦ h.claims_hold claim one | inr other ↦ more claim other ];
  }

  module _ (names : Names) (k : Knowledge) (h : Holds decls T choice names k) where
    module _ (number : ℕ) (known : Known) (of_it : KnownHolds decls T choice (value_numbered names number) known) where
      values_hold_then : (other : ℕ) → KnownHolds decls T choice (value_numbered names other) (known_at (with_value k number known) other)
      values_hold_then other = elim (cases_eq other number) [
        | inl same ↦ elim (cases_lt number (length k.values)) [
          | inl within ↦
              subst (λ (n : ℕ). KnownHolds decls T choice (value_numbered names n) (known_at (with_value k number known) n)) (sym same)
              (subst (KnownHolds decls T choice (value_numbered names number)) (sym (value_at-set_same k.values known number within)) of_it)
          | inr past ↦
              let count = length-set k.values number known in
              subst (KnownHolds decls T choice (value_numbered names other))
              (value_at-past k.values other (omega arith) ∙ sym (value_at-past (slice_set k.values number known) other (omega arith)))
              (h.values_hold other)
        ]
        | inr not_it ↦ subst (KnownHolds decls T choice (value_numbered names other)) (sym (value_at-set_other k.values known number other not_it)) (h.values_hold other)
      ]

      -- Of the value of a number something else is known that holds of it.
      pub with_value_holds : Holds decls T choice names (with_value k number known)
      with_value_holds = record {
        variables = h.variables;
        is_numbered = record {
          firsts_count = h.is_numbered.firsts_count;
          values_count = length-set k.values number known ∙ h.is_numbered.values_count;
          firsts_are_bound = h.is_numbered.firsts_are_bound;
          args_are_bound = h.is_numbered.args_are_bound;
        };
        same = h.same;
        values_hold = values_hold_then;
        facts_hold = h.facts_hold;
      }

    -- One more fact holds.
    pub add_fact_holds : (fact : Fact) → ((arg : ℕ) → Contains fact.args arg → arg < length k.first) → FactHolds T choice names fact
        → Holds decls T choice names (add_fact k fact)
    add_fact_holds fact bound holds = record {
      variables = h.variables;
      is_numbered = record {
        firsts_count = h.is_numbered.firsts_count;
        values_count = h.is_numbered.values_count;
        firsts_are_bound = h.is_numbered.firsts_are_bound;
        args_are_bound = λ other stands. elim (Contains-push_cases k.facts fact other stands) [
          | inl old ↦ h.is_numbered.args_are_bound other old
          | inr is ↦ subst (λ (f : Fact). (arg : ℕ) → Contains f.args arg → arg < length k.first) is bound
        ];
      };
      same = h.same;
      values_hold = h.values_hold;
      facts_hold = λ other stands. elim (Contains-push_cases k.facts fact other stands) [
        | inl old ↦ h.facts_hold other old
        | inr is ↦ subst (FactHolds T choice names) is holds
      ];
    }
