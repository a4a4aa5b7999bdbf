-- A field's type as it stands in a handler: what it means for a value, and what is known of a value that has it.
use Rattle.std.proofs.Common.{◌≡◌, List, [], ◌∷◌, Contains, Option, ◌⊎◌, inl, inr, refl, sym, subst}
use Rattle.std.proofs.lemmas.Bool.{or_cases, or_left, or_right}
use Rattle.dy_term.specs.Terms as trees
use Rattle.dy_term.specs.Terms.{Term}
use Rattle.dy_label.specs.Labels.{Label, Public, Join, is_open}
use Rattle.dy_label.specs.Words.{Atom, StaticLabel, Choice, meaning_of}
use Rattle.dy_label.specs.declared.usages.Usage.{Usage}
use Rattle.dy_types.specs.Claims as claims
use Rattle.dy_types.specs.Claims.{StaticUse, Claim, Known}
use Rattle.dy_types.specs.FieldTypes as types
use Rattle.dy_types.specs.FieldTypes.{Declared, declared_hi, declared_lo, declared_claims, narrow_by}
use Rattle.dy_syntax.specs.Declarations as d
use Rattle.dy_syntax.specs.Declarations.{FieldType}
use Rattle.dy_syntax.specs.Files.{Decl}
use Rattle.dy_syntax.specs.Scopes.{Scope}
use Rattle.dy_typing.specs.Names.{Setting, Stands, stands_number}
use Rattle.dy_typing.specs.Instances.{label_in, type_in}
use Rattle.dy_typing.specs.Effects.{shown_by}
use Rattle.dy_entry.specs.Entries.{Entry}
use Rattle.dy_entry.specs.ValueLabels.{label_of}
use Rattle.dy_eval.specs.Names.{Names}
use Rattle.dy_sound.specs.Flows.{Flows, IsShown}
use Rattle.dy_sound.specs.Words.{Words, usage_meant}
use Rattle.dy_sound.specs.Fields.{HasUse, IsMadeOf, IsPkFor, IsVkFor, IsName, Meets}
use Rattle.dy_sound.specs.Knowledge.{usage_chosen, ClaimHolds, KnownHolds}
use Rattle.dy_sound.specs.InScope.{TypeIsInScope}
use Rattle.dy_sound.specs.Matches.{Matches}
use Rattle.dy_sound.proofs.Lists.{Contains-none, Contains-cases}
use Rattle.dy_sound.specs.LawsBelow.{LawsBelow}
use Rattle.dy_sound.proofs.DerivedValues.{flows_to_shown}
use Rattle.dy_sound.proofs.WordsMeant.{label_means, usage_means}

-- what a value meets that has this type, whose labels and usages are over the handler's words
abbrev pub HasType : List Decl → List Entry → Choice → Term → Declared → Type 0
HasType decls T choice value types.Name = IsName value
HasType decls T choice value types.Any = Unit {0}
HasType decls T choice value (types.Upto label) = Flows T (meaning_of choice label) (label_of T value)
HasType decls T choice value (types.Secret label) =
    Flows T (meaning_of choice label) (label_of T value) × Flows T (label_of T value) (meaning_of choice label)
HasType decls T choice value (types.Key label usage) =
    Flows T (meaning_of choice label) (label_of T value) × Flows T (label_of T value) (meaning_of choice label)
    × HasUse decls T value (usage_chosen decls choice usage)
HasType decls T choice value (types.Pk label usage) =
    IsPkFor decls T value (meaning_of choice label) (usage_chosen decls choice usage)
HasType decls T choice value (types.Vk label usage) =
    IsVkFor decls T value (meaning_of choice label) (usage_chosen decls choice usage)

-- Of a value that is forged and may be hidden, no key is claimed.
abbrev pub ClaimsNoUse : Declared → Type 0
ClaimsNoUse (types.Key label usage) = ⊥
ClaimsNoUse other = Unit {0}

module _ (T : List Entry) (value : Term) where
  both_flows : (label other : Label) → label ≡ other → Flows T other (label_of T value) × Flows T (label_of T value) other
      → Flows T label (label_of T value) × Flows T (label_of T value) label
  both_flows label other is h =
      (subst (λ (l : Label). Flows T l (label_of T value)) (sym is) h.0, subst (λ (l : Label). Flows T (label_of T value) l) (sym is) h.1)

-- A field of a declaration has its type in the handler.
module _ (setting : Setting) (T : List Entry) (choice : Choice) (names : Names) (scope : Scope) (stands : Stands) (here : Option Atom) (words : Words)
    (matches : Matches setting choice names scope stands here words) (value : Term) where
  pub has_type : (type : FieldType) → TypeIsInScope scope type → Meets setting.decls T words value type
      → HasType setting.decls T choice value (type_in (stands_number setting stands) here type)
  has_type d.Name read h = h
  has_type d.Any read h = h
  has_type (d.Upto label) read h =
      subst (λ (l : Label). Flows T l (label_of T value)) (sym (label_means setting choice names scope stands here words matches label read)) h
  has_type (d.Secret label) read h = both_flows T value _ _ (label_means setting choice names scope stands here words matches label read) h
  has_type (d.Key label usage) read h =
      let flows = both_flows T value _ _ (label_means setting choice names scope stands here words matches label read.0) (h.0, h.1) in
      (flows.0, flows.1, subst (HasUse setting.decls T value) (sym (usage_means setting choice names scope stands here words matches usage read.1)) h.2)
  has_type (d.Pk label usage) read h =
      subst (λ (u : Usage). IsPkFor setting.decls T value (meaning_of choice (label_in (stands_number setting stands) here label)) u)
      (sym (usage_means setting choice names scope stands here words matches usage read.1))
      (subst (λ (l : Label). IsPkFor setting.decls T value l (usage_meant setting.decls words usage))
      (sym (label_means setting choice names scope stands here words matches label read.0)) h)
  has_type (d.Vk label usage) read h =
      subst (λ (u : Usage). IsVkFor setting.decls T value (meaning_of choice (label_in (stands_number setting stands) here label)) u)
      (sym (usage_means setting choice names scope stands here words matches usage read.1))
      (subst (λ (l : Label). IsVkFor setting.decls T value l (usage_meant setting.decls words usage))
      (sym (label_means setting choice names scope stands here words matches label read.0)) h)

module _ (decls : List Decl) (T : List Entry) (choice : Choice) (value : Term) where
  -- the one claim of a list of one
  only_claim : (one claim : Claim) → ClaimHolds decls T choice value one → Contains (one ∷ []) claim → ClaimHolds decls T choice value claim
  only_claim one claim holds stands = elim (Contains-cases one [] claim stands) [
    | inl is ↦ subst (ClaimHolds decls T choice value) is holds
    | inr none ↦ absurd (Contains-none claim none)
  ]

  no_claim : (claim : Claim) → Contains [] claim → ClaimHolds decls T choice value claim
  no_claim claim none = absurd (Contains-none claim none)

  -- What a label opens, a join with it opens.
  wider : (make : Term → Term) (label guard : Label) (usage : Usage)
      → IsMadeOf make decls T value label usage ⊎ IsShown T label → IsMadeOf make decls T value (Join label guard) usage ⊎ IsShown T (Join label guard)
  wider make label guard usage (inl made) = inl (record {
    key = made.key;
    value_is = made.value_is;
    has_usage = made.has_usage;
    opens = record { opens = λ C over opened. or_left (is_open C label) (is_open C guard) (made.opens.opens C over opened) };
  })
  wider make label guard usage (inr shown) = inr (record { is_open_now = or_left _ _ shown.is_open_now })

  guard_shown : (label guard : Label) → IsShown T guard → IsShown T (Join label guard)
  guard_shown label guard shown = record { is_open_now = or_right _ _ shown.is_open_now }

  -- What is claimed of a value of its type holds, whatever the guard.
  pub typed_claims_hold : (type : Declared) (guard : StaticLabel) → HasType decls T choice value type
      → (claim : Claim) → Contains (declared_claims type guard) claim → ClaimHolds decls T choice value claim
  typed_claims_hold types.Name guard h = no_claim
  typed_claims_hold types.Any guard h = no_claim
  typed_claims_hold (types.Upto label) guard h = no_claim
  typed_claims_hold (types.Secret label) guard h = no_claim
  typed_claims_hold (types.Key label usage) guard h = λ claim. only_claim (claims.Use usage) claim h.2
  typed_claims_hold (types.Pk label usage) guard h = λ claim. only_claim (claims.Pk (Join label guard) usage) claim (wider trees.Pk _ _ _ h)
  typed_claims_hold (types.Vk label usage) guard h = λ claim. only_claim (claims.Vk (Join label guard) usage) claim (wider trees.Vk _ _ _ h)

  -- Where the guard is open it holds of any value: of one that all may know, or where no usage is claimed.
  pub guarded_claims_hold : (type : Declared) (guard : StaticLabel) → IsShown T (meaning_of choice guard) → ClaimsNoUse type ⊎ IsShown T (label_of T value)
      → (claim : Claim) → Contains (declared_claims type guard) claim → ClaimHolds decls T choice value claim
  guarded_claims_hold types.Name guard shown h = no_claim
  guarded_claims_hold types.Any guard shown h = no_claim
  guarded_claims_hold (types.Upto label) guard shown h = no_claim
  guarded_claims_hold (types.Secret label) guard shown h = no_claim
  guarded_claims_hold (types.Key label usage) guard shown (inl none) = absurd none
  guarded_claims_hold (types.Key label usage) guard shown (inr known) = λ claim. only_claim (claims.Use usage) claim (inr known)
  guarded_claims_hold (types.Pk label usage) guard shown h = λ claim. only_claim (claims.Pk (Join label guard) usage) claim (inr (guard_shown _ _ shown))
  guarded_claims_hold (types.Vk label usage) guard shown h = λ claim. only_claim (claims.Vk (Join label guard) usage) claim (inr (guard_shown _ _ shown))

  -- Who has this label may know a value of this type.
  hi_flows : (type : Declared) → HasType decls T choice value type → Flows T (meaning_of choice (declared_hi type)) (label_of T value)
  hi_flows types.Name h = subst (λ (v : Term). Flows T Public (label_of T v)) (sym h.1) (record { opens = λ C over opened. opened })
  hi_flows types.Any h = record { opens = λ C over opened. absurd cc }
  hi_flows (types.Upto label) h = h
  hi_flows (types.Secret label) h = h.0
  hi_flows (types.Key label usage) h = h.0
  hi_flows (types.Pk label usage) h = record { opens = λ C over opened. absurd cc }
  hi_flows (types.Vk label usage) h = record { opens = λ C over opened. absurd cc }

  flows_to_lo : (type : Declared) → HasType decls T choice value type → Flows T (label_of T value) (meaning_of choice (declared_lo type))
  flows_to_lo types.Name h = record { opens = λ C over opened. refl }
  flows_to_lo types.Any h = record { opens = λ C over opened. refl }
  flows_to_lo (types.Upto label) h = record { opens = λ C over opened. refl }
  flows_to_lo (types.Secret label) h = h.1
  flows_to_lo (types.Key label usage) h = h.1
  flows_to_lo (types.Pk label usage) h = record { opens = λ C over opened. refl }
  flows_to_lo (types.Vk label usage) h = record { opens = λ C over opened. refl }

  -- What is known of a field of this type holds of a value of this type.
  pub typed_is_known : (type : Declared) (hi guard : StaticLabel) → Flows T (meaning_of choice hi) (label_of T value) → HasType decls T choice value type
      → KnownHolds decls T choice value (narrow_by type hi guard)
  typed_is_known type hi guard reads h = record {
    is_open_by_hi = record {
      opens = λ C over opened. elim (or_cases _ _ opened) [
        | inl own ↦ (hi_flows type h).opens C over own
        | inr key ↦ reads.opens C over key
      ];
    };
    opens_lo = record { opens = λ C over opened. or_left _ _ ((flows_to_lo type h).opens C over opened) };
    claims_hold = typed_claims_hold type guard h;
  }

  -- The same of a value that all may know, where the guard is open.
  pub forged_is_known : LawsBelow → (type : Declared) (hi guard : StaticLabel) → IsShown T (label_of T value) → IsShown T (meaning_of choice guard)
      → KnownHolds decls T choice value (narrow_by type hi guard)
  forged_is_known below type hi guard known shown = record {
    is_open_by_hi = flows_to_shown below decls T known;
    opens_lo = flows_to_shown below decls T (guard_shown (meaning_of choice (declared_lo type)) _ shown);
    claims_hold = guarded_claims_hold type guard shown (inr known);
  }

  -- What is shown of a value: who has this label may know it, and these claims hold.
  pub is_shown_by : (whole : Known) (said : List Claim) → Flows T (meaning_of choice whole.hi) (label_of T value)
      → ((claim : Claim) → Contains said claim → ClaimHolds decls T choice value claim) → KnownHolds decls T choice value (shown_by whole said)
  is_shown_by whole said reads hold = record {
    is_open_by_hi = reads;
    opens_lo = record { opens = λ C over opened. refl };
    claims_hold = hold;
  }
