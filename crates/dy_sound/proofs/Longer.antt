-- What holds in a trace of labels, usages, fields, events and cases holds in a longer one.
use Rattle.std.proofs.Common.{◌≡◌, ℕ, List, [], ◌∷◌, ◌++◌, Contains, Option, Some, None, inl, inr, refl, sym, ap, subst, ◌∙◌}
use Rattle.std.specs.List.{slice_get}
use Rattle.dy_term.specs.Terms as trees
use Rattle.dy_term.specs.Terms.{Term, Lit, Name, Nonce, Pair, Penc, Aead, Sign, Mac, Kdf, Hash}
use Rattle.dy_term.specs.Tuples.{right_pairs, tagged_tuple}
use Rattle.dy_label.specs.Labels.{Label}
use Rattle.dy_label.specs.declared.usages.Usage.{Usage}
use Rattle.dy_syntax.specs.Names.{AtomText}
use Rattle.dy_syntax.specs.Declarations as types
use Rattle.dy_syntax.specs.Declarations.{FieldType, Field, Partner}
use Rattle.dy_syntax.specs.Files.{Decl}
use Rattle.dy_cases.specs.Derived.{derived_usage}
use Rattle.dy_entry.specs.Entries.{Entry}
use Rattle.dy_entry.specs.LookUps.{corruptions}
use Rattle.dy_entry.specs.ValueLabels.{label_of, HasMadeNonces}
use Rattle.dy_sound.specs.Usages.{usage_of_nonce, usage_of}
use Rattle.dy_sound.specs.Flows.{Flows, IsShown}
use Rattle.dy_sound.specs.Words.{Words, case_words}
use Rattle.dy_sound.specs.Events.{HasHappened, HasHappenedFor, HasPartner}
use Rattle.dy_sound.specs.Fields.{HasUse, IsMadeOf, IsPkFor, IsVkFor, Meets, AllMeet}
use Rattle.dy_sound.specs.Cases.{CaseHolds}
use Rattle.dy_sound.proofs.Lists.{Contains-first, Contains-later, Contains-cases, Contains-none, in_longer, and_then_still}
use Rattle.dy_sound.specs.LawsBelow.{LawsBelow}

nonce_usage_still : (first second : Option Entry) (usage : Usage) → ((e : Entry) → first ≡ Some e → second ≡ Some e)
    → usage_of_nonce first ≡ Some usage → usage_of_nonce second ≡ Some usage
nonce_usage_still None second usage stays h = absurd cc
nonce_usage_still (Some e) second usage stays h = ap usage_of_nonce (stays e refl) ∙ h

-- The terms of a tuple have made nonces where the tuple has.
pub made_in_pairs : (T : List Entry) (first : Term) (more : List Term) → HasMadeNonces T (right_pairs first more)
    → (term : Term) → Contains (first ∷ more) term → HasMadeNonces T term
made_in_pairs T first [] made term h = elim (Contains-cases first [] term h) [
  | inl is ↦ subst (HasMadeNonces T) is made
  | inr none ↦ absurd (Contains-none term none)
]
made_in_pairs T first (next ∷ more) made term h = elim (Contains-cases first (next ∷ more) term h) [
  | inl is ↦ subst (HasMadeNonces T) is made.0
  | inr later ↦ made_in_pairs T next more made.1 term later
]

pub fields_made : (T : List Entry) (tag : List ℕ) (fields : List Term) → HasMadeNonces T (tagged_tuple tag fields)
    → (field : Term) → Contains fields field → HasMadeNonces T field
fields_made T tag fields made field h = made_in_pairs T (Lit tag) fields made field (Contains-later (Lit tag) fields field h)

module _ (below : LawsBelow) (decls : List Decl) (T more : List Entry) where
  pub flows_still : {from to : Label} → Flows T from to → Flows (T ++ more) from to
  flows_still flows = record {
    opens = λ C over. flows.opens C (record { has_all = λ corruption stands. over.has_all corruption (below.corruptions_stay T more corruption stands) });
  }

  pub shown_still : {label : Label} → IsShown T label → IsShown (T ++ more) label
  shown_still {label} shown = record {
    is_open_now = below.no_label_closes (corruptions T) (corruptions (T ++ more)) label (below.corruptions_stay T more) shown.is_open_now;
  }

  pub usage_still : (value : Term) (usage : Usage) → usage_of decls T value ≡ Some usage → usage_of decls (T ++ more) value ≡ Some usage
  usage_still (Nonce index) usage h = nonce_usage_still (slice_get T index) (slice_get (T ++ more) index) usage (λ e at. in_longer T more index e at) h
  usage_still (Kdf key context input) usage h =
      and_then_still (λ own. derived_usage decls own context) (usage_of decls T key) (usage_of decls (T ++ more) key) usage
      (λ own is. usage_still key own is) h
  usage_still (Lit text) usage h = h
  usage_still (Name principal) usage h = h
  usage_still (Pair first second) usage h = h
  usage_still (trees.Pk key) usage h = h
  usage_still (trees.Vk key) usage h = h
  usage_still (Penc to message) usage h = h
  usage_still (Aead key message associated) usage h = h
  usage_still (Sign key message) usage h = h
  usage_still (Mac key message) usage h = h
  usage_still (Hash message) usage h = h

  -- flows to and from the label of a value
  pub flows_to_still : {from : Label} (value : Term) → HasMadeNonces T value → Flows T from (label_of T value) → Flows (T ++ more) from (label_of (T ++ more) value)
  flows_to_still {from} value made flows = subst (λ (l : Label). Flows (T ++ more) from l) (sym (below.labels_stay T more value made)) (flows_still flows)

  pub flows_from_still : {to : Label} (value : Term) → HasMadeNonces T value → Flows T (label_of T value) to → Flows (T ++ more) (label_of (T ++ more) value) to
  flows_from_still {to} value made flows = subst (λ (l : Label). Flows (T ++ more) l to) (sym (below.labels_stay T more value made)) (flows_still flows)

  pub flows_between_still : (value other : Term) → HasMadeNonces T value → HasMadeNonces T other
      → Flows T (label_of T value) (label_of T other) → Flows (T ++ more) (label_of (T ++ more) value) (label_of (T ++ more) other)
  flows_between_still value other made other_made flows =
      subst (λ (l : Label). Flows (T ++ more) l (label_of (T ++ more) other)) (sym (below.labels_stay T more value made)) (flows_to_still other other_made flows)

  pub value_shown_still : (value : Term) → HasMadeNonces T value → IsShown T (label_of T value) → IsShown (T ++ more) (label_of (T ++ more) value)
  value_shown_still value made shown = subst (IsShown (T ++ more)) (sym (below.labels_stay T more value made)) (shown_still shown)

  pub has_use_still : (value : Term) (usage : Usage) → HasMadeNonces T value → HasUse decls T value usage → HasUse decls (T ++ more) value usage
  has_use_still value usage made (inl has) = inl (usage_still value usage has)
  has_use_still value usage made (inr shown) = inr (value_shown_still value made shown)

  pub made_of_still : (make : Term → Term) (value : Term) (label : Label) (usage : Usage)
      → ((key : Term) → HasMadeNonces T (make key) → HasMadeNonces T key) → HasMadeNonces T value
      → IsMadeOf make decls T value label usage → IsMadeOf make decls (T ++ more) value label usage
  made_of_still make value label usage part made of_key = record {
    key = of_key.key;
    value_is = of_key.value_is;
    has_usage = usage_still of_key.key usage of_key.has_usage;
    opens = flows_from_still of_key.key (part of_key.key (subst (HasMadeNonces T) of_key.value_is made)) of_key.opens;
  }

  pub is_pk_still : (value : Term) (label : Label) (usage : Usage) → HasMadeNonces T value → IsPkFor decls T value label usage → IsPkFor decls (T ++ more) value label usage
  is_pk_still value label usage made (inl of_key) = inl (made_of_still trees.Pk value label usage (λ key part. part) made of_key)
  is_pk_still value label usage made (inr shown) = inr (shown_still shown)

  pub is_vk_still : (value : Term) (label : Label) (usage : Usage) → HasMadeNonces T value → IsVkFor decls T value label usage → IsVkFor decls (T ++ more) value label usage
  is_vk_still value label usage made (inl of_key) = inl (made_of_still trees.Vk value label usage (λ key part. part) made of_key)
  is_vk_still value label usage made (inr shown) = inr (shown_still shown)

  pub meets_still : (words : Words) (value : Term) (type : FieldType) → HasMadeNonces T value → Meets decls T words value type → Meets decls (T ++ more) words value type
  meets_still words value types.Name made h = h
  meets_still words value types.Any made h = h
  meets_still words value (types.Upto label) made h = flows_to_still value made h
  meets_still words value (types.Secret label) made h = (flows_to_still value made h.0, flows_from_still value made h.1)
  meets_still words value (types.Key label usage) made h = (flows_to_still value made h.0, flows_from_still value made h.1, has_use_still value _ made h.2)
  meets_still words value (types.Pk label usage) made h = is_pk_still value _ _ made h
  meets_still words value (types.Vk label usage) made h = is_vk_still value _ _ made h

  pub all_meet_still : (words : Words) (fields : List Field) (values : List Term) → ((value : Term) → Contains values value → HasMadeNonces T value)
      → AllMeet decls T words fields values → AllMeet decls (T ++ more) words fields values
  all_meet_still words [] [] made h = h
  all_meet_still words [] (value ∷ values) made h = h
  all_meet_still words (field ∷ fields) [] made h = h
  all_meet_still words (field ∷ fields) (value ∷ values) made h = (
    meets_still words value field.kind (made value (Contains-first value values)) h.0,
    all_meet_still words fields values (λ other stands. made other (Contains-later value values other stands)) h.1,
  )

  pub happened_still : (event : List ℕ) (args : List Term) → HasHappened T event args → HasHappened (T ++ more) event args
  happened_still event args h = record { index = h.index; instance = h.instance; principal = h.principal; stands = in_longer T more h.index _ h.stands }

  pub happened_for_still : (words : Words) (atom : AtomText) → HasHappenedFor T words atom → HasHappenedFor (T ++ more) words atom
  happened_for_still words atom h = record { args = h.args; args_are = h.args_are; has_happened = happened_still _ h.args h.has_happened }

  pub has_partner_still : (words : Words) (partner : Partner) → HasPartner T words partner → HasPartner (T ++ more) words partner
  has_partner_still words partner (inl happened) = inl (happened_for_still words partner.atom happened)
  has_partner_still words partner (inr shown) = inr (shown_still shown)

  pub case_still : (key message : Term) → HasMadeNonces T message → CaseHolds decls T key message → CaseHolds decls (T ++ more) key message
  case_still key message made holds =
      let words = case_words decls holds.usage.owners holds.case holds.fields in
      record {
        usage = holds.usage;
        has_usage = usage_still key holds.usage holds.has_usage;
        tag = holds.tag;
        fields = holds.fields;
        message_is = holds.message_is;
        case = holds.case;
        is_declared = holds.is_declared;
        fields_meet = all_meet_still words holds.case.fields holds.fields (fields_made T holds.tag holds.fields (subst (HasMadeNonces T) holds.message_is made)) holds.fields_meet;
        events_stand = λ atom stands. happened_for_still words atom (holds.events_stand atom stands);
      }
