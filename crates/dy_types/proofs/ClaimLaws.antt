-- Claims that are added to others.
use Rattle.std.proofs.Common.{◌≡◌, ◌↔◌, ℕ, ◌<◌, Bool, true, false, ◌&&◌, List, [], ◌∷◌, ◌++◌, Contains, Option, Some, None, if◌then◌else◌, refl, sym, ap, subst, ◌∙◌, inl, inr, arith, ◌⊎◌}
use Rattle.std.specs.List.{list_all, filter_map, cons_option}
use Rattle.std.proofs.lemmas.Bool.{and_parts, and_from}
use Rattle.std.proofs.lemmas.List.Folds.{list_all-append}
use Rattle.std.proofs.lemmas.List.Elements.{Contains-append_left, Contains-append_right, Contains-append_cases, Contains-push_cases, filter_map-append}
use Rattle.std.proofs.lemmas.Slice.Eq.{bytes_eq-Decides}
use Rattle.std.specs.Str.{bytes_eq}
use Rattle.dy_label.specs.Words.{StaticLabel}
use Rattle.dy_label.specs.Tables.{value_at}
use Rattle.dy_types.specs.declared.claims.Side.{Side}
use Rattle.dy_types.specs.declared.claims.Side.TheVariants as sides
use Rattle.dy_types.specs.Claims.{StaticUse, is_same_use, ClaimOf, Claim, Use, Pk, Vk, claimed_use, pk_label, vk_label, uses_in, pk_labels, vk_labels}
use Rattle.dy_types.specs.Tables.{Table, HasTable, is_empty, MeetHasTables, ClaimsHaveTables, ClaimHasTable}
use Rattle.dy_types.specs.MirrorMeets.{key_label, key_labels}
use Rattle.dy_types.specs.MirrorClaims.{MeetsAlike, SayTheSame, CoversMeet, SaysNothingNew}
use Rattle.dy_types.proofs.MeetLaws.{and-true, is_empty-append, append-nil, MeetHasTables-none, MeetHasTables-one, MeetHasTables-append, MeetHasTables-alike, MeetsAlike-refl, MeetsAlike-trans, MeetsAlike-append}

-- usages that pass for the same are one
same_use : (usage other : StaticUse) → is_same_use usage other ≡ true → usage ≡ other
same_use usage other h =
    let parts = and_parts (bytes_eq usage.usage other.usage) (bytes_eq usage.args other.args) h in
    ap (λ (words : List ℕ). record { usage = words; args = usage.args }) ((bytes_eq-Decides usage.usage other.usage).0 parts.0)
    ∙ ap (λ (args : List ℕ). record { usage = other.usage; args = args }) ((bytes_eq-Decides usage.args other.args).0 parts.1)

pub has_itself : (usage : StaticUse) → is_same_use usage usage ≡ true
has_itself usage =
    and_from (bytes_eq usage.usage usage.usage) (bytes_eq usage.args usage.args)
    ((bytes_eq-Decides usage.usage usage.usage).1 refl) ((bytes_eq-Decides usage.args usage.args).1 refl)

-- A usage is in two lists of claims exactly where it is in one of them.
uses_in-append : {L : Type 0} (claims more : List (ClaimOf L)) → uses_in (claims ++ more) ≡ uses_in claims ++ uses_in more
uses_in-append claims more = filter_map-append claimed_use claims more

pub use_in_either : {L : Type 0} (claims more : List (ClaimOf L)) (usage : StaticUse)
    → Contains (uses_in (claims ++ more)) usage → Contains (uses_in claims) usage ⊎ Contains (uses_in more) usage
use_in_either claims more usage h =
    Contains-append_cases (uses_in claims) (uses_in more) usage (subst (λ (uses : List StaticUse). Contains uses usage) (uses_in-append claims more) h)

pub use_in_first : {L : Type 0} (claims more : List (ClaimOf L)) (usage : StaticUse) → Contains (uses_in claims) usage → Contains (uses_in (claims ++ more)) usage
use_in_first claims more usage h =
    subst (λ (uses : List StaticUse). Contains uses usage) (sym (uses_in-append claims more)) (Contains-append_left (uses_in claims) (uses_in more) usage h)

pub use_in_second : {L : Type 0} (claims more : List (ClaimOf L)) (usage : StaticUse) → Contains (uses_in more) usage → Contains (uses_in (claims ++ more)) usage
use_in_second claims more usage h =
    subst (λ (uses : List StaticUse). Contains uses usage) (sym (uses_in-append claims more)) (Contains-append_right (uses_in claims) (uses_in more) usage h)

key_labels-append : {L : Type 0} (side : Side) (claims more : List (ClaimOf L)) (usage : StaticUse)
    → key_labels side (claims ++ more) usage ≡ key_labels side claims usage ++ key_labels side more usage
key_labels-append side claims more usage = filter_map-append (key_label side usage) claims more

-- what claims on keys have in common with their tables, on either side
pub keys_have : (side : Side) (claims : List Claim) (kept : List (ClaimOf Table)) (usage : StaticUse)
    → ClaimsHaveTables claims kept → MeetHasTables (key_labels side claims usage) (key_labels side kept usage)
keys_have sides.Pk claims kept usage h = h.pks usage
keys_have sides.Vk claims kept usage h = h.vks usage

from_sides : (claims : List Claim) (kept : List (ClaimOf Table))
    → ((usage : StaticUse) → Contains (uses_in claims) usage ↔ Contains (uses_in kept) usage)
    → ((side : Side) (usage : StaticUse) → MeetHasTables (key_labels side claims usage) (key_labels side kept usage))
    → ClaimsHaveTables claims kept
from_sides claims kept uses keys = record { uses = uses; pks = keys sides.Pk; vks = keys sides.Vk }

pub ClaimsHaveTables-none : ClaimsHaveTables [] []
ClaimsHaveTables-none = record { uses = λ usage. (λ h. h, λ h. h); pks = λ usage. MeetHasTables-none; vks = λ usage. MeetHasTables-none }

either_use : {L M : Type 0} (claims more : List (ClaimOf L)) (kept others : List (ClaimOf M))
    → ((usage : StaticUse) → Contains (uses_in claims) usage → Contains (uses_in kept) usage)
    → ((usage : StaticUse) → Contains (uses_in more) usage → Contains (uses_in others) usage)
    → (usage : StaticUse) → Contains (uses_in (claims ++ more)) usage → Contains (uses_in (kept ++ others)) usage
either_use claims more kept others first second usage h = elim (use_in_either claims more usage h) [
  | inl in_first ↦ use_in_first kept others usage (first usage in_first)
  | inr in_second ↦ use_in_second kept others usage (second usage in_second)
]

pub ClaimsHaveTables-append : (claims more : List Claim) (kept others : List (ClaimOf Table))
    → ClaimsHaveTables claims kept → ClaimsHaveTables more others → ClaimsHaveTables (claims ++ more) (kept ++ others)
ClaimsHaveTables-append claims more kept others h k = from_sides (claims ++ more) (kept ++ others)
    (λ usage. (
      either_use claims more kept others (λ u. (h.uses u).0) (λ u. (k.uses u).0) usage,
      either_use kept others claims more (λ u. (h.uses u).1) (λ u. (k.uses u).1) usage,
    ))
    (λ side usage. rw (key_labels-append side claims more usage, key_labels-append side kept others usage)
    (MeetHasTables-append (key_labels side claims usage) (key_labels side more usage) (key_labels side kept usage) (key_labels side others usage)
    (keys_have side claims kept usage h) (keys_have side more others usage k)))

-- one label where a test says so
chosen_label : (b : Bool) (label : StaticLabel) (table : Table) → HasTable label table
    → MeetHasTables (cons_option (if b then Some label else None) []) (cons_option (if b then Some table else None) [])
chosen_label true label table h = MeetHasTables-one label table h
chosen_label false label table h = MeetHasTables-none

one_claim : (claim : Claim) (kept : ClaimOf Table) → ClaimHasTable claim kept → ClaimsHaveTables (claim ∷ []) (kept ∷ [])
one_claim (Use usage) (Use other) h = record {
  uses = λ u. (
    λ k. subst (λ (v : StaticUse). Contains (v ∷ []) u) h k,
    λ k. subst (λ (v : StaticUse). Contains (v ∷ []) u) (sym h) k,
  );
  pks = λ u. MeetHasTables-none;
  vks = λ u. MeetHasTables-none;
}
one_claim (Pk label usage) (Pk table other) h = record {
  uses = λ u. (λ k. k, λ k. k);
  pks = λ u. subst (λ (v : StaticUse). MeetHasTables (pk_labels (Pk label usage ∷ []) u) (pk_labels (Pk table v ∷ []) u)) h.1 (chosen_label (is_same_use usage u) label table h.0);
  vks = λ u. MeetHasTables-none;
}
one_claim (Vk label usage) (Vk table other) h = record {
  uses = λ u. (λ k. k, λ k. k);
  pks = λ u. MeetHasTables-none;
  vks = λ u. subst (λ (v : StaticUse). MeetHasTables (vk_labels (Vk label usage ∷ []) u) (vk_labels (Vk table v ∷ []) u)) h.1 (chosen_label (is_same_use usage u) label table h.0);
}
one_claim (Use usage) (Pk table other) h = absurd h
one_claim (Use usage) (Vk table other) h = absurd h
one_claim (Pk label usage) (Use other) h = absurd h
one_claim (Pk label usage) (Vk table other) h = absurd h
one_claim (Vk label usage) (Use other) h = absurd h
one_claim (Vk label usage) (Pk table other) h = absurd h

pub ClaimsHaveTables-push : (claims : List Claim) (claim : Claim) (kept : List (ClaimOf Table)) (other : ClaimOf Table)
    → ClaimsHaveTables claims kept → ClaimHasTable claim other → ClaimsHaveTables (claims ++ claim ∷ []) (kept ++ other ∷ [])
ClaimsHaveTables-push claims claim kept other h k = ClaimsHaveTables-append claims (claim ∷ []) kept (other ∷ []) h (one_claim claim other k)

pub ClaimsHaveTables-alike : (claims : List Claim) (kept others : List (ClaimOf Table))
    → ClaimsHaveTables claims kept → SayTheSame kept others → ClaimsHaveTables claims others
ClaimsHaveTables-alike claims kept others h k = from_sides claims others
    (λ usage. (λ p. (k.uses usage).0 ((h.uses usage).0 p), λ p. (h.uses usage).1 ((k.uses usage).1 p)))
    (λ side usage. MeetHasTables-alike (key_labels side claims usage) (key_labels side kept usage) (key_labels side others usage)
    (keys_have side claims kept usage h) (k.keys side usage))

pub SayTheSame-refl : (kept : List (ClaimOf Table)) → SayTheSame kept kept
SayTheSame-refl kept = record { uses = λ usage. (λ h. h, λ h. h); keys = λ side usage. MeetsAlike-refl (key_labels side kept usage) }

pub SayTheSame-trans : (kept others third : List (ClaimOf Table)) → SayTheSame kept others → SayTheSame others third → SayTheSame kept third
SayTheSame-trans kept others third h k = record {
  uses = λ usage. (λ p. (k.uses usage).0 ((h.uses usage).0 p), λ p. (h.uses usage).1 ((k.uses usage).1 p));
  keys = λ side usage. MeetsAlike-trans (key_labels side kept usage) (key_labels side others usage) (key_labels side third usage) (h.keys side usage) (k.keys side usage);
}

pub SayTheSame-append : (kept others more : List (ClaimOf Table)) → SayTheSame kept others → SayTheSame (kept ++ more) (others ++ more)
SayTheSame-append kept others more h = record {
  uses = λ usage. (
    either_use kept more others more (λ u. (h.uses u).0) (λ u p. p) usage,
    either_use others more kept more (λ u. (h.uses u).1) (λ u p. p) usage,
  );
  keys = λ side usage. rw (key_labels-append side kept more usage, key_labels-append side others more usage)
      (MeetsAlike-append (key_labels side kept usage) (key_labels side others usage) (key_labels side more usage) (h.keys side usage));
}

-- A table that covers the meet of others adds nothing to it.
covered : (tables : List Table) (table : Table) → CoversMeet tables table → MeetsAlike (tables ++ table ∷ []) tables
covered tables table h = record {
  empty = let more = is_empty-append tables (table ∷ []) in let some = h.some in more ∙ ap (λ b. b && false) some ∙ sym some;
  rows = λ row below.
      list_all-append (λ other. value_at other row) tables (table ∷ [])
      ∙ ap (λ b. list_all (λ other. value_at other row) tables && b) (and-true (value_at table row))
      ∙ h.rows row below;
}

alike-nil : (tables : List Table) → MeetsAlike (tables ++ []) tables
alike-nil tables = subst (λ (others : List Table). MeetsAlike others tables) (sym (append-nil tables)) (MeetsAlike-refl tables)

chosen_cover : (b : Bool) (tables : List Table) (table : Table) → (b ≡ true → CoversMeet tables table)
    → MeetsAlike (tables ++ cons_option (if b then Some table else None) []) tables
chosen_cover true tables table h = covered tables table (h refl)
chosen_cover false tables table h = alike-nil tables

keys_new : (side : Side) (kept : List (ClaimOf Table)) (claim : ClaimOf Table) (usage : StaticUse) → SaysNothingNew kept claim
    → MeetsAlike (key_labels side kept usage ++ key_labels side (claim ∷ []) usage) (key_labels side kept usage)
keys_new side kept (Use other) usage h = elim side as (λ s. MeetsAlike (key_labels s kept usage ++ key_labels s (Use other ∷ []) usage) (key_labels s kept usage)) [
  | sides.Pk ↦ alike-nil (pk_labels kept usage)
  | sides.Vk ↦ alike-nil (vk_labels kept usage)
]
keys_new sides.Pk kept (Pk table other) usage h =
    chosen_cover (is_same_use other usage) (pk_labels kept usage) table
    (λ same. subst (λ (u : StaticUse). CoversMeet (pk_labels kept u) table) (same_use other usage same) h)
keys_new sides.Vk kept (Pk table other) usage h = alike-nil (vk_labels kept usage)
keys_new sides.Pk kept (Vk table other) usage h = alike-nil (pk_labels kept usage)
keys_new sides.Vk kept (Vk table other) usage h =
    chosen_cover (is_same_use other usage) (vk_labels kept usage) table
    (λ same. subst (λ (u : StaticUse). CoversMeet (vk_labels kept u) table) (same_use other usage same) h)

pub in_none : (usage : StaticUse) → Contains [] usage → ⊥
in_none usage h = let below : h.0 < 0 = h.1 in omega arith

pub only_use : (usage other : StaticUse) → Contains (usage ∷ []) other → usage ≡ other
only_use usage other h = elim (Contains-push_cases [] usage other h) [ inl none ↦ absurd (in_none other none) | inr is ↦ is ]

use_new : (kept : List (ClaimOf Table)) (claim : ClaimOf Table) (usage : StaticUse) → SaysNothingNew kept claim
    → Contains (uses_in (claim ∷ [])) usage → Contains (uses_in kept) usage
use_new kept (Use other) usage h k = subst (λ (u : StaticUse). Contains (uses_in kept) u) (only_use other usage k) h
use_new kept (Pk table other) usage h k = absurd (in_none usage k)
use_new kept (Vk table other) usage h k = absurd (in_none usage k)

pub SayTheSame-push : (kept : List (ClaimOf Table)) (claim : ClaimOf Table) → SaysNothingNew kept claim → SayTheSame (kept ++ claim ∷ []) kept
SayTheSame-push kept claim h = record {
  uses = λ usage. (
    λ k. elim (use_in_either kept (claim ∷ []) usage k) [ inl before ↦ before | inr new ↦ use_new kept claim usage h new ],
    λ k. use_in_first kept (claim ∷ []) usage k,
  );
  keys = λ side usage. rw (key_labels-append side kept (claim ∷ []) usage) (keys_new side kept claim usage h);
}
