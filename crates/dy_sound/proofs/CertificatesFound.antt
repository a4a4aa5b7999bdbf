-- After `find`: the key that is found is the key of a certificate, a public or a verification key of its owner.
use Rattle.std.proofs.Common.{◌≡◌, ℕ, Bool, true, false, List, [], ◌∷◌, ◌++◌, Contains, Option, Some, None, if◌then◌else◌, inl, inr, refl, sym, ap, subst, ◌∙◌}
use Rattle.std.specs.Option.{option_map_or}
use Rattle.std.specs.List.{slice_get, position}
use Rattle.std.specs.Str.{bytes_eq}
use Rattle.std.proofs.lemmas.Bool.{and_parts}
use Rattle.std.proofs.lemmas.List.Quantifiers.{position-Some}
use Rattle.std.proofs.lemmas.Option.{get_or_from_slice_get}
use Rattle.std.proofs.lemmas.Slice.Eq.{bytes_eq-Decides}
use Rattle.dy_term.specs.Terms.{Term}
use Rattle.dy_label.specs.Labels.{One, Principal, Public}
use Rattle.dy_label.specs.Words.{Name, Choice}
use Rattle.dy_label.specs.declared.usages.Kind as kind
use Rattle.dy_label.specs.declared.usages.Kind.TheVariants as kinds
use Rattle.dy_types.specs.Claims as claims
use Rattle.dy_types.specs.Claims.{StaticUse, Claim, Known}
use Rattle.dy_syntax.specs.Names as names_of_text
use Rattle.dy_syntax.specs.Names.{Id, Nm, Named, KindText}
use Rattle.dy_syntax.specs.Files.{Decl}
use Rattle.dy_syntax.specs.LookUps.{usage_named}
use Rattle.dy_syntax.specs.Declarations.{UsageDecl}
use Rattle.dy_syntax.specs.Rules.Kinds.{is_kind}
use Rattle.dy_cases.specs.Derived.{kind_named}
use Rattle.dy_typing.specs.Expressions.{is_of_kind}
use Rattle.dy_typing.specs.Effects.{found_claims}
use Rattle.dy_entry.specs.Entries.{Entry, Setup, Start, Fresh, Message, State, Event, Cert, End, Corrupt, Forge, Inject, Skip}
use Rattle.dy_entry.specs.LookUps.{find_cert, is_cert_for}
use Rattle.dy_eval.specs.Lines.{kind_of_usage}
use Rattle.dy_eval.specs.Past.{key_certified, cert_in, key_of}
use Rattle.dy_sound.specs.Usages.{usage_with}
use Rattle.dy_sound.specs.Knowledge.{ClaimHolds, KnownHolds}
use Rattle.dy_sound.specs.Good.{IsKeyOfKind, IsGoodCert, IsGood}
use Rattle.dy_sound.specs.LawsBelow.{LawsBelow}
use Rattle.dy_sound.proofs.Lists.{Contains-cases, Contains-none, in_longer}
use Rattle.dy_sound.proofs.DerivedValues.{flows_to_shown}
use Rattle.dy_sound.proofs.ItemsPut.{and_then_is}

-- What stands at the first index at which a test passes, passes.
pub found_stands : {A : Type 0} (test : A → Bool) (xs : List A) (k : ℕ) (y : A) → position test xs ≡ Some k → slice_get xs k ≡ Some y → test y ≡ true
found_stands test xs k y found at =
    ap test (sym (get_or_from_slice_get xs k y y at)) ∙ (position-Some test xs k y found).1

-- an entry that certifies this key for this usage of this principal
certifies : (principal usage : List ℕ) (e : Entry) (key : Term) → is_cert_for principal usage e ≡ true → key_certified e ≡ Some key
    → (instance : ℕ) × (e ≡ Cert instance principal usage key)
certifies principal usage (Cert instance p u key) other passes is =
    let parts = and_parts (bytes_eq p principal) (bytes_eq u usage) passes in
    let owner : p ≡ principal = (bytes_eq-Decides p principal).0 parts.0 in
    let of_use : u ≡ usage = (bytes_eq-Decides u usage).0 parts.1 in
    let same : key ≡ other = cc in
    (instance, cc)
certifies principal usage (Setup input) key passes is = absurd cc
certifies principal usage (Start step handler p session args message) key passes is = absurd cc
certifies principal usage (Fresh instance label u) key passes is = absurd cc
certifies principal usage (Message instance value) key passes is = absurd cc
certifies principal usage (State instance p session version tag fields) key passes is = absurd cc
certifies principal usage (Event instance p name args) key passes is = absurd cc
certifies principal usage (End instance outcome) key passes is = absurd cc
certifies principal usage (Corrupt step corruption) key passes is = absurd cc
certifies principal usage (Forge step) key passes is = absurd cc
certifies principal usage (Inject step value) key passes is = absurd cc
certifies principal usage (Skip step) key passes is = absurd cc

-- The key that is found is that of a certificate.
key_found : (X : List Entry) (principal usage : List ℕ) (key : Term) → key_of X principal usage ≡ Some key
    → (index instance : ℕ) × (slice_get X index ≡ Some (Cert instance principal usage key))
key_found X principal usage key is =
    let found = and_then_is (cert_in X) (find_cert X principal usage) key is in
    let entry = and_then_is key_certified (slice_get X found.0) key found.2 in
    let passes = found_stands (is_cert_for principal usage) X found.0 entry.0 found.1 entry.1 in
    let is_cert = certifies principal usage entry.0 key passes entry.2 in
    (found.0, is_cert.0, entry.1 ∙ ap Some is_cert.1)

pub good_cert_found : (decls : List Decl) (T X since : List Entry) → IsGood decls T → T ≡ X ++ since → (principal usage : List ℕ) (key : Term)
    → key_of X principal usage ≡ Some key → IsGoodCert decls T principal usage key
good_cert_found decls T X since good extends principal usage key is =
    let found = key_found X principal usage key is in
    let stands : slice_get T found.0 ≡ Some (Cert found.1 principal usage key) =
    ap (λ (trace : List Entry). slice_get trace found.0) extends ∙ in_longer X since found.0 (Cert found.1 principal usage key) found.2 in
    good.certs found.0 found.1 principal usage key stands

is_pke : (kind : KindText) → is_kind names_of_text.Pke kind ≡ true → kind_named kind ≡ kinds.Pke
is_pke names_of_text.Pke is = refl
is_pke names_of_text.Nonce is = absurd cc
is_pke names_of_text.Sig is = absurd cc
is_pke names_of_text.Aead is = absurd cc
is_pke names_of_text.Mac is = absurd cc
is_pke names_of_text.Kdf is = absurd cc

is_sig : (kind : KindText) → is_kind names_of_text.Sig kind ≡ true → kind_named kind ≡ kinds.Sig
is_sig names_of_text.Sig is = refl
is_sig names_of_text.Nonce is = absurd cc
is_sig names_of_text.Pke is = absurd cc
is_sig names_of_text.Aead is = absurd cc
is_sig names_of_text.Mac is = absurd cc
is_sig names_of_text.Kdf is = absurd cc

-- A usage of a kind has it in the trace too.
pub usage_is_pke : (decls : List Decl) (usage : List ℕ) → is_of_kind decls names_of_text.Pke usage ≡ true → kind_of_usage decls usage ≡ kinds.Pke
usage_is_pke decls usage is = from (usage_named decls usage) is where
  from : (found : Option UsageDecl) → option_map_or (λ declared. is_kind names_of_text.Pke declared.kind) found false ≡ true
      → option_map_or (λ u. kind_named u.kind) found kinds.Nonce ≡ kinds.Pke
  from None is = absurd cc
  from (Some declared) is = is_pke declared.kind is

pub usage_is_sig : (decls : List Decl) (usage : List ℕ) → is_of_kind decls names_of_text.Sig usage ≡ true → kind_of_usage decls usage ≡ kinds.Sig
usage_is_sig decls usage is = from (usage_named decls usage) is where
  from : (found : Option UsageDecl) → option_map_or (λ declared. is_kind names_of_text.Sig declared.kind) found false ≡ true
      → option_map_or (λ u. kind_named u.kind) found kinds.Nonce ≡ kinds.Sig
  from None is = absurd cc
  from (Some declared) is = is_sig declared.kind is

module _ (below : LawsBelow) (decls : List Decl) (T : List Entry) (choice : Choice) (usage : List ℕ) (key : Term) (number : ℕ)
    (good : IsGoodCert decls T (choice.principals number) usage key) where
  abbrev static : StaticUse
  static = record { usage = usage; args = number ∷ [] }

  claim_found : (pke sig : Bool) → is_of_kind decls names_of_text.Pke usage ≡ pke → is_of_kind decls names_of_text.Sig usage ≡ sig → (claim : Claim)
      → Contains (if pke then claims.Pk (One (Name number)) static ∷ [] else if sig then claims.Vk (One (Name number)) static ∷ [] else []) claim
      → ClaimHolds decls T choice key claim
  claim_found true sig pke_is sig_is claim stands = elim (Contains-cases (claims.Pk (One (Name number)) static) [] claim stands) [
    | inl same ↦
        subst (ClaimHolds decls T choice key) same
        (subst (λ (kind : kind.Kind). IsKeyOfKind kind decls T key (One (Principal (choice.principals number))) (usage_with decls usage (choice.principals number ∷ [])))
        (usage_is_pke decls usage pke_is) good.belongs)
    | inr none ↦ absurd (Contains-none claim none)
  ]
  claim_found false true pke_is sig_is claim stands = elim (Contains-cases (claims.Vk (One (Name number)) static) [] claim stands) [
    | inl same ↦
        subst (ClaimHolds decls T choice key) same
        (subst (λ (kind : kind.Kind). IsKeyOfKind kind decls T key (One (Principal (choice.principals number))) (usage_with decls usage (choice.principals number ∷ [])))
        (usage_is_sig decls usage sig_is) good.belongs)
    | inr none ↦ absurd (Contains-none claim none)
  ]
  claim_found false false pke_is sig_is claim stands = absurd (Contains-none claim stands)

  -- What is known of a key that is found holds of it.
  pub found_is_known : KnownHolds decls T choice key (record { hi = Public; lo = Public; claims = found_claims decls (One (Name number)) static })
  found_is_known = record {
    is_open_by_hi = flows_to_shown below decls T good.may_be_known.shown;
    opens_lo = record { opens = λ C over opened. refl };
    claims_hold = claim_found (is_of_kind decls names_of_text.Pke usage) (is_of_kind decls names_of_text.Sig usage) refl refl;
  }
