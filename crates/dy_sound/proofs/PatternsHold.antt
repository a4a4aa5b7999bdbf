-- What is known after patterns are matched holds of what they write.
use Rattle.std.proofs.Common.{◌≡◌, ℕ, true, List, [], ◌∷◌, ◌++◌, Contains, Option, Some, None, refl, sym, ap, subst, ◌∙◌}
use Rattle.std.specs.Option.{option_map_or}
use Rattle.std.proofs.lemmas.Bool.{and_parts}
use Rattle.std.proofs.lemmas.List.{append_assoc, append-nil}
use Rattle.dy_term.specs.Terms.{Term}
use Rattle.dy_label.specs.Words.{Choice}
use Rattle.dy_types.specs.Claims.{Known, plain, identify_with, Claim}
use Rattle.dy_syntax.specs.Names.{Nm}
use Rattle.dy_syntax.specs.Statements.{Pattern, Bind, Named, Equal}
use Rattle.dy_syntax.specs.Files.{Decl}
use Rattle.dy_typing.specs.Knowledge.{Knowledge, known_at, bind, with_value, identify_value, value_of, with_claims, claim_value}
use Rattle.dy_typing.specs.Effects.{match_fields}
use Rattle.dy_entry.specs.Entries.{Entry}
use Rattle.dy_eval.specs.declared.written.Written.{Written}
use Rattle.dy_eval.specs.Names.{Names, write, bytes_for}
use Rattle.dy_eval.specs.Patterns.{fits_one, fits, written_by}
use Rattle.dy_sound.specs.Knowledge.{KnownHolds, Holds, ClaimHolds}
use Rattle.dy_sound.proofs.Lists.{Contains-none, Contains-first, Contains-later}
use Rattle.dy_sound.proofs.Tuples.{SameAreEqual}
use Rattle.dy_sound.proofs.StillWritten.{IsWritten, written_is_the_same}
use Rattle.dy_sound.proofs.Bound.{bound_holds}
use Rattle.dy_sound.proofs.OneValue.{both_hold, with_value_holds, claimed_too}
use Rattle.dy_sound.specs.Fields.{IsName}
use Rattle.dy_sound.proofs.KnownNames.{first_value}
use Rattle.dy_sound.proofs.WordsWritten.{is_name}

-- what is written in two parts
pub write_twice : (names : Names) (first more : List Written) → write (write names first) more ≡ write names (first ++ more)
write_twice names first more =
    ap (λ (written : List Written). let names_then : Names = record { principal = names.principal; session = names.session; written = written } in names_then)
    (append_assoc names.written first more)

-- What is known of each value holds of it, and they are as many.
abbrev pub AllKnownHold : List Decl → List Entry → Choice → List Term → List Known → Type 0
AllKnownHold decls T choice [] [] = Unit {0}
AllKnownHold decls T choice (value ∷ values) (known ∷ knowns) =
    KnownHolds decls T choice value known × AllKnownHold decls T choice values knowns
AllKnownHold decls T choice _ _ = ⊥

-- Each variable that a pattern compares with has bytes written in its place.
abbrev pub AreWritten : Names → List Pattern → Type 0
AreWritten names pats =
    (line : ℕ) (to : Nm) → Contains pats (Equal line to) → IsWritten names to

module _ (decls : List Decl) (T : List Entry) (choice : Choice) where
  -- All may know a name.
  name_is_known : (value : Term) → IsName value → KnownHolds decls T choice value plain
  name_is_known value is = subst (λ (v : Term). KnownHolds decls T choice v plain) (sym is.1) (record {
    is_open_by_hi = record { opens = λ C over opened. opened };
    opens_lo = record { opens = λ C over opened. opened };
    claims_hold = λ claim none. absurd (Contains-none claim none);
  })

  module _ (names : Names) (k : Knowledge) (h : Holds decls T choice names k) where
    -- More is known of the value of a name, where it holds of the bytes in its place.
    more_holds : (to : Nm) (more : Known → Known)
        → ((known : Known) → KnownHolds decls T choice (bytes_for names to) known → KnownHolds decls T choice (bytes_for names to) (more known))
        → Holds decls T choice names (option_map_or (λ number. with_value k number (more (known_at k number))) (value_of k to) k)
    more_holds to more keeps = at_number (value_of k to) refl where
      at_number : (at : Option ℕ) → value_of k to ≡ at → Holds decls T choice names (option_map_or (λ number. with_value k number (more (known_at k number))) at k)
      at_number None found = h
      at_number (Some number) found =
          let value_is = first_value decls T choice names k h to number found in
          with_value_holds decls T choice names k h number (more (known_at k number))
          (subst (λ (value : Term). KnownHolds decls T choice value (more (known_at k number))) (sym value_is)
          (keeps (known_at k number) (subst (λ (value : Term). KnownHolds decls T choice value (known_at k number)) value_is (h.values_hold number))))

    pub identify_holds : (to : Nm) (known : Known) → KnownHolds decls T choice (bytes_for names to) known → Holds decls T choice names (identify_value k to known)
    identify_holds to known of_it = more_holds to (λ own. identify_with own known) (λ own holds. both_hold decls T choice (bytes_for names to) own known holds of_it)

    pub claims_hold : (to : Nm) (said : List Claim) → ((claim : Claim) → Contains said claim → ClaimHolds decls T choice (bytes_for names to) claim)
        → Holds decls T choice names (claim_value k to said)
    claims_hold to said each = more_holds to (λ own. with_claims own said) (λ own holds. claimed_too decls T choice (bytes_for names to) own said holds each)

module _ (equal : SameAreEqual) (decls : List Decl) (T : List Entry) (choice : Choice) (start : Names) where
  pub match_fields_hold : (pats : List Pattern) (fields : List Term) (knowns : List Known) (before : List Written) (k : Knowledge)
      → AreWritten start pats → fits start pats fields ≡ true → AllKnownHold decls T choice fields knowns
      → Holds decls T choice (write start before) k
      → Holds decls T choice (write start (before ++ written_by pats fields)) (match_fields k pats knowns)
  match_fields_hold [] [] [] before k bound fit known h =
      subst (λ (w : List Written). Holds decls T choice (write start w) k) (sym (append-nil before)) h
  match_fields_hold [] [] (one ∷ knowns) before k bound fit known h = absurd known
  match_fields_hold [] (field ∷ fields) knowns before k bound fit known h = absurd cc
  match_fields_hold (pat ∷ pats) [] knowns before k bound fit known h = absurd cc
  match_fields_hold (pat ∷ pats) (field ∷ fields) [] before k bound fit known h = absurd known
  match_fields_hold (Bind name ∷ pats) (field ∷ fields) (one ∷ knowns) before k bound fit known h =
      let w : Written = record { word = name.word; bytes = field } in
      subst (λ (ws : List Written). Holds decls T choice (write start ws) (match_fields (bind k name.word one) pats knowns))
      (append_assoc before (w ∷ []) (written_by pats fields))
      (match_fields_hold pats fields knowns (before ++ w ∷ []) (bind k name.word one) (λ line to stands. bound line to (Contains-later _ pats (Equal line to) stands))
      (and_parts (fits_one start (Bind name) field) (fits start pats fields) fit).1 known.1
      (subst (λ (n : Names). Holds decls T choice n (bind k name.word one)) (write_twice start before (w ∷ []))
      (bound_holds decls T choice (write start before) k h w one known.0)))
  match_fields_hold (Named line name ∷ pats) (field ∷ fields) (one ∷ knowns) before k bound fit known h =
      let w : Written = record { word = name.word; bytes = field } in
      subst (λ (ws : List Written). Holds decls T choice (write start ws) (match_fields (bind k name.word plain) pats knowns))
      (append_assoc before (w ∷ []) (written_by pats fields))
      (match_fields_hold pats fields knowns (before ++ w ∷ []) (bind k name.word plain) (λ other to stands. bound other to (Contains-later _ pats (Equal other to) stands))
      (and_parts (fits_one start (Named line name) field) (fits start pats fields) fit).1 known.1
      (subst (λ (n : Names). Holds decls T choice n (bind k name.word plain)) (write_twice start before (w ∷ []))
      (bound_holds decls T choice (write start before) k h w plain (name_is_known decls T choice field (is_name field (and_parts (fits_one start (Named line name) field) (fits start pats fields) fit).0)))))
  match_fields_hold (Equal line to ∷ pats) (field ∷ fields) (one ∷ knowns) before k bound fit known h =
      let is : field ≡ bytes_for (write start before) to =
      equal field (bytes_for start to) (and_parts (fits_one start (Equal line to) field) (fits start pats fields) fit).0 ∙ sym (written_is_the_same start before to (bound line to (Contains-first (Equal line to) pats))) in
      match_fields_hold pats fields knowns before (identify_value k to one) (λ other name stands. bound other name (Contains-later _ pats (Equal other name) stands))
      (and_parts (fits_one start (Equal line to) field) (fits start pats fields) fit).1 known.1
      (identify_holds decls T choice (write start before) k h to one (subst (λ (value : Term). KnownHolds decls T choice value one) is known.0))
