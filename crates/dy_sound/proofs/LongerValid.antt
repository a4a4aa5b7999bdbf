-- What is valid in a trace is valid in a longer one.
use Rattle.std.proofs.Common.{List, ◌++◌, inl, inr, subst}
use Rattle.dy_term.specs.Terms.{Term, Lit, Name, Nonce, Pair, Pk, Vk, Penc, Aead, Sign, Mac, Kdf, Hash}
use Rattle.dy_syntax.specs.Files.{Decl}
use Rattle.dy_entry.specs.Entries.{Entry}
use Rattle.dy_entry.specs.ValueLabels.{HasMadeNonces}
use Rattle.dy_sound.specs.Valid.{IsEncryptedTo, IsEncrypted, IsUnder, IsValid, MayBeKnown}
use Rattle.dy_sound.specs.LawsBelow.{LawsBelow}
use Rattle.dy_sound.proofs.Longer.{flows_between_still, value_shown_still, case_still}

module _ (decls : List Decl) (T : List Entry) where
  -- The nonces of a valid value are made.
  pub valid_is_made : (value : Term) → IsValid decls T value → HasMadeNonces T value
  valid_is_made (Lit text) valid = valid
  valid_is_made (Name principal) valid = valid
  valid_is_made (Nonce index) valid = valid
  valid_is_made (Pair first second) valid = (valid_is_made first valid.0, valid_is_made second valid.1)
  valid_is_made (Pk key) valid = valid_is_made key valid
  valid_is_made (Vk key) valid = valid_is_made key valid
  valid_is_made (Penc to message) valid = (valid_is_made to valid.0, valid_is_made message valid.1)
  valid_is_made (Aead key message associated) valid = (valid_is_made key valid.0, valid_is_made message valid.1, valid_is_made associated valid.2)
  valid_is_made (Sign key message) valid = (valid_is_made key valid.0, valid_is_made message valid.1)
  valid_is_made (Mac key message) valid = (valid_is_made key valid.0, valid_is_made message valid.1)
  valid_is_made (Kdf key context input) valid = (valid_is_made key valid.0, valid_is_made input valid.1)
  valid_is_made (Hash message) valid = valid_is_made message valid

module _ (below : LawsBelow) (decls : List Decl) (T more : List Entry) where
  under_still : (key message : Term) → HasMadeNonces T key → HasMadeNonces T message → IsUnder decls T key message → IsUnder decls (T ++ more) key message
  under_still key message key_made made (inl holds) = inl (case_still below decls T more key message made holds)
  under_still key message key_made made (inr shown) = inr (value_shown_still below decls T more key key_made shown)

  encrypted_to_still : (to message : Term) → HasMadeNonces T to → HasMadeNonces T message → IsEncryptedTo decls T to message → IsEncryptedTo decls (T ++ more) to message
  encrypted_to_still to message to_made made h =
      let key_made : HasMadeNonces T h.key = subst (HasMadeNonces T) h.to_is to_made in
      record {
        key = h.key;
        to_is = h.to_is;
        readers_may_know = flows_between_still below decls T more h.key message key_made made h.readers_may_know;
        case_holds = case_still below decls T more h.key message made h.case_holds;
      }

  encrypted_still : (to message : Term) → HasMadeNonces T to → HasMadeNonces T message → IsEncrypted decls T to message → IsEncrypted decls (T ++ more) to message
  encrypted_still to message to_made made (inl by_rules) = inl (encrypted_to_still to message to_made made by_rules)
  encrypted_still to message to_made made (inr shown) = inr (value_shown_still below decls T more message made shown)

  pub valid_still : (value : Term) → IsValid decls T value → IsValid decls (T ++ more) value
  valid_still (Lit text) valid = valid
  valid_still (Name principal) valid = valid
  valid_still (Nonce index) valid = below.nonces_stay T more (Nonce index) valid
  valid_still (Pair first second) valid = (valid_still first valid.0, valid_still second valid.1)
  valid_still (Pk key) valid = valid_still key valid
  valid_still (Vk key) valid = valid_still key valid
  valid_still (Penc to message) valid =
      (valid_still to valid.0, valid_still message valid.1, encrypted_still to message (valid_is_made decls T to valid.0) (valid_is_made decls T message valid.1) valid.2)
  valid_still (Aead key message associated) valid =
      let key_made = valid_is_made decls T key valid.0 in
      let made = valid_is_made decls T message valid.1 in (
        valid_still key valid.0,
        valid_still message valid.1,
        valid_still associated valid.2,
        flows_between_still below decls T more key message key_made made valid.3,
        under_still key message key_made made valid.4,
      )
  valid_still (Sign key message) valid =
      (valid_still key valid.0, valid_still message valid.1, under_still key message (valid_is_made decls T key valid.0) (valid_is_made decls T message valid.1) valid.2)
  valid_still (Mac key message) valid =
      (valid_still key valid.0, valid_still message valid.1, under_still key message (valid_is_made decls T key valid.0) (valid_is_made decls T message valid.1) valid.2)
  valid_still (Kdf key context input) valid = (valid_still key valid.0, valid_still input valid.1)
  valid_still (Hash message) valid = valid_still message valid

  pub may_be_known_still : (value : Term) → MayBeKnown decls T value → MayBeKnown decls (T ++ more) value
  may_be_known_still value known = record {
    valid = valid_still value known.valid;
    shown = value_shown_still below decls T more value (valid_is_made decls T value known.valid) known.shown;
  }
