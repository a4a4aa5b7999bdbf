-- Nonces that a trace makes, in a longer trace.
use Rattle.std.proofs.Common.{◌≡◌, ℕ, List, ◌++◌, refl, ap, sym, ◌∙◌}
use Rattle.dy_term.specs.Terms.{Term, Lit, Name, Nonce, Pair, Pk, Vk, Penc, Aead, Sign, Mac, Kdf, Hash}
use Rattle.dy_entry.specs.Entries.{Entry}
use Rattle.dy_entry.specs.ValueLabels.{IsMade, HasMadeNonces, label_of_nonce, label_of}
use Rattle.dy_entry.proofs.Traces.{slice_get-prefix}

module _ (T more : List Entry) where
  made_still : (index : ℕ) → IsMade T index → IsMade (T ++ more) index
  made_still index made = (made.0, slice_get-prefix T more index made.0 made.1, made.2)

  pub nonce_keeps_label : (index : ℕ) → IsMade T index → label_of (T ++ more) (Nonce index) ≡ label_of T (Nonce index)
  nonce_keeps_label index made = ap label_of_nonce (slice_get-prefix T more index made.0 made.1 ∙ sym made.1)

  pub value_keeps_label : (value : Term) → HasMadeNonces T value → label_of (T ++ more) value ≡ label_of T value
  value_keeps_label (Lit text) made = refl
  value_keeps_label (Name principal) made = refl
  value_keeps_label (Nonce index) made = nonce_keeps_label index made
  value_keeps_label (Pair first second) made = let one = value_keeps_label first made.0 in let other = value_keeps_label second made.1 in cc
  value_keeps_label (Pk key) made = refl
  value_keeps_label (Vk key) made = refl
  value_keeps_label (Penc to message) made = refl
  value_keeps_label (Aead key message associated) made = value_keeps_label associated made.2
  value_keeps_label (Sign key message) made = value_keeps_label message made.1
  value_keeps_label (Mac key message) made = value_keeps_label message made.1
  value_keeps_label (Kdf key context input) made = value_keeps_label key made.0
  value_keeps_label (Hash message) made = value_keeps_label message made

  pub nonces_are_made_still : (value : Term) → HasMadeNonces T value → HasMadeNonces (T ++ more) value
  nonces_are_made_still (Lit text) made = made
  nonces_are_made_still (Name principal) made = made
  nonces_are_made_still (Nonce index) made = made_still index made
  nonces_are_made_still (Pair first second) made = (nonces_are_made_still first made.0, nonces_are_made_still second made.1)
  nonces_are_made_still (Pk key) made = nonces_are_made_still key made
  nonces_are_made_still (Vk key) made = nonces_are_made_still key made
  nonces_are_made_still (Penc to message) made = (nonces_are_made_still to made.0, nonces_are_made_still message made.1)
  nonces_are_made_still (Aead key message associated) made = (nonces_are_made_still key made.0, nonces_are_made_still message made.1, nonces_are_made_still associated made.2)
  nonces_are_made_still (Sign key message) made = (nonces_are_made_still key made.0, nonces_are_made_still message made.1)
  nonces_are_made_still (Mac key message) made = (nonces_are_made_still key made.0, nonces_are_made_still message made.1)
  nonces_are_made_still (Kdf key context input) made = (nonces_are_made_still key made.0, nonces_are_made_still input made.1)
  nonces_are_made_still (Hash message) made = nonces_are_made_still message made
