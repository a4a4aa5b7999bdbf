-- Which bytes are the text of a term, and how far bytes go along with one.
use Rattle.std.specs.Prelude.{◌≡◌, ◌^◌, ℕ, ◌<◌, ◌≤◌, Bool, true, ◌&&◌, nat_lt, List, ◌++◌, length, take}
use Rattle.dy_term.specs.Characters.{is_word, is_text}
use Rattle.dy_term.specs.Terms.{Term, Lit, Name, Nonce, Pair, Pk, Vk, Penc, Aead, Sign, Mac, Kdf, Hash}
use Rattle.dy_term.specs.TermText.{term_text}

-- The term can stand in the code: its texts are texts, its names are words, and its indices are below 2^32.
abbrev pub is_made : Term → Bool
is_made (Lit text) = is_text text
is_made (Name principal) = is_word principal
is_made (Nonce index) = nat_lt index (2 ^ 32)
is_made (Pair first second) = is_made first && is_made second
is_made (Pk key) = is_made key
is_made (Vk key) = is_made key
is_made (Penc to message) = is_made to && is_made message
is_made (Aead key message associated) = is_made key && (is_made message && is_made associated)
is_made (Sign key message) = is_made key && is_made message
is_made (Mac key message) = is_made key && is_made message
is_made (Kdf key context input) = is_made key && (is_text context && is_made input)
is_made (Hash message) = is_made message

-- The bytes are the text of this term.
pub record IsTextOf (term : Term) (bytes : List ℕ) : Type 0 where
  pub made : is_made term ≡ true
  pub spelled : bytes ≡ term_text term

-- The bytes begin the text of a term.
abbrev pub BeginsText : List ℕ → Type 0
BeginsText bytes = (term : Term) × (more : List ℕ) × IsTextOf term (bytes ++ more)

-- The longest prefix of the bytes that begins the text of a term has this length.
pub record GoesAlongTo (bytes : List ℕ) (at : ℕ) : Type 0 where
  pub within : at ≤ length bytes
  pub begins : BeginsText (take at bytes)
  pub longest : (longer : ℕ) → at < longer → longer ≤ length bytes → BeginsText (take longer bytes) → ⊥

-- The bytes are no text of a term, and the longest prefix of them that begins one has this length.
pub record IsBadFrom (bytes : List ℕ) (at : ℕ) : Type 0 where
  pub along : GoesAlongTo bytes at
  pub no_text : (term : Term) → IsTextOf term bytes → ⊥

-- The bytes begin with the text of this term, which ends here: no more of them begins the text of a term.
pub record StartsWithTerm (bytes : List ℕ) (term : Term) (end : ℕ) : Type 0 where
  pub along : GoesAlongTo bytes end
  pub text : IsTextOf term (take end bytes)

-- The longest prefix of the bytes that begins the text of a term has this length, and is no text of a term.
pub record StartsWithNone (bytes : List ℕ) (at : ℕ) : Type 0 where
  pub along : GoesAlongTo bytes at
  pub no_text : (term : Term) → IsTextOf term (take at bytes) → ⊥
