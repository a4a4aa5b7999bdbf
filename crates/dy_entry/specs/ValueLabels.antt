-- The label of a value in a trace.
use Rattle.std.specs.Prelude.{◌≡◌, ℕ, Bool, true, false, List, Option, Some}
use Rattle.std.specs.List.{slice_get}
use Rattle.dy_term.specs.Terms.{Term, Lit, Name, Nonce, Pair, Pk, Vk, Penc, Aead, Sign, Mac, Kdf, Hash}
use Rattle.dy_label.specs.Labels.{Label, Public, Nobody, Meet}
use Rattle.dy_entry.specs.Entries.{Entry, Fresh, Forge}

-- the label of the nonce that an entry makes: that of a handler's own, `public` of the attacker's, and else `nobody`
abbrev pub label_of_nonce : Option Entry → Label
label_of_nonce (Some (Fresh instance label usage)) = label
label_of_nonce (Some (Forge step)) = Public
label_of_nonce e = Nobody

-- Literals, names and public keys are public, and so is what is encrypted to a public key. Authenticated encryption
-- shows its associated data; a signature, a code and a hash show their message; a derived key is as its key.
abbrev pub label_of : List Entry → Term → Label
label_of T (Lit text) = Public
label_of T (Name principal) = Public
label_of T (Nonce index) = label_of_nonce (slice_get T index)
label_of T (Pair first second) = Meet (label_of T first) (label_of T second)
label_of T (Pk key) = Public
label_of T (Vk key) = Public
label_of T (Penc to message) = Public
label_of T (Aead key message associated) = label_of T associated
label_of T (Sign key message) = label_of T message
label_of T (Mac key message) = label_of T message
label_of T (Kdf key context input) = label_of T key
label_of T (Hash message) = label_of T message

-- the entry makes a nonce
abbrev pub makes_nonce : Entry → Bool
makes_nonce (Fresh instance label usage) = true
makes_nonce (Forge step) = true
makes_nonce e = false

-- The entry at this index makes a nonce.
abbrev pub IsMade : List Entry → ℕ → Type 0
IsMade T index = (e : Entry) × (slice_get T index ≡ Some e) × (makes_nonce e ≡ true)

-- Each nonce in the value is made in the trace.
abbrev pub HasMadeNonces : List Entry → Term → Type 0
HasMadeNonces T (Lit text) = Unit {0}
HasMadeNonces T (Name principal) = Unit {0}
HasMadeNonces T (Nonce index) = IsMade T index
HasMadeNonces T (Pair first second) = HasMadeNonces T first × HasMadeNonces T second
HasMadeNonces T (Pk key) = HasMadeNonces T key
HasMadeNonces T (Vk key) = HasMadeNonces T key
HasMadeNonces T (Penc to message) = HasMadeNonces T to × HasMadeNonces T message
HasMadeNonces T (Aead key message associated) =
    HasMadeNonces T key × HasMadeNonces T message × HasMadeNonces T associated
HasMadeNonces T (Sign key message) = HasMadeNonces T key × HasMadeNonces T message
HasMadeNonces T (Mac key message) = HasMadeNonces T key × HasMadeNonces T message
HasMadeNonces T (Kdf key context input) = HasMadeNonces T key × HasMadeNonces T input
HasMadeNonces T (Hash message) = HasMadeNonces T message
