-- What stands inside a term, for whoever has the key that it takes.
use Rattle.std.specs.Prelude.{Option, Some, None, ◌&&◌, if◌then◌else◌}
use Rattle.dy_term.specs.Terms.{Term, Pk, Penc, Aead, Sign}
use Rattle.dy_term.specs.Sameness.{is_same}

-- Public-key encryption to the public key of a key is opened with that very key.
abbrev pub penc_message : Term → Term → Option Term
penc_message (Penc (Pk own) message) key = if is_same own key then Some message else None
penc_message _ _ = None

-- Authenticated encryption with a key is opened with that very key.
abbrev pub aead_message : Term → Term → Option Term
aead_message (Aead own message associated) key = if is_same own key then Some message else None
aead_message _ _ = None

-- The same, where the associated data are these.
abbrev pub aead_message_with : Term → Term → Term → Option Term
aead_message_with (Aead own message associated) key wanted =
    if is_same own key && is_same associated wanted then Some message else None
aead_message_with _ _ _ = None

-- what was signed, which everyone can read
abbrev pub signed_message : Term → Option Term
signed_message (Sign key message) = Some message
signed_message _ = None
