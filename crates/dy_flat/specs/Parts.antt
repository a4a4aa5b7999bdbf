-- The parts of a term, by their names.
use Rattle.std.specs.Prelude.{Option, Some, None, List, [], ◌∷◌}
use Rattle.dy_term.specs.Terms.{Term, Lit, Name, Nonce, Pair, Pk, Vk, Penc, Aead, Sign, Mac, Kdf, Hash}

abbrev pub first : Term → Option Term
first (Pair a b) = Some a
first _ = None

abbrev pub second : Term → Option Term
second (Pair a b) = Some b
second _ = None

-- what something is encrypted or authenticated with
abbrev pub key_part : Term → Option Term
key_part (Penc to message) = Some to
key_part (Aead key message associated) = Some key
key_part (Sign key message) = Some key
key_part (Mac key message) = Some key
key_part _ = None

-- what is encrypted or authenticated
abbrev pub body_part : Term → Option Term
body_part (Penc to message) = Some message
body_part (Aead key message associated) = Some message
body_part (Sign key message) = Some message
body_part (Mac key message) = Some message
body_part _ = None

-- what an encryption authenticates and does not hide
abbrev pub data_part : Term → Option Term
data_part (Aead key message associated) = Some associated
data_part _ = None

-- what a key or a hash is made of
abbrev pub inner : Term → Option Term
inner (Pk key) = Some key
inner (Vk key) = Some key
inner (Hash message) = Some message
inner _ = None

-- the parts of a term, in the order of its constructor
abbrev pub parts_of : Term → List Term
parts_of (Lit text) = []
parts_of (Name principal) = []
parts_of (Nonce index) = []
parts_of (Pair first second) = first ∷ second ∷ []
parts_of (Pk key) = key ∷ []
parts_of (Vk key) = key ∷ []
parts_of (Penc to message) = to ∷ message ∷ []
parts_of (Aead key message associated) = key ∷ message ∷ associated ∷ []
parts_of (Sign key message) = key ∷ message ∷ []
parts_of (Mac key message) = key ∷ message ∷ []
parts_of (Kdf key context input) = key ∷ input ∷ []
parts_of (Hash message) = message ∷ []
