-- What may be said of a trace, and the inferences by which an attacker derives it.
use Rattle.std.specs.Prelude.{ℕ, ◌+◌, List, [], ◌∷◌, map}
use Rattle.dy_term.specs.Terms.{Term, Lit, Name, Nonce, Pair, Pk, Vk, Penc, Aead, Sign, Mac, Kdf, Hash}
use Rattle.dy_flat.specs.Parts.{parts_of}
use Rattle.dy_label.specs.Labels.{Place, Principal, Session, Version}
use Rattle.dy_entry.specs.Entries.{Entry, Setup, Start, Fresh, Message, State, Event, Cert, End, Corrupt, Forge, Inject, Skip}
use Rattle.dy_derive.specs.declared.reasons.Reason.{Reason}
use Rattle.dy_derive.specs.declared.reasons.Reason.TheVariants as reasons

-- A term is derived, or a place is corrupted.
pub data Fact : Type 0 where
  Derived : (term : Term) → Fact
  Corrupted : (place : Place) → Fact

-- A fact follows from others, and why.
pub record Inference : Type 0 where
  pub premises : List Fact
  pub conclusion : Fact
  pub reason : Reason

-- a term is built of its parts
abbrev pub build : Term → Inference
build term =
    record { premises = map Derived (parts_of term); conclusion = Derived term; reason = reasons.Built }

-- a part is opened, of a term that it is in and perhaps a key
abbrev pub open_part : List Term → Term → Reason → Inference
open_part terms part reason = record { premises = map Derived terms; conclusion = Derived part; reason = reason }

-- What is encrypted to the public key of a key is opened with that key. Another key cannot be opened.
abbrev pub decryptions : Term → Term → List Inference
decryptions (Pk key) message = open_part (Penc (Pk key) message ∷ key ∷ []) message reasons.Decrypted ∷ []
decryptions (Lit text) message = []
decryptions (Name principal) message = []
decryptions (Nonce index) message = []
decryptions (Pair first second) message = []
decryptions (Vk key) message = []
decryptions (Penc to inner) message = []
decryptions (Aead key inner associated) message = []
decryptions (Sign key inner) message = []
decryptions (Mac key inner) message = []
decryptions (Kdf key context input) message = []
decryptions (Hash inner) message = []

-- How a term is built and opened. A nonce is neither.
abbrev pub inferences_of_term : Term → List Inference
inferences_of_term (Lit text) = build (Lit text) ∷ []
inferences_of_term (Name principal) = build (Name principal) ∷ []
inferences_of_term (Nonce index) = []
inferences_of_term (Pair first second) =
    build (Pair first second)
    ∷ open_part (Pair first second ∷ []) first reasons.First
    ∷ open_part (Pair first second ∷ []) second reasons.Second ∷ []
inferences_of_term (Pk key) = build (Pk key) ∷ []
inferences_of_term (Vk key) = build (Vk key) ∷ []
inferences_of_term (Penc to message) = build (Penc to message) ∷ decryptions to message
inferences_of_term (Aead key message associated) =
    build (Aead key message associated)
    ∷ open_part (Aead key message associated ∷ key ∷ []) message reasons.Opened
    ∷ open_part (Aead key message associated ∷ []) associated reasons.Associated ∷ []
inferences_of_term (Sign key message) =
    build (Sign key message) ∷ open_part (Sign key message ∷ []) message reasons.Signed ∷ []
inferences_of_term (Mac key message) = build (Mac key message) ∷ []
inferences_of_term (Kdf key context input) = build (Kdf key context input) ∷ []
inferences_of_term (Hash message) = build (Hash message) ∷ []

abbrev pub inferences_of_fact : Fact → List Inference
inferences_of_fact (Derived term) = inferences_of_term term
inferences_of_fact (Corrupted place) = []

-- a fact that an entry gives outright
abbrev pub given : Fact → Reason → Inference
given fact reason = record { premises = []; conclusion = fact; reason = reason }

-- a field of a state, whose place was corrupted
abbrev pub given_with : Place → Term → Reason → Inference
given_with place field reason =
    record { premises = Corrupted place ∷ []; conclusion = Derived field; reason = reason }

-- The fields of a version, from this number on: each is given with the version, its session or its principal.
abbrev pub inferences_of_fields : ℕ → List ℕ → ℕ → ℕ → ℕ → List Term → List Inference
inferences_of_fields index principal session version number [] = []
inferences_of_fields index principal session version number (field ∷ fields) =
    given_with (Principal principal) field (reasons.Field index number)
    ∷ given_with (Session principal session) field (reasons.Field index number)
    ∷ given_with (Version principal session version) field (reasons.Field index number)
    ∷ inferences_of_fields index principal session version (number + 1) fields

-- What the entry of this index gives. Fields are counted from 1.
abbrev pub inferences_of_entry : ℕ → Entry → List Inference
inferences_of_entry index (Setup input) = []
inferences_of_entry index (Start step handler principal session args message) = []
inferences_of_entry index (Fresh instance label usage) = []
inferences_of_entry index (Message instance value) = given (Derived value) (reasons.Message index) ∷ []
inferences_of_entry index (State instance principal session version tag fields) =
    inferences_of_fields index principal session version 1 fields
inferences_of_entry index (Event instance principal name args) = []
inferences_of_entry index (Cert instance principal usage key) = given (Derived key) (reasons.Cert index) ∷ []
inferences_of_entry index (End instance outcome) = []
inferences_of_entry index (Corrupt step place) = given (Corrupted place) (reasons.Corrupt index) ∷ []
inferences_of_entry index (Forge step) = given (Derived (Nonce index)) (reasons.Forge index) ∷ []
inferences_of_entry index (Inject step value) = given (Derived value) (reasons.Message index) ∷ []
inferences_of_entry index (Skip step) = []
