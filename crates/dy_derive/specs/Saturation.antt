-- Saturated knowledge: a set of parts of what an attacker was given, of which some are had.
use Rattle.std.specs.Prelude.{◌≡◌, ℕ, ◌⊎◌, true, List, Some, Contains}
use Rattle.std.specs.List.{slice_get}
use Rattle.dy_term.specs.Terms.{Term, Lit, Name, Nonce, Pair, Pk, Vk, Penc, Aead, Sign, Mac, Kdf, Hash}
use Rattle.dy_flat.specs.Parts.{parts_of}
use Rattle.dy_chains.specs.declared.logs.Step.{Step}
use Rattle.dy_chains.specs.Logs.{IsLogged}
use Rattle.dy_entry.specs.Attacker.{Derives}
use Rattle.dy_entry.specs.Entries.{Entry, Message, Inject, Cert, Forge, State}
use Rattle.dy_entry.specs.LookUps.{is_covered}
use Rattle.dy_derive.specs.Facts.{Fact}
use Rattle.dy_derive.specs.Nodes.{IsTermAt}

-- What is built of what is had: a literal, a name, what is had itself, and what has each of its parts built. A nonce
-- has no parts, and is had or not.
abbrev pub Built : (Term → Type 0) → Term → Type 0
Built Had (Lit text) = Unit {0}
Built Had (Name principal) = Unit {0}
Built Had (Nonce index) = Had (Nonce index)
Built Had (Pair a b) = Had (Pair a b) ⊎ (Built Had a × Built Had b)
Built Had (Pk k) = Had (Pk k) ⊎ Built Had k
Built Had (Vk k) = Had (Vk k) ⊎ Built Had k
Built Had (Penc p m) = Had (Penc p m) ⊎ (Built Had p × Built Had m)
Built Had (Aead k m a) = Had (Aead k m a) ⊎ (Built Had k × Built Had m × Built Had a)
Built Had (Sign k m) = Had (Sign k m) ⊎ (Built Had k × Built Had m)
Built Had (Mac k m) = Had (Mac k m) ⊎ (Built Had k × Built Had m)
Built Had (Kdf k context x) = Had (Kdf k context x) ⊎ (Built Had k × Built Had x)
Built Had (Hash m) = Had (Hash m) ⊎ Built Had m

-- The term is made of its parts alone: every term but a nonce is.
abbrev pub IsMadeOfParts : Term → Type 0
IsMadeOfParts term = (index : ℕ) → term ≡ Nonce index → ⊥

-- Of the parts of a part each is one. A part is had where it can be built of parts that are had, or opened with a key
-- that is had. What is had is a part.
pub record IsSaturated (Part Had : Term → Type 0) : Type 0 where
  pub had : (term : Term) → Had term → Part term
  pub parts : (whole part : Term) (number : ℕ) → Part whole → slice_get (parts_of whole) number ≡ Some part → Part part
  pub built : (term : Term) → Part term → IsMadeOfParts term
      → ((part : Term) (number : ℕ) → slice_get (parts_of term) number ≡ Some part → Had part) → Had term
  pub first : (first second : Term) → Had (Pair first second) → Had first
  pub second : (first second : Term) → Had (Pair first second) → Had second
  pub decrypted : (key message : Term) → Had (Penc (Pk key) message) → Had key → Had message
  pub opened : (key message associated : Term) → Had (Aead key message associated) → Had key → Had message
  pub associated : (key message associated : Term) → Had (Aead key message associated) → Had associated
  pub signed : (key message : Term) → Had (Sign key message) → Had message

-- Each value that the trace gives to an attacker outright is had.
pub record IsGivenAll (T : List Entry) (Had : Term → Type 0) : Type 0 where
  pub sent : (index instance : ℕ) (value : Term) → slice_get T index ≡ Some (Message instance value) → Had value
  pub injected : (index step : ℕ) (value : Term) → slice_get T index ≡ Some (Inject step value) → Had value
  pub certified : (index instance : ℕ) (principal usage : List ℕ) (key : Term)
      → slice_get T index ≡ Some (Cert instance principal usage key) → Had key
  pub forged : (index step : ℕ) → slice_get T index ≡ Some (Forge step) → Had (Nonce index)
  pub corrupted : (index instance : ℕ) (principal : List ℕ) (session version : ℕ) (tag : List ℕ)
      (fields : List Term) (field : Term)
      → slice_get T index ≡ Some (State instance principal session version tag fields)
      → is_covered T principal session version ≡ true → Contains fields field → Had field

-- What is had is derived.
abbrev pub IsDerived : List Entry → (Term → Type 0) → Type 0
IsDerived T Had = (term : Term) → Had term → Derives T term

-- The term is a part of what was given: it has a number.
abbrev pub IsPart : List Fact → Term → Type 0
IsPart facts term = (number : ℕ) × IsTermAt facts number term

-- The term is had: the fact of its number follows.
abbrev pub IsHad : List Fact → List Step → Term → Type 0
IsHad facts log term = (number : ℕ) × IsTermAt facts number term × IsLogged log number
