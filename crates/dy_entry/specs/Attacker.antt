-- What the attacker can derive from a trace. No label, usage or type is asked for.
use Rattle.std.specs.Prelude.{◌≡◌, ℕ, true, List, Some, Contains}
use Rattle.std.specs.List.{slice_get}
use Rattle.dy_term.specs.Terms.{Term, Lit, Name, Nonce, Pair, Pk, Vk, Penc, Aead, Sign, Mac, Kdf, Hash}
use Rattle.dy_entry.specs.Entries.{Entry, Message, State, Cert, Forge, Inject}
use Rattle.dy_entry.specs.LookUps.{is_covered}

-- The least relation with these cases: what is given, what is built of derived parts, and what is opened.
pub data Derives (T : List Entry) : Term → Type 0 where
  literal : (text : List ℕ) → Derives T (Lit text)
  name : (principal : List ℕ) → Derives T (Name principal)
  sent : (index instance : ℕ) (value : Term) → slice_get T index ≡ Some (Message instance value)
      → Derives T value
  injected : (index step : ℕ) (value : Term) → slice_get T index ≡ Some (Inject step value) → Derives T value
  certified : (index instance : ℕ) (principal usage : List ℕ) (key : Term)
      → slice_get T index ≡ Some (Cert instance principal usage key) → Derives T key
  forged : (index step : ℕ) → slice_get T index ≡ Some (Forge step) → Derives T (Nonce index)
  corrupted : (index instance : ℕ) (principal : List ℕ) (session version : ℕ) (tag : List ℕ)
      (fields : List Term) (field : Term)
      → slice_get T index ≡ Some (State instance principal session version tag fields)
      → is_covered T principal session version ≡ true → Contains fields field → Derives T field
  pair : (first second : Term) → Derives T first → Derives T second → Derives T (Pair first second)
  pk : (key : Term) → Derives T key → Derives T (Pk key)
  vk : (key : Term) → Derives T key → Derives T (Vk key)
  penc : (to message : Term) → Derives T to → Derives T message → Derives T (Penc to message)
  aead : (key message associated : Term)
      → Derives T key → Derives T message → Derives T associated → Derives T (Aead key message associated)
  sign : (key message : Term) → Derives T key → Derives T message → Derives T (Sign key message)
  mac : (key message : Term) → Derives T key → Derives T message → Derives T (Mac key message)
  kdf : (key : Term) (context : List ℕ) (input : Term)
      → Derives T key → Derives T input → Derives T (Kdf key context input)
  hash : (message : Term) → Derives T message → Derives T (Hash message)
  fst : (first second : Term) → Derives T (Pair first second) → Derives T first
  snd : (first second : Term) → Derives T (Pair first second) → Derives T second
  pdec : (key message : Term) → Derives T (Penc (Pk key) message) → Derives T key → Derives T message
  adec : (key message associated : Term) → Derives T (Aead key message associated) → Derives T key
      → Derives T message
  ad : (key message associated : Term) → Derives T (Aead key message associated) → Derives T associated
  body : (key message : Term) → Derives T (Sign key message) → Derives T message
