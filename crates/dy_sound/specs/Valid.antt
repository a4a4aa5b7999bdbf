-- Valid values: those that the rules allow to be made.
use Rattle.std.specs.Prelude.{◌≡◌, ◌⊎◌, List}
use Rattle.dy_term.specs.Terms.{Term, Lit, Name, Nonce, Pair, Pk, Vk, Penc, Aead, Sign, Mac, Kdf, Hash}
use Rattle.dy_syntax.specs.Files.{Decl}
use Rattle.dy_entry.specs.Entries.{Entry}
use Rattle.dy_entry.specs.ValueLabels.{label_of, IsMade}
use Rattle.dy_sound.specs.Flows.{Flows, IsShown}
use Rattle.dy_sound.specs.Cases.{CaseHolds}

-- It is encrypted to a public key by the rules: who has the key may know the message, and the case holds.
pub record IsEncryptedTo (decls : List Decl) (T : List Entry) (to message : Term) : Type 0 where
  pub key : Term
  pub to_is : to ≡ Pk key
  pub readers_may_know : Flows T (label_of T key) (label_of T message)
  pub case_holds : CaseHolds decls T key message

-- By the rules, or all may know the message: such a message anyone may encrypt.
abbrev pub IsEncrypted : List Decl → List Entry → Term → Term → Type 0
IsEncrypted decls T to message = IsEncryptedTo decls T to message ⊎ IsShown T (label_of T message)

-- The message is under the key by the rules, or all may know the key: under such a key anyone may put anything.
abbrev pub IsUnder : List Decl → List Entry → Term → Term → Type 0
IsUnder decls T key message = CaseHolds decls T key message ⊎ IsShown T (label_of T key)

-- Its nonces are made in the trace. What is encrypted, signed or tagged in it is so by the rules, or by someone who
-- may know what it takes. Who has a key may know what is encrypted under it.
abbrev pub IsValid : List Decl → List Entry → Term → Type 0
IsValid decls T (Lit text) = Unit {0}
IsValid decls T (Name principal) = Unit {0}
IsValid decls T (Nonce index) = IsMade T index
IsValid decls T (Pair first second) = IsValid decls T first × IsValid decls T second
IsValid decls T (Pk key) = IsValid decls T key
IsValid decls T (Vk key) = IsValid decls T key
IsValid decls T (Penc to message) = IsValid decls T to × IsValid decls T message × IsEncrypted decls T to message
IsValid decls T (Aead key message associated) =
    IsValid decls T key × IsValid decls T message × IsValid decls T associated
    × Flows T (label_of T key) (label_of T message) × IsUnder decls T key message
IsValid decls T (Sign key message) = IsValid decls T key × IsValid decls T message × IsUnder decls T key message
IsValid decls T (Mac key message) = IsValid decls T key × IsValid decls T message × IsUnder decls T key message
IsValid decls T (Kdf key context input) = IsValid decls T key × IsValid decls T input
IsValid decls T (Hash message) = IsValid decls T message

-- The value may be in the attacker's hands: it is valid, and its label is open.
pub record MayBeKnown (decls : List Decl) (T : List Entry) (value : Term) : Type 0 where
  pub valid : IsValid decls T value
  pub shown : IsShown T (label_of T value)
