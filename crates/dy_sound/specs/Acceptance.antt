-- Which files are accepted, and what that says of their interleavings.
use Rattle.std.specs.Prelude.{ℕ, List}
use Rattle.dy_syntax.specs.Files.{File}
use Rattle.dy_syntax.specs.Rules.{IsWellFormed}
use Rattle.dy_cases.specs.DeclaredParts.{handlers_in}
use Rattle.dy_typing.specs.Typing.{AreTyped, IsRefusedAt}
use Rattle.dy_entry.specs.Entries.{Entry}
use Rattle.dy_traces.specs.Interleavings.{Interleaves}
use Rattle.dy_sound.specs.Secure.{IsSecure}

-- A file is typed when it is well formed and each of its handlers has a derivation.
abbrev pub IsTyped : File → Type 0
IsTyped file = IsWellFormed file × AreTyped file.decls (handlers_in file.decls)

-- A file is refused at a place when it is well formed and its typing fails there.
abbrev pub IsRefusedFile : File → (line condition field : ℕ) → Type 0
IsRefusedFile file line condition field = IsWellFormed file × IsRefusedAt file.decls line condition field

-- Every interleaving of the file is secure at each prefix. A nonce that the attacker derives has an open label. Each
-- event follows its partners, or the exempting label was open before it.
abbrev pub IsSecureFile : File → Type 0
IsSecureFile file = (bytes : List ℕ) (T : List Entry) → Interleaves bytes file T → IsSecure file.decls T
