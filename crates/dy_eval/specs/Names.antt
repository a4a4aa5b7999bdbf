-- What is written in place of the names in a handler's text.
use Rattle.std.specs.Prelude.{ℕ, List, ◌++◌, Option, Some, None, find, unwrap_or}
use Rattle.std.specs.Option.{option_map}
use Rattle.std.specs.Str.{bytes_eq}
use Rattle.dy_term.specs.Terms as trees
use Rattle.dy_term.specs.Terms.{Term}
use Rattle.dy_syntax.specs.Names.{Nm, Named, Me}
use Rattle.dy_eval.specs.declared.written.Written.{Written}

-- the principal and the session of an instance, and the bytes that are written in place of words
pub record Names : Type 0 where
  pub principal : List ℕ
  pub session : ℕ
  pub written : List Written

-- with these written too
abbrev pub write : Names → List Written → Names
write names more =
    record { principal = names.principal; session = names.session; written = names.written ++ more }

-- the bytes in place of a word; a word in whose place none were written, of which a well-formed file has none, is
-- as `self`
abbrev pub bytes_at : Names → List ℕ → Term
bytes_at names word =
    unwrap_or (option_map (λ w. w.bytes) (find (λ w. bytes_eq w.word word) names.written)) (trees.Name names.principal)

-- the bytes in place of a name
abbrev pub bytes_for : Names → Nm → Term
bytes_for names (Named id) = bytes_at names id.word
bytes_for names (Me line) = trees.Name names.principal

-- the principal whose name the bytes are
abbrev pub principal_in : Term → Option (List ℕ)
principal_in (trees.Name principal) = Some principal
principal_in _ = None

-- the principal that a name stands for
abbrev pub principal_for : Names → Nm → Option (List ℕ)
principal_for names name = principal_in (bytes_for names name)
