-- The usage of a value in a trace.
use Rattle.std.specs.Prelude.{ℕ, List, Option, Some, None}
use Rattle.std.specs.Option.{option_and_then}
use Rattle.std.specs.List.{slice_get}
use Rattle.dy_term.specs.Terms.{Term, Nonce, Kdf}
use Rattle.dy_label.specs.declared.usages.Usage.{Usage}
use Rattle.dy_syntax.specs.Files.{Decl}
use Rattle.dy_cases.specs.Derived.{derived_usage}
use Rattle.dy_entry.specs.Entries.{Entry, Fresh}
use Rattle.dy_eval.specs.Lines.{kind_of_usage}

-- the usage of the nonce that an entry makes: that of a handler's own, and none of the attacker's
abbrev pub usage_of_nonce : Option Entry → Option Usage
usage_of_nonce (Some (Fresh instance label usage)) = Some usage
usage_of_nonce e = None

-- A derived key has the usage that the table of its key's usage gives for its text. Other values that are built have
-- none.
abbrev pub usage_of : List Decl → List Entry → Term → Option Usage
usage_of decls T (Nonce index) = usage_of_nonce (slice_get T index)
usage_of decls T (Kdf key context input) =
    option_and_then (λ usage. derived_usage decls usage context) (usage_of decls T key)
usage_of decls T value = None

-- the usage of this name for these principals, of the kind that is declared
abbrev pub usage_with : List Decl → List ℕ → List (List ℕ) → Usage
usage_with decls name owners = record { kind = kind_of_usage decls name; name = name; owners = owners }
