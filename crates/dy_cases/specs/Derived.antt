-- The usage of a derived key.
use Rattle.std.specs.Prelude.{ℕ, Bool, true, false, List, Option, None, if◌then◌else◌}
use Rattle.std.specs.Option.{option_map}
use Rattle.dy_label.specs.declared.usages.Kind as kind
use Rattle.dy_label.specs.declared.usages.Kind.TheVariants as kinds
use Rattle.dy_label.specs.declared.usages.Usage.{Usage}
use Rattle.dy_syntax.specs.Names as names
use Rattle.dy_syntax.specs.Files.{Decl}
use Rattle.dy_cases.specs.DeclaredParts.{row_named}

-- the kind that a kind's name in a file means
abbrev pub kind_named : names.KindText → kind.Kind
kind_named names.Nonce = kinds.Nonce
kind_named names.Pke = kinds.Pke
kind_named names.Sig = kinds.Sig
kind_named names.Aead = kinds.Aead
kind_named names.Mac = kinds.Mac
kind_named names.Kdf = kinds.Kdf

abbrev pub is_kdf : kind.Kind → Bool
is_kdf kinds.Kdf = true
is_kdf kinds.Nonce = false
is_kdf kinds.Pke = false
is_kdf kinds.Sig = false
is_kdf kinds.Aead = false
is_kdf kinds.Mac = false

-- The usage of a key that is derived with this text from a key of this usage. It is that of the row of its table,
-- for the same owners. A usage of another kind than `kdf` has none.
abbrev pub derived_usage : List Decl → Usage → List ℕ → Option Usage
derived_usage decls usage text =
    if is_kdf usage.kind
    then option_map (λ row. record { kind = kind_named row.kind; name = row.usage.word; owners = usage.owners })
    (row_named decls usage.name text)
    else None
