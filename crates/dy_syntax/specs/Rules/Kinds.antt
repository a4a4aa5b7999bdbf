-- w4 and w8: what depends on the kind of a usage.
use Rattle.std.specs.Prelude.{ℕ, Bool, true, false, not, ◌&&◌, ◌||◌, ◌==◌, List, [], ◌++◌, length, map, filter}
use Rattle.std.specs.Option.{option_map_or}
use Rattle.dy_syntax.specs.Names.{Id, KindText, Nonce, Pke, Sig, Aead, Mac, Kdf}
use Rattle.dy_syntax.specs.Declarations.{FieldType, Upto, Secret, Key, Field, Row, UsageDecl, CaseDecl}
use Rattle.dy_syntax.specs.Files.{Decl}
use Rattle.dy_syntax.specs.LookUps.{usage_named}
use Rattle.dy_syntax.specs.Parts.{Part, OfKind, Certified, OfUsage, OfRow, OfCase}
use Rattle.dy_syntax.specs.Rules.Lines.{lines_if}

abbrev pub is_kind : KindText → KindText → Bool
is_kind Nonce Nonce = true
is_kind Pke Pke = true
is_kind Sig Sig = true
is_kind Aead Aead = true
is_kind Mac Mac = true
is_kind Kdf Kdf = true
is_kind a b = false

-- A table stands only on a `kdf` usage. The fault is at the kind.
abbrev pub lines_of_wrong_table : UsageDecl → List ℕ
lines_of_wrong_table usage = lines_if (not (length usage.rows == 0) && not (is_kind Kdf usage.kind)) usage.kind_line

-- A row names a usage of the kind that it says. The fault is at the row's kind.
abbrev pub lines_of_row_kind : List Decl → Row → List ℕ
lines_of_row_kind decls row =
    option_map_or (λ declared. lines_if (not (is_kind row.kind declared.kind)) row.kind_line)
    (usage_named decls row.usage.word) []

-- A row names a usage with as many parameters as the table's own. The fault is at the row's usage.
abbrev pub lines_of_row_params : List Decl → UsageDecl → Row → List ℕ
lines_of_row_params decls usage row =
    option_map_or (λ declared. lines_if (not (length declared.params == length usage.params)) row.usage.line)
    (usage_named decls row.usage.word) []

-- a usage that has cases
abbrev pub has_cases : KindText → Bool
has_cases kind = (is_kind Pke kind || is_kind Aead kind) || (is_kind Sig kind || is_kind Mac kind)

-- A case belongs to a usage of kind pke, aead, sig or mac.
abbrev pub lines_of_case_kind : List Decl → CaseDecl → List ℕ
lines_of_case_kind decls case =
    option_map_or (λ declared. lines_if (not (has_cases declared.kind)) case.usage.line)
    (usage_named decls case.usage.word) []

-- `penc`, `popen` and the type `pk` go with pke; `verify`, `sign` and `vk` with sig; `aead` and `open` with aead;
-- `mac` and `check` with mac.
abbrev pub lines_of_kind : List Decl → KindText → Id → List ℕ
lines_of_kind decls kind usage =
    option_map_or (λ declared. lines_if (not (is_kind kind declared.kind)) usage.line)
    (usage_named decls usage.word) []

-- a usage of kind pke or sig with one parameter
abbrev pub has_certificates : UsageDecl → Bool
has_certificates usage = (is_kind Pke usage.kind || is_kind Sig usage.kind) && (length usage.params == 1)

-- `certify` and `find` name a usage of kind pke or sig with exactly one parameter.
abbrev pub lines_of_certified : List Decl → Id → List ℕ
lines_of_certified decls usage =
    option_map_or (λ declared. lines_if (not (has_certificates declared)) usage.line)
    (usage_named decls usage.word) []

abbrev pub w4 : List Decl → Part → List ℕ
w4 decls (OfUsage usage) = lines_of_wrong_table usage
w4 decls (OfRow usage row) = lines_of_row_kind decls row ++ lines_of_row_params decls usage row
w4 decls (OfCase case) = lines_of_case_kind decls case
w4 decls (OfKind kind usage) = lines_of_kind decls kind usage
w4 decls (Certified usage) = lines_of_certified decls usage
w4 decls _ = []

-- a type `upto`, `secret` or `key`
abbrev pub is_hidden_type : FieldType → Bool
is_hidden_type (Upto label) = true
is_hidden_type (Secret label) = true
is_hidden_type (Key label usage) = true
is_hidden_type _ = false

-- what is signed or tagged may be read
abbrev pub shows_fields : KindText → Bool
shows_fields kind = is_kind Sig kind || is_kind Mac kind

abbrev pub lines_of_hidden_fields : Bool → List Field → List ℕ
lines_of_hidden_fields true fields = map (λ field. field.kind_line) (filter (λ field. is_hidden_type field.kind) fields)
lines_of_hidden_fields false fields = []

-- w8: a case of a sig or mac usage has a field of type `upto`, `secret` or `key`
abbrev pub w8 : List Decl → Part → List ℕ
w8 decls (OfCase case) =
    option_map_or (λ declared. lines_of_hidden_fields (shows_fields declared.kind) case.fields)
    (usage_named decls case.usage.word) []
w8 decls _ = []
