-- w1 and w5: what is declared or bound twice. The second one is the fault.
use Rattle.std.specs.Prelude.{ℕ, Bool, ◌&&◌, List, [], map, filter}
use Rattle.std.specs.Str.{bytes_eq}
use Rattle.dy_syntax.specs.Names.{Id}
use Rattle.dy_syntax.specs.Declarations.{Row, CaseDecl}
use Rattle.dy_syntax.specs.Files.{Decl}
use Rattle.dy_syntax.specs.Scopes.{is_among, words_of, params_named, field_names}
use Rattle.dy_syntax.specs.Parts.{Part, Bound, Declared, Cases, OfUsage, OfCase}
use Rattle.dy_syntax.specs.Rules.Lines.{lines_of_repeated}

abbrev pub same_word : Id → Id → Bool
same_word a b = bytes_eq a.word b.word

-- a name stands twice
abbrev pub lines_of_same_names : List Id → List ℕ
lines_of_same_names ids = lines_of_repeated same_word (λ id. id.line) ids

-- a case's usage and tag stand twice
abbrev pub same_case : CaseDecl → CaseDecl → Bool
same_case a b = bytes_eq a.usage.word b.usage.word && bytes_eq a.tag.text b.tag.text

abbrev pub lines_of_same_cases : List CaseDecl → List ℕ
lines_of_same_cases cases = lines_of_repeated same_case (λ case. case.tag.line) cases

-- a text stands twice in one table
abbrev pub same_text : Row → Row → Bool
same_text a b = bytes_eq a.text.text b.text.text

abbrev pub lines_of_same_texts : List Row → List ℕ
lines_of_same_texts rows = lines_of_repeated same_text (λ row. row.text.line) rows

-- w1: a usage, event, state or handler is declared twice among its like, or a case, or a text in one table
abbrev pub w1 : Part → List ℕ
w1 (Declared ids) = lines_of_same_names ids
w1 (Cases cases) = lines_of_same_cases cases
w1 (OfUsage usage) = lines_of_same_texts usage.rows
w1 _ = []

-- the names that stand among these words
abbrev pub lines_of_ids_among : List (List ℕ) → List Id → List ℕ
lines_of_ids_among words ids = map (λ id. id.line) (filter (λ id. is_among id.word words) ids)

-- a field has the name of a parameter of the case's usage
abbrev pub lines_of_fields_as_params : List Decl → CaseDecl → List ℕ
lines_of_fields_as_params decls case =
    lines_of_ids_among (words_of (params_named decls case.usage.word)) (field_names case.fields)

-- w5: a variable of a handler, or a field or parameter of one declaration, is bound twice, or a field has a
-- parameter's name
abbrev pub w5 : List Decl → Part → List ℕ
w5 decls (Bound ids) = lines_of_same_names ids
w5 decls (OfCase case) = lines_of_fields_as_params decls case
w5 decls _ = []
