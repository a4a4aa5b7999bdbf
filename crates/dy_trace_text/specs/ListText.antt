-- How parts of a line and lists are written.
use Rattle.std.specs.Prelude.{ℕ, List, ◌++◌, codes}
use Rattle.std.specs.List.{join_by}
use Rattle.dy_term.specs.Terms.{Term}
use Rattle.dy_term.specs.TermText.{term_text}

-- a line: its parts, with one space between them
abbrev pub line : List (List ℕ) → List ℕ
line parts = join_by (λ part. part) (codes " ") parts ++ codes "\n"

-- `(item, item, item)`
abbrev pub in_parentheses : {A : Type 0} → (A → List ℕ) → List A → List ℕ
in_parentheses text items = codes "(" ++ join_by text (codes ", ") items ++ codes ")"

abbrev pub words_text : List (List ℕ) → List ℕ
words_text words = in_parentheses (λ word. word) words

abbrev pub terms_text : List Term → List ℕ
terms_text terms = in_parentheses term_text terms
