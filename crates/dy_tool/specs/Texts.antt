-- The texts that are written. Each is one line.
use Rattle.std.specs.Prelude.{ℕ, List, ◌++◌, codes}
use Rattle.std.specs.Fmt.{decimal}
use Rattle.dy_parse.specs.declared.errors.LimitName.{LimitName}
use Rattle.dy_parse.specs.Messages.{limit_name}

-- accepted N handlers
abbrev pub accepted_text : ℕ → List ℕ
accepted_text handlers = codes "accepted " ++ decimal handlers ++ codes " handlers\n"

-- refused line L cK field F
abbrev pub refused_text : ℕ → ℕ → ℕ → List ℕ
refused_text line condition field =
    codes "refused line " ++ decimal line ++ codes " c" ++ decimal condition
    ++ codes " field " ++ decimal field ++ codes "\n"

-- line L: syntax
abbrev pub syntax_text : ℕ → List ℕ
syntax_text line = codes "line " ++ decimal line ++ codes ": syntax\n"

-- line L: limit NAME
abbrev pub limit_line : ℕ → List ℕ → List ℕ
limit_line line name = codes "line " ++ decimal line ++ codes ": limit " ++ name ++ codes "\n"

abbrev pub limit_text : ℕ → LimitName → List ℕ
limit_text line which = limit_line line (limit_name which)

-- line L: rule wK
abbrev pub rule_text : ℕ → ℕ → List ℕ
rule_text line rule = codes "line " ++ decimal line ++ codes ": rule w" ++ decimal rule ++ codes "\n"

abbrev pub bad_words : List ℕ
bad_words = codes "bad words\n"

abbrev pub too_long : List ℕ
too_long = codes "too long\n"
