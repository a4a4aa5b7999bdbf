use Rattle.std.proofs.Common.{sym, ◌∙◌, ap}
use Rattle.std.specs.Prelude.{Ok, Err}
use Rattle.dy_syntax.specs.Files.{File}
use Rattle.dy_grammar.specs.Mirrors.Machine.{Reads}
use Rattle.dy_grammar.proofs.FileLaws.{file_complete}
use Rattle.dy_grammar.proofs.laws.one_file.Goals as goal

-- the value that is read, if one is
abbrev read_or : File → Reads File → File
read_or file (Ok y) = y.0
read_or file (Err left) = file

pub returns : goal.returns
returns c tokens file other is_file is_other =
    ap (read_or file) (sym (file_complete file tokens is_file) ∙ file_complete other tokens is_other)
