use Rattle.std.proofs.Common.{◌≡◌, length, map}
use Rattle.dy_syntax.specs.Meaning.{decl_of}
use Rattle.dy_grammar.specs.Parts.{Decls}
use Rattle.dy_grammar.specs.Mirrors.Machine.{at}
use Rattle.dy_parse.specs.Mirrors.Files.{with_decls}
use Rattle.dy_parse.proofs.files.decls.Given as goal

-- the declarations so far, and what is left, are all
abbrev pub invariant-decls : goal.invariant-decls
invariant-decls l = with_decls (map decl_of l.found) (at Decls l.left) ≡ at Decls l.tokens

abbrev pub decreases-decls : goal.decreases-decls
decreases-decls l = length l.left
