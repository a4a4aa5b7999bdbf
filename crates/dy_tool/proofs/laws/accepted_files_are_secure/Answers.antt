use Rattle.std.proofs.Common.{◌≡◌, subst}
use Rattle.dy_syntax.specs.Files.{File}
use Rattle.dy_cases.specs.DeclaredParts.{handlers_in}
use Rattle.dy_typing.specs.Typing.{AreTyped}
use Rattle.dy_tool.proofs.OneDue.{typed_done}
use Rattle.dy_tool.proofs.laws.accepted_files_are_secure.Goals as goal

pub returns : goal.returns
returns c = λ command bytes text asks due file T traces.
    let has = typed_done command bytes text asks due in
    let same : has.file ≡ file = c.one_file.ensures bytes has.file file has.reads traces.reads in
    let typed = subst (λ (f : File). AreTyped f.decls (handlers_in f.decls)) same has.typed.1 in
    c.typed_is_secure.ensures bytes file T typed traces
