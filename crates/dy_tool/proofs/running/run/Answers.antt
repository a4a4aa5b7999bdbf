use Rattle.std.proofs.Common.{subst}
use Rattle.std.proofs.lemmas.Result.{IfOk-weaker}
use Rattle.dy_syntax.specs.Meaning.{file_of}
use Rattle.dy_tool.specs.Judging.{IsTypedText, IsJudgement}
use Rattle.dy_tool.proofs.JudgedFiles.{secure_bytes}
use Rattle.dy_tool.proofs.running.run.Goals as goal

pub returns-in-Accepted-clause-secure : goal.returns-in-Accepted-clause-secure
returns-in-Accepted-clause-secure c =
    let bytes = c.args.bytes.now in
    let file = file_of c.in-Accepted.accepted.file in
    let text : IsTypedText bytes file = subst (IsJudgement bytes) c.in-Accepted.is c.in_ok-accepted.ensures in
    IfOk-weaker c.print_run.result _ _ (λ a is done. secure_bytes c.one_file.ensures bytes file text.reads c.is_secure.ensures) c.print_run.ensures
