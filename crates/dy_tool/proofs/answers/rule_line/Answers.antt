use Rattle.std.proofs.Common.{◌≡◌, ◌++◌, append_assoc}
use Rattle.std.specs.Prelude.{IfOk, codes, string_bytes}
use Rattle.std.specs.Fmt.{decimal}
use Rattle.dy_tool.proofs.answers.rule_line.Goals as goal

-- `format!` puts its pieces together from the right
pub returns : goal.returns
returns c =
    let from_the_right : IfOk c.format.result (λ text. string_bytes text ≡ codes "line " ++ (decimal c.args.line ++ (codes ": rule w" ++ (decimal c.args.rule ++ codes "\n")))) = c.format.ensures.ok in
    simp append_assoc from_the_right
