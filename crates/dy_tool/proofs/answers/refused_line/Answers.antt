use Rattle.std.proofs.Common.{◌≡◌, ◌++◌, append_assoc}
use Rattle.std.specs.Prelude.{IfOk, codes, string_bytes}
use Rattle.std.specs.Fmt.{decimal}
use Rattle.dy_tool.proofs.answers.refused_line.Goals as goal

-- `format!` puts its pieces together from the right
pub returns : goal.returns
returns c =
    let from_the_right : IfOk c.format.result (λ text. string_bytes text ≡ codes "refused line " ++ (decimal c.args.line ++ (codes " c" ++ (decimal c.args.condition ++ (codes " field " ++ (decimal c.args.field ++ codes "\n")))))) = c.format.ensures.ok in
    simp append_assoc from_the_right
