use Rattle.std.proofs.Common.{map}
use Rattle.dy_syntax.specs.Meaning.{decl_of, expr_of}
use Rattle.dy_typing.specs.Expressions.{known_of_expr}
use Rattle.dy_check.proofs.conditions.others.is_sent.Goals as goal

pub returns : goal.returns
returns c = record {
  exactly = λ k h. c.is_public.ensures (known_of_expr (map decl_of c.args.setting.now.cases.now) k (expr_of c.args.value.now)).hi (c.in_ok-value.ensures k h).hi;
}
