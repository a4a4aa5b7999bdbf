use Rattle.std.proofs.Common.{map}
use Rattle.dy_label.specs.Labels.{One}
use Rattle.dy_label.specs.Words.{Next}
use Rattle.dy_syntax.specs.Meaning.{decl_of, expr_of}
use Rattle.dy_typing.specs.Expressions.{known_of_expr}
use Rattle.dy_check.proofs.conditions.members.is_fitting.Goals as goal

pub returns-in-Kept : goal.returns-in-Kept
returns-in-Kept c = λ sealing number h. rw c.in-Kept.is (record {
  exactly = λ k g. c.implies.ensures (One Next) (known_of_expr (map decl_of c.args.setting.now.cases.now) k (expr_of c.args.value.now)).hi c.here_table.ensures (c.in_ok-value.ensures k g).hi;
})
