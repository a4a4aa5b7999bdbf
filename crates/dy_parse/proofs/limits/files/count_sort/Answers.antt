use Rattle.std.proofs.Common.{sym, ◌∙◌, arith}
use Rattle.dy_syntax.specs.Meaning.{decl_of}
use Rattle.dy_parse.specs.Limits.{lines_of_sort}
use Rattle.dy_parse.specs.Mirrors.Limits.{count_all}
use Rattle.dy_parse.proofs.LimitLaws.Folds.{fold_more, count_all_append}
use Rattle.dy_parse.proofs.limits.files.count_sort.Goals as goal

pub loop-decl-preserved : goal.loop-decl-preserved
loop-decl-preserved c =
    rw c.count_decl-count.ensures
    (sym (fold_more count_all count_all_append (lines_of_sort c.args.sort) decl_of c.args.decls.now c.loop-decl.decl-index c.decl-item.result c.loop-decl.count (omega arith) c.decl-item.is)
    ∙ c.loop-decl.invariant)
