use Rattle.std.proofs.Common.{◌≡◌, map, drop}
use Rattle.dy_syntax.specs.Meaning.{expr_of}
use Rattle.dy_show.specs.Canonical.{expr, comma_list, right_paren}
use Rattle.dy_show.specs.MirrorPages.{put_all, rest_of}
use Rattle.dy_show.proofs.expressions.+expr.Given as goal

-- the fields that are left, written on what there is, give all
abbrev pub invariant-fields-loop-field : goal.invariant-fields-loop-field
invariant-fields-loop-field l =
    put_all l.page (rest_of l.is_first right_paren expr (map expr_of (drop l.field-index l.field-items)))
    ≡ put_all l.initial.page (comma_list right_paren expr (map expr_of l.field-items))
