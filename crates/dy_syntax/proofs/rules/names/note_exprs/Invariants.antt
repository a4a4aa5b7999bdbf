use Rattle.std.proofs.Common.{◌≡◌, map, drop}
use Rattle.dy_syntax.specs.Meaning.{field_of, expr_of}
use Rattle.dy_syntax.specs.MirrorMeaning.{least_of, scope_of}
use Rattle.dy_syntax.specs.MirrorFaults.{note_lines}
use Rattle.dy_syntax.specs.Rules.Lines.{lines_of_pairs}
use Rattle.dy_syntax.specs.Rules.Names.{lines_of_expr}
use Rattle.dy_syntax.proofs.rules.names.note_exprs.Given as goal

-- those so far are noted
abbrev pub invariant-loop-i : goal.invariant-loop-i
invariant-loop-i l =
    let lines = lines_of_pairs (lines_of_expr (scope_of l.scope)) in
    note_lines 6 (lines (map field_of (drop l.i l.fields)) (map expr_of (drop l.i l.exprs))) (least_of l.least)
    ≡ note_lines 6 (lines (map field_of l.fields) (map expr_of l.exprs)) (least_of l.initial.least)
