use Rattle.std.proofs.Common.{◌≡◌, map, drop}
use Rattle.std.specs.List.{flat_map}
use Rattle.dy_syntax.specs.Meaning.{decl_of}
use Rattle.dy_parse.specs.Limits.{lines_of_sort}
use Rattle.dy_parse.specs.Mirrors.Limits.{count_all}
use Rattle.dy_parse.proofs.limits.files.count_sort.Given as goal

-- those so far are counted
abbrev pub invariant-loop-decl : goal.invariant-loop-decl
invariant-loop-decl l =
    count_all (flat_map (lines_of_sort l.sort) (map decl_of (drop l.decl-index l.decls))) l.count
    ≡ count_all (flat_map (lines_of_sort l.sort) (map decl_of l.decls)) l.initial.count
