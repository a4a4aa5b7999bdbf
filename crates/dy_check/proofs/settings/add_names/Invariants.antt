use Rattle.std.proofs.Common.{◌≡◌, ◌++◌, map, take}
use Rattle.std.specs.List.{flat_map}
use Rattle.dy_syntax.specs.Meaning.{pattern_of}
use Rattle.dy_syntax.specs.Scopes.{words_of, pattern_names}
use Rattle.dy_check.proofs.settings.add_names.Given as goal

abbrev pub invariant-loop-pat : goal.invariant-loop-pat
invariant-loop-pat l =
    l.words ≡ l.initial.words ++ words_of (flat_map pattern_names (map pattern_of (take l.pat-index l.pats)))
