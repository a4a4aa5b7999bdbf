use Rattle.std.proofs.Common.{◌≡◌, ◌++◌, map, zip, drop, Some}
use Rattle.dy_syntax.specs.Meaning.{param_of, nm_of}
use Rattle.dy_syntax.specs.Scopes.{words_of, param_names}
use Rattle.dy_check.specs.Meaning.{stands_of}
use Rattle.dy_check.proofs.stands.add_params.Given as goal

-- what is added so far, with what is still to be added, is all
abbrev pub invariant-loop-at : goal.invariant-loop-at
invariant-loop-at l =
    stands_of l.stands ++ zip (words_of (param_names (map param_of (drop l.at l.params)))) (map Some (map nm_of (drop l.at l.args)))
    ≡ stands_of l.initial.stands ++ zip (words_of (param_names (map param_of l.params))) (map Some (map nm_of l.args))
