use Rattle.std.proofs.Common.{◌≡◌, drop}
use Rattle.std.specs.List.{find, zip}
use Rattle.std.specs.Str.{bytes_eq}
use Rattle.dy_know.proofs.Words.{words_in}
use Rattle.dy_know.proofs.partners.value_meant.Given as goal

-- the word is not among the parameters so far
abbrev pub invariant-loop-i : goal.invariant-loop-i
invariant-loop-i l = find (λ pair. bytes_eq l.id.word pair.0) (zip (words_in (drop l.i l.params)) (drop l.i l.args))
    ≡ find (λ pair. bytes_eq l.id.word pair.0) (zip (words_in l.params) l.args)
