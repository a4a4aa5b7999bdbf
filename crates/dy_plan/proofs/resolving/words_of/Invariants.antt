use Rattle.std.proofs.Common.{◌≡◌, map, take}
use Rattle.dy_syntax.specs.Meaning.{id_of}
use Rattle.dy_plan.proofs.resolving.words_of.Given as goal

-- the words of the names that were passed
abbrev pub invariant-loop-id : goal.invariant-loop-id
invariant-loop-id l = l.words ≡ map (λ id. id.word) (map id_of (take l.id-index l.ids))
