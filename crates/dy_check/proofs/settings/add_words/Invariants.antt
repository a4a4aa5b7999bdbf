use Rattle.std.proofs.Common.{◌≡◌, ◌++◌, map, take}
use Rattle.dy_syntax.specs.Meaning.{id_of}
use Rattle.dy_syntax.specs.Scopes.{words_of}
use Rattle.dy_check.proofs.settings.add_words.Given as goal

abbrev pub invariant-loop-id : goal.invariant-loop-id
invariant-loop-id l = l.words ≡ l.initial.words ++ words_of (map id_of (take l.id-index l.ids))
