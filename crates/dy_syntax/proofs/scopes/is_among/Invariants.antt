use Rattle.std.proofs.Common.{◌≡◌, map, drop}
use Rattle.dy_syntax.specs.Meaning.{id_of}
use Rattle.dy_syntax.specs.Scopes.{is_among, words_of}
use Rattle.dy_syntax.proofs.scopes.is_among.Given as goal

-- the word is none of those so far
abbrev pub invariant-loop-id : goal.invariant-loop-id
invariant-loop-id l = is_among l.word (words_of (map id_of (drop l.id-index l.ids))) ≡ is_among l.word (words_of (map id_of l.ids))
