use Rattle.std.proofs.Common.{◌≡◌, map, drop}
use Rattle.std.specs.List.{list_any}
use Rattle.dy_syntax.specs.Meaning.{id_of}
use Rattle.dy_syntax.specs.Rules.Doubles.{same_word}
use Rattle.dy_syntax.proofs.rules.sessions.is_among.Given as goal

-- it is none of those so far
abbrev pub invariant-loop-other : goal.invariant-loop-other
invariant-loop-other l = list_any (same_word (id_of l.id)) (map id_of (drop l.other-index l.ids)) ≡ list_any (same_word (id_of l.id)) (map id_of l.ids)
