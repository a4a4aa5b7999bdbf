use Rattle.std.proofs.Common.{◌≡◌, drop}
use Rattle.dy_syntax.specs.Meaning.{id_of}
use Rattle.dy_syntax.specs.Names.{Named}
use Rattle.dy_typing.specs.Names as typing
use Rattle.dy_check.specs.Meaning.{stands_of}
use Rattle.dy_check.proofs.stands.stands_for.Given as goal

-- the word is none of those so far
abbrev pub invariant-loop-standing : goal.invariant-loop-standing
invariant-loop-standing l =
    typing.stands_for (stands_of (drop l.standing-index l.stands)) (Named (id_of l.id))
    ≡ typing.stands_for (stands_of l.stands) (Named (id_of l.id))
