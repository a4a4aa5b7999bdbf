use Rattle.std.proofs.Common.{◌≡◌, map, drop}
use Rattle.dy_syntax.specs.Meaning.{statement_of}
use Rattle.dy_syntax.specs.Scopes.{body_stores}
use Rattle.dy_syntax.proofs.places.handlers.stores.Given as goal

-- no statement so far is a `store`
abbrev pub invariant-loop-statement : goal.invariant-loop-statement
invariant-loop-statement l = body_stores (map statement_of (drop l.statement-index l.body)) ≡ body_stores (map statement_of l.body)
