use Rattle.std.proofs.Common.{[], ◌∷◌, map, take}
use Rattle.std.proofs.lemmas.List.{map-append}
use Rattle.dy_types.specs.Meaning.{known_of}
use Rattle.dy_types.proofs.ClaimLaws.{ClaimsHaveTables-none}
use Rattle.dy_types.specs.Tables.{ClaimsHaveTables}
use Rattle.dy_types.specs.Meaning.{claims_of}
use Rattle.dy_syntax.specs.Statements.{Pattern}
use Rattle.dy_syntax.specs.Meaning.{pattern_of}
use Rattle.dy_typing.specs.Effects.{shown_by}
use Rattle.dy_check.proofs.SideBySide.{map_more}
use Rattle.dy_check.proofs.ValueTables.{ValuesHaveTables-push}
use Rattle.dy_check.proofs.effects.statements.parts_of.Goals as goal

pub loop-pat-preserved : goal.loop-pat-preserved
loop-pat-preserved c = λ whole h.
    let pats = c.args.pats.now in
    let i = c.loop-pat._pat-index in
    let part = λ (pat : Pattern). shown_by whole [] in
    let before = map pattern_of (take i pats) in
    let more = map_more pattern_of pats i c._pat-item.result c.loop-pat-test.true c._pat-item.is in
    let none : ClaimsHaveTables [] (claims_of c.new.result) = rw c.new.ensures ClaimsHaveTables-none in
    rw (more, map-append part before (pattern_of c._pat-item.result ∷ []), c.in_ok-push.ensures.ok, map-append known_of c.loop-pat.parts (c.known_from.result ∷ []))
    (ValuesHaveTables-push (map part before) (map known_of c.loop-pat.parts) (shown_by whole []) (known_of c.known_from.result)
    (c.loop-pat.invariant whole h) (c.known_from.ensures whole [] h.hi none))
