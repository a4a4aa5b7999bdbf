-- What the types stand for by which the code finds the first fault.
use Rattle.std.specs.Prelude.{map, Option}
use Rattle.std.specs.Option.{option_map}
use Rattle.dy_syntax.specs.declared.least.Fault as fault
use Rattle.dy_syntax.specs.declared.least.Least as least
use Rattle.dy_syntax.specs.declared.scopes.Where as where_
use Rattle.dy_syntax.specs.declared.scopes.Where.TheVariants as wheres
use Rattle.dy_syntax.specs.declared.scopes.Scope as scope
use Rattle.dy_syntax.specs.declared.rules.plans.Wanted as wanted
use Rattle.dy_syntax.specs.declared.rules.plans.Wanted.TheVariants as wanteds
use Rattle.dy_syntax.specs.declared.rules.plans.StepAt as step_at
use Rattle.dy_syntax.specs.declared.rules.sessions.Sessions as sessions
use Rattle.dy_syntax.specs.Meaning.{id_of, step_of}
use Rattle.dy_syntax.specs.Parts.{Wanted, Forging, Starting, Sending, Opening, OpeningOf}
use Rattle.dy_syntax.specs.Rules.Plans.{StepAt, Sessions}
use Rattle.dy_syntax.specs.Rules.{Fault}
use Rattle.dy_syntax.specs.Scopes.{Where, InCase, InEvent, InState, InHandler, Elsewhere, Scope, words_of}

abbrev pub fault_of : fault.Fault → Fault
fault_of f = record { line = f.line; rule = f.rule }

abbrev pub least_of : least.Least → Option Fault
least_of l = option_map fault_of l.found

abbrev pub where_of : where_.Where → Where
where_of wheres.InCase = InCase
where_of wheres.InEvent = InEvent
where_of (wheres.InState lasting) = InState lasting
where_of (wheres.InHandler goes_on stores) = InHandler goes_on stores
where_of wheres.Elsewhere = Elsewhere

abbrev pub scope_of : scope.Scope → Scope
scope_of s =
    record { place = where_of s.place; names = words_of (map id_of s.names); bound = words_of (map id_of s.bound) }

abbrev pub wanted_of : wanted.Wanted → Wanted
wanted_of wanteds.Forging = Forging
wanted_of wanteds.Starting = Starting
wanted_of wanteds.Sending = Sending
wanted_of wanteds.Opening = Opening
wanted_of (wanteds.OpeningOf principal) = OpeningOf principal.now

abbrev pub step_at_of : step_at.StepAt → StepAt
step_at_of s = record { round = s.round; step = step_of s.step.now }

abbrev pub sessions_of : sessions.Sessions → Sessions
sessions_of s = record { on = option_map id_of s.on; fields = map id_of s.fields }
