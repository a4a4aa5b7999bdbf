use Rattle.std.proofs.Common.{◌≡◌, [], Some}
use Rattle.std.specs.List.{slice_get}
use Rattle.dy_derive.specs.Nodes.{fact_of}
use Rattle.dy_derive.specs.MirrorKnowledge.{AreAny}
use Rattle.dy_derive.proofs.GivenFacts.{outright_gives, bare_interned}
use Rattle.dy_derive.proofs.GrownDeductions.{grows_none}
use Rattle.dy_derive.proofs.Refusals.{on_err}
use Rattle.dy_derive.proofs.deductions.Deductions.given_node.Goals as goal

pub returns-clause-ok : goal.returns-clause-ok
returns-clause-ok c =
    let old = c.args.self.now in
    let node = c.args.node in
    let number = c.in_ok-number.number in
    outright_gives c.outright.result old c.intern.new.self number (fact_of [] node) c.args.reason c.outright.ensures.rules c.outright.ensures.reasons
    (bare_interned old old c.intern.new.self node number AreAny (λ facts. slice_get facts number ≡ Some (fact_of [] node)) c.requires.bare c.requires.small
    (grows_none old AreAny (λ facts T deduced. tt)) c.in_ok-number.ensures.ok (λ facts more any at. at))

pub returns-clause-err : goal.returns-clause-err
returns-clause-err c =
    let old = c.args.self.now in
    on_err c.outright.result _
    (bare_interned old old c.intern.new.self c.args.node c.in_ok-number.number AreAny AreAny c.requires.bare c.requires.small
    (grows_none old AreAny (λ facts T deduced. tt)) c.in_ok-number.ensures.ok (λ facts more any at. tt))
