use Rattle.std.proofs.lemmas.Result.{on_err_weaker}
use Rattle.dy_derive.specs.MirrorGivenRules.{places_of}
use Rattle.dy_derive.specs.MirrorKnowledge.{AreAny, AreAt}
use Rattle.dy_derive.proofs.FieldsGiven.{fields_give}
use Rattle.dy_derive.proofs.GrownDeductions.{grows_after}
use Rattle.dy_derive.proofs.deductions.Deductions.given_by.Goals as goal

pub returns-in_ok-places-in-State-clause-ok : goal.returns-in_ok-places-in-State-clause-ok
returns-in_ok-places-in-State-clause-ok c =
    rw (c.in-State.is, ← c.as_slice.ensures)
    (fields_give c.given_fields.result c.args.self.now c.intern_places.new.self c.given_fields.new.self c.in_ok-places-in-State.places c.args.index
    c.in-State.principal c.in-State.session c.in-State.version c.as_slice.result.now c.in_ok-places-in-State.ensures.ok c.given_fields.ensures.ok)

pub returns-in_ok-places-in-State-clause-err : goal.returns-in_ok-places-in-State-clause-err
returns-in_ok-places-in-State-clause-err c =
    let are = AreAt c.in_ok-places-in-State.places (places_of c.in-State.principal c.in-State.session c.in-State.version) in
    on_err_weaker c.given_fields.result
    (λ grown. grows_after c.args.self.now c.intern_places.new.self c.given_fields.new.self are AreAny AreAny c.in_ok-places-in-State.ensures.ok grown
    (λ facts more such any. tt)) c.given_fields.ensures.err
