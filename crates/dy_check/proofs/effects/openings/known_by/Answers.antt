use Rattle.std.proofs.Common.{[], sym, ◌∙◌, subst}
use Rattle.dy_label.specs.Labels.{Public}
use Rattle.dy_types.specs.FieldTypes.{declared_claims}
use Rattle.std.proofs.lemmas.Result.{IfOk-weaker}
use Rattle.dy_types.specs.Meaning.{known_of}
use Rattle.dy_types.specs.Tables.{KnownHasTables}
use Rattle.dy_check.specs.declared.effects.openings.Way.{Way}
use Rattle.dy_check.specs.MirrorOpenings as openings
use Rattle.dy_check.proofs.effects.openings.known_by.Goals as goal

pub returns-in-Opened : goal.returns-in-Opened
returns-in-Opened c = IfOk-weaker c.narrow.result _ _ (λ known h way hi guard type o t.
    subst (λ (w : Way). KnownHasTables (openings.known_by w hi guard type) (known_of known)) (sym c.in-Opened.is ∙ o.is_way)
    (h type hi guard t o.hi_table o.guard_table)) c.narrow.ensures

pub returns-in_ok-claims-in-Verified : goal.returns-in_ok-claims-in-Verified
returns-in_ok-claims-in-Verified c = λ way hi guard type o t.
    subst (λ (w : Way). KnownHasTables (openings.known_by w hi guard type) (known_of c.known_from.result)) (sym c.in-Verified.is ∙ o.is_way)
    (c.known_from.ensures (record { hi = hi; lo = Public; claims = [] }) (declared_claims type guard) o.hi_table (c.in_ok-claims-in-Verified.ensures type guard t o.guard_table))
