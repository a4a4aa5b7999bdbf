use Rattle.dy_sound.proofs.DerivedValues.{derived_may_be_known}
use Rattle.dy_sound.proofs.laws.derived_values_may_be_known.Goals as goal

pub returns : goal.returns
returns c = λ decls T value good. derived_may_be_known c.laws_below.ensures decls T good value
