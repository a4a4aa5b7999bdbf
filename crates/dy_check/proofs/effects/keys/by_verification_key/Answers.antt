use Rattle.std.proofs.Common.{subst}
use Rattle.dy_syntax.specs.Names.{Named}
use Rattle.dy_syntax.specs.Meaning.{id_of}
use Rattle.dy_types.specs.Claims.{StaticUse}
use Rattle.dy_types.specs.Tables.{HasTable}
use Rattle.dy_typing.specs.Knowledge.{known_of}
use Rattle.dy_typing.specs.Effects.{vouching}
use Rattle.dy_check.proofs.effects.keys.by_verification_key.Goals as goal

pub returns : goal.returns
returns c = λ k h.
    let key = known_of k (Named (id_of c.args.key.now)) in
    c.opening_by.ensures _ _ (c.in_ok-value.ensures k h).hi
    (subst (λ (usage : StaticUse). HasTable (vouching key usage) c.vouching-guard.result) c.in_ok-usage.ensures
    (c.vouching-guard.ensures key (c.in_ok-key.ensures k h)))
