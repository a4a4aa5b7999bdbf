use Rattle.std.proofs.Common.{◌≡◌, ◌∙◌, ap, sym, subst, List, IfOk}
use Rattle.dy_syntax.specs.declared.statements.Act as act
use Rattle.dy_syntax.specs.declared.statements.Act.TheVariants as acts
use Rattle.dy_syntax.specs.declared.statements.Pattern.{Pattern}
use Rattle.dy_syntax.specs.Meaning.{act_of}
use Rattle.dy_eval.specs.Doings.{Effect}
use Rattle.dy_eval.specs.EffectMeaning.{as_effect}
use Rattle.dy_eval.specs.Effects as effects
use Rattle.dy_eval.specs.NamesMeaning.{names_of}
use Rattle.dy_eval.proofs.statements.effect_of.Goals as goal

pub returns-in-Opened : goal.returns-in-Opened
returns-in-Opened g c =
    let m = c.in-Opened in
    let X = g.P.Past.trace c.args.past.now in
    let names = names_of c.args.names.now in
    subst (λ (e : Effect). IfOk c.opens.result (λ effect. as_effect effect ≡ e))
    (ap (λ (ps : List Pattern). effects.effect_of X names c.args.kind (act_of (acts.Opened m.value m.key m.usage m.tag ps m.ad))) c.as_slice-in-Opened.ensures
    ∙ sym (ap (λ (a : act.Act). effects.effect_of X names c.args.kind (act_of a)) m.is)) c.opens.ensures
