use Rattle.std.proofs.Common.{rules, length, ap, sym, ◌∙◌}
use Rattle.dy_turn.proofs.MarkingKept.{marks}
use Rattle.dy_turn.proofs.steps.append.Goals as goal

pub store-requires : goal.store-requires
store-requires g c = (
  search rules,
  search rules,
  marks g.T.Counted.history g.T.Counted.same_base c.args.top.now.key _ _ c.args.token.now.me c.requires.works.0 c.requires.works.1 c.requires.on.2 g.L.Appended.log _ c.requires.grown
      (c.count.ensures ∙ ap length (sym c.requires.log)),
)
