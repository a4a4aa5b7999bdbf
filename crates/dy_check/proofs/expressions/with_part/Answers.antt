use Rattle.std.proofs.Common.{[], ◌∷◌, map}
use Rattle.std.proofs.lemmas.List.{map-append}
use Rattle.dy_types.specs.Claims as plain
use Rattle.dy_check.proofs.Meets.{HasTable-more}
use Rattle.dy_check.proofs.expressions.with_part.Goals as goal

pub returns : goal.returns
returns c = λ parts value h k. record {
  hi = rw (map-append (λ (part : plain.Known). part.hi) parts (value ∷ []))
      (HasTable-more (map (λ (part : plain.Known). part.hi) parts) value.hi c.args.together.hi c.args.part.now.hi c.meet.result h.hi k.hi c.meet.ensures.rows);
  lo = rw (map-append (λ (part : plain.Known). part.lo) parts (value ∷ []))
      (HasTable-more (map (λ (part : plain.Known). part.lo) parts) value.lo c.args.together.lo c.args.part.now.lo c.meet-2.result h.lo k.lo c.meet-2.ensures.rows);
  claims = h.claims;
}
