use Rattle.std.proofs.Common.{Some, ap, sym, arith, ◌∙◌}
use Rattle.dy_flat.specs.Parts as parts
use Rattle.dy_flat.proofs.PartRuns.{key_len, sealed_view}
use Rattle.dy_flat.proofs.parts.body_part.Goals as goal

pub overflow_add-key : goal.overflow_add-key
overflow_add-key c =
    let sealed = sealed_view c.args.view c.in-Aead.before c.in-Aead.is in
    let len = key_len c.args.view c.first_len-key.result sealed.key c.first_len-key.ensures sealed.span_is in
    omega (arith, len, sealed.first.within, c.well_formed)

pub part-requires : goal.part-requires
part-requires c =
    let sealed = sealed_view c.args.view c.in-Aead.before c.in-Aead.is in
    let len = key_len c.args.view c.first_len-key.result sealed.key c.first_len-key.ensures sealed.span_is in
    (sealed.message, rw len sealed.second)

pub returns-in-Aead : goal.returns-in-Aead
returns-in-Aead c =
    let sealed = sealed_view c.args.view c.in-Aead.before c.in-Aead.is in
    let len = key_len c.args.view c.first_len-key.result sealed.key c.first_len-key.ensures sealed.span_is in
    ap Some (c.part.ensures sealed.message (rw len sealed.second)) ∙ ap parts.body_part (sym sealed.is)
