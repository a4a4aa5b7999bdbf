use Rattle.std.proofs.Common.{Some, ap, sym, arith, ◌∙◌}
use Rattle.dy_flat.specs.Parts as parts
use Rattle.dy_flat.proofs.PartRuns.{key_len, sealed_view}
use Rattle.dy_flat.proofs.parts.key_part.Goals as goal

pub overflow_add-first_len : goal.overflow_add-first_len
overflow_add-first_len c =
    let sealed = sealed_view c.args.view c.in-Aead.field-0 c.in-Aead.is in
    let len = key_len c.args.view c.first_len.result sealed.key c.first_len.ensures sealed.span_is in
    omega (arith, len, sealed.first.within, c.well_formed)

pub part-requires : goal.part-requires
part-requires c =
    let sealed = sealed_view c.args.view c.in-Aead.field-0 c.in-Aead.is in
    let len = key_len c.args.view c.first_len.result sealed.key c.first_len.ensures sealed.span_is in
    (sealed.key, rw len sealed.first)

pub returns-in-Aead : goal.returns-in-Aead
returns-in-Aead c =
    let sealed = sealed_view c.args.view c.in-Aead.field-0 c.in-Aead.is in
    let len = key_len c.args.view c.first_len.result sealed.key c.first_len.ensures sealed.span_is in
    ap Some (c.part.ensures sealed.key (rw len sealed.first)) ∙ ap parts.key_part (sym sealed.is)
