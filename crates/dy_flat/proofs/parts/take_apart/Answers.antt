use Rattle.std.proofs.Common.{◌≡◌, sym, arith, refl}
use Rattle.dy_flat.specs.declared.flat_nodes.Node.TheVariants as code
use Rattle.dy_flat.specs.Runs as runs
use Rattle.dy_flat.specs.Runs.{run_of}
use Rattle.dy_flat.proofs.WholeRuns.{first_some, made_some}
use Rattle.dy_flat.proofs.PartRuns.{key_len, sealed_view, derived_view}
use Rattle.dy_flat.proofs.parts.take_apart.Goals as goal

pub text-requires : goal.text-requires
text-requires c =
    let view = c.args.view in
    made_some runs.Lit _ (rw c.in-Lit.is at (first_some view.contents.now view.nodes.now (code.Lit 0) view.whole))

pub name-requires : goal.name-requires
name-requires c =
    let view = c.args.view in
    made_some runs.Name _ (rw c.in-Name.is at (first_some view.contents.now view.nodes.now (code.Lit 0) view.whole))

pub overflow_add-first : goal.overflow_add-first
overflow_add-first c =
    let parts = sealed_view c.args.view c.in-Aead.before c.in-Aead.is in
    let len = key_len c.args.view c.first_len-first.result parts.key c.first_len-first.ensures parts.span_is in
    omega (arith, len, parts.first.within, c.well_formed)

pub part-requires-in-Aead : goal.part-requires-in-Aead
part-requires-in-Aead c =
    let parts = sealed_view c.args.view c.in-Aead.before c.in-Aead.is in
    let len = key_len c.args.view c.first_len-first.result parts.key c.first_len-first.ensures parts.span_is in
    (parts.key, rw len parts.first)

pub part-requires-in-Aead-2 : goal.part-requires-in-Aead-2
part-requires-in-Aead-2 c =
    let parts = sealed_view c.args.view c.in-Aead.before c.in-Aead.is in
    let len = key_len c.args.view c.first_len-first.result parts.key c.first_len-first.ensures parts.span_is in
    (parts.message, rw len parts.second)

pub part-requires-in-Aead-3 : goal.part-requires-in-Aead-3
part-requires-in-Aead-3 c =
    let parts = sealed_view c.args.view c.in-Aead.before c.in-Aead.is in
    (parts.associated, parts.third)

pub overflow_add-middle-in-Kdf : goal.overflow_add-middle-in-Kdf
overflow_add-middle-in-Kdf c =
    let parts = derived_view c.args.view c.in-Kdf.place c.in-Kdf.is in
    let len = key_len c.args.view c.first_len-middle.result parts.key c.first_len-middle.ensures parts.span_is in
    omega (arith, len, parts.first.within, c.well_formed)

pub text-context-requires : goal.text-context-requires
text-context-requires c = rw (derived_view c.args.view c.in-Kdf.place c.in-Kdf.is).found_is refl

pub part-requires-in-Kdf : goal.part-requires-in-Kdf
part-requires-in-Kdf c =
    let parts = derived_view c.args.view c.in-Kdf.place c.in-Kdf.is in
    let len = key_len c.args.view c.first_len-middle.result parts.key c.first_len-middle.ensures parts.span_is in
    (parts.key, rw len parts.first)

pub part-requires-in-Kdf-2 : goal.part-requires-in-Kdf-2
part-requires-in-Kdf-2 c =
    let parts = derived_view c.args.view c.in-Kdf.place c.in-Kdf.is in
    let len = key_len c.args.view c.first_len-middle.result parts.key c.first_len-middle.ensures parts.span_is in
    (parts.input, rw len parts.second)

pub returns-in-Aead : goal.returns-in-Aead
returns-in-Aead c =
    let parts = sealed_view c.args.view c.in-Aead.before c.in-Aead.is in
    let len = key_len c.args.view c.first_len-first.result parts.key c.first_len-first.ensures parts.span_is in
    let key = c.part-in-Aead.ensures parts.key (rw len parts.first) in
    let message = c.part-in-Aead-2.ensures parts.message (rw len parts.second) in
    let associated = c.part-in-Aead-3.ensures parts.associated parts.third in
    rw (key, message, associated) (sym parts.is)

pub returns-in-Kdf : goal.returns-in-Kdf
returns-in-Kdf c =
    let parts = derived_view c.args.view c.in-Kdf.place c.in-Kdf.is in
    let len = key_len c.args.view c.first_len-middle.result parts.key c.first_len-middle.ensures parts.span_is in
    let key = c.part-in-Kdf.ensures parts.key (rw len parts.first) in
    let input = c.part-in-Kdf-2.ensures parts.input (rw len parts.second) in
    let context : c.text-context.result.now ≡ parts.context = cc (c.text-context.ensures, parts.found_is) in
    rw (key, input, context) (sym parts.is)
