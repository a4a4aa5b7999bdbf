use Rattle.std.proofs.lemmas.List.{map-append}
use Rattle.dy_check.proofs.Rows.{list_of_args}
use Rattle.dy_check.proofs.operations.push_seal.Goals as goal

pub returns : goal.returns
returns c = rw (c.in_ok-push.ensures.ok, map-append, list_of_args c.args.tuple.now, c.as_slice.ensures.value)
