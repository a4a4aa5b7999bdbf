use Rattle.std.proofs.Common.{◌≡◌, ◌≤◌, ◌+◌, ◌++◌, length, take, length-append, arith}
use Rattle.std.proofs.lemmas.List.{length-take}
use Rattle.std.proofs.KnownBytes.{Consumes-trans}
use Rattle.dy_io.proofs.reading.read_all.Goals as goal

pub returns-in-Ok-clause-too_long : goal.returns-in-Ok-clause-too_long
returns-in-Ok-clause-too_long g c = λ _.
    let bytes = c.loop-bytes.bytes in
    let new = take c.in-Ok.n c.read.new.buf in
    let all : length (bytes.items ++ new) ≡ c.args.limit + 1 = omega (arith, length-append bytes.items new, length-take c.in-Ok.n c.read.new.buf, bytes.ok.0, c.in-Ok.ensures.within, c.if-n-limit.true, c.read.auto.buf, length-take c.min-room.result c.loop-bytes.piece, c.loop-bytes.invariant.0) in
    (bytes.items ++ new, all, Consumes-trans _ _ _ _ _ c.loop-bytes.invariant.1 c.in-Ok.ensures.taken)

pub returns-then-is_err-clause-memory_within : goal.returns-then-is_err-clause-memory_within
returns-then-is_err-clause-memory_within g c = λ _.
    let bytes = c.loop-bytes.bytes in
    let new = take c.in-Ok-2.n c.read.new.buf in
    let few : bytes.len + c.in-Ok-2.n ≤ c.args.limit = omega (arith, c.if-n-limit.false, c.loop-bytes.invariant.0) in
    let all : length (bytes.items ++ new) ≡ bytes.len + c.in-Ok-2.n = omega (arith, length-append bytes.items new, length-take c.in-Ok-2.n c.read.new.buf, bytes.ok.0, c.in-Ok-2.ensures.within) in
    (bytes.len + c.in-Ok-2.n, few, (bytes.items ++ new, all, Consumes-trans _ _ _ _ _ c.loop-bytes.invariant.1 c.in-Ok-2.ensures.taken))
