-- Two entries are the same in one way at most.
use Rattle.std.proofs.Common.{◌≡◌, Option}
use Rattle.std.specs.Coded.{Coded, Coded-set, codes}
use Rattle.dy_flat.specs.MirrorCodes.{term_code}
use Rattle.dy_label.specs.MirrorCodes.{label_code}
use Rattle.dy_entry.specs.Entries.{Entry}

next_code : Coded (Option Entry)
next_code = Prim.hlevel (codes, term_code, label_code)

pub next_prop : (o p : Option Entry) → IsProp (o ≡ p)
next_prop o p = Coded-set next_code o p
