use Rattle.std.proofs.Common.{◌≡◌, find, drop}
use Rattle.std.specs.Str.{bytes_eq}
use Rattle.dy_eval.proofs.names.Names.bytes_at.Given as goal

-- none so far is of this word
abbrev pub invariant-loop-written : goal.invariant-loop-written
invariant-loop-written l =
    find (λ w. bytes_eq w.word l.word) (drop l.written-index l.written-items) ≡ find (λ w. bytes_eq w.word l.word) l.self.written.items
