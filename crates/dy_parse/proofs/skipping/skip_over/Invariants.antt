use Rattle.std.proofs.Common.{◌≡◌, ◌+◌, ◌*◌, [], ◌∷◌, length, vec_len}
use Rattle.dy_grammar.specs.Mirrors.Machine.{skip}
use Rattle.dy_parse.specs.Mirrors.Skipping.{sym_of, syms_of}
use Rattle.dy_parse.proofs.skipping.skip_over.Given as goal

-- what is due on the stack leads to where all of it leads
abbrev pub invariant-dues : goal.invariant-dues
invariant-dues l = skip l.left (syms_of l.stack.items) ≡ skip l.tokens (sym_of l.fn.due ∷ [])

abbrev pub decreases-dues : goal.decreases-dues
decreases-dues l = 16 * length l.left + vec_len l.stack
