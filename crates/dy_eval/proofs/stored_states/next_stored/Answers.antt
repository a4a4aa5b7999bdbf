use Rattle.std.proofs.Common.{◌≡◌, sym, Option, Some, None, MatchOption}
use Rattle.std.specs.Option.{option_map}
use Rattle.dy_entry.specs.Entries.{Entry}
use Rattle.dy_entry.specs.LookUps.{IsNext, HasNoNext}
use Rattle.dy_eval.specs.declared.past.Stored as code
use Rattle.dy_eval.specs.Past.{state_in}
use Rattle.dy_eval.specs.StoredMeaning.{stored_of}
use Rattle.dy_eval.specs.MirrorPast.{FoundNext}
use Rattle.dy_eval.proofs.Recalling.{At, found_next, next_is_state}
use Rattle.std.proofs.Common.{List, ℕ}
use Rattle.dy_eval.proofs.stored_states.next_stored.Goals as goal

answered : (X : List Entry) (principal tag : List ℕ) (from : Option At) (index : ℕ) (state : Option code.Stored)
    → IsNext X principal tag from index → option_map stored_of state ≡ state_in X index
    → MatchOption state (HasNoNext X principal tag from) (λ stored. FoundNext X principal tag from (stored_of stored))
answered X principal tag from index None next is = absurd (next_is_state X principal tag from index next (sym is))
answered X principal tag from index (Some stored) next is = found_next X principal tag from index (stored_of stored) next (sym is)

pub returns : goal.returns
returns g c = answered (g.P.Past.trace c.args.past.now) c.args.names.now.principal c.args.tag.now c.args.from c.in_ok-index.index c.state.result c.in_ok-index.ensures c.state.ensures
