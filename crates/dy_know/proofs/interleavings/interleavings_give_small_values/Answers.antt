use Rattle.std.proofs.Common.{◌≤◌, List, [], ◌∷◌, Contains, inl, inr, subst}
use Rattle.dy_term.specs.Terms.{Term, size}
use Rattle.dy_term.specs.declared.limits.TheConstants.{MAX_NODES}
use Rattle.dy_entry.specs.Entries.{Entry, Setup, Start, Fresh, Message, State, Event, Cert, End, Corrupt, Forge, Inject, Skip}
use Rattle.dy_traces.specs.SmallValues.{AreSmall, HasSmallValues}
use Rattle.dy_derive.specs.KnowledgeMeaning.{GivesSmallValues}
use Rattle.dy_know.proofs.Lists.{place_of, in_none, head_or_later}
use Rattle.dy_know.proofs.interleavings.interleavings_give_small_values.Goals as goal

one_small : (fields : List Term) (field : Term) → AreSmall fields → Contains fields field → size field ≤ MAX_NODES
one_small [] field small within = absurd (in_none field within)
one_small (first ∷ fields) field small within = elim (head_or_later first fields field within) [
  | inl same ↦ subst (λ (t : Term). size t ≤ MAX_NODES) same small.0
  | inr later ↦ one_small fields field small.1 later
]

gives_small : (e : Entry) → HasSmallValues e → GivesSmallValues e
gives_small (Setup input) small = tt
gives_small (Start step handler principal session args message) small = tt
gives_small (Fresh instance label usage) small = tt
gives_small (Message instance value) small = small
gives_small (State instance principal session version tag fields) small = λ field within. one_small fields field small within
gives_small (Event instance principal name args) small = tt
gives_small (Cert instance principal usage key) small = small
gives_small (End instance outcome) small = tt
gives_small (Corrupt step place) small = tt
gives_small (Forge step) small = tt
gives_small (Inject step value) small = small
gives_small (Skip step) small = tt

pub returns : goal.returns
returns c = λ bytes file T is e within. let at = place_of T e within in gives_small e (c.values_are_small.ensures bytes file T at.0 e is at.1)
