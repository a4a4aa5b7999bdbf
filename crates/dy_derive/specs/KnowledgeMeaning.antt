-- What the public calls of a Knowledge speak of.
pub use Rattle.dy_derive.specs.MirrorKnowledge.{Stands, HasEachOnce}
use Rattle.std.specs.Prelude.{ℕ, ◌≤◌, List, Contains}
use Rattle.dy_term.specs.Terms.{Term, size}
use Rattle.dy_term.specs.declared.limits.TheConstants.{MAX_NODES}
use Rattle.dy_entry.specs.Entries.{Entry, Setup, Start, Fresh, Message, State, Event, Cert, End, Corrupt, Forge, Inject, Skip}
use Rattle.dy_derive.specs.declared.knowledge.Knowledge.{Knowledge}

-- the nonces that are derived, in the order in which they came to be
abbrev pub nonces_of : Knowledge → List ℕ
nonces_of knowledge = knowledge.nonces.items

-- a term of at most 1,024 nodes
abbrev pub IsSmallTerm : Term → Type 0
IsSmallTerm term = size term ≤ MAX_NODES

-- Each value that the entry may give has at most 1,024 nodes.
abbrev pub GivesSmallValues : Entry → Type 0
GivesSmallValues (Message instance value) = IsSmallTerm value
GivesSmallValues (State instance principal session version tag fields) =
    (field : Term) → Contains fields field → IsSmallTerm field
GivesSmallValues (Cert instance principal usage key) = IsSmallTerm key
GivesSmallValues (Inject step value) = IsSmallTerm value
GivesSmallValues (Setup input) = Unit {0}
GivesSmallValues (Start step handler principal session args message) = Unit {0}
GivesSmallValues (Fresh instance label usage) = Unit {0}
GivesSmallValues (Event instance principal name args) = Unit {0}
GivesSmallValues (End instance outcome) = Unit {0}
GivesSmallValues (Corrupt step place) = Unit {0}
GivesSmallValues (Forge step) = Unit {0}
GivesSmallValues (Skip step) = Unit {0}
