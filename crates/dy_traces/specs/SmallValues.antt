-- How large the values of an entry are.
use Rattle.std.specs.Prelude.{ℕ, ◌≤◌, List, [], ◌∷◌}
use Rattle.dy_term.specs.Terms.{Term, size}
use Rattle.dy_term.specs.declared.limits.TheConstants.{MAX_NODES}
use Rattle.dy_entry.specs.Entries.{Entry, Message, State, Event, Cert, Inject}

-- Each of the terms has at most 1,024 nodes.
abbrev pub AreSmall : List Term → Type 0
AreSmall [] = Unit {0}
AreSmall (term ∷ terms) = (size term ≤ MAX_NODES) × AreSmall terms

-- Each value of the entry has at most 1,024 nodes.
abbrev pub HasSmallValues : Entry → Type 0
HasSmallValues (Message instance value) = size value ≤ MAX_NODES
HasSmallValues (State instance principal session version tag fields) = AreSmall fields
HasSmallValues (Event instance principal name args) = AreSmall args
HasSmallValues (Cert instance principal usage key) = size key ≤ MAX_NODES
HasSmallValues (Inject step value) = size value ≤ MAX_NODES
HasSmallValues e = Unit {0}
