-- The rules that an entry gives. It mirrors the code: `Facts` says what they stand for.
use Rattle.std.specs.Prelude.{ℕ, List, [], ◌∷◌, map}
use Rattle.dy_label.specs.Labels as places
use Rattle.dy_chains.specs.declared.rules.Rule.{Rule}
use Rattle.dy_chains.specs.declared.rules.Premises.TheVariants as premises
use Rattle.dy_derive.specs.declared.nodes.Node.{Node}
use Rattle.dy_derive.specs.declared.nodes.Node.TheVariants as code
use Rattle.dy_derive.specs.Facts.{Fact, Corrupted}

-- the rule of what is given outright
abbrev pub outright : ℕ → Rule
outright number = record { premises = premises.None; conclusion = number }

-- the rule of a field, by a place that it is given with
abbrev pub field_rule : ℕ → ℕ → Rule
field_rule place field = record { premises = premises.One place; conclusion = field }

-- its rules, by each of the places
abbrev pub field_rules : List ℕ → ℕ → List Rule
field_rules numbers field = map (λ place. field_rule place field) numbers

-- the node of a place
abbrev pub node_of_place : places.Place → Node
node_of_place (places.Principal p) = code.Principal p
node_of_place (places.Session p s) = code.Session p s
node_of_place (places.Version p s v) = code.Version p s v

-- a principal, its session and a version of that
abbrev pub places_of : List ℕ → ℕ → ℕ → List Fact
places_of principal session version =
    Corrupted (places.Principal principal) ∷ Corrupted (places.Session principal session)
    ∷ Corrupted (places.Version principal session version) ∷ []
