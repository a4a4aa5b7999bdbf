-- The nonces among what follows, as the code finds them.
use Rattle.std.specs.Prelude.{ℕ, List, Option, Some, None, slice_get}
use Rattle.std.specs.List.{filter_map}
use Rattle.std.specs.Option.{option_and_then}
use Rattle.dy_chains.specs.declared.logs.Step.{Step}
use Rattle.dy_derive.specs.declared.nodes.Node.{Node}
use Rattle.dy_derive.specs.declared.nodes.Node.TheVariants as code

-- the nonce of a node
abbrev pub nonce_of_node : Node → Option ℕ
nonce_of_node (code.Nonce index) = Some index
nonce_of_node _ = None

-- the nonces among what follows, in the order of the log
abbrev pub nonces_in : List Node → List Step → List ℕ
nonces_in nodes log = filter_map (λ step. option_and_then nonce_of_node (slice_get nodes step.fact)) log
