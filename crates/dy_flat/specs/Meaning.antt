-- What nodes, views and shapes of the code stand for.
use Rattle.std.specs.Prelude.{◌≡◌, ℕ, Option, Some, None}
use Rattle.std.specs.Prelude.{List, [], ◌∷◌, map, slice_get}
use Rattle.std.specs.Option.{option_map}
use Rattle.dy_flat.specs.declared.flat_nodes.Node.{Node}
use Rattle.dy_flat.specs.declared.flat_nodes.Node.TheVariants as code
use Rattle.dy_flat.specs.declared.contents.Contents.{Contents}
use Rattle.dy_flat.specs.Runs.{run_of, term_of}
use Rattle.dy_flat.specs.MirrorCodes.{node_code}
use Rattle.std.specs.Coded.{Coded-set, coded_list, coded_option}
use Rattle.dy_flat.specs.Runs as runs

-- A node with its text or name looked up, which may be missing.
abbrev pub read : Contents → Node → Option runs.Node
read contents (code.Lit place) = option_map runs.Lit (slice_get contents.texts.items place)
read contents (code.Name place) = option_map runs.Name (slice_get contents.names.items place)
read contents (code.Nonce index) = Some (runs.Nonce index)
read contents (code.Pair before) = Some (runs.Pair before)
read contents code.Pk = Some runs.Pk
read contents code.Vk = Some runs.Vk
read contents (code.Penc before) = Some (runs.Penc before)
read contents (code.Aead before) = Some (runs.Aead before)
read contents (code.Sign before) = Some (runs.Sign before)
read contents (code.Mac before) = Some (runs.Mac before)
read contents (code.Kdf place) = option_map runs.Kdf (slice_get contents.texts.items place)
read contents code.Hash = Some runs.Hash

abbrev pub read_all : Contents → List Node → List (Option runs.Node)
read_all contents nodes = map (read contents) nodes

-- those that are not missing
abbrev pub known_nodes : List (Option runs.Node) → List runs.Node
known_nodes [] = []
known_nodes (Some node ∷ nodes) = node ∷ known_nodes nodes
known_nodes (None ∷ nodes) = known_nodes nodes

-- The nodes are the run of one whole term.
abbrev pub IsWhole : Contents → List Node → Type 0
IsWhole contents nodes = read_all contents nodes ≡ map Some (run_of (term_of (known_nodes (read_all contents nodes))))

pub IsWhole-prop : (contents : Contents) (nodes : List Node) → IsProp (IsWhole contents nodes)
IsWhole-prop contents nodes = Coded-set (coded_list (coded_option node_code)) _ _

-- how many parts a node has
abbrev pub arity : Node → ℕ
arity (code.Lit place) = 0
arity (code.Name place) = 0
arity (code.Nonce index) = 0
arity (code.Pair before) = 2
arity code.Pk = 1
arity code.Vk = 1
arity (code.Penc before) = 2
arity (code.Aead before) = 3
arity (code.Sign before) = 2
arity (code.Mac before) = 2
arity (code.Kdf place) = 2
arity code.Hash = 1
