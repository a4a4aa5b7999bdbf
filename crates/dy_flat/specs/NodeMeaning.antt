-- What a lent node of the code stands for.
use Rattle.dy_flat.specs.declared.lent_nodes.LentNode.{LentNode}
use Rattle.dy_flat.specs.declared.lent_nodes.LentNode.TheVariants as code
use Rattle.dy_flat.specs.Runs as runs

abbrev pub node_of : LentNode → runs.Node
node_of (code.Lit text) = runs.Lit text.now
node_of (code.Name principal) = runs.Name principal.now
node_of (code.Nonce index) = runs.Nonce index
node_of (code.Pair before) = runs.Pair before
node_of code.Pk = runs.Pk
node_of code.Vk = runs.Vk
node_of (code.Penc before) = runs.Penc before
node_of (code.Aead before) = runs.Aead before
node_of (code.Sign before) = runs.Sign before
node_of (code.Mac before) = runs.Mac before
node_of (code.Kdf context) = runs.Kdf context.now
node_of code.Hash = runs.Hash
