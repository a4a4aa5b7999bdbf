-- What a term of the code stands for. A pointer stands before each part, and means nothing.
use Rattle.dy_term.specs.declared.terms.Term.{Term}
use Rattle.dy_term.specs.declared.terms.Term.TheVariants as code
use Rattle.dy_term.specs.Terms as trees

abbrev pub tree_of : Term → trees.Term
tree_of (code.Lit text) = trees.Lit text
tree_of (code.Name principal) = trees.Name principal
tree_of (code.Nonce index) = trees.Nonce index
tree_of (code.Pair' p first q second) = trees.Pair (tree_of first) (tree_of second)
tree_of (code.Pk' p key) = trees.Pk (tree_of key)
tree_of (code.Vk' p key) = trees.Vk (tree_of key)
tree_of (code.Penc' p to q message) = trees.Penc (tree_of to) (tree_of message)
tree_of (code.Aead' p key q message r associated) = trees.Aead (tree_of key) (tree_of message) (tree_of associated)
tree_of (code.Sign' p key q message) = trees.Sign (tree_of key) (tree_of message)
tree_of (code.Mac' p key q message) = trees.Mac (tree_of key) (tree_of message)
tree_of (code.Kdf' p key context q input) = trees.Kdf (tree_of key) context (tree_of input)
tree_of (code.Hash' p message) = trees.Hash (tree_of message)
