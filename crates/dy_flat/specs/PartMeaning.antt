-- What lent parts stand for.
use Rattle.std.specs.Prelude.{◌≡◌, ◌≤◌, ◌-◌, ℕ, Option, Some, map, take, drop, length}
use Rattle.std.specs.Option.{option_map}
use Rattle.dy_term.specs.Terms as trees
use Rattle.dy_flat.specs.declared.views.View.{View}
use Rattle.dy_flat.specs.declared.parts.Parts.{Parts}
use Rattle.dy_flat.specs.declared.parts.Parts.TheVariants as code
use Rattle.dy_flat.specs.Runs.{run_of}
use Rattle.dy_flat.specs.Meaning.{read_all}
use Rattle.dy_flat.specs.Views.{tree_of}

abbrev pub part_of : Option View → Option trees.Term
part_of part = option_map tree_of part

abbrev pub term_of_parts : Parts → trees.Term
term_of_parts (code.Lit text) = trees.Lit text.now
term_of_parts (code.Name principal) = trees.Name principal.now
term_of_parts (code.Nonce index) = trees.Nonce index
term_of_parts (code.Pair first second) = trees.Pair (tree_of first) (tree_of second)
term_of_parts (code.Pk key) = trees.Pk (tree_of key)
term_of_parts (code.Vk key) = trees.Vk (tree_of key)
term_of_parts (code.Penc to message) = trees.Penc (tree_of to) (tree_of message)
term_of_parts (code.Aead key message associated) = trees.Aead (tree_of key) (tree_of message) (tree_of associated)
term_of_parts (code.Sign key message) = trees.Sign (tree_of key) (tree_of message)
term_of_parts (code.Mac key message) = trees.Mac (tree_of key) (tree_of message)
term_of_parts (code.Kdf key context input) = trees.Kdf (tree_of key) context.now (tree_of input)
term_of_parts (code.Hash message) = trees.Hash (tree_of message)

-- The nodes from one place of a view to another are the run of this term.
pub record IsPart (view : View) (from to : ℕ) (term : trees.Term) : Type 0 where
  pub order : from ≤ to
  pub within : to ≤ length view.nodes.now
  pub run : take (to - from) (drop from (read_all view.contents.now view.nodes.now)) ≡ map Some (run_of term)
