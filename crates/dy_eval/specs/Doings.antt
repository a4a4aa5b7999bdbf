-- What a statement of a handler may do.
use Rattle.std.specs.Prelude.{ℕ, List, Option}
use Rattle.dy_eval.specs.declared.items.Item.{Item}
use Rattle.dy_eval.specs.declared.written.Written.{Written}

-- It puts an item, whose nonce may be due in place of a word. Or it has bytes written in place of words in the
-- lines after it, or it fails.
pub data Effect : Type 0 where
  Puts : (item : Item) (binds : Option (List ℕ)) → Effect
  Writes : (written : List Written) → Effect
  Fails : Effect
