-- What an instance does next.
use Rattle.std.specs.Prelude.{ℕ, ◌+◌, List, [], ◌∷◌, Option, Some, None}
use Rattle.dy_term.specs.Terms.{Nonce}
use Rattle.dy_label.specs.declared.usages.Outcome as outcome
use Rattle.dy_label.specs.declared.usages.Outcome.TheVariants.{Done, Stopped}
use Rattle.dy_entry.specs.Entries.{Entry}
use Rattle.dy_eval.specs.declared.written.Written.{Written}
use Rattle.dy_eval.specs.declared.items.Item.{Item}
use Rattle.dy_eval.specs.Doings.{Effect}
use Rattle.dy_eval.specs.Doings as effects
use Rattle.dy_eval.specs.Lines.{Line}
use Rattle.dy_eval.specs.Names.{Names, write}
use Rattle.dy_eval.specs.Effects.{effect}

-- What an instance has left to do: the lines left, the number of the first of them, and what is written in them.
pub record Left : Type 0 where
  pub names : Names
  pub number : ℕ
  pub lines : List Line

-- An instance puts an item, and has something left, or it ends. The nonce of the item's entry may be due in
-- place of a word.
pub data Next : Type 0 where
  Puts : (item : Item) (binds : Option (List ℕ)) (left : Left) → Next
  Ends : (outcome : outcome.Outcome) → Next

-- What comes of a line's effect, where it is said how the instance goes on with what is written then.
abbrev pub next_by : Effect → Names → ℕ → List Line → (Names → Next) → Next
next_by (effects.Puts item binds) names number more goes_on =
    Puts item binds (record { names = names; number = number + 1; lines = more })
next_by (effects.Writes more_written) names number more goes_on = goes_on (write names more_written)
next_by effects.Fails names number more goes_on = Ends (Stopped number)

-- The lines are taken in order up to the first one that puts an item or fails.
abbrev pub runs : List Entry → Names → ℕ → List Line → Next
runs X names number [] = Ends Done
runs X names number (line ∷ more) =
    next_by (effect X names line) names number more (λ then. runs X then (number + 1) more)

abbrev pub next_of : List Entry → Left → Next
next_of X left = runs X left.names left.number left.lines

-- the nonce of an index, in place of the word where it is due
abbrev pub nonce_due : Option (List ℕ) → ℕ → List Written
nonce_due None index = []
nonce_due (Some word) index = record { word = word; bytes = Nonce index } ∷ []

-- what is left once the index of the item's entry is told
abbrev pub tell : ℕ → Option (List ℕ) → Left → Left
tell index binds left =
    record { names = write left.names (nonce_due binds index); number = left.number; lines = left.lines }

-- one step more, at the index of the last item
abbrev pub step : List Entry → Next → ℕ → Next
step X (Puts item binds left) index = next_of X (tell index binds left)
step X (Ends outcome) index = Ends outcome

-- the steps at these indices, one after another
abbrev pub steps : List Entry → Next → List ℕ → Next
steps X next [] = next
steps X next (index ∷ more) = steps X (step X next index) more

-- What an instance does next: the item after those whose entries have these indices, or else how it ends. X is the
-- trace before its Start.
abbrev pub does : List Entry → Left → List ℕ → Next
does X left indices = steps X (next_of X left) indices

-- How an instance stands between two calls. Nothing is put yet, or an item was put and the index of its entry is
-- awaited, or it has ended.
pub data Standing : Type 0 where
  Goes : (left : Left) → Standing
  Awaits : (binds : Option (List ℕ)) (left : Left) → Standing
  Ended : (outcome : outcome.Outcome) → Standing
