-- What a trace gives to the attacker's recipes.
use Rattle.std.specs.Prelude.{ℕ, Bool, true, false, List, Option, None, if◌then◌else◌}
use Rattle.std.specs.Option.{option_and_then, option_map_or}
use Rattle.std.specs.List.{slice_get}
use Rattle.dy_term.specs.Terms.{Term}
use Rattle.dy_entry.specs.Entries.{Entry, State, Forge}
use Rattle.dy_entry.specs.LookUps.{is_covered}
use Rattle.dy_recipe.specs.Moves.{Leaf, MessageAt, CertAt, FieldAt, Leaves}
use Rattle.dy_recipe.specs.Values.{value_at}
use Rattle.dy_eval.specs.Past.{key_certified}
use Rattle.dy_eval.specs.Starts.{message_in}

-- the field that a number names of a State that some corruption covers, counted from 1
abbrev pub field_given : List Entry → ℕ → Entry → Option Term
field_given T field (State instance principal session version tag fields) =
    if is_covered T principal session version then value_at fields field else None
field_given T field e = None

abbrev pub is_forge_entry : Entry → Bool
is_forge_entry (Forge step) = true
is_forge_entry e = false

-- the bytes of a Message or an Inject, the key of a Cert, and a field of a State that is covered
abbrev pub leaf_given : List Entry → Leaf → Option Term
leaf_given T (MessageAt index) = option_and_then message_in (slice_get T index)
leaf_given T (CertAt index) = option_and_then key_certified (slice_get T index)
leaf_given T (FieldAt index field) = option_and_then (field_given T field) (slice_get T index)

abbrev pub given_by : List Entry → Leaves
given_by T = record { value = leaf_given T; is_forge = λ index. option_map_or is_forge_entry (slice_get T index) false }
