-- The tables of several values together.
use Rattle.std.proofs.Common.{◌≡◌, ℕ, ◌<◌, Bool, true, false, ◌&&◌, List, [], ◌∷◌, ◌++◌, refl, sym, ap, ◌∙◌}
use Rattle.std.specs.List.{list_all}
use Rattle.std.proofs.lemmas.Bool.{and_from}
use Rattle.std.proofs.lemmas.List.Folds.{list_all-append}
use Rattle.dy_label.specs.Labels.{is_open_where}
use Rattle.dy_label.specs.Words.{Atom, StaticLabel, uses_names_below}
use Rattle.dy_label.specs.Tables.{opens_in, value_at}
use Rattle.dy_types.specs.Tables.{Table, HasTable}
use Rattle.dy_typing.specs.Expressions.{meet_all}

and-true : (b : Bool) → (b && true) ≡ b
and-true true = refl
and-true false = refl

open-meet_all : (reads : Atom → Bool) (labels : List StaticLabel) → is_open_where reads (meet_all labels) ≡ list_all (is_open_where reads) labels
open-meet_all reads [] = refl
open-meet_all reads (label ∷ labels) = ap (λ b. is_open_where reads label && b) (open-meet_all reads labels)

names-meet_all : (names : ℕ) (labels : List StaticLabel) → uses_names_below names (meet_all labels) ≡ list_all (uses_names_below names) labels
names-meet_all names [] = refl
names-meet_all names (label ∷ labels) = ap (λ b. uses_names_below names label && b) (names-meet_all names labels)

-- one label more
open-more : (reads : Atom → Bool) (labels : List StaticLabel) (label : StaticLabel)
    → is_open_where reads (meet_all (labels ++ label ∷ [])) ≡ (is_open_where reads (meet_all labels) && is_open_where reads label)
open-more reads labels label =
    open-meet_all reads (labels ++ label ∷ [])
    ∙ list_all-append (is_open_where reads) labels (label ∷ [])
    ∙ ap (λ b. list_all (is_open_where reads) labels && b) (and-true (is_open_where reads label))
    ∙ ap (λ b. b && is_open_where reads label) (sym (open-meet_all reads labels))

names-more : (labels : List StaticLabel) (label : StaticLabel) → uses_names_below 9 (meet_all labels) ≡ true → uses_names_below 9 label ≡ true
    → uses_names_below 9 (meet_all (labels ++ label ∷ [])) ≡ true
names-more labels label h k =
    names-meet_all 9 (labels ++ label ∷ [])
    ∙ list_all-append (uses_names_below 9) labels (label ∷ [])
    ∙ and_from (list_all (uses_names_below 9) labels) (list_all (uses_names_below 9) (label ∷ [])) (sym (names-meet_all 9 labels) ∙ h) (and-true (uses_names_below 9 label) ∙ k)

-- the table that is met of that of some labels and that of one more
pub HasTable-more : (labels : List StaticLabel) (label : StaticLabel) (table more met : Table)
    → HasTable (meet_all labels) table → HasTable label more
    → ((row : ℕ) → row < 4096 → value_at met row ≡ (value_at table row && value_at more row))
    → HasTable (meet_all (labels ++ label ∷ [])) met
HasTable-more labels label table more met h k rows = record {
  names = names-more labels label h.names k.names;
  rows = λ row below.
      rows row below
      ∙ ap (λ b. b && value_at more row) (h.rows row below)
      ∙ ap (λ b. is_open_where (opens_in row) (meet_all labels) && b) (k.rows row below)
      ∙ sym (open-more (opens_in row) labels label);
}
