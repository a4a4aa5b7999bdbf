-- Lists of labels, and of their tables, taken together.
use Rattle.std.proofs.Common.{◌≡◌, ℕ, ◌<◌, Bool, true, false, ◌&&◌, List, [], ◌∷◌, ◌++◌, Option, Some, None, refl, sym, ap, subst, ◌∙◌}
use Rattle.std.specs.List.{list_all, cons_option}
use Rattle.std.proofs.lemmas.Bool.{and_from, true≢false}
use Rattle.std.proofs.lemmas.List.Folds.{list_all-append}
use Rattle.dy_label.specs.Labels.{is_open_where}
use Rattle.dy_label.specs.Words.{Atom, StaticLabel, uses_names_below}
use Rattle.dy_label.specs.Tables.{opens_in, value_at}
use Rattle.dy_types.specs.Claims.{meet_of}
use Rattle.dy_types.specs.Tables.{Table, HasTable, is_empty, MeetHasTables, IsTableOfMeet}
use Rattle.dy_types.specs.MirrorMeets.{MeetIn}
use Rattle.dy_types.specs.MirrorClaims.{MeetsAlike}

pub and-true : (b : Bool) → (b && true) ≡ b
and-true true = refl
and-true false = refl

pub is_empty-append : {A : Type 0} (xs ys : List A) → is_empty (xs ++ ys) ≡ (is_empty xs && is_empty ys)
is_empty-append [] ys = refl
is_empty-append (x ∷ xs) ys = refl

pub append-nil : {A : Type 0} (xs : List A) → xs ++ [] ≡ xs
append-nil [] = refl
append-nil (x ∷ xs) = ap (λ ys. x ∷ ys) (append-nil xs)

-- A meet is open where all of its labels are.
pub open-meet_of : (reads : Atom → Bool) (label : StaticLabel) (labels : List StaticLabel)
    → is_open_where reads (meet_of label labels) ≡ list_all (is_open_where reads) (label ∷ labels)
open-meet_of reads label [] = sym (and-true (is_open_where reads label))
open-meet_of reads label (other ∷ labels) = ap (λ b. is_open_where reads label && b) (open-meet_of reads other labels)

names-meet_of : (names : ℕ) (label : StaticLabel) (labels : List StaticLabel)
    → uses_names_below names (meet_of label labels) ≡ list_all (uses_names_below names) (label ∷ labels)
names-meet_of names label [] = sym (and-true (uses_names_below names label))
names-meet_of names label (other ∷ labels) = ap (λ b. uses_names_below names label && b) (names-meet_of names other labels)

pub MeetHasTables-none : MeetHasTables [] []
MeetHasTables-none = record { names = refl; empty = refl; rows = λ row below. refl }

pub MeetHasTables-one : (label : StaticLabel) (table : Table) → HasTable label table → MeetHasTables (label ∷ []) (table ∷ [])
MeetHasTables-one label table h = record {
  names = and-true (uses_names_below 9 label) ∙ h.names;
  empty = refl;
  rows = λ row below. ap (λ b. b && true) (h.rows row below);
}

pub MeetHasTables-append : (labels more : List StaticLabel) (tables others : List Table)
    → MeetHasTables labels tables → MeetHasTables more others → MeetHasTables (labels ++ more) (tables ++ others)
MeetHasTables-append labels more tables others h k = record {
  names = list_all-append (uses_names_below 9) labels more ∙ and_from (list_all (uses_names_below 9) labels) (list_all (uses_names_below 9) more) h.names k.names;
  empty =
      let left = is_empty-append tables others in
      let right = is_empty-append labels more in
      let first = h.empty in
      let second = k.empty in cc;
  rows = λ row below.
      let left = list_all-append (λ table. value_at table row) tables others in
      let right = list_all-append (is_open_where (opens_in row)) labels more in
      let first = h.rows row below in
      let second = k.rows row below in cc;
}

pub MeetHasTables-alike : (labels : List StaticLabel) (tables others : List Table)
    → MeetHasTables labels tables → MeetsAlike tables others → MeetHasTables labels others
MeetHasTables-alike labels tables others h k = record {
  names = h.names;
  empty = sym k.empty ∙ h.empty;
  rows = λ row below. sym (k.rows row below) ∙ h.rows row below;
}

-- What was met of the tables is the table of the meet of the labels.
pub IsTableOfMeet-from_met : (labels : List StaticLabel) (tables : List Table) (met : Option Table)
    → MeetHasTables labels tables → MeetIn tables met → IsTableOfMeet labels met
IsTableOfMeet-from_met [] tables None h k = tt
IsTableOfMeet-from_met [] tables (Some table) h k = absurd (true≢false (sym h.empty ∙ k.0))
IsTableOfMeet-from_met (label ∷ labels) tables None h k = absurd (true≢false (sym k ∙ h.empty))
IsTableOfMeet-from_met (label ∷ labels) tables (Some table) h k = record {
  names = names-meet_of 9 label labels ∙ h.names;
  rows = λ row below. k.1 row below ∙ h.rows row below ∙ sym (open-meet_of (opens_in row) label labels);
}

pub MeetsAlike-refl : (tables : List Table) → MeetsAlike tables tables
MeetsAlike-refl tables = record { empty = refl; rows = λ row below. refl }

pub MeetsAlike-trans : (tables others third : List Table) → MeetsAlike tables others → MeetsAlike others third → MeetsAlike tables third
MeetsAlike-trans tables others third h k = record { empty = h.empty ∙ k.empty; rows = λ row below. h.rows row below ∙ k.rows row below }

pub MeetsAlike-append : (tables others more : List Table) → MeetsAlike tables others → MeetsAlike (tables ++ more) (others ++ more)
MeetsAlike-append tables others more h = record {
  empty =
      let left = is_empty-append tables more in
      let right = is_empty-append others more in
      let first = h.empty in cc;
  rows = λ row below.
      let left = list_all-append (λ table. value_at table row) tables more in
      let right = list_all-append (λ table. value_at table row) others more in
      let first = h.rows row below in cc;
}

-- what is met of tables, where there may be one more
pub met_more : (before tables : List Table) (more : Option Table) (table : Table) (met : Option Table)
    → tables ≡ before ++ cons_option more [] → more ≡ Some table → MeetIn (before ++ table ∷ []) met → MeetIn tables met
met_more before tables more table met all is h =
    subst (λ (others : List Table). MeetIn others met) (sym (all ∙ ap (λ (one : Option Table). before ++ cons_option one []) is)) h

pub met_same : (before tables : List Table) (more : Option Table) (met : Option Table)
    → tables ≡ before ++ cons_option more [] → more ≡ None → MeetIn before met → MeetIn tables met
met_same before tables more met all is h =
    subst (λ (others : List Table). MeetIn others met) (sym (all ∙ ap (λ (one : Option Table). before ++ cons_option one []) is ∙ append-nil before)) h
