-- Items that the code reads by their places, and what is named.
use Rattle.std.proofs.Common.{◌≡◌, ℕ, ◌<◌, Bool, true, false, List, map, length, Option, Some, Contains, refl, ap, sym, ◌∙◌, subst}
use Rattle.std.specs.List.{slice_get, slice_index_or}
use Rattle.std.specs.Option.{option_map}
use Rattle.std.proofs.lemmas.Option.{slice_get_read, slice_get-map}
use Rattle.dy_know.specs.declared.happened.Happened.{Happened}
use Rattle.dy_know.specs.MirrorEvents.{IsNamed}
use Rattle.dy_know.proofs.Lists.{is_in}

-- an item that is read stands at its place
pub read_at : {A : Type 0} (xs ys : List A) (i : ℕ) (x : A) → xs ≡ ys → i < length xs → x ≡ slice_index_or xs i x → slice_get ys i ≡ Some x
read_at xs ys i x same within is = subst (λ (zs : List _). slice_get zs i ≡ Some x) same (slice_get_read xs (length xs) i x refl within is)

pub mapped_at : {A B : Type 0} (f : A → B) (xs ys : List A) (i : ℕ) (x : A) → xs ≡ ys → i < length xs → x ≡ slice_index_or xs i x → slice_get (map f ys) i ≡ Some (f x)
mapped_at f xs ys i x same within is = slice_get-map f ys i ∙ ap (option_map f) (read_at xs ys i x same within is)

-- what is named is so, or it is not
pub named_so : {A : Type 0} (meant : Option A) (value : A) (r : Bool) → r ≡ true → IsNamed r meant value → meant ≡ Some value
named_so meant value r is named = subst (λ b. IsNamed b meant value) is named

pub named_not : {A : Type 0} (meant : Option A) (value other : A) (r : Bool) → r ≡ false → value ≡ other → IsNamed r meant value → meant ≡ Some other → ⊥
named_not meant value other r is same named so = (subst (λ b. IsNamed b meant value) is named) (so ∙ ap Some (sym same))

-- an event that has happened is among those that have, by its name and arguments
pub among_at : (happened : List Happened) (i : ℕ) (one : Happened) (name : List ℕ) → i < length happened → one ≡ slice_index_or happened i one → one.name ≡ name
    → Contains happened (record { name = name; args = one.args })
among_at happened i one name within is same =
    subst (λ (word : List ℕ). Contains happened (record { name = word; args = one.args })) same (is_in happened i one (slice_get_read happened (length happened) i one refl within is))
