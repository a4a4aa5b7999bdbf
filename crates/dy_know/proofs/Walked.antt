-- What a walk over a list has found so far.
use Rattle.std.proofs.Common.{◌≡◌, ℕ, ◌+◌, ◌<◌, true, List, [], ◌∷◌, ◌++◌, map, take, drop, length, slice_index_or, Some, refl, ap, sym, ◌∙◌}
use Rattle.std.specs.Str.{bytes_eq}
use Rattle.std.proofs.lemmas.List.{map_push}
use Rattle.dy_eval.proofs.Drops.{drop_next, map_take_next}
use Rattle.dy_syntax.specs.declared.declarations.EventDecl.{EventDecl}
use Rattle.dy_syntax.specs.Meaning.{event_of}
use Rattle.dy_know.specs.MirrorEvents.{event_called}

-- one item more is copied
pub one_copied : {A B : Type 0} (f : A → B) (made items : List A) (i : ℕ) (x y : A) → i < length items → y ≡ slice_index_or items i y → f x ≡ f y
    → map f made ≡ map f (take i items) → map f (made ++ x ∷ []) ≡ map f (take (i + 1) items)
one_copied f made items i x y within is same so_far =
    map_push f made x ∙ ap (λ l. l ++ f x ∷ []) so_far ∙ ap (λ z. map f (take i items) ++ z ∷ []) same ∙ sym (map_take_next f items i y within is)

-- the event at this place has the name
pub called_here : (events : List EventDecl) (i : ℕ) (event : EventDecl) (name : List ℕ) → i < length events → event ≡ slice_index_or events i event
    → bytes_eq event.name.word name ≡ true → event_called (map event_of (drop i events)) name ≡ Some (event_of event)
called_here events i event name within is same = rw (drop_next events i event within is, same) refl
