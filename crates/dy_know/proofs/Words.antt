-- What a word of a declaration stands for, by places.
use Rattle.std.proofs.Common.{◌≡◌, ℕ, zero, suc, ◌+◌, ◌<◌, ◌≤◌, List, [], ◌∷◌, map, drop, length, min, Option, Some, None, true, false, refl, ap, sym, ◌∙◌, subst, arith}
use Rattle.std.specs.List.{slice_get, zip, find, slice_index_or}
use Rattle.std.specs.Str.{bytes_eq}
use Rattle.std.specs.Option.{option_map, option_and_then}
use Rattle.std.proofs.Math.Seq.{drop-nil}
use Rattle.std.proofs.lemmas.Option.{get_or_from_slice_get}
use Rattle.dy_eval.proofs.Drops.{drop_next}
use Rattle.dy_term.specs.Terms.{Term}
use Rattle.dy_syntax.specs.declared.declarations.Param.{Param}
use Rattle.dy_syntax.specs.declared.declarations.EventDecl.{EventDecl}
use Rattle.dy_syntax.specs.declared.names.Id.{Id}
use Rattle.dy_syntax.specs.declared.names.Nm.{Nm}
use Rattle.dy_syntax.specs.declared.names.Nm.TheVariants.{Named}
use Rattle.dy_syntax.specs.Meaning.{param_of, nm_of, event_of}
use Rattle.dy_syntax.specs.Scopes.{words_of, param_names}
use Rattle.dy_sound.specs.Words.{event_words, value_meant}
use Rattle.dy_know.proofs.Lists.{stands_below}
use Rattle.dy_typing.specs.Names.{each_or_none}

-- the words of parameters
abbrev pub words_in : List Param → List (List ℕ)
words_in params = words_of (param_names (map param_of params))

-- what is found of a word among parameters, beside their arguments
abbrev pub found_in : List ℕ → List Param → List Term → Option (List ℕ × Term)
found_in word params args = find (λ pair. bytes_eq word pair.0) (zip (words_in params) args)

-- one parameter beside its argument
zip_step : (params : List Param) (args : List Term) (i : ℕ) (param : Param) (arg : Term) → i < length params → param ≡ slice_index_or params i param
    → i < length args → arg ≡ slice_index_or args i arg
    → zip (words_in (drop i params)) (drop i args) ≡ (param.name.word, arg) ∷ zip (words_in (drop (i + 1) params)) (drop (i + 1) args)
zip_step params args i param arg within is within' is' = rw (drop_next params i param within is, drop_next args i arg within' is') refl

pub found_here : (word : List ℕ) (params : List Param) (args : List Term) (i : ℕ) (param : Param) (arg : Term) → i < length params → param ≡ slice_index_or params i param
    → i < length args → arg ≡ slice_index_or args i arg → bytes_eq word param.name.word ≡ true
    → found_in word (drop i params) (drop i args) ≡ Some (param.name.word, arg)
found_here word params args i param arg within is within' is' same =
    ap (find (λ pair. bytes_eq word pair.0)) (zip_step params args i param arg within is within' is') ∙ rw same refl

pub not_here : (word : List ℕ) (params : List Param) (args : List Term) (i : ℕ) (param : Param) → i < length params → param ≡ slice_index_or params i param
    → i < length args → bytes_eq word param.name.word ≡ false
    → found_in word (drop (i + 1) params) (drop (i + 1) args) ≡ found_in word (drop i params) (drop i args)
not_here word params args i param within is within' other =
    let arg = stands_below args i within' in
    let arg_is = sym (get_or_from_slice_get args i arg.0 arg.0 arg.1) in
    sym (ap (find (λ pair. bytes_eq word pair.0)) (zip_step params args i param arg.0 within is within' arg_is) ∙ rw other refl)

zip_nil : (ws : List (List ℕ)) → zip {X = Term} ws [] ≡ []
zip_nil [] = refl
zip_nil (w ∷ ws) = refl

-- past the shorter one there is nothing
pub zip_end : (params : List Param) (args : List Term) (i : ℕ) → min (length params) (length args) ≤ i → zip (words_in (drop i params)) (drop i args) ≡ []
zip_end [] args i past = rw drop-nil refl
zip_end (p ∷ ps) [] i past = rw drop-nil (zip_nil (words_in (drop i (p ∷ ps))))
zip_end (p ∷ ps) (x ∷ xs) zero past = absurd (omega (arith, past))
zip_end (p ∷ ps) (x ∷ xs) (suc i) past = zip_end ps xs i (omega (arith, past))

pub none_left : (word : List ℕ) (params : List Param) (args : List Term) (i : ℕ) → min (length params) (length args) ≤ i
    → found_in word (drop i params) (drop i args) ≡ None
none_left word params args i past = ap (find (λ pair. bytes_eq word pair.0)) (zip_end params args i past)

-- what a word of the code stands for, by what is found of it
pub meant_is : (event : EventDecl) (args : List Term) (name : Nm) (id : Id) (found : Option (List ℕ × Term)) → name ≡ Named id → found_in id.word event.params args ≡ found
    → value_meant (event_words (event_of event) args) (nm_of name) ≡ option_map (λ pair. pair.1) found
meant_is event args name id found is so = rw is (ap (option_map (λ pair. pair.1)) so)

-- the first word has its value, and so have the others
split_each : {B : Type 0} (o : Option B) (rest : Option (List B)) (ys : List B) → option_and_then (λ w. option_map (λ ws. w ∷ ws) rest) o ≡ Some ys
    → (w : B) × (ws : List B) × (o ≡ Some w) × (rest ≡ Some ws) × (w ∷ ws ≡ ys)
split_each None rest ys e = absurd cc
split_each (Some w) None ys e = absurd cc
split_each (Some w) (Some ws) ys e = (w, ws, refl, refl, cc)

-- each word has its value, where all have one
pub each_at : {A B : Type 0} (f : A → Option B) (xs : List A) (ys : List B) → each_or_none f xs ≡ Some ys → (i : ℕ) (x : A) (y : B) → slice_get xs i ≡ Some x → slice_get ys i ≡ Some y → f x ≡ Some y
each_at f [] ys all i x y at at' = absurd cc
each_at f (z ∷ zs) ys all zero x y at at' =
    let parts = split_each (f z) (each_or_none f zs) ys all in
    let first : Some parts.0 ≡ Some y = subst (λ (l : List _). slice_get l zero ≡ Some y) (sym parts.4) at' in
    let same : Some z ≡ Some x = at in
    let value : f z ≡ Some parts.0 = parts.2 in
    cc (first, same, value)
each_at f (z ∷ zs) ys all (suc i) x y at at' =
    let parts = split_each (f z) (each_or_none f zs) ys all in
    each_at f zs parts.1 parts.3 i x y at (subst (λ (l : List _). slice_get l (suc i) ≡ Some y) (sym parts.4) at')

pub each_length : {A B : Type 0} (f : A → Option B) (xs : List A) (ys : List B) → each_or_none f xs ≡ Some ys → length xs ≡ length ys
each_length f [] ys all = let same : [] ≡ ys = cc in ap length same
each_length f (z ∷ zs) ys all =
    let parts = split_each (f z) (each_or_none f zs) ys all in
    let rest = each_length f zs parts.1 parts.3 in
    omega (arith, rest, ap length parts.4)

-- all have one, where each word has its value
pub each_from : {A B : Type 0} (f : A → Option B) (xs : List A) (ys : List B) → length xs ≡ length ys
    → ((i : ℕ) (x : A) (y : B) → slice_get xs i ≡ Some x → slice_get ys i ≡ Some y → f x ≡ Some y) → each_or_none f xs ≡ Some ys
each_from f [] [] same all = refl
each_from f [] (y ∷ ys) same all = absurd (omega (arith, same))
each_from f (x ∷ xs) [] same all = absurd (omega (arith, same))
each_from f (x ∷ xs) (y ∷ ys) same all =
    let first : f x ≡ Some y = all zero x y refl refl in
    let rest : each_or_none f xs ≡ Some ys = each_from f xs ys (omega (arith, same)) (λ i a b at at'. all (suc i) a b at at') in
    rw (first, rest) refl
