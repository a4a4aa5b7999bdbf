-- Tables that keep the first declaration of each name.
use Rattle.std.proofs.Common.{◌≡◌, ℕ, ◌+◌, ◌<◌, Bool, true, false, cond, List, [], ◌∷◌, ◌++◌, map, take, length, get_or, Option, Some, None, is_some, find, refl, sym, ap, ◌∙◌, inl, inr, append-nil}
use Rattle.std.specs.Bool.{Decides}
use Rattle.std.specs.List.{filter_map, cons_option}
use Rattle.std.specs.Map.{lookup}
use Rattle.std.specs.Option.{option_map, option_or, option_copied}
use Rattle.std.specs.Borrow.{Bor}
use Rattle.std.proofs.lemmas.Bool.{cases_Bool, cond_both}
use Rattle.std.proofs.lemmas.List.{take_more, map-append}
use Rattle.std.proofs.lemmas.List.Elements.{filter_map-append}
use Rattle.std.proofs.lemmas.List.Folds.{find-append}
use Rattle.dy_cases.specs.MirrorTables.{with_first, FindsFirst}

pub map_more : {A B : Type 0} (f : A → B) (xs : List A) (i : ℕ) (x : A) → i < length xs → x ≡ get_or xs i x
    → map f (take (i + 1) xs) ≡ map f (take i xs) ++ f x ∷ []
map_more f xs i x below is = ap (map f) (take_more xs i x below ∙ ap (λ y. take i xs ++ y ∷ []) (sym is)) ∙ map-append f (take i xs) (x ∷ [])

-- what is picked of one item more
pub picked_more : {B C : Type 0} (pick : B → Option C) (xs : List B) (x : B) (c : C) → pick x ≡ Some c
    → filter_map pick (xs ++ x ∷ []) ≡ filter_map pick xs ++ c ∷ []
picked_more {B} {C} pick xs x c some = filter_map-append pick xs (x ∷ []) ∙ ap (λ (one : Option C). filter_map pick xs ++ cons_option one []) some

pub picked_same : {B C : Type 0} (pick : B → Option C) (xs : List B) (x : B) → pick x ≡ None → filter_map pick (xs ++ x ∷ []) ≡ filter_map pick xs
picked_same {B} {C} pick xs x none =
    filter_map-append pick xs (x ∷ []) ∙ ap (λ (one : Option C). filter_map pick xs ++ cons_option one []) none ∙ append-nil (filter_map pick xs)

chosen_or : {V : Type 0} (b : Bool) (x : V) (y z w : Option V) → y ≡ option_or z w → cond b (Some x) y ≡ option_or (cond b (Some x) z) w
chosen_or true x y z w h = refl
chosen_or false x y z w h = h

lookup-append : {K V : Type 0} (test : K → Bool) (entries : List (K × V)) (key : K) (value : V)
    → lookup test (entries ++ (key, value) ∷ []) ≡ option_or (lookup test entries) (cond (test key) (Some value) None)
lookup-append test [] key value = refl
lookup-append test (entry ∷ entries) key value =
    chosen_or (test entry.0) entry.1 (lookup test (entries ++ (key, value) ∷ [])) (lookup test entries) (cond (test key) (Some value) None)
    (lookup-append test entries key value)

lookup_agree : {K V : Type 0} (test other : K → Bool) → ((key : K) → test key ≡ other key) → (entries : List (K × V)) → lookup test entries ≡ lookup other entries
lookup_agree test other same [] = refl
lookup_agree test other same (entry ∷ entries) =
    let here = same entry.0 in
    let later = lookup_agree test other same entries in
    rw (here, later) refl

option_map-or : {V D : Type 0} (f : V → D) (first second : Option V) → option_map f (option_or first second) ≡ option_or (option_map f first) (option_map f second)
option_map-or f None second = refl
option_map-or f (Some x) second = refl

or_none : {D : Type 0} (o : Option D) → option_or o None ≡ o
or_none None = refl
or_none (Some x) = refl

or_some : {D : Type 0} (o w : Option D) → is_some o ≡ true → option_or o w ≡ o
or_some None w h = cc
or_some (Some x) w h = refl

is_some-map : {V D : Type 0} (f : V → D) (o : Option V) → is_some (option_map f o) ≡ is_some o
is_some-map f None = refl
is_some-map f (Some x) = refl

map_chosen : {V D : Type 0} (f : V → D) (b : Bool) (x : V) → option_map f (cond b (Some x) None) ≡ cond b (Some (f x)) None
map_chosen f true x = refl
map_chosen f false x = refl

same_bool : (a b : Bool) → (a ≡ true → b ≡ true) → (b ≡ true → a ≡ true) → a ≡ b
same_bool true b h k = sym (h refl)
same_bool false true h k = k refl
same_bool false false h k = refl

pub option_map-copied : {A B : Type 0} (f : A → B) (o : Option (Bor A)) → option_map f (option_copied o) ≡ option_map (λ (a : Bor A). f a.now) o
option_map-copied f None = refl
option_map-copied f (Some x) = refl

module _ {N D K V : Type 0} (same : N → N → Bool) (exact : (m n : N) → Decides (same m n) (m ≡ n))
    (eq : K → K → Bool) (name : K → N) (own : D → N) (view : V → D) (eq_is : (a b : K) → eq a b ≡ same (name a) (name b)) where
  turned : (m n : N) → same m n ≡ same n m
  turned m n = same_bool (same m n) (same n m) (λ h. (exact n m).1 (sym ((exact m n).0 h))) (λ h. (exact m n).1 (sym ((exact n m).0 h)))

  module _ (entries : List (K × V)) (decls : List D) (key : K) (value : V) (named : name key ≡ own (view value))
      (found : FindsFirst same name own view entries decls) where
    added : FindsFirst same name own view (entries ++ (key, value) ∷ []) (decls ++ view value ∷ [])
    added wanted =
        let test : K → Bool = λ k. same wanted (name k) in
        let pick : D → Bool = λ d. same (own d) wanted in
        let here = found wanted in
        let last : option_map view (cond (test key) (Some value) None) ≡ cond (pick (view value)) (Some (view value)) None =
        map_chosen view (test key) value ∙ ap (λ b. cond b (Some (view value)) None) (turned wanted (name key) ∙ ap (λ n. same n wanted) named) in
        ap (option_map view) (lookup-append test entries key value)
        ∙ option_map-or view (lookup test entries) (cond (test key) (Some value) None)
        ∙ ap (λ o. option_or o (option_map view (cond (test key) (Some value) None))) here
        ∙ ap (option_or (find pick decls)) last
        ∙ sym (find-append pick decls (view value ∷ []))

    kept : is_some (lookup (eq key) entries) ≡ true → FindsFirst same name own view entries (decls ++ view value ∷ [])
    kept there wanted =
        let test : K → Bool = λ k. same wanted (name k) in
        let pick : D → Bool = λ d. same (own d) wanted in
        found wanted
        ∙ sym (find-append pick decls (view value ∷ []) ∙ elim (cases_Bool (pick (view value))) [
          | inl has ↦
              let wanted_is : name key ≡ wanted = named ∙ (exact (own (view value)) wanted).0 has in
              let agree : (k : K) → eq key k ≡ test k = λ k. eq_is key k ∙ ap (λ n. same n (name k)) wanted_is in
              let here : is_some (find pick decls) ≡ true =
              ap is_some (sym (found wanted)) ∙ is_some-map view (lookup test entries) ∙ ap is_some (sym (lookup_agree (eq key) test agree entries)) ∙ there in
              or_some (find pick decls) (cond (pick (view value)) (Some (view value)) None) here
          | inr other ↦ ap (λ b. option_or (find pick decls) (cond b (Some (view value)) None)) other ∙ or_none (find pick decls)
        ])

    -- with one declaration more, and its name added where none has it
    pub FindsFirst-more : FindsFirst same name own view (with_first eq entries key value) (decls ++ view value ∷ [])
    FindsFirst-more = cond_both (is_some (lookup (eq key) entries)) entries (entries ++ (key, value) ∷ [])
        (λ (es : List (K × V)). FindsFirst same name own view es (decls ++ view value ∷ [])) kept (λ new. added)
