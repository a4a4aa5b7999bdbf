-- A trimmed recipe has the value that the whole one has.
use Rattle.std.proofs.Common.{◌≡◌, ℕ, zero, suc, ◌+◌, ◌-◌, ◌<◌, ◌≤◌, ◌⊎◌, inl, inr, Bool, true, false, Option, Some, None, List, [], ◌∷◌, ◌++◌, length, get_or, refl, sym, ◌∙◌, ap, arith}
use Rattle.std.specs.Prelude.{slice_get, if◌then◌else◌}
use Rattle.std.proofs.Math.Dec.{eqb-suc-zero}
use Rattle.std.specs.Option.{option_map, option_and_then}
use Rattle.std.proofs.lemmas.List.{append_assoc, append-nil, length-append, get_or_past}
use Rattle.std.proofs.Math.ListN.{get_or-append}
use Rattle.std.proofs.Math.Seq.{get_or-append_seam}
use Rattle.dy_term.specs.Terms as trees
use Rattle.dy_term.specs.Terms.{Term}
use Rattle.dy_flat.specs.Parts as parts
use Rattle.dy_flat.specs.Openings.{penc_message, aead_message, signed_message}
use Rattle.dy_recipe.specs.Moves.{Move, Message, Cert, Forge, State, Lit, Name, Pair, Pk, Vk, Penc, Aead, Sign, Mac, Kdf, Hash, Fst, Snd, Pdec, Adec, Ad, Body, Leaves}
use Rattle.dy_recipe.specs.Values.{value_at, of_two, of_three, made_by, if_small, move_value, move_values, last_of, recipe_value}
use Rattle.dy_recipe.specs.Trimming.{numbers_of, KeepsValue, new_number, renumber}
use Rattle.dy_recipe.specs.MirrorTrimming.{IsMarked, AreClosed, kept_moves}
use Rattle.dy_recipe.proofs.LastValues.{last_after}

-- ---- a move over the same values under other numbers

two_same : (make : Term → Term → Option Term) (x y z w : Option Term) → x ≡ z → y ≡ w → of_two make x y ≡ of_two make z w
two_same make x y z w e f = ap (λ v. of_two make v y) e ∙ ap (of_two make z) f

three_same : (make : Term → Term → Term → Option Term) (x y z a b c : Option Term) → x ≡ a → y ≡ b → z ≡ c → of_three make x y z ≡ of_three make a b c
three_same make x y z a b c e f g = ap (λ v. of_three make v y z) e ∙ ap (λ v. of_three make a v z) f ∙ ap (of_three make a b) g

abbrev SameNumbered : (ℕ → ℕ) → List Term → List Term → Move → Type 0
SameNumbered new old now move = (k number : ℕ) → slice_get (numbers_of move) k ≡ Some number → value_at old number ≡ value_at now (new number)

same_made : (leaves : Leaves) (new : ℕ → ℕ) (old now : List Term) (move : Move) → SameNumbered new old now move → made_by leaves old move ≡ made_by leaves now (renumber new move)
same_made leaves new old now (Message index) h = refl
same_made leaves new old now (Cert index) h = refl
same_made leaves new old now (Forge index) h = refl
same_made leaves new old now (State index field) h = refl
same_made leaves new old now (Lit text) h = refl
same_made leaves new old now (Name principal) h = refl
same_made leaves new old now (Pair a b) h = two_same (λ x y. Some (trees.Pair x y)) _ _ _ _ (h 0 a refl) (h 1 b refl)
same_made leaves new old now (Pk a) h = ap (option_map trees.Pk) (h 0 a refl)
same_made leaves new old now (Vk a) h = ap (option_map trees.Vk) (h 0 a refl)
same_made leaves new old now (Penc a b) h = two_same (λ x y. Some (trees.Penc x y)) _ _ _ _ (h 0 a refl) (h 1 b refl)
same_made leaves new old now (Aead a b c) h = three_same (λ x y z. Some (trees.Aead x y z)) _ _ _ _ _ _ (h 0 a refl) (h 1 b refl) (h 2 c refl)
same_made leaves new old now (Sign a b) h = two_same (λ x y. Some (trees.Sign x y)) _ _ _ _ (h 0 a refl) (h 1 b refl)
same_made leaves new old now (Mac a b) h = two_same (λ x y. Some (trees.Mac x y)) _ _ _ _ (h 0 a refl) (h 1 b refl)
same_made leaves new old now (Kdf a context b) h = two_same (λ x y. Some (trees.Kdf x context y)) _ _ _ _ (h 0 a refl) (h 1 b refl)
same_made leaves new old now (Hash a) h = ap (option_map trees.Hash) (h 0 a refl)
same_made leaves new old now (Fst a) h = ap (option_and_then parts.first) (h 0 a refl)
same_made leaves new old now (Snd a) h = ap (option_and_then parts.second) (h 0 a refl)
same_made leaves new old now (Pdec a b) h = two_same penc_message _ _ _ _ (h 0 a refl) (h 1 b refl)
same_made leaves new old now (Adec a b) h = two_same aead_message _ _ _ _ (h 0 a refl) (h 1 b refl)
same_made leaves new old now (Ad a) h = ap (option_and_then parts.data_part) (h 0 a refl)
same_made leaves new old now (Body a) h = ap (option_and_then signed_message) (h 0 a refl)

same_value : (leaves : Leaves) (new : ℕ → ℕ) (old now : List Term) (move : Move) → SameNumbered new old now move → move_value leaves old move ≡ move_value leaves now (renumber new move)
same_value leaves new old now move same = ap (option_and_then if_small) (same_made leaves new old now move same)

-- ---- places

pub place_cases : (i n : ℕ) → (i < n) ⊎ ((i ≡ n) ⊎ (n < i))
place_cases zero zero = inr (inl refl)
place_cases zero (suc n) = inl (omega arith)
place_cases (suc i) zero = inr (inr (omega arith))
place_cases (suc i) (suc n) =
    elim (place_cases i n) [
      | inl less ↦ inl (omega (arith, less))
      | inr rest ↦ elim rest [ inl same ↦ inr (inl (ap suc same)) | inr more ↦ inr (inr (omega (arith, more))) ]
    ]

pub prefix_at : {A : Type 0} (values : List A) (value : A) (i : ℕ) → i < length values → slice_get (values ++ value ∷ []) i ≡ slice_get values i
prefix_at [] value i less = absurd (omega (arith, less))
prefix_at (x ∷ values) value zero less = refl
prefix_at (x ∷ values) value (suc i) less = prefix_at values value i (omega (arith, less))

pub end_at : {A : Type 0} (values : List A) (value : A) (i : ℕ) → i ≡ length values → slice_get (values ++ value ∷ []) i ≡ Some value
end_at [] value i is = ap (slice_get (value ∷ [])) is
end_at (x ∷ values) value zero is = absurd (omega (arith, is))
end_at (x ∷ values) value (suc i) is = end_at values value i (omega (arith, is))

past_at : (values : List Term) (i : ℕ) → length values ≤ i → slice_get values i ≡ None
past_at [] zero over = refl
past_at [] (suc i) over = refl
past_at (x ∷ values) zero over = absurd (omega (arith, over))
past_at (x ∷ values) (suc i) over = past_at values i (omega (arith, over))

pub move_at : (prefix : List Move) (move : Move) (more : List Move) (i : ℕ) → i ≡ length prefix → slice_get (prefix ++ move ∷ more) i ≡ Some move
move_at [] move more i is = ap (slice_get (move ∷ more)) is
move_at (x ∷ prefix) move more zero is = absurd (omega (arith, is))
move_at (x ∷ prefix) move more (suc i) is = move_at prefix move more i (omega (arith, is))

-- ---- what was kept so far

-- The values of kept moves are those of the old ones, under the new numbers.
record Tie (numbers : List ℕ) (marks : List Bool) (old now : List Term) : Type 0 where
  each : length numbers ≡ length old
  marked_each : length marks ≡ length old
  few : (i : ℕ) → get_or numbers i 0 ≤ length now
  same : (i : ℕ) → 0 < get_or numbers i 0 → slice_get old i ≡ slice_get now (get_or numbers i 0 - 1)
  kept : (i : ℕ) → IsMarked marks i → 0 < get_or numbers i 0
  last : (i : ℕ) → IsMarked marks i → i + 1 ≡ length old → last_of old ≡ last_of now

tie_none : Tie [] [] [] []
tie_none = record {
  each = refl;
  marked_each = refl;
  few = λ i. let none : get_or {A = ℕ} [] i 0 ≡ 0 = get_or_past [] i 0 (omega arith) in omega (arith, none);
  same = λ i some. let none : get_or {A = ℕ} [] i 0 ≡ 0 = get_or_past [] i 0 (omega arith) in absurd (omega (arith, none, some));
  kept = λ i marked. let none : get_or {A = Bool} [] i false ≡ false = get_or_past [] i false (omega arith) in absurd (cc);
  last = λ i marked at. absurd (omega (arith, at));
}

pub number_at : (numbers : List ℕ) (n i : ℕ) → (0 < get_or (numbers ++ n ∷ []) i 0) → ((i < length numbers) × (get_or (numbers ++ n ∷ []) i 0 ≡ get_or numbers i 0)) ⊎ ((i ≡ length numbers) × (get_or (numbers ++ n ∷ []) i 0 ≡ n))
number_at numbers n i some =
    elim (place_cases i (length numbers)) [
      | inl less ↦ inl (less, get_or-append numbers (n ∷ []) 0 i less)
      | inr rest ↦ elim rest [
        | inl is ↦ inr (is, ap (λ k. get_or (numbers ++ n ∷ []) k 0) is ∙ get_or-append_seam numbers n [] 0)
        | inr more ↦
            let none : get_or (numbers ++ n ∷ []) i 0 ≡ 0 = get_or_past (numbers ++ n ∷ []) i 0 (omega (arith, length-append numbers (n ∷ []), more)) in
            absurd (omega (arith, none, some))
      ]
    ]

pub mark_at : (marks : List Bool) (mark : Bool) (i : ℕ) → IsMarked (marks ++ mark ∷ []) i → ((i < length marks) × IsMarked marks i) ⊎ ((i ≡ length marks) × (mark ≡ true))
mark_at marks mark i marked =
    elim (place_cases i (length marks)) [
      | inl less ↦ inl (less, sym (get_or-append marks (mark ∷ []) false i less) ∙ marked)
      | inr rest ↦ elim rest [
        | inl is ↦ inr (is, sym (ap (λ k. get_or (marks ++ mark ∷ []) k false) is ∙ get_or-append_seam marks mark [] false) ∙ marked)
        | inr more ↦
            let none : get_or (marks ++ mark ∷ []) i false ≡ false = get_or_past (marks ++ mark ∷ []) i false (omega (arith, length-append marks (mark ∷ []), more)) in
            absurd (cc)
      ]
    ]

few_more : (numbers : List ℕ) (n bound : ℕ) → ((i : ℕ) → get_or numbers i 0 ≤ bound) → n ≤ bound → (i : ℕ) → get_or (numbers ++ n ∷ []) i 0 ≤ bound
few_more numbers n bound few last i =
    elim (place_cases i (length numbers)) [
      | inl less ↦ let is = get_or-append numbers (n ∷ []) 0 i less in omega (arith, is, few i)
      | inr rest ↦ elim rest [
        | inl is ↦ let at : get_or (numbers ++ n ∷ []) i 0 ≡ n = ap (λ k. get_or (numbers ++ n ∷ []) k 0) is ∙ get_or-append_seam numbers n [] 0 in omega (arith, at, last)
        | inr more ↦ let none : get_or (numbers ++ n ∷ []) i 0 ≡ 0 = get_or_past (numbers ++ n ∷ []) i 0 (omega (arith, length-append numbers (n ∷ []), more)) in omega (arith, none)
      ]
    ]

-- a move that is not kept
tie_left : (numbers : List ℕ) (marks : List Bool) (old now : List Term) (value : Term) → Tie numbers marks old now → Tie (numbers ++ 0 ∷ []) (marks ++ false ∷ []) (old ++ value ∷ []) now
tie_left numbers marks old now value tie = record {
  each = omega (arith, length-append numbers (0 ∷ []), length-append old (value ∷ []), tie.each);
  marked_each = omega (arith, length-append marks (false ∷ []), length-append old (value ∷ []), tie.marked_each);
  few = few_more numbers 0 (length now) tie.few (omega arith);
  same = λ i some. elim (number_at numbers 0 i some) [
    | inl before ↦
        let is = before.1 in
        prefix_at old value i (omega (arith, before.0, tie.each)) ∙ tie.same i (omega (arith, is, some)) ∙ ap (λ n. slice_get now (n - 1)) (sym is)
    | inr here ↦ let is = here.1 in absurd (omega (arith, is, some))
  ];
  kept = λ i marked. elim (mark_at marks false i marked) [
    | inl before ↦ let is = get_or-append numbers (0 ∷ []) 0 i (omega (arith, before.0, tie.marked_each, tie.each)) in let some = tie.kept i before.1 in omega (arith, is, some)
    | inr here ↦ let bad : ⊥ = cc (here.1) in absurd bad
  ];
  last = λ i marked at. elim (mark_at marks false i marked) [
    | inl before ↦ let less = before.0 in absurd (omega (arith, less, at, tie.marked_each, length-append old (value ∷ [])))
    | inr here ↦ let bad : ⊥ = cc (here.1) in absurd bad
  ];
}

-- a move that is kept
tie_kept : (numbers : List ℕ) (marks : List Bool) (old now : List Term) (value : Term) (n : ℕ) → n ≡ length now + 1 → Tie numbers marks old now → Tie (numbers ++ n ∷ []) (marks ++ true ∷ []) (old ++ value ∷ []) (now ++ value ∷ [])
tie_kept numbers marks old now value n at_end tie = record {
  each = omega (arith, length-append numbers (n ∷ []), length-append old (value ∷ []), tie.each);
  marked_each = omega (arith, length-append marks (true ∷ []), length-append old (value ∷ []), tie.marked_each);
  few = few_more numbers n (length (now ++ value ∷ [])) (λ i. let few = tie.few i in omega (arith, few, length-append now (value ∷ []))) (omega (arith, at_end, length-append now (value ∷ [])));
  same = λ i some. elim (number_at numbers n i some) [
    | inl before ↦
        let is = before.1 in
        let few = tie.few i in
        prefix_at old value i (omega (arith, before.0, tie.each)) ∙ tie.same i (omega (arith, is, some))
        ∙ sym (prefix_at now value (get_or numbers i 0 - 1) (omega (arith, is, some, few))) ∙ ap (λ m. slice_get (now ++ value ∷ []) (m - 1)) (sym is)
    | inr here ↦
        let is = here.1 in
        let at = here.0 in
        end_at old value i (omega (arith, at, tie.each)) ∙ sym (end_at now value (get_or (numbers ++ n ∷ []) i 0 - 1) (omega (arith, is, at_end)))
  ];
  kept = λ i marked. elim (mark_at marks true i marked) [
    | inl before ↦ let is = get_or-append numbers (n ∷ []) 0 i (omega (arith, before.0, tie.marked_each, tie.each)) in let some = tie.kept i before.1 in omega (arith, is, some)
    | inr here ↦
        let at : i ≡ length numbers = omega (arith, here.0, tie.marked_each, tie.each) in
        let is : get_or (numbers ++ n ∷ []) i 0 ≡ n = ap (λ k. get_or (numbers ++ n ∷ []) k 0) at ∙ get_or-append_seam numbers n [] 0 in
        omega (arith, is, at_end)
  ];
  last = λ i marked at. last_after old value ∙ sym (last_after now value);
}

-- ---- one move more

added : (leaves : Leaves) (earlier : List Term) (moves : List Move) (values : List Term) (move : Move) (value : Term) → move_values leaves earlier moves ≡ Some values → move_value leaves values move ≡ Some value → move_values leaves earlier (moves ++ move ∷ []) ≡ Some (values ++ value ∷ [])
added leaves earlier [] values move value all one =
    let same : earlier ≡ values = cc in
    ap (option_and_then (λ v. Some (earlier ++ v ∷ []))) (ap (λ e. move_value leaves e move) same ∙ one) ∙ ap (λ e. Some (e ++ value ∷ [])) same
added leaves earlier (x ∷ moves) values move value all one =
    elim (move_value leaves earlier x) as (λ v. option_and_then (λ y. move_values leaves (earlier ++ y ∷ []) moves) v ≡ Some values → option_and_then (λ y. move_values leaves (earlier ++ y ∷ []) (moves ++ move ∷ [])) v ≡ Some (values ++ value ∷ [])) [
      | None ↦ λ none. let bad : ⊥ = (cc) in absurd bad
      | Some y ↦ λ rest. added leaves (earlier ++ y ∷ []) moves values move value rest one
    ] all

value_at-suc : (values : List Term) (place : ℕ) → value_at values (suc place) ≡ slice_get values place
value_at-suc values place =
    let less : suc place - 1 ≡ place = omega arith in
    ap (λ (test : Bool). if test then None else slice_get values (suc place - 1)) (eqb-suc-zero place) ∙ ap (slice_get values) less

named_some : (values : List Term) (n : ℕ) → 0 < n → slice_get values (n - 1) ≡ value_at values n
named_some values zero some = absurd (omega (arith, some))
named_some values (suc n) some = let less : suc n - 1 ≡ n = omega arith in ap (slice_get values) less ∙ sym (value_at-suc values n)

-- What a marked move names has the same value under its new number.
numbers_same : (numbers : List ℕ) (marks : List Bool) (old now : List Term) (move : Move) → Tie numbers marks old now
    → ((k number : ℕ) → slice_get (numbers_of move) k ≡ Some number → 0 < number → number ≤ length old → IsMarked marks (number - 1)) → SameNumbered (new_number numbers) old now move
numbers_same numbers marks old now move tie closed k zero at = refl
numbers_same numbers marks old now move tie closed k (suc place) at =
    elim (place_cases place (length old)) [
      | inl less ↦
          let before : suc place - 1 ≡ place = omega arith in
          let marked : IsMarked marks place = ap (λ p. get_or marks p false) (sym before) ∙ closed k (suc place) at (omega arith) (omega (arith, less)) in
          let some : 0 < get_or numbers place 0 = tie.kept place marked in
          value_at-suc old place ∙ tie.same place some ∙ named_some now (get_or numbers place 0) some
      | inr rest ↦
          let over : length old ≤ place = elim rest [ inl is ↦ omega (arith, is) | inr more ↦ omega (arith, more) ] in
          let none : get_or numbers place 0 ≡ 0 = get_or_past numbers place 0 (omega (arith, over, tie.each)) in
          value_at-suc old place ∙ past_at old place over ∙ sym (ap (value_at now) none)
    ]

-- ---- all moves

abbrev Kept : Leaves → List Term → List Move → Type 0
Kept leaves values moves = (found : List Term) × (move_values leaves [] moves ≡ Some found) × ((value : Term) → last_of values ≡ Some value → last_of found ≡ Some value)

pub mark_here : (prefix : List Bool) (mark : Bool) (more : List Bool) (i : ℕ) → i ≡ length prefix → get_or (prefix ++ mark ∷ more) i false ≡ mark
mark_here prefix mark more i is = ap (λ k. get_or (prefix ++ mark ∷ more) k false) is ∙ get_or-append_seam prefix mark more false

keep : (leaves : Leaves) (all : List Move) (marks : List Bool) → AreClosed all marks → (prefix more : List Move) (done left : List Bool) → all ≡ prefix ++ more → marks ≡ done ++ left
    → (numbers : List ℕ) (kept : List Move) (old now : List Term) → length prefix ≡ length old → length kept ≡ length now → Tie numbers done old now → move_values leaves [] kept ≡ Some now
    → (values : List Term) → move_values leaves old more ≡ Some values → Kept leaves values (kept_moves numbers kept more left)
keep leaves all marks closed prefix [] done left split marked numbers kept old now len_prefix len_kept tie given values is =
    let same : old ≡ values = cc in (
      now,
      given,
      λ value last.
          elim old as (λ o. old ≡ o → last_of now ≡ Some value) [
            | [] ↦ λ none. let lost : last_of [] ≡ Some value = sym (ap last_of (sym same ∙ none)) ∙ last in let bad : ⊥ = cc in absurd bad
            | x ∷ xs ↦ λ some.
                let count : length all ≡ length old = ap length (split ∙ append-nil prefix) ∙ len_prefix in
                let long : 0 < length old = omega (arith, ap length some) in
                let place = length old - 1 in
                let at : IsMarked marks (length all - 1) = closed.last (omega (arith, count, long)) in
                let here : IsMarked done place =
                sym (ap (λ k. get_or marks k false) (ap (λ n. n - 1) count) ∙ ap (λ m. get_or m place false) marked ∙ get_or-append done left false place (omega (arith, long, tie.marked_each))) ∙ at in
                sym (tie.last place here (omega (arith, long))) ∙ ap last_of same ∙ last
          ] refl,
    )
keep leaves all marks closed prefix (move ∷ more) done [] split marked numbers kept old now len_prefix len_kept tie given values is =
    let bad : ⊥ = omega (arith, closed.each, ap length split, ap length marked, length-append prefix (move ∷ more), length-append done [], len_prefix, tie.marked_each) in absurd bad
keep leaves all marks closed prefix (move ∷ more) done (mark ∷ left) split marked numbers kept old now len_prefix len_kept tie given values is =
    elim (move_value leaves old move) as (λ v. move_value leaves old move ≡ v → option_and_then (λ value. move_values leaves (old ++ value ∷ []) more) v ≡ Some values → Kept leaves values (kept_moves numbers kept (move ∷ more) (mark ∷ left))) [
      | None ↦ λ none rest. let bad : ⊥ = (cc) in absurd bad
      | Some value ↦ λ made rest.
          let split_on : all ≡ (prefix ++ move ∷ []) ++ more = split ∙ sym (append_assoc prefix (move ∷ []) more) in
          let marked_on : marks ≡ (done ++ mark ∷ []) ++ left = marked ∙ sym (append_assoc done (mark ∷ []) left) in
          let prefix_on : length (prefix ++ move ∷ []) ≡ length (old ++ value ∷ []) = omega (arith, length-append prefix (move ∷ []), length-append old (value ∷ []), len_prefix) in
          elim mark as (λ m. mark ≡ m → Kept leaves values (kept_moves numbers kept (move ∷ more) (m ∷ left))) [
            | false ↦ λ unmarked.
                keep leaves all marks closed (prefix ++ move ∷ []) more (done ++ false ∷ []) left split_on (marked_on ∙ ap (λ m. (done ++ m ∷ []) ++ left) unmarked)
                (numbers ++ 0 ∷ []) kept (old ++ value ∷ []) now prefix_on len_kept (tie_left numbers done old now value tie) given values rest
            | true ↦ λ is_marked.
                let n = length kept + 1 in
                let place = length old in
                let here : IsMarked marks place = ap (λ m. get_or m place false) marked ∙ mark_here done mark left place (sym tie.marked_each) ∙ is_marked in
                let stands : slice_get all place ≡ Some move = ap (λ m. slice_get m place) split ∙ move_at prefix move more place (sym len_prefix) in
                let names = λ (k number : ℕ) (at : slice_get (numbers_of move) k ≡ Some number) (some : 0 < number) (few : number ≤ length old).
                let there : IsMarked marks (number - 1) = closed.named place move k number (omega arith) stands here at some few in
                sym (get_or-append done (mark ∷ left) false (number - 1) (omega (arith, some, few, tie.marked_each))) ∙ sym (ap (λ m. get_or m (number - 1) false) marked) ∙ there in
                let same = numbers_same numbers done old now move tie names in
                let new = renumber (new_number numbers) move in
                let again : move_value leaves now new ≡ Some value = sym (same_value leaves (new_number numbers) old now move same) ∙ made in
                keep leaves all marks closed (prefix ++ move ∷ []) more (done ++ true ∷ []) left split_on (marked_on ∙ ap (λ m. (done ++ m ∷ []) ++ left) is_marked)
                (numbers ++ n ∷ []) (kept ++ new ∷ []) (old ++ value ∷ []) (now ++ value ∷ []) prefix_on (omega (arith, length-append kept (new ∷ []), length-append now (value ∷ []), len_kept))
                (tie_kept numbers done old now value n (omega (arith, len_kept)) tie) (added leaves [] kept now new value given again) values rest
          ] refl
    ] refl is

pub value_kept : (moves : List Move) (marks : List Bool) → AreClosed moves marks → KeepsValue moves (kept_moves [] [] moves marks)
value_kept moves marks closed leaves value is =
    elim (move_values leaves [] moves) as (λ made. move_values leaves [] moves ≡ made → option_and_then last_of made ≡ Some value → recipe_value leaves (kept_moves [] [] moves marks) ≡ Some value) [
      | None ↦ λ made none. let bad : ⊥ = (cc) in absurd bad
      | Some values ↦ λ made last.
          let kept = keep leaves moves marks closed [] moves [] marks refl refl [] [] [] [] refl refl tie_none refl values made in
          ap (option_and_then last_of) kept.1 ∙ kept.2 value last
    ] refl is
