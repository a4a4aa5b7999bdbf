-- Each move of a trimmed recipe but the last is needed by a later one.
use Rattle.std.proofs.Common.{◌≡◌, ℕ, zero, suc, ◌+◌, ◌-◌, ◌<◌, ◌≤◌, inl, inr, Bool, true, false, Some, List, [], ◌∷◌, ◌++◌, map, length, take, get_or, refl, sym, ◌∙◌, ap, subst, arith}
use Rattle.std.specs.Prelude.{slice_get}
use Rattle.std.proofs.lemmas.List.{append_assoc, append-nil, length-append, get_or_past, take-append-le}
use Rattle.std.proofs.Math.ListN.{get_or-append}
use Rattle.std.proofs.Math.Seq.{get_or-append_seam, take-append_seam}
use Rattle.dy_recipe.specs.Moves.{Move, Message, Cert, Forge, State, Lit, Name, Pair, Pk, Vk, Penc, Aead, Sign, Mac, Kdf, Hash, Fst, Snd, Pdec, Adec, Ad, Body}
use Rattle.dy_recipe.specs.Trimming.{numbers_of, EachIsNeeded, new_number, renumber}
use Rattle.dy_recipe.specs.MirrorTrimming.{IsMarked, AreClosed, kept_moves}
use Rattle.dy_recipe.proofs.TrimmedValues.{place_cases, number_at, mark_at, prefix_at, end_at}

numbers_renumbered : (new : ℕ → ℕ) → new 0 ≡ 0 → (move : Move) → numbers_of (renumber new move) ≡ map new (numbers_of move)
numbers_renumbered new zero_is (Message index) = cc
numbers_renumbered new zero_is (Cert index) = cc
numbers_renumbered new zero_is (Forge index) = cc
numbers_renumbered new zero_is (State index field) = cc
numbers_renumbered new zero_is (Lit text) = cc
numbers_renumbered new zero_is (Name principal) = cc
numbers_renumbered new zero_is (Pair a b) = cc
numbers_renumbered new zero_is (Pk a) = cc
numbers_renumbered new zero_is (Vk a) = cc
numbers_renumbered new zero_is (Penc a b) = cc
numbers_renumbered new zero_is (Aead a b c) = cc
numbers_renumbered new zero_is (Sign a b) = cc
numbers_renumbered new zero_is (Mac a b) = cc
numbers_renumbered new zero_is (Kdf a context b) = cc
numbers_renumbered new zero_is (Hash a) = cc
numbers_renumbered new zero_is (Fst a) = cc
numbers_renumbered new zero_is (Snd a) = cc
numbers_renumbered new zero_is (Pdec a b) = cc
numbers_renumbered new zero_is (Adec a b) = cc
numbers_renumbered new zero_is (Ad a) = cc
numbers_renumbered new zero_is (Body a) = cc

get_map : (f : ℕ → ℕ) (xs : List ℕ) (k x : ℕ) → slice_get xs k ≡ Some x → slice_get (map f xs) k ≡ Some (f x)
get_map f [] k x at = absurd (cc)
get_map f (y ∷ xs) zero x at = let is : y ≡ x = cc in ap (λ z. Some (f z)) is
get_map f (y ∷ xs) (suc k) x at = get_map f xs k x at

-- Where the kept moves stand, and what they name.
pub record Standing (numbers : List ℕ) (marks : List Bool) (prefix kept : List Move) : Type 0 where
  pub each : length numbers ≡ length prefix
  pub marked_each : length marks ≡ length prefix
  pub some : (i : ℕ) → IsMarked marks i → 0 < get_or numbers i 0
  pub few : (i : ℕ) → IsMarked marks i → get_or numbers i 0 ≤ length kept
  pub rising : (i j : ℕ) → i < j → IsMarked marks i → IsMarked marks j → get_or numbers i 0 < get_or numbers j 0
  pub from : (p : ℕ) → p < length kept → (i : ℕ) × (IsMarked marks i × (get_or numbers i 0 ≡ p + 1))
  pub names : (i j k : ℕ) (move : Move) → IsMarked marks j → slice_get prefix j ≡ Some move → slice_get (numbers_of move) k ≡ Some (i + 1) → i < j → IsMarked marks i
      → (new : Move) × ((slice_get kept (get_or numbers j 0 - 1) ≡ Some new) × (slice_get (numbers_of new) k ≡ Some (get_or numbers i 0)))
  pub only : (i : ℕ) → 0 < get_or numbers i 0 → IsMarked marks i
  pub moves : (j : ℕ) (move : Move) → IsMarked marks j → slice_get prefix j ≡ Some move
      → slice_get kept (get_or numbers j 0 - 1) ≡ Some (renumber (new_number (take j numbers)) move)

pub marked_less : (marks : List Bool) (i : ℕ) → IsMarked marks i → i < length marks
marked_less marks i marked =
    elim (place_cases i (length marks)) [
      | inl less ↦ less
      | inr rest ↦
          let over : length marks ≤ i = elim rest [ inl is ↦ omega (arith, is) | inr more ↦ omega (arith, more) ] in
          let none : get_or marks i false ≡ false = get_or_past marks i false over in
          absurd (cc)
    ]

-- a mark that stood before
was : (marks : List Bool) (i : ℕ) → IsMarked (marks ++ false ∷ []) i → (i < length marks) × IsMarked marks i
was marks i marked = elim (mark_at marks false i marked) [ inl before ↦ before | inr here ↦ (let bad : ⊥ = cc (here.1) in absurd bad) ]

still : (marks : List Bool) (mark : Bool) (i : ℕ) → IsMarked marks i → IsMarked (marks ++ mark ∷ []) i
still marks mark i marked = get_or-append marks (mark ∷ []) false i (marked_less marks i marked) ∙ marked

standing_none : Standing [] [] [] []
standing_none = record {
  each = refl;
  marked_each = refl;
  some = λ i marked. let less = marked_less [] i marked in absurd (omega (arith, less));
  few = λ i marked. let less = marked_less [] i marked in absurd (omega (arith, less));
  rising = λ i j order one other. let less = marked_less [] i one in absurd (omega (arith, less));
  from = λ p less. absurd (omega (arith, less));
  names = λ i j k move marked at named order one. let less = marked_less [] i one in absurd (omega (arith, less));
  only = λ i some. let none : get_or {A = ℕ} [] i 0 ≡ 0 = get_or_past [] i 0 (omega arith) in absurd (omega (arith, none, some));
  moves = λ j move marked at. let less = marked_less [] j marked in absurd (omega (arith, less));
}

standing_left : (numbers : List ℕ) (marks : List Bool) (prefix kept : List Move) (step : Move) → Standing numbers marks prefix kept → Standing (numbers ++ 0 ∷ []) (marks ++ false ∷ []) (prefix ++ step ∷ []) kept
standing_left numbers marks prefix kept step st =
    let same = λ (i : ℕ) (less : i < length marks).
    let is : get_or (numbers ++ 0 ∷ []) i 0 ≡ get_or numbers i 0 = get_or-append numbers (0 ∷ []) 0 i (omega (arith, less, st.marked_each, st.each)) in is in
    record {
      each = omega (arith, length-append numbers (0 ∷ []), length-append prefix (step ∷ []), st.each);
      marked_each = omega (arith, length-append marks (false ∷ []), length-append prefix (step ∷ []), st.marked_each);
      some = λ i marked. let w = was marks i marked in omega (arith, same i w.0, st.some i w.1);
      few = λ i marked. let w = was marks i marked in omega (arith, same i w.0, st.few i w.1);
      rising = λ i j order one other.
          let w = was marks i one in
          let v = was marks j other in
          omega (arith, same i w.0, same j v.0, st.rising i j order w.1 v.1);
      from = λ p less.
          let f = st.from p less in
          (f.0, (still marks false f.0 f.1.0, same f.0 (marked_less marks f.0 f.1.0) ∙ f.1.1));
      names = λ i j k move marked at named order one.
          let w = was marks i one in
          let v = was marks j marked in
          let stands : slice_get prefix j ≡ Some move = sym (prefix_at prefix step j (omega (arith, v.0, st.marked_each))) ∙ at in
          let found = st.names i j k move v.1 stands named order w.1 in
          (found.0, (ap (λ n. slice_get kept (n - 1)) (same j v.0) ∙ found.1.0, found.1.1 ∙ ap (λ (n : ℕ). Some n) (sym (same i w.0))));
      only = λ i positive. elim (number_at numbers 0 i positive) [
        | inl before ↦ let is = before.1 in still marks false i (st.only i (omega (arith, is, positive)))
        | inr here ↦ let is = here.1 in absurd (omega (arith, is, positive))
      ];
      moves = λ j move marked at.
          let v = was marks j marked in
          let stands : slice_get prefix j ≡ Some move = sym (prefix_at prefix step j (omega (arith, v.0, st.marked_each))) ∙ at in
          let earlier : take j (numbers ++ 0 ∷ []) ≡ take j numbers = take-append-le j numbers (0 ∷ []) (omega (arith, v.0, st.marked_each, st.each)) in
          ap (λ n. slice_get kept (n - 1)) (same j v.0) ∙ st.moves j move v.1 stands ∙ ap (λ xs. Some (renumber (new_number xs) move)) (sym earlier);
    }

standing_kept : (numbers : List ℕ) (marks : List Bool) (prefix kept : List Move) (step : Move) (n : ℕ) → n ≡ length kept + 1 → Standing numbers marks prefix kept
    → Standing (numbers ++ n ∷ []) (marks ++ true ∷ []) (prefix ++ step ∷ []) (kept ++ renumber (new_number numbers) step ∷ [])
standing_kept numbers marks prefix kept step n at_end st =
    let new = renumber (new_number numbers) step in
    let long : length (kept ++ new ∷ []) ≡ length kept + 1 = omega (arith, length-append kept (new ∷ [])) in
    let same = λ (i : ℕ) (less : i < length marks).
    let is : get_or (numbers ++ n ∷ []) i 0 ≡ get_or numbers i 0 = get_or-append numbers (n ∷ []) 0 i (omega (arith, less, st.marked_each, st.each)) in is in
    let here_is = λ (i : ℕ) (here : i ≡ length marks).
    let at : i ≡ length numbers = omega (arith, here, st.marked_each, st.each) in
    let is : get_or (numbers ++ n ∷ []) i 0 ≡ n = ap (λ k. get_or (numbers ++ n ∷ []) k 0) at ∙ get_or-append_seam numbers n [] 0 in is in
    record {
      each = omega (arith, length-append numbers (n ∷ []), length-append prefix (step ∷ []), st.each);
      marked_each = omega (arith, length-append marks (true ∷ []), length-append prefix (step ∷ []), st.marked_each);
      some = λ i marked. elim (mark_at marks true i marked) [
        | inl w ↦ omega (arith, same i w.0, st.some i w.1)
        | inr h ↦ omega (arith, here_is i h.0, at_end)
      ];
      few = λ i marked. elim (mark_at marks true i marked) [
        | inl w ↦ omega (arith, same i w.0, st.few i w.1, long)
        | inr h ↦ omega (arith, here_is i h.0, at_end, long)
      ];
      rising = λ i j order one other. elim (mark_at marks true i one) [
        | inl w ↦ elim (mark_at marks true j other) [
          | inl v ↦ omega (arith, same i w.0, same j v.0, st.rising i j order w.1 v.1)
          | inr h ↦ omega (arith, same i w.0, st.few i w.1, here_is j h.0, at_end)
        ]
        | inr h ↦ let less = marked_less (marks ++ true ∷ []) j other in let place = h.0 in absurd (omega (arith, less, place, order, length-append marks (true ∷ [])))
      ];
      from = λ p less. elim (place_cases p (length kept)) [
        | inl before ↦
            let f = st.from p before in
            (f.0, (still marks true f.0 f.1.0, same f.0 (marked_less marks f.0 f.1.0) ∙ f.1.1))
        | inr rest ↦
            let is : p ≡ length kept = elim rest [ inl e ↦ e | inr more ↦ absurd (omega (arith, more, less, long)) ] in
            (length marks, (get_or-append_seam marks true [] false, here_is (length marks) refl ∙ omega (arith, at_end, is)))
      ];
      names = λ i j k move marked at named order one.
          let less = marked_less (marks ++ true ∷ []) j marked in
          let i_less : i < length marks = omega (arith, less, order, length-append marks (true ∷ [])) in
          let i_marked : IsMarked marks i = sym (get_or-append marks (true ∷ []) false i i_less) ∙ one in
          elim (mark_at marks true j marked) [
            | inl v ↦
                let stands : slice_get prefix j ≡ Some move = sym (prefix_at prefix step j (omega (arith, v.0, st.marked_each))) ∙ at in
                let found = st.names i j k move v.1 stands named order i_marked in (
                  found.0,
                  (
                    ap (λ m. slice_get (kept ++ new ∷ []) (m - 1)) (same j v.0) ∙ prefix_at kept new (get_or numbers j 0 - 1) (omega (arith, st.some j v.1, st.few j v.1)) ∙ found.1.0,
                    found.1.1 ∙ ap (λ (m : ℕ). Some m) (sym (same i i_less)),
                  ),
                )
            | inr h ↦
                let this : Some step ≡ Some move = sym (end_at prefix step j (omega (arith, h.0, st.marked_each))) ∙ at in
                let is : step ≡ move = cc in
                let names_it : slice_get (numbers_of step) k ≡ Some (suc i) = ap (λ m. slice_get (numbers_of m) k) is ∙ named ∙ ap (λ (m : ℕ). Some m) (omega arith) in (
                  new,
                  (
                    end_at kept new (get_or (numbers ++ n ∷ []) j 0 - 1) (omega (arith, here_is j h.0, at_end)),
                    ap (λ xs. slice_get xs k) (numbers_renumbered (new_number numbers) refl step) ∙ get_map (new_number numbers) (numbers_of step) k (suc i) names_it ∙ ap (λ (m : ℕ). Some m) (sym (same i i_less)),
                  ),
                )
          ];
      only = λ i positive. elim (number_at numbers n i positive) [
        | inl before ↦ let is = before.1 in still marks true i (st.only i (omega (arith, is, positive)))
        | inr here ↦
            let at : i ≡ length marks = omega (arith, here.0, st.marked_each, st.each) in
            ap (λ m. get_or (marks ++ true ∷ []) m false) at ∙ get_or-append_seam marks true [] false
      ];
      moves = λ j move marked at. elim (mark_at marks true j marked) [
        | inl v ↦
            let stands : slice_get prefix j ≡ Some move = sym (prefix_at prefix step j (omega (arith, v.0, st.marked_each))) ∙ at in
            let earlier : take j (numbers ++ n ∷ []) ≡ take j numbers = take-append-le j numbers (n ∷ []) (omega (arith, v.0, st.marked_each, st.each)) in
            ap (λ m. slice_get (kept ++ new ∷ []) (m - 1)) (same j v.0) ∙ prefix_at kept new (get_or numbers j 0 - 1) (omega (arith, st.some j v.1, st.few j v.1))
            ∙ st.moves j move v.1 stands ∙ ap (λ xs. Some (renumber (new_number xs) move)) (sym earlier)
        | inr h ↦
            let this : Some step ≡ Some move = sym (end_at prefix step j (omega (arith, h.0, st.marked_each))) ∙ at in
            let is : step ≡ move = cc in
            let place : j ≡ length numbers = omega (arith, h.0, st.marked_each, st.each) in
            let earlier : take j (numbers ++ n ∷ []) ≡ numbers = ap (λ m. take m (numbers ++ n ∷ [])) place ∙ take-append_seam numbers (n ∷ []) in
            end_at kept new (get_or (numbers ++ n ∷ []) j 0 - 1) (omega (arith, here_is j h.0, at_end))
            ∙ ap (λ m. Some (renumber (new_number numbers) m)) is ∙ ap (λ xs. Some (renumber (new_number xs) move)) (sym earlier)
      ];
    }

-- Where all moves are passed, each that is kept but the last is needed.
all_needed : (moves : List Move) (marks : List Bool) → AreClosed moves marks → (numbers : List ℕ) (kept : List Move) → Standing numbers marks moves kept → EachIsNeeded kept
all_needed moves marks closed numbers kept st p less =
    let f = st.from p (omega (arith, less)) in
    let i = f.0 in
    let marked = f.1.0 in
    let number = f.1.1 in
    elim (place_cases (i + 1) (length moves)) [
      | inl before ↦
          let later = closed.needed i marked before in
          let found = st.names i later.later later.names.0 later.move later.marked later.stands later.names.1 later.after marked in
          record {
            later = get_or numbers later.later 0 - 1;
            move = found.0;
            after = omega (arith, number, st.rising i later.later later.after marked later.marked);
            stands = found.1.0;
            names = (later.names.0, found.1.1 ∙ ap (λ (m : ℕ). Some m) number);
          }
      | inr rest ↦
          let over : length moves ≤ i + 1 = elim rest [ inl is ↦ omega (arith, is) | inr more ↦ omega (arith, more) ] in
          let g = st.from (length kept - 1) (omega (arith, less)) in
          let top = g.1.1 in
          let place = marked_less marks g.0 g.1.0 in
          elim (place_cases g.0 i) [
            | inl lower ↦ let order = st.rising g.0 i lower g.1.0 marked in absurd (omega (arith, order, top, number, less))
            | inr other ↦ elim other [
              | inl same ↦ let is = ap (λ k. get_or numbers k 0) same in absurd (omega (arith, is, top, number, less))
              | inr higher ↦ absurd (omega (arith, higher, over, place, st.marked_each))
            ]
          ]
    ]

moved : (numbers : List ℕ) (marks now : List Bool) (prefix all kept : List Move) → marks ≡ now → prefix ≡ all → Standing numbers marks prefix kept → Standing numbers now all kept
moved numbers marks now prefix all kept same_marks same_prefix st =
    let P : List Bool → Type 0 = λ m. Standing numbers m all kept in
    let Q : List Move → Type 0 = λ f. Standing numbers marks f kept in
    subst P same_marks (subst Q same_prefix st)

-- Where all moves are passed, what is kept of them stands.
all_stands : (moves : List Move) (marks : List Bool) → AreClosed moves marks → (prefix more : List Move) (done left : List Bool) → moves ≡ prefix ++ more → marks ≡ done ++ left
    → (numbers : List ℕ) (kept : List Move) → Standing numbers done prefix kept → (last : List ℕ) × Standing last marks moves (kept_moves numbers kept more left)
all_stands moves marks closed prefix [] done [] split marked numbers kept st =
    let prefix_is : prefix ≡ moves = sym (split ∙ append-nil prefix) in
    let done_is : done ≡ marks = sym (marked ∙ append-nil done) in
    (numbers, moved numbers done marks prefix moves kept done_is prefix_is st)
all_stands moves marks closed prefix [] done (mark ∷ left) split marked numbers kept st =
    let bad : ⊥ = omega (arith, closed.each, ap length split, ap length marked, length-append prefix [], length-append done (mark ∷ left), st.marked_each) in absurd bad
all_stands moves marks closed prefix (step ∷ more) done [] split marked numbers kept st =
    let bad : ⊥ = omega (arith, closed.each, ap length split, ap length marked, length-append prefix (step ∷ more), length-append done [], st.marked_each) in absurd bad
all_stands moves marks closed prefix (step ∷ more) done (false ∷ left) split marked numbers kept st =
    all_stands moves marks closed (prefix ++ step ∷ []) more (done ++ false ∷ []) left (split ∙ sym (append_assoc prefix (step ∷ []) more)) (marked ∙ sym (append_assoc done (false ∷ []) left))
    (numbers ++ 0 ∷ []) kept (standing_left numbers done prefix kept step st)
all_stands moves marks closed prefix (step ∷ more) done (true ∷ left) split marked numbers kept st =
    all_stands moves marks closed (prefix ++ step ∷ []) more (done ++ true ∷ []) left (split ∙ sym (append_assoc prefix (step ∷ []) more)) (marked ∙ sym (append_assoc done (true ∷ []) left))
    (numbers ++ (length kept + 1) ∷ []) (kept ++ renumber (new_number numbers) step ∷ []) (standing_kept numbers done prefix kept step (length kept + 1) refl st)

pub kept_stands : (moves : List Move) (marks : List Bool) → AreClosed moves marks → (last : List ℕ) × Standing last marks moves (kept_moves [] [] moves marks)
kept_stands moves marks closed = all_stands moves marks closed [] moves [] marks refl refl [] [] standing_none

pub each_is_needed : (moves : List Move) (marks : List Bool) → AreClosed moves marks → EachIsNeeded (kept_moves [] [] moves marks)
each_is_needed moves marks closed =
    let stood = kept_stands moves marks closed in all_needed moves marks closed stood.0 (kept_moves [] [] moves marks) stood.1
