-- A tuple is valid where its fields are, and known where all of them are.
use Rattle.std.proofs.Common.{◌≡◌, ℕ, true, List, [], ◌∷◌, map, refl}
use Rattle.std.proofs.lemmas.Bool.{and_parts, and_from}
use Rattle.dy_term.specs.Terms as trees
use Rattle.dy_term.specs.Terms.{Term}
use Rattle.dy_term.specs.Tuples.{right_pairs, tagged_tuple}
use Rattle.dy_label.specs.Labels.{Place, is_open}
use Rattle.dy_label.specs.Words.{Choice, meaning_of}
use Rattle.dy_types.specs.Claims.{Known}
use Rattle.dy_syntax.specs.Files.{Decl}
use Rattle.dy_typing.specs.Expressions.{meet_all, known_together}
use Rattle.dy_entry.specs.Entries.{Entry}
use Rattle.dy_entry.specs.ValueLabels.{label_of}
use Rattle.dy_sound.specs.Flows.{Flows, IsOver}
use Rattle.dy_sound.specs.Valid.{IsValid}
use Rattle.dy_sound.specs.Knowledge.{KnownHolds}
use Rattle.dy_sound.proofs.Lists.{Contains-none}

module _ (decls : List Decl) (T : List Entry) where
  -- Each of the values is valid.
  abbrev pub AreValid : List Term → Type 0
  AreValid [] = Unit {0}
  AreValid (value ∷ values) = IsValid decls T value × AreValid values

  pairs_are_valid : (first : Term) (values : List Term) → IsValid decls T first → AreValid values → IsValid decls T (right_pairs first values)
  pairs_are_valid first [] valid others = valid
  pairs_are_valid first (next ∷ values) valid others = (valid, pairs_are_valid next values others.0 others.1)

  pub tuple_is_valid : (tag : List ℕ) (values : List Term) → AreValid values → IsValid decls T (tagged_tuple tag values)
  tuple_is_valid tag values valid = pairs_are_valid (trees.Lit tag) values tt valid

module _ (T : List Entry) (C : List Place) where
  -- The label of each value is open.
  abbrev pub AreOpen : List Term → Type 0
  AreOpen [] = Unit {0}
  AreOpen (value ∷ values) = (is_open C (label_of T value) ≡ true) × AreOpen values

  -- Values in pairs are open exactly where each of them is.
  pub pairs_are_open : (first : Term) (values : List Term) → is_open C (label_of T first) ≡ true → AreOpen values
      → is_open C (label_of T (right_pairs first values)) ≡ true
  pairs_are_open first [] opened others = opened
  pairs_are_open first (next ∷ values) opened others = and_from _ _ opened (pairs_are_open next values others.0 others.1)

  pub open_pairs : (first : Term) (values : List Term) → is_open C (label_of T (right_pairs first values)) ≡ true
      → (is_open C (label_of T first) ≡ true) × AreOpen values
  open_pairs first [] opened = (opened, tt)
  open_pairs first (next ∷ values) opened =
      let parts = and_parts (is_open C (label_of T first)) (is_open C (label_of T (right_pairs next values))) opened in
      let rest = open_pairs next values parts.1 in
      (parts.0, (rest.0, rest.1))

module _ (decls : List Decl) (T : List Entry) (choice : Choice) where
  -- What is known of each of the values holds.
  abbrev pub AllHold : List Term → List Known → Type 0
  AllHold [] [] = Unit {0}
  AllHold (value ∷ values) (known ∷ knowns) = KnownHolds decls T choice value known × AllHold values knowns
  AllHold _ _ = ⊥

  pub all_open_by_hi : (C : List Place) → IsOver T C → (values : List Term) (knowns : List Known) → AllHold values knowns
      → is_open C (meaning_of choice (meet_all (map (λ known. known.hi) knowns))) ≡ true → AreOpen T C values
  all_open_by_hi C over [] [] hold opened = tt
  all_open_by_hi C over [] (known ∷ knowns) hold opened = absurd hold
  all_open_by_hi C over (value ∷ values) [] hold opened = absurd hold
  all_open_by_hi C over (value ∷ values) (known ∷ knowns) hold opened =
      let parts = and_parts (is_open C (meaning_of choice known.hi)) (is_open C (meaning_of choice (meet_all (map (λ known. known.hi) knowns)))) opened in
      (hold.0.is_open_by_hi.opens C over parts.0, all_open_by_hi C over values knowns hold.1 parts.1)

  all_open_lo : (C : List Place) → IsOver T C → (values : List Term) (knowns : List Known) → AllHold values knowns → AreOpen T C values
      → is_open C (meaning_of choice (meet_all (map (λ known. known.lo) knowns))) ≡ true
  all_open_lo C over [] [] hold opened = refl
  all_open_lo C over [] (known ∷ knowns) hold opened = absurd hold
  all_open_lo C over (value ∷ values) [] hold opened = absurd hold
  all_open_lo C over (value ∷ values) (known ∷ knowns) hold opened =
      and_from _ _ (hold.0.opens_lo.opens C over opened.0) (all_open_lo C over values knowns hold.1 opened.1)

  -- Where all fields are open, so is the tuple.
  pub tuple_opens : (tag : List ℕ) (values : List Term) (knowns : List Known) → AllHold values knowns
      → Flows T (meaning_of choice (known_together knowns).hi) (label_of T (tagged_tuple tag values))
  tuple_opens tag values knowns hold = record {
    opens = λ C over opened. pairs_are_open T C (trees.Lit tag) values refl (all_open_by_hi C over values knowns hold opened);
  }

  pub tuple_holds : (tag : List ℕ) (values : List Term) (knowns : List Known) → AllHold values knowns
      → KnownHolds decls T choice (tagged_tuple tag values) (known_together knowns)
  tuple_holds tag values knowns hold = record {
    is_open_by_hi = tuple_opens tag values knowns hold;
    opens_lo = record { opens = λ C over opened. all_open_lo C over values knowns hold (open_pairs T C (trees.Lit tag) values opened).1 };
    claims_hold = λ claim none. absurd (Contains-none claim none);
  }

  pub pair_holds : (first second : Term) (known_first known_second : Known) → KnownHolds decls T choice first known_first → KnownHolds decls T choice second known_second
      → KnownHolds decls T choice (trees.Pair first second) (known_together (known_first ∷ known_second ∷ []))
  pair_holds first second known_first known_second one other =
      let hold : AllHold (first ∷ second ∷ []) (known_first ∷ known_second ∷ []) = (one, (other, tt)) in
      record {
        is_open_by_hi = record {
          opens = λ C over opened. let both = all_open_by_hi C over (first ∷ second ∷ []) (known_first ∷ known_second ∷ []) hold opened in
              and_from _ _ both.0 both.1.0;
        };
        opens_lo = record {
          opens = λ C over opened. let parts = and_parts (is_open C (label_of T first)) (is_open C (label_of T second)) opened in
              all_open_lo C over (first ∷ second ∷ []) (known_first ∷ known_second ∷ []) hold (parts.0, (parts.1, tt));
        };
        claims_hold = λ claim none. absurd (Contains-none claim none);
      }
