-- Knowledge that holds goes on to hold when a variable more is bound.
use Rattle.std.proofs.Common.{◌≡◌, ℕ, zero, suc, ◌<◌, List, [], ◌∷◌, ◌++◌, length, Contains, Option, None, unwrap_or, inl, inr, refl, sym, ap, subst, ◌∙◌, arith}
use Rattle.std.specs.List.{slice_get}
use Rattle.std.specs.Option.{option_map}
use Rattle.std.proofs.lemmas.List.{map-append, length-map}
use Rattle.std.proofs.lemmas.Bool.{cases_order}
use Rattle.dy_term.specs.Terms as trees
use Rattle.dy_term.specs.Terms.{Term}
use Rattle.dy_label.specs.Words.{Choice}
use Rattle.dy_types.specs.Claims.{Known, unknown}
use Rattle.dy_types.specs.Facts.{Fact, first_of}
use Rattle.dy_syntax.specs.Files.{Decl}
use Rattle.dy_typing.specs.Knowledge.{Knowledge, known_at, bind}
use Rattle.dy_entry.specs.Entries.{Entry}
use Rattle.dy_eval.specs.declared.written.Written.{Written}
use Rattle.dy_eval.specs.Names.{Names, write}
use Rattle.dy_sound.specs.Events.{HasHappened}
use Rattle.dy_sound.specs.Names.{value_numbered}
use Rattle.dy_sound.specs.Knowledge.{KnownHolds, FactHolds, IsNumbered, Holds}
use Rattle.dy_sound.proofs.Lists.{Contains-none, in_last}
use Rattle.dy_sound.proofs.Elements.{map-alike}

-- Of a value of which nothing is known, what is known holds.
pub unknown_holds : (decls : List Decl) (T : List Entry) (choice : Choice) (value : Term) → KnownHolds decls T choice value unknown
unknown_holds decls T choice value = record {
  is_open_by_hi = record { opens = λ C over opened. absurd cc };
  opens_lo = record { opens = λ C over opened. refl };
  claims_hold = λ claim none. absurd (Contains-none claim none);
}

-- what stands where one element more is at the end
at_more : {A : Type 0} (xs : List A) (y : A) (k : ℕ) → k < length xs → slice_get (xs ++ y ∷ []) k ≡ slice_get xs k
at_more [] y k inside = absurd (omega (arith, inside))
at_more (x ∷ xs) y zero inside = refl
at_more (x ∷ xs) y (suc k) inside = at_more xs y k (omega (arith, inside))

past_more : {A : Type 0} (xs : List A) (y : A) (k : ℕ) → length xs < k → slice_get (xs ++ y ∷ []) k ≡ None
past_more [] y zero past = absurd (omega (arith, past))
past_more [] y (suc k) past = refl
past_more (x ∷ xs) y zero past = absurd (omega (arith, past))
past_more (x ∷ xs) y (suc k) past = past_more xs y k (omega (arith, past))

length_more : {A : Type 0} (xs : List A) (y : A) → length (xs ++ y ∷ []) ≡ suc (length xs)
length_more [] y = refl
length_more (x ∷ xs) y = ap suc (length_more xs y)

module _ (names : Names) (written : Written) where
  -- A variable that is bound keeps its value.
  pub value_kept : (number : ℕ) → number < suc (length names.written) → value_numbered (write names (written ∷ [])) number ≡ value_numbered names number
  value_kept zero inside = refl
  value_kept (suc number) inside =
      ap (λ (found : Option Written). unwrap_or (option_map (λ w. w.bytes) found) (trees.Name names.principal))
      (at_more names.written written number (omega (arith, inside)))

  pub value_added : value_numbered (write names (written ∷ [])) (suc (length names.written)) ≡ written.bytes
  value_added =
      ap (λ (found : Option Written). unwrap_or (option_map (λ w. w.bytes) found) (trees.Name names.principal))
      (in_last names.written written)

module _ (decls : List Decl) (T : List Entry) (choice : Choice) (names : Names) (k : Knowledge) (h : Holds decls T choice names k) (written : Written) (known : Known) where
  count_is : length k.first ≡ suc (length names.written)
  count_is = h.is_numbered.firsts_count ∙ ap (λ (words : List (List ℕ)). suc (length words)) (sym h.variables) ∙ ap suc (length-map names.written (λ w. w.word))

  values_count_is : length k.values ≡ suc (length names.written)
  values_count_is = h.is_numbered.values_count ∙ sym h.is_numbered.firsts_count ∙ count_is

  value_is_kept : (number : ℕ) → number < length k.first → value_numbered (write names (written ∷ [])) number ≡ value_numbered names number
  value_is_kept number inside = value_kept names written number (let count = count_is in omega (arith, inside, count))

  first_inside : (number : ℕ) → number < length k.first → first_of (k.first ++ length k.first ∷ []) number ≡ first_of k.first number
  first_inside number inside = ap (λ (found : Option ℕ). unwrap_or found number) (at_more k.first (length k.first) number inside)

  first_added : first_of (k.first ++ length k.first ∷ []) (length k.first) ≡ length k.first
  first_added = ap (λ (found : Option ℕ). unwrap_or found (length k.first)) (in_last k.first (length k.first))

  first_past : (number : ℕ) → length k.first < number → first_of (k.first ++ length k.first ∷ []) number ≡ number
  first_past number past = ap (λ (found : Option ℕ). unwrap_or found number) (past_more k.first (length k.first) number past)

  added_is_bound : (number : ℕ) → number < length (k.first ++ length k.first ∷ []) → first_of (k.first ++ length k.first ∷ []) number < length (k.first ++ length k.first ∷ [])
  added_is_bound number inside = elim (cases_order number (length k.first)) [
    | inl last ↦
        let own = ap (first_of (k.first ++ length k.first ∷ [])) last ∙ first_added in
        let more = length_more k.first (length k.first) in omega (arith, own, more)
    | inr other ↦ elim other [
      | inl before ↦
          let own = first_inside number before in
          let bound = h.is_numbered.firsts_are_bound number before in
          let more = length_more k.first (length k.first) in omega (arith, own, bound, more)
      | inr after ↦ let more = length_more k.first (length k.first) in absurd (omega (arith, inside, more, after))
    ]
  ]

  arg_is_bound : (fact : Fact) → Contains k.facts fact → (arg : ℕ) → Contains fact.args arg → arg < length (k.first ++ length k.first ∷ [])
  arg_is_bound fact stands arg has =
      let bound = h.is_numbered.args_are_bound fact stands arg has in
      let more = length_more k.first (length k.first) in omega (arith, bound, more)

  numbered_more : IsNumbered (bind k written.word known)
  numbered_more = record {
    firsts_count = length_more k.first (length k.first) ∙ ap suc (h.is_numbered.firsts_count) ∙ ap suc (sym (length_more k.words written.word));
    values_count = length_more k.values known ∙ ap suc (h.is_numbered.values_count) ∙ ap suc (sym (length_more k.words written.word));
    firsts_are_bound = added_is_bound;
    args_are_bound = arg_is_bound;
  }

  same_more : (number : ℕ) → value_numbered (write names (written ∷ [])) (first_of (k.first ++ length k.first ∷ []) number) ≡ value_numbered (write names (written ∷ [])) number
  same_more number = elim (cases_order number (length k.first)) [
    | inl last ↦ ap (value_numbered (write names (written ∷ []))) (ap (first_of (k.first ++ length k.first ∷ [])) last ∙ first_added ∙ sym last)
    | inr other ↦ elim other [
      | inl before ↦
          ap (value_numbered (write names (written ∷ []))) (first_inside number before)
          ∙ value_is_kept (first_of k.first number) (h.is_numbered.firsts_are_bound number before)
          ∙ h.same number ∙ sym (value_is_kept number before)
      | inr after ↦ ap (value_numbered (write names (written ∷ []))) (first_past number after)
    ]
  ]

  known_added : KnownHolds decls T choice written.bytes known → (number : ℕ) → KnownHolds decls T choice (value_numbered (write names (written ∷ [])) number) (unwrap_or (slice_get (k.values ++ known ∷ []) number) unknown)
  known_added own number = elim (cases_order number (length k.values)) [
    | inl last ↦
        let value_is : value_numbered (write names (written ∷ [])) number ≡ written.bytes =
        ap (value_numbered (write names (written ∷ []))) (last ∙ values_count_is) ∙ value_added names written in
        let known_is : unwrap_or (slice_get (k.values ++ known ∷ []) number) unknown ≡ known =
        ap (λ (found : Option Known). unwrap_or found unknown) (ap (slice_get (k.values ++ known ∷ [])) last ∙ in_last k.values known) in
        subst (λ (x : Known). KnownHolds decls T choice (value_numbered (write names (written ∷ [])) number) x) (sym known_is)
        (subst (λ (v : Term). KnownHolds decls T choice v known) (sym value_is) own)
    | inr other ↦ elim other [
      | inl before ↦
          let value_is : value_numbered (write names (written ∷ [])) number ≡ value_numbered names number =
          let count = values_count_is in value_kept names written number (omega (arith, before, count)) in
          let known_is : unwrap_or (slice_get (k.values ++ known ∷ []) number) unknown ≡ known_at k number =
          ap (λ (found : Option Known). unwrap_or found unknown) (at_more k.values known number before) in
          subst (λ (x : Known). KnownHolds decls T choice (value_numbered (write names (written ∷ [])) number) x) (sym known_is)
          (subst (λ (v : Term). KnownHolds decls T choice v (known_at k number)) (sym value_is) (h.values_hold number))
      | inr after ↦
          let known_is : unwrap_or (slice_get (k.values ++ known ∷ []) number) unknown ≡ unknown =
          ap (λ (found : Option Known). unwrap_or found unknown) (past_more k.values known number after) in
          subst (λ (x : Known). KnownHolds decls T choice (value_numbered (write names (written ∷ [])) number) x) (sym known_is)
          (unknown_holds decls T choice (value_numbered (write names (written ∷ [])) number))
    ]
  ]

  fact_kept : (fact : Fact) → Contains k.facts fact → FactHolds T choice (write names (written ∷ [])) fact
  fact_kept fact stands = elim (h.facts_hold fact stands) [
    | inl happened ↦
        inl (subst (λ (values : List Term). HasHappened T fact.event values)
        (sym (map-alike (value_numbered (write names (written ∷ []))) (value_numbered names) fact.args
        (λ arg has. value_is_kept arg (h.is_numbered.args_are_bound fact stands arg has)))) happened)
    | inr shown ↦ inr shown
  ]

  -- A variable more, of whose value this is known, and the knowledge holds of it too.
  pub bound_holds : KnownHolds decls T choice written.bytes known → Holds decls T choice (write names (written ∷ [])) (bind k written.word known)
  bound_holds own = record {
    variables = map-append (λ w. w.word) names.written (written ∷ []) ∙ ap (λ (words : List (List ℕ)). words ++ written.word ∷ []) h.variables;
    is_numbered = numbered_more;
    same = same_more;
    values_hold = known_added own;
    facts_hold = fact_kept;
  }
