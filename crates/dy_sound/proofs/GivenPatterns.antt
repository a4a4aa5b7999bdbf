-- What patterns give for the fields of a declaration: each variable has its own field's value once it is written.
use Rattle.std.proofs.Common.{◌≡◌, ℕ, ◌+◌, ◌≤◌, Bool, true, List, [], ◌∷◌, ◌++◌, map, length, Contains, Some, inl, inr, refl, sym, ap, subst, ◌∙◌, arith}
use Rattle.std.specs.Prelude.{find}
use Rattle.std.specs.Str.{bytes_eq}
use Rattle.std.proofs.lemmas.Bool.{and_parts, cases_Bool}
use Rattle.std.proofs.lemmas.Slice.Eq.{bytes_eq-Decides}
use Rattle.std.proofs.lemmas.List.Elements.{Contains-append_right}
use Rattle.dy_term.specs.Terms.{Term}
use Rattle.dy_label.specs.Words.{Choice}
use Rattle.dy_syntax.specs.Names as syntax
use Rattle.dy_syntax.specs.Names.{Id, Nm, Me, line_of}
use Rattle.dy_syntax.specs.Declarations.{Field}
use Rattle.dy_syntax.specs.Statements.{Pattern, Bind, Named, Equal}
use Rattle.dy_syntax.specs.Scopes.{Scope, words_of, is_among, is_name, is_bound, is_name_type}
use Rattle.dy_syntax.specs.Rules.Lines.{lines_of_pairs}
use Rattle.dy_syntax.specs.Rules.Names.{lines_of_pattern, lines_of_field_pattern}
use Rattle.dy_typing.specs.Names.{Setting, patterns_names, pattern_name, name_number}
use Rattle.dy_eval.specs.declared.written.Written.{Written}
use Rattle.dy_eval.specs.Names.{Names, bytes_at, bytes_for, principal_in}
use Rattle.dy_eval.specs.Patterns.{fits_one, fits, written_by}
use Rattle.dy_sound.specs.InScope.{IsNamed}
use Rattle.dy_sound.specs.Matches.{words_written, scope_in, HandlerMatches, IsPrincipalOf}
use Rattle.dy_sound.specs.Givens.{field_slots, IsGiven, AreGiven}
use Rattle.dy_sound.proofs.Lists.{Contains-none, Contains-first, Contains-later, Contains-cases}
use Rattle.dy_sound.proofs.Tuples.{SameAreEqual}
use Rattle.dy_sound.proofs.NamesApart.{how_many}
use Rattle.dy_sound.proofs.NamesAt.{passes_where_no_line}
use Rattle.dy_sound.proofs.SealedFields.{name_given}

-- What is written in place of a word counts among what is written.
counted_written : (word : List ℕ) (written : List Written) (ids : List Id) → map (λ w. w.word) written ≡ words_of ids
    → (w : Written) → Contains written w → w.word ≡ word → 1 ≤ how_many word ids
counted_written word [] ids same w within is = absurd (Contains-none w within)
counted_written word (v ∷ written) [] same w within is = absurd cc
counted_written word (v ∷ written) (id ∷ ids) same w within is = elim (Contains-cases v written w within) [
  | inl first ↦
      let own : v.word ≡ id.word = cc in
      let here : bytes_eq word id.word ≡ true = (bytes_eq-Decides word id.word).1 (sym is ∙ sym (ap (λ (x : Written). x.word) first) ∙ own) in
      rw here (omega arith)
  | inr later ↦
      let rest : map (λ (x : Written). x.word) written ≡ words_of ids = cc in
      let more = counted_written word written ids rest w later is in
      omega (arith, more)
]

-- A word that stands but once among what is written is found with its own value.
pub found_once : (word : List ℕ) (written : List Written) (ids : List Id) → map (λ w. w.word) written ≡ words_of ids → how_many word ids ≤ 1
    → (w : Written) → Contains written w → w.word ≡ word → find (λ v. bytes_eq v.word word) written ≡ Some w
found_once word [] ids same once w within is = absurd (Contains-none w within)
found_once word (v ∷ written) [] same once w within is = absurd cc
found_once word (v ∷ written) (id ∷ ids) same once w within is =
    let own : v.word ≡ id.word = cc in
    let rest : map (λ (x : Written). x.word) written ≡ words_of ids = cc in
    elim (cases_Bool (bytes_eq v.word word)) [
      | inl alike ↦ elim (Contains-cases v written w within) [
        | inl first ↦ rw alike (ap Some first)
        | inr later ↦
            let more = counted_written word written ids rest w later is in
            let here : bytes_eq word id.word ≡ true = (bytes_eq-Decides word id.word).1 (sym ((bytes_eq-Decides v.word word).0 alike) ∙ own) in
            let twice : 1 + how_many word ids ≤ 1 = rw here at once in
            absurd (omega (arith, more, twice))
      ]
      | inr differ ↦ elim (Contains-cases v written w within) [
        | inl first ↦
            let other : bytes_eq v.word word ≡ true = (bytes_eq-Decides v.word word).1 (ap (λ (x : Written). x.word) first ∙ is) in
            absurd cc
        | inr later ↦ rw differ (found_once word written ids rest (omega (arith, once)) w later is)
      ]
    ]

-- no lines where there are none of both
pub both_none : (xs ys : List ℕ) → xs ++ ys ≡ [] → (xs ≡ []) × (ys ≡ [])
both_none [] ys none = (refl, none)
both_none (x ∷ xs) ys none = absurd cc

module _ (equal : SameAreEqual) (setting : Setting) (choice : Choice) (newest : ℕ) (start then : Names)
    (matches : HandlerMatches setting.names newest then choice) (scope : Scope) where
  -- What each pattern of these needs. Its variable has its own value, and is bound. What is compared with has the
  -- value that it had, and is bound. What binds a name binds a name of the handler.
  pub record ArePlaced (pats : List Pattern) (fields : List Term) : Type 0 where
    pub values_are : (written : Written) → Contains (written_by pats fields) written → bytes_at then written.word ≡ written.bytes
    pub are_bound : (written : Written) → Contains (written_by pats fields) written → is_among written.word (words_written then) ≡ true
    pub compared_are : (line : ℕ) (to : Nm) → Contains pats (Equal line to) → bytes_for then to ≡ bytes_for start to
    pub compared_bound : (line : ℕ) (to : Nm) → Contains pats (Equal line to) → is_bound (scope_in setting.names then) to ≡ true
    pub compared_named : (line : ℕ) (to : Nm) → Contains pats (Equal line to) → is_name scope to ≡ true → is_name (scope_in setting.names then) to ≡ true
    pub names_are : (line : ℕ) (name : Id) → Contains pats (Named line name) → is_among name.word setting.names ≡ true

  later_placed : (pat : Pattern) (pats : List Pattern) (field : Term) (fields : List Term) (first : List Written)
      → written_by (pat ∷ pats) (field ∷ fields) ≡ first ++ written_by pats fields → ArePlaced (pat ∷ pats) (field ∷ fields) → ArePlaced pats fields
  later_placed pat pats field fields first is placed =
      let there : (written : Written) → Contains (written_by pats fields) written → Contains (written_by (pat ∷ pats) (field ∷ fields)) written = λ written within.
      subst (λ (ws : List Written). Contains ws written) (sym is) (Contains-append_right first (written_by pats fields) written within) in
      record {
        values_are = λ written within. placed.values_are written (there written within);
        are_bound = λ written within. placed.are_bound written (there written within);
        compared_are = λ line to within. placed.compared_are line to (Contains-later pat pats (Equal line to) within);
        compared_bound = λ line to within. placed.compared_bound line to (Contains-later pat pats (Equal line to) within);
        compared_named = λ line to within. placed.compared_named line to (Contains-later pat pats (Equal line to) within);
        names_are = λ line name within. placed.names_are line name (Contains-later pat pats (Named line name) within);
      }

  name_of : (name : Nm) (value : Term) → value ≡ bytes_for then name → IsNamed (scope_in setting.names then) name
      → IsPrincipalOf choice (name_number setting name) (principal_in value)
  name_of name value is named =
      subst (λ (v : Term). IsPrincipalOf choice (name_number setting name) (principal_in v)) (sym is) (name_given setting choice newest then matches name named)

  one_given : (field : Field) (pat : Pattern) (pats : List Pattern) (value : Term) (values : List Term) → ArePlaced (pat ∷ pats) (value ∷ values)
      → lines_of_field_pattern scope field pat ≡ [] → fits_one start pat value ≡ true
      → IsGiven setting choice then (record { word = field.name.word; is_name = is_name_type field.kind }) (Some (pattern_name pat)) value
  one_given field (Bind name) pats value values placed rule fit =
      let w : Written = record { word = name.word; bytes = value } in
      let own = sym (placed.values_are w (Contains-first w (written_by pats values))) in
      record {
        value_is = λ given is. let same : syntax.Named name ≡ given = cc in own ∙ ap (bytes_for then) same;
        name_is = λ is_name.
            let none : lines_of_pattern scope true (Bind name) ≡ [] = subst (λ (b : Bool). lines_of_pattern scope b (Bind name) ≡ []) is_name rule in
            absurd cc;
      }
  one_given field (Named line name) pats value values placed rule fit =
      let w : Written = record { word = name.word; bytes = value } in
      let own = sym (placed.values_are w (Contains-first w (written_by pats values))) in
      record {
        value_is = λ given is. let same : syntax.Named name ≡ given = cc in own ∙ ap (bytes_for then) same;
        name_is = λ is_name_here. (
          syntax.Named name,
          refl,
          name_of (syntax.Named name) value own (record {
            stands = placed.names_are line name (Contains-first (Named line name) pats);
            binds = λ inside. placed.are_bound w (Contains-first w (written_by pats values));
          }),
        );
      }
  one_given field (Equal line to) pats value values placed rule fit =
      let at = Contains-first (Equal line to) pats in
      let own : value ≡ bytes_for then to = equal value (bytes_for start to) fit ∙ sym (placed.compared_are line to at) in
      record {
        value_is = λ given is. let same : to ≡ given = cc in own ∙ ap (bytes_for then) same;
        name_is = λ is_name_here.
            let none : lines_of_pattern scope true (Equal line to) ≡ [] = subst (λ (b : Bool). lines_of_pattern scope b (Equal line to) ≡ []) is_name_here rule in (
              to,
              refl,
              name_of to value own (record {
                stands = placed.compared_named line to at (passes_where_no_line (is_name scope to) (line_of to) none);
                binds = λ inside. placed.compared_bound line to at;
              }),
            );
      }

  -- What patterns give for fields that they fit.
  pub patterns_give : (fields : List Field) (pats : List Pattern) (values : List Term) → length pats ≡ length fields → ArePlaced pats values
      → lines_of_pairs (lines_of_field_pattern scope) fields pats ≡ [] → fits start pats values ≡ true
      → AreGiven setting choice then (field_slots fields) (patterns_names pats) values
  patterns_give [] [] [] count placed rule fit = tt
  patterns_give [] [] (value ∷ values) count placed rule fit = absurd cc
  patterns_give [] (pat ∷ pats) values count placed rule fit = absurd (omega (arith, count))
  patterns_give (field ∷ fields) [] values count placed rule fit = absurd (omega (arith, count))
  patterns_give (field ∷ fields) (pat ∷ pats) [] count placed rule fit = absurd cc
  patterns_give (field ∷ fields) (Bind name ∷ pats) (value ∷ values) count placed rule fit =
      let rules = both_none (lines_of_field_pattern scope field (Bind name)) (lines_of_pairs (lines_of_field_pattern scope) fields pats) rule in
      let parts = and_parts (fits_one start (Bind name) value) (fits start pats values) fit in (
        one_given field (Bind name) pats value values placed rules.0 parts.0,
        patterns_give fields pats values (omega (arith, count))
            (later_placed (Bind name) pats value values (record { word = name.word; bytes = value } ∷ []) refl placed) rules.1 parts.1,
      )
  patterns_give (field ∷ fields) (Named line name ∷ pats) (value ∷ values) count placed rule fit =
      let rules = both_none (lines_of_field_pattern scope field (Named line name)) (lines_of_pairs (lines_of_field_pattern scope) fields pats) rule in
      let parts = and_parts (fits_one start (Named line name) value) (fits start pats values) fit in (
        one_given field (Named line name) pats value values placed rules.0 parts.0,
        patterns_give fields pats values (omega (arith, count))
            (later_placed (Named line name) pats value values (record { word = name.word; bytes = value } ∷ []) refl placed) rules.1 parts.1,
      )
  patterns_give (field ∷ fields) (Equal line to ∷ pats) (value ∷ values) count placed rule fit =
      let rules = both_none (lines_of_field_pattern scope field (Equal line to)) (lines_of_pairs (lines_of_field_pattern scope) fields pats) rule in
      let parts = and_parts (fits_one start (Equal line to) value) (fits start pats values) fit in (
        one_given field (Equal line to) pats value values placed rules.0 parts.0,
        patterns_give fields pats values (omega (arith, count)) (later_placed (Equal line to) pats value values [] refl placed) rules.1 parts.1,
      )
