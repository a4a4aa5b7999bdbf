-- In a well-formed file no variable of a handler has the word of one of its names.
use Rattle.std.proofs.Common.{◌≡◌, ℕ, ◌+◌, ◌≤◌, Bool, true, false, List, [], ◌∷◌, ◌++◌, map, Contains, inl, inr, refl, sym, ap, ◌∙◌, arith, filter}
use Rattle.std.specs.Option.{option_to_list}
use Rattle.std.specs.List.{flat_map}
use Rattle.std.specs.Str.{bytes_eq}
use Rattle.std.proofs.lemmas.Slice.Eq.{bytes_eq-Decides}
use Rattle.dy_syntax.specs.Names.{Id}
use Rattle.dy_syntax.specs.Statements as statements
use Rattle.dy_syntax.specs.Statements.{Pattern, Bind, Named, Equal, Act, Statement}
use Rattle.dy_syntax.specs.Files.{Handler, File}
use Rattle.dy_syntax.specs.Scopes.{is_among, words_of, no_scope, bound_first, pattern_binds, pattern_names, on_pats, act_pats, act_variable, act_binds, variables, handler_names}
use Rattle.dy_syntax.specs.Parts.{Bound}
use Rattle.dy_syntax.specs.Rules.Doubles.{same_word, lines_of_same_names}
use Rattle.dy_syntax.specs.Rules.{IsWellFormed}
use Rattle.dy_sound.proofs.Lists.{Contains-none, Contains-cases}
use Rattle.dy_sound.proofs.NoFaults.{no_fault, variables_place}

-- what a pattern binds to any value
abbrev pub plain_binds : Pattern → List Id
plain_binds (Bind name) = name ∷ []
plain_binds (Named line name) = []
plain_binds (Equal line to) = []

-- what a statement binds to any value
abbrev pub act_plain : Act → List Id
act_plain act = act_variable act ++ flat_map plain_binds (act_pats act)

-- the variables of a handler that are no names
abbrev pub plain_variables : statements.Handler → List Id
plain_variables handler =
    flat_map plain_binds (on_pats handler) ++ option_to_list handler.recv ++ flat_map (λ s. act_plain s.act) handler.body

abbrev pub one_if : Bool → ℕ
one_if true = 1
one_if false = 0

-- how many have this word
abbrev pub how_many : List ℕ → List Id → ℕ
how_many word [] = 0
how_many word (id ∷ ids) = one_if (bytes_eq word id.word) + how_many word ids

module _ (word : List ℕ) where
  pub count_append : (xs ys : List Id) → how_many word (xs ++ ys) ≡ how_many word xs + how_many word ys
  count_append [] ys = omega arith
  count_append (x ∷ xs) ys = let rest = count_append xs ys in omega (arith, rest)

  -- The words of each element are split in two, and so are those of all.
  count_split : {A : Type 0} (all some others : A → List Id) → ((x : A) → how_many word (all x) ≡ how_many word (some x) + how_many word (others x))
      → (xs : List A) → how_many word (flat_map all xs) ≡ how_many word (flat_map some xs) + how_many word (flat_map others xs)
  count_split all some others split [] = refl
  count_split all some others split (x ∷ xs) =
      let here = split x in
      let rest = count_split all some others split xs in
      let a = count_append (all x) (flat_map all xs) in
      let b = count_append (some x) (flat_map some xs) in
      let c = count_append (others x) (flat_map others xs) in
      omega (arith, here, rest, a, b, c)

  split_pattern : (pattern : Pattern) → how_many word (pattern_binds pattern) ≡ how_many word (pattern_names pattern) + how_many word (plain_binds pattern)
  split_pattern (Bind name) = omega arith
  split_pattern (Named line name) = omega arith
  split_pattern (Equal line to) = omega arith

  split_act : (statement : Statement) → how_many word (act_binds statement.act)
      ≡ how_many word (flat_map pattern_names (act_pats statement.act)) + how_many word (act_plain statement.act)
  split_act statement =
      let variable = act_variable statement.act in
      let pats = act_pats statement.act in
      let parts = count_split pattern_binds pattern_names plain_binds split_pattern pats in
      let a = count_append variable (flat_map pattern_binds pats) in
      let b = count_append variable (flat_map plain_binds pats) in
      omega (arith, parts, a, b)

  -- Of the variables of a handler, each is a name or none.
  split_variables : (handler : statements.Handler) → how_many word (variables handler) ≡ how_many word (handler_names handler) + how_many word (plain_variables handler)
  split_variables handler =
      let on = on_pats handler in
      let recv = option_to_list handler.recv in
      let body_binds = flat_map (λ (s : Statement). act_binds s.act) handler.body in
      let body_names = flat_map (λ (s : Statement). flat_map pattern_names (act_pats s.act)) handler.body in
      let body_plain = flat_map (λ (s : Statement). act_plain s.act) handler.body in
      let on_parts = count_split pattern_binds pattern_names plain_binds split_pattern on in
      let body_parts = count_split (λ (s : Statement). act_binds s.act) (λ (s : Statement). flat_map pattern_names (act_pats s.act)) (λ (s : Statement). act_plain s.act) split_act handler.body in
      let a1 = count_append (flat_map pattern_binds on ++ bound_first handler) body_binds in
      let a2 = count_append (flat_map pattern_binds on) (bound_first handler) in
      let a3 = count_append handler.args recv in
      let b1 = count_append (handler.args ++ flat_map pattern_names on) body_names in
      let b2 = count_append handler.args (flat_map pattern_names on) in
      let c1 = count_append (flat_map plain_binds on ++ recv) body_plain in
      let c2 = count_append (flat_map plain_binds on) recv in
      omega (arith, on_parts, body_parts, a1, a2, a3, b1, b2, c1, c2)

  same_bytes : (other : List ℕ) → word ≡ other → bytes_eq word other ≡ true
  same_bytes other same = (bytes_eq-Decides word other).1 same

  counted_first : (x : Id) (xs : List Id) → bytes_eq word x.word ≡ true → 1 ≤ how_many word (x ∷ xs)
  counted_first x xs eq = rw eq (omega arith)

  counted_later : (x : Id) (xs : List Id) → 1 ≤ how_many word xs → 1 ≤ how_many word (x ∷ xs)
  counted_later x xs rest = omega (arith, rest)

  -- What is in the list is counted.
  pub count_of_member : (id : Id) → word ≡ id.word → (ids : List Id) → Contains ids id → 1 ≤ how_many word ids
  count_of_member id is [] stands = absurd (Contains-none id stands)
  count_of_member id is (x ∷ xs) stands = elim (Contains-cases x xs id stands) [
    | inl same ↦ counted_first x xs (same_bytes x.word (is ∙ sym (ap (λ (i : Id). i.word) same)))
    | inr later ↦ counted_later x xs (count_of_member id is xs later)
  ]

  word_step : (x : Id) (xs : List Id) → is_among word (words_of (x ∷ xs)) ≡ true → (is_among word (words_of xs) ≡ true → 1 ≤ how_many word xs)
      → 1 ≤ how_many word (x ∷ xs)
  word_step x xs among rest = at (bytes_eq word x.word) refl where
    at : (b : Bool) → bytes_eq word x.word ≡ b → 1 ≤ how_many word (x ∷ xs)
    at true eq = counted_first x xs eq
    at false eq = counted_later x xs (rest (rw eq at among))

  -- a word among those of a list is counted
  pub count_of_word : (ids : List Id) → is_among word (words_of ids) ≡ true → 1 ≤ how_many word ids
  count_of_word [] among = absurd cc
  count_of_word (x ∷ xs) among = word_step x xs among (count_of_word xs)

  abbrev lines_like : Id → List Id → List ℕ
  lines_like first ids = map (λ id. id.line) (filter (same_word first) ids)

  none_step : (first x : Id) (xs : List Id) → word ≡ first.word → lines_like first (x ∷ xs) ≡ [] → (lines_like first xs ≡ [] → how_many word xs ≡ 0)
      → how_many word (x ∷ xs) ≡ 0
  none_step first x xs is none rest = at (bytes_eq first.word x.word) refl where
    at : (b : Bool) → bytes_eq first.word x.word ≡ b → how_many word (x ∷ xs) ≡ 0
    at true eq = let none_here = rw eq at none in absurd cc
    at false eq = let left = rest (rw eq at none) in rw (is, eq) (omega (arith, left))

  -- No other has the word of the first, where none stands like it.
  none_left : (first : Id) → word ≡ first.word → (more : List Id) → lines_like first more ≡ [] → how_many word more ≡ 0
  none_left first is [] none = refl
  none_left first is (x ∷ xs) none = none_step first x xs is none (none_left first is xs)

  both_none : {A : Type 0} (xs ys : List A) → xs ++ ys ≡ [] → (xs ≡ []) × (ys ≡ [])
  both_none [] ys none = (refl, none)
  both_none (x ∷ xs) ys none = absurd cc

  once_step : (x : Id) (xs : List Id) → (word ≡ x.word → how_many word xs ≡ 0) → how_many word xs ≤ 1 → how_many word (x ∷ xs) ≤ 1
  once_step x xs first rest = at (bytes_eq word x.word) refl where
    at : (b : Bool) → bytes_eq word x.word ≡ b → how_many word (x ∷ xs) ≤ 1
    at true eq = let left = first ((bytes_eq-Decides word x.word).0 eq) in rw eq (omega (arith, left))
    at false eq = rw eq (omega (arith, rest))

  -- Where no name stands twice, one at most has the word.
  pub at_most_one : (ids : List Id) → lines_of_same_names ids ≡ [] → how_many word ids ≤ 1
  at_most_one [] none = omega arith
  at_most_one (x ∷ xs) none =
      let parts = both_none (lines_like x xs) (lines_of_same_names xs) none in
      once_step x xs (λ is. none_left x is xs parts.0) (at_most_one xs parts.1)

pub names_apart : (file : File) → IsWellFormed file → (handler : statements.Handler) → Contains file.decls (Handler handler)
    → (id : Id) → Contains (plain_variables handler) id → is_among id.word (words_of (handler_names handler)) ≡ true → ⊥
names_apart file well_formed handler stands id plain among =
    let once = at_most_one id.word (variables handler)
    (no_fault file well_formed (record { scope = no_scope; part = Bound (variables handler) }) (variables_place file handler stands)).rule_5 in
    let split = split_variables id.word handler in
    let name = count_of_word id.word (handler_names handler) among in
    let other = count_of_member id.word id refl (plain_variables handler) plain in
    omega (arith, once, split, name, other)
