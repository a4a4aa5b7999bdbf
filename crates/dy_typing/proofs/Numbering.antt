-- Variables have values, and values are numbers of variables: at the start of a handler and after each statement.
use Rattle.std.proofs.Common.{◌≡◌, ℕ, suc, ◌+◌, ◌<◌, ◌≤◌, min, max, Bool, true, false, length, get_or, List, [], ◌∷◌, ◌++◌, map, zip, Option, Some, None, refl, sym, subst, inl, inr, arith}
use Rattle.std.specs.Prelude.{◌==◌, if◌then◌else◌, option_map, option_and_then, position, fold}
use Rattle.std.specs.Option.{option_map_or, option_to_list}
use Rattle.std.specs.Str.{bytes_eq}
use Rattle.std.proofs.lemmas.Bool.{cases_lt}
use Rattle.std.proofs.lemmas.List.{length-append, length-map, get_or_append_left, get_or_push, get_or-map}
use Rattle.std.proofs.lemmas.List.Quantifiers.{position-Some}
use Rattle.std.proofs.lemmas.Option.{unwrap_or-slice_get}
use Rattle.dy_label.specs.Words.{Atom, Prior, StaticLabel}
use Rattle.dy_label.specs.Labels.{Nobody, Meet}
use Rattle.dy_types.specs.Claims.{Known, Claim, plain, identify_with}
use Rattle.dy_types.specs.Facts.{first_of}
use Rattle.dy_types.specs.FieldTypes.{Declared, declared_claims, narrow_by}
use Rattle.dy_syntax.specs.Names.{Id, Nm, Named, Me, UseText}
use Rattle.dy_syntax.specs.Files.{Decl}
use Rattle.dy_syntax.specs.LookUps.{case_named, state_named}
use Rattle.dy_syntax.specs.Statements.{Pattern, Bind, Equal, Act, Handler}
use Rattle.dy_syntax.specs.Statements as s
use Rattle.dy_typing.specs.Names.{Setting, setting_of, name_number, number_in, case_stands, state_stands, patterns_names, each_or_none}
use Rattle.dy_typing.specs.Knowledge.{Knowledge, self_alone, known_at, known_of, value_of, bind, with_claims, add_fact, with_value, identify_value, claim_value, unite, same_values, same_names, add_event, IsWellNumbered}
use Rattle.dy_typing.specs.Instances.{label_in, use_in}
use Rattle.dy_typing.specs.Expressions.{known_of_expr}
use Rattle.dy_typing.specs.Effects.{types_in, case_events, state_events, guard_of_compared, vouching, shown_by, found_key, fresh, opened_with, verified_in, match_field, match_fields, Guarded, add_guarded, open_case, match_case, open_state, match_state, add_checked, check_fields, check_case, after, bind_plain, bound_first, start_of}

pub first_of-get_or : (first : List ℕ) (number : ℕ) → first_of first number ≡ get_or first number number
first_of-get_or first number = unwrap_or-slice_get first number number

-- A name's number is 0, or that of one of the words.
pub number_within : (words : List (List ℕ)) (name : Nm) (number : ℕ) → number_in words name ≡ Some number → number ≤ length words
number_within words (Me line) number is = let zero : 0 ≡ number = cc in omega arith
number_within words (Named id) number is = from (position (bytes_eq id.word) words) refl is where
  from : (at : Option ℕ) → position (bytes_eq id.word) words ≡ at → option_map suc at ≡ Some number → number ≤ length words
  from None found is = absurd cc
  from (Some before) found is =
      let below = (position-Some (bytes_eq id.word) words before [] found).0 in
      let next : suc before ≡ number = cc in
      omega arith

pub value_within : (k : Knowledge) (name : Nm) (value : ℕ) → IsWellNumbered k → value_of k name ≡ Some value → value < length k.first
value_within k name value numbered is = from (number_in k.words name) refl is where
  from : (at : Option ℕ) → number_in k.words name ≡ at → option_map (first_of k.first) at ≡ Some value → value < length k.first
  from None found is = absurd cc
  from (Some number) found is =
      let most = number_within k.words name number found in
      let words = numbered.words in
      let below = numbered.values number (omega arith) in
      let same : first_of k.first number ≡ value = cc in
      subst (λ (n : ℕ). n < length k.first) same below

first_of-push : (first : List ℕ) (number : ℕ) → ((number : ℕ) → number < length first → first_of first number < length first)
    → number < length first + 1 → first_of (first ++ length first ∷ []) number < length first + 1
first_of-push first number values below = elim (cases_lt number (length first)) [
  | inr last ↦
      let is = first_of-get_or (first ++ length first ∷ []) number in
      let pushed = get_or_push first (length first) number number (omega arith) in omega arith
  | inl before ↦
      let is = first_of-get_or (first ++ length first ∷ []) number in
      let was = first_of-get_or first number in
      let kept = get_or_append_left first (length first ∷ []) number number before in
      let least = values number before in omega arith
]

pub bind-numbered : (k : Knowledge) (word : List ℕ) (known : Known) → IsWellNumbered k → IsWellNumbered (bind k word known)
bind-numbered k word known numbered = record {
  words =
      let words = length-append k.words (word ∷ []) in
      let first = length-append k.first (length k.first ∷ []) in
      let below = numbered.words in omega arith;
  values = λ number below.
      let more : length (k.first ++ length k.first ∷ []) ≡ length k.first + 1 = length-append k.first (length k.first ∷ []) in
      let pushed = first_of-push k.first number numbered.values (subst (λ (n : ℕ). number < n) more below) in
      subst (λ (n : ℕ). first_of (k.first ++ length k.first ∷ []) number < n) (sym more) pushed;
}

with_value-numbered : (k : Knowledge) (number : ℕ) (known : Known) → IsWellNumbered k → IsWellNumbered (with_value k number known)
with_value-numbered k number known numbered = record { words = numbered.words; values = numbered.values }

-- the earlier of two values in the place of the later
abbrev pub renamed_number : ℕ → ℕ → ℕ → ℕ
renamed_number value other number = if number == max value other then min value other else number

renamed_number-below : (value other number bound : ℕ) → value < bound → number < bound → renamed_number value other number < bound
renamed_number-below value other number bound first third = chosen (number == max value other) where
  chosen : (b : Bool) → (if b then min value other else number) < bound
  chosen true = omega arith
  chosen false = third

pub unite-numbered : (k : Knowledge) (value other : ℕ) → value < length k.first → IsWellNumbered k → IsWellNumbered (unite k value other)
unite-numbered k value other inside numbered = record {
  words = let same = length-map k.first (renamed_number value other) in let below = numbered.words in omega arith;
  values = λ number below.
      let same = length-map k.first (renamed_number value other) in
      let within : number < length k.first = omega arith in
      let is = first_of-get_or (map (renamed_number value other) k.first) number in
      let at = get_or-map (renamed_number value other) k.first number number number within in
      let was = first_of-get_or k.first number in
      let least = renamed_number-below value other (get_or k.first number number) (length k.first) inside
      (subst (λ (n : ℕ). n < length k.first) was (numbered.values number within)) in
      omega arith;
}

-- what a function of knowledge that may not be called leaves
maybe : {A : Type 0} (k : Knowledge) (f : A → Knowledge) (given : Option A) → ((a : A) → given ≡ Some a → IsWellNumbered (f a)) → IsWellNumbered k
    → IsWellNumbered (option_map_or f given k)
maybe k f None called numbered = numbered
maybe k f (Some a) called numbered = called a refl

fold-numbered : {A : Type 0} (f : Knowledge → A → Knowledge) → ((k : Knowledge) (a : A) → IsWellNumbered k → IsWellNumbered (f k a))
    → (k : Knowledge) (xs : List A) → IsWellNumbered k → IsWellNumbered (fold f k xs)
fold-numbered f each k [] numbered = numbered
fold-numbered f each k (x ∷ xs) numbered = fold-numbered f each (f k x) xs (each k x numbered)

same_values-numbered : (k : Knowledge) (value other : ℕ) → value < length k.first → IsWellNumbered k → IsWellNumbered (same_values k value other)
same_values-numbered k value other inside numbered = chosen (value == other) where
  united : IsWellNumbered (unite k value other)
  united = unite-numbered k value other inside numbered

  chosen : (b : Bool) → IsWellNumbered (if b then k else with_value (unite k value other) (min value other)
      (identify_with (known_at k value) (known_at k other)))
  chosen true = numbered
  chosen false = record { words = united.words; values = united.values }

identify_value-numbered : (k : Knowledge) (name : Nm) (known : Known) → IsWellNumbered k → IsWellNumbered (identify_value k name known)
identify_value-numbered k name known numbered =
    maybe k (λ number. with_value k number (identify_with (known_at k number) known)) (value_of k name)
    (λ number is. record { words = numbered.words; values = numbered.values }) numbered

claim_value-numbered : (k : Knowledge) (name : Nm) (said : List Claim) → IsWellNumbered k → IsWellNumbered (claim_value k name said)
claim_value-numbered k name said numbered =
    maybe k (λ number. with_value k number (with_claims (known_at k number) said)) (value_of k name)
    (λ number is. record { words = numbered.words; values = numbered.values }) numbered

same_names-numbered : (k : Knowledge) (left right : Nm) → IsWellNumbered k → IsWellNumbered (same_names k left right)
same_names-numbered k left right numbered =
    maybe k (λ value. option_map_or (same_values k value) (value_of k right) k) (value_of k left)
    (λ value is. maybe k (same_values k value) (value_of k right)
    (λ other also. same_values-numbered k value other (value_within k left value numbered is) numbered) numbered) numbered

add_event-numbered : (k : Knowledge) (event : List ℕ) (names : Option (List Nm)) (guard : StaticLabel) → IsWellNumbered k → IsWellNumbered (add_event k event names guard)
add_event-numbered k event names guard numbered =
    maybe k (λ args. add_fact k (record { event = event; args = args; guard = guard }))
    (option_and_then (λ given. each_or_none (number_in k.words) given) names)
    (λ args is. record { words = numbered.words; values = numbered.values }) numbered

add_guarded-numbered : (k : Knowledge) (event : Guarded) → IsWellNumbered k → IsWellNumbered (add_guarded k event)
add_guarded-numbered k event numbered = add_event-numbered k event.event event.args event.guard numbered

match_field-numbered : (k : Knowledge) (pair : Pattern × Known) → IsWellNumbered k → IsWellNumbered (match_field k pair)
match_field-numbered k (Bind name, known) numbered = bind-numbered k name.word known numbered
match_field-numbered k (s.Named line name, known) numbered = bind-numbered k name.word plain numbered
match_field-numbered k (Equal line to, known) numbered = identify_value-numbered k to known numbered

match_fields-numbered : (k : Knowledge) (pats : List Pattern) (knowns : List Known) → IsWellNumbered k → IsWellNumbered (match_fields k pats knowns)
match_fields-numbered k pats knowns numbered = fold-numbered match_field match_field-numbered k (zip pats knowns) numbered

match_case-numbered : (setting : Setting) (k : Knowledge) (knowing : Declared → Known) (guard : StaticLabel) (usage : UseText) (tag : List ℕ) (pats : List Pattern)
    → IsWellNumbered k → IsWellNumbered (match_case setting k knowing guard usage tag pats)
match_case-numbered setting k knowing guard usage tag pats numbered =
    maybe k (open_case setting k knowing guard usage.args pats) (case_named setting.decls usage.usage.word tag)
    (λ case is. let stands = case_stands setting.decls usage.args case (patterns_names pats) in
    fold-numbered add_guarded add_guarded-numbered
    (match_fields k pats (map knowing (types_in setting stands None case.fields))) (case_events stands guard case)
    (match_fields-numbered k pats (map knowing (types_in setting stands None case.fields)) numbered)) numbered

match_state-numbered : (setting : Setting) (k : Knowledge) (here : Option Atom) (state : List ℕ) (pats : List Pattern)
    → IsWellNumbered k → IsWellNumbered (match_state setting k here state pats)
match_state-numbered setting k here state pats numbered =
    maybe k (open_state setting k here pats) (state_named setting.decls state)
    (λ declared is. let stands = state_stands declared (patterns_names pats) in
    let knowns = map (λ type. narrow_by type Nobody Nobody) (types_in setting stands here declared.fields) in
    fold-numbered add_guarded add_guarded-numbered (match_fields k pats knowns) (state_events setting stands here declared)
    (match_fields-numbered k pats knowns numbered)) numbered

check_case-numbered : (setting : Setting) (k : Knowledge) (key : Nm) (usage : UseText) (tag : List ℕ) (args : List Nm)
    → IsWellNumbered k → IsWellNumbered (check_case setting k key usage tag args)
check_case-numbered setting k key usage tag args numbered =
    let guard = (known_of k key).lo in
    maybe k (check_fields setting k guard usage.args args) (case_named setting.decls usage.usage.word tag)
    (λ case is. let stands = case_stands setting.decls usage.args case (map Some args) in
    let types = zip args (types_in setting stands None case.fields) in
    fold-numbered add_guarded add_guarded-numbered (fold (add_checked guard) k types) (case_events stands guard case)
    (fold-numbered (add_checked guard) (λ known pair. claim_value-numbered known pair.0 (declared_claims pair.1 guard)) k types numbered)) numbered

-- A statement keeps variables and values in order.
pub after-numbered : (setting : Setting) (k : Knowledge) (act : Act) → IsWellNumbered k → IsWellNumbered (after setting k act)
after-numbered setting k (s.New name usage label) numbered =
    bind-numbered k name.word (fresh (label_in (name_number setting) None label) (use_in (name_number setting) usage)) numbered
after-numbered setting k (s.Let name value) numbered = bind-numbered k name.word (known_of_expr setting.decls k value) numbered
after-numbered setting k (s.Event atom) numbered = add_event-numbered k atom.event.word (Some atom.args) Nobody numbered
after-numbered setting k (s.Send value) numbered = numbered
after-numbered setting k (s.Store state fields) numbered = numbered
after-numbered setting k (s.Certify key usage) numbered = numbered
after-numbered setting k (s.Find usage owner name) numbered = bind-numbered k name.word (found_key setting usage owner) numbered
after-numbered setting k (s.Recall state pats) numbered = match_state-numbered setting k None state.word pats numbered
after-numbered setting k (s.Split value tag pats) numbered =
    match_fields-numbered k pats (map (λ pat. shown_by (known_of k (Named value)) []) pats) numbered
after-numbered setting k (s.Opened value key usage tag pats ad) numbered =
    let guard = Meet (known_of k (Named key)).lo (guard_of_compared k pats) in
    match_case-numbered setting k (opened_with (known_of k (Named key)) guard) guard usage tag.text pats numbered
after-numbered setting k (s.Popened value key usage tag pats) numbered =
    let guard = guard_of_compared k pats in
    match_case-numbered setting k (opened_with (known_of k (Named key)) guard) guard usage tag.text pats numbered
after-numbered setting k (s.Verify value key usage tag pats) numbered =
    let guard = vouching (known_of k (Named key)) (use_in (name_number setting) usage) in
    match_case-numbered setting k (verified_in (known_of k (Named value)) guard) guard usage tag.text pats numbered
after-numbered setting k (s.Check value key usage tag args) numbered = check_case-numbered setting k (Named key) usage tag.text args numbered
after-numbered setting k (s.Same left right) numbered = same_names-numbered k left right numbered

self_alone-numbered : IsWellNumbered self_alone
self_alone-numbered = record {
  words = omega arith;
  values = λ number below. let none : number ≡ 0 = omega arith in subst (λ (n : ℕ). first_of (0 ∷ []) n < 1) (sym none) (omega arith);
}

-- Variables and values are in order at the start of a handler.
pub start_of-numbered : (decls : List Decl) (handler : Handler) → IsWellNumbered (start_of decls handler)
start_of-numbered decls handler =
    let plainly = λ (known : Knowledge) (name : Id) (numbered : IsWellNumbered known). bind-numbered known name.word plain numbered in
    let args = fold-numbered bind_plain plainly self_alone handler.args self_alone-numbered in
    let bound = fold-numbered bind_plain plainly (fold bind_plain self_alone handler.args) (option_to_list handler.recv) args in
    maybe (bound_first handler) (λ on. match_state (setting_of decls handler) (bound_first handler) (Some Prior) on.state.word on.pats) handler.on
    (λ on is. match_state-numbered (setting_of decls handler) (bound_first handler) (Some Prior) on.state.word on.pats bound) bound
