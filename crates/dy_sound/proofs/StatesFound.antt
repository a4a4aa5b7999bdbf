-- The state that `use` or the `on` part finds.
use Rattle.std.proofs.Common.{◌≡◌, ℕ, suc, Bool, true, false, List, [], ◌∷◌, Contains, Option, Some, None, if◌then◌else◌, inl, inr, refl, sym, ap, ◌∙◌}
use Rattle.std.specs.Prelude.{◌&&◌, ◌==◌, find, not}
use Rattle.std.specs.Option.{option_map, option_and_then}
use Rattle.std.specs.List.{slice_get, list_any}
use Rattle.std.specs.Str.{bytes_eq}
use Rattle.std.proofs.lemmas.Bool.{and_parts, eqb-true}
use Rattle.std.proofs.lemmas.Slice.Eq.{bytes_eq-Decides}
use Rattle.dy_term.specs.Terms.{Term}
use Rattle.dy_syntax.specs.Statements.{Pattern, OnPart}
use Rattle.dy_entry.specs.Entries.{Entry, Setup, Start, Fresh, Message, State, Event, Cert, End, Corrupt, Forge, Inject, Skip}
use Rattle.dy_entry.specs.LookUps.{newest, is_version_of, state_at}
use Rattle.dy_eval.specs.declared.written.Written.{Written}
use Rattle.dy_eval.specs.Doings.{Writes, Fails}
use Rattle.dy_eval.specs.Names.{Names}
use Rattle.dy_eval.specs.Past.{Stored, stored_by, state_in, fields_tagged, go_on, matches, stored_before, matches_first, recall}
use Rattle.dy_eval.specs.Patterns.{fits, written_by, match_if}
use Rattle.dy_sound.proofs.Lists.{Contains-none, Contains-cases}
use Rattle.dy_sound.proofs.Elements.{if_some}
use Rattle.dy_sound.proofs.MatchesAt.{find_passes}
use Rattle.dy_sound.proofs.ItemsPut.{and_then_is}
use Rattle.dy_sound.proofs.CertificatesFound.{found_stands}

-- a state that is found, and what its patterns write
pub record StateFound (X : List Entry) (names : Names) (tag : List ℕ) (pats : List Pattern) (session version : ℕ) (more : List Written) : Type 0 where
  pub index : ℕ
  pub instance : ℕ
  pub fields : List Term
  pub stands : slice_get X index ≡ Some (State instance names.principal session version tag fields)
  pub fit : fits names pats fields ≡ true
  pub more_is : written_by pats fields ≡ more

-- what stands in a list stands at an index
pub stands_at : {A : Type 0} (xs : List A) (x : A) → Contains xs x → (k : ℕ) × (slice_get xs k ≡ Some x)
stands_at [] x has = absurd (Contains-none x has)
stands_at (y ∷ xs) x has = elim (Contains-cases y xs x has) [
  | inl same ↦ (0, ap Some same)
  | inr later ↦ let rest = stands_at xs x later in (suc rest.0, rest.1)
]

matched_by : (test : Bool) (wrote more : List Written) → (if test then Writes wrote else Fails) ≡ Writes more → (test ≡ true) × (wrote ≡ more)
matched_by true wrote more is = (refl, cc)
matched_by false wrote more is = absurd cc

-- The fields, if they are matched, fit, and their patterns write this.
matched_is : (names : Names) (pats : List Pattern) (found : Option (List Term)) (more : List Written) → match_if names pats found ≡ Writes more
    → (fields : List Term) × (found ≡ Some fields) × (fits names pats fields ≡ true) × (written_by pats fields ≡ more)
matched_is names pats None more is = absurd cc
matched_is names pats (Some fields) more is = let parts = matched_by (fits names pats fields) (written_by pats fields) more is in (fields, refl, parts.0, parts.1)

-- what is mapped, where there is something
map_is : {A B : Type 0} (f : A → B) (found : Option A) (y : B) → option_map f found ≡ Some y → (x : A) × (found ≡ Some x) × (f x ≡ y)
map_is f None y is = absurd cc
map_is f (Some x) y is = (x, refl, cc)

-- an entry that stores something is a State
pub record IsStored (e : Entry) (stored : Stored) : Type 0 where
  pub instance : ℕ
  pub principal : List ℕ
  pub entry_is : e ≡ State instance principal stored.session stored.version stored.tag stored.fields

is_stored : (e : Entry) (stored : Stored) → stored_by e ≡ Some stored → IsStored e stored
is_stored (State instance principal session version tag fields) stored is =
    let own : Stored = record { tag = tag; session = session; version = version; fields = fields } in
    let same : own ≡ stored = cc in
    record {
      instance = instance;
      principal = principal;
      entry_is = ap (λ (s : Stored). State instance principal s.session s.version s.tag s.fields) same;
    }
is_stored (Setup input) stored is = absurd cc
is_stored (Start step handler p session args message) stored is = absurd cc
is_stored (Fresh instance label u) stored is = absurd cc
is_stored (Message instance value) stored is = absurd cc
is_stored (Event instance p name args) stored is = absurd cc
is_stored (Cert instance p u key) stored is = absurd cc
is_stored (End instance outcome) stored is = absurd cc
is_stored (Corrupt step corruption) stored is = absurd cc
is_stored (Forge step) stored is = absurd cc
is_stored (Inject step value) stored is = absurd cc
is_stored (Skip step) stored is = absurd cc

state_is : (instance : ℕ) (principal other : List ℕ) (session other_session version other_version : ℕ) (tag other_tag : List ℕ) (fields other_fields : List Term)
    → principal ≡ other → session ≡ other_session → version ≡ other_version → tag ≡ other_tag → fields ≡ other_fields
    → State instance principal session version tag fields ≡ State instance other other_session other_version other_tag other_fields
state_is instance principal other session other_session version other_version tag other_tag fields other_fields one two three four five = cc

stands_as : (X : List Entry) (index : ℕ) (e : Entry) {other : Entry} → slice_get X index ≡ Some e → e ≡ other → slice_get X index ≡ Some other
stands_as X index e at is = at ∙ ap Some is

-- A State that matches is one of this principal with this tag.
matching_state : (names : Names) (tag : List ℕ) (pats : List Pattern) (e : Entry) (stored : Stored) (fields : List Term)
    → IsStored e stored → matches names tag pats e ≡ true → stored.fields ≡ fields
    → (instance : ℕ) × (e ≡ State instance names.principal stored.session stored.version tag fields)
matching_state names tag pats e stored fields of passes fields_are =
    let tests = and_parts (bytes_eq of.principal names.principal && bytes_eq stored.tag tag) (fits names pats stored.fields) (sym (ap (matches names tag pats) of.entry_is) ∙ passes) in
    let words = and_parts (bytes_eq of.principal names.principal) (bytes_eq stored.tag tag) tests.0 in (
      of.instance,
      of.entry_is ∙ state_is of.instance of.principal names.principal stored.session stored.session stored.version stored.version stored.tag tag stored.fields fields
          ((bytes_eq-Decides of.principal names.principal).0 words.0) refl refl ((bytes_eq-Decides stored.tag tag).0 words.1) fields_are,
    )

-- A State that is a version of a session has its number.
version_state : (principal : List ℕ) (session version : ℕ) (e : Entry) (stored : Stored) (tag : List ℕ) (fields : List Term)
    → IsStored e stored → is_version_of principal session version e ≡ true → stored.tag ≡ tag → stored.fields ≡ fields
    → (instance : ℕ) × (e ≡ State instance principal session version tag fields)
version_state principal session version e stored tag fields of passes tag_is fields_are =
    let tests = and_parts (bytes_eq of.principal principal && (stored.session == session)) (stored.version == version) (sym (ap (is_version_of principal session version) of.entry_is) ∙ passes) in
    let first = and_parts (bytes_eq of.principal principal) (stored.session == session) tests.0 in (
      of.instance,
      of.entry_is ∙ state_is of.instance of.principal principal stored.session session stored.version version stored.tag tag stored.fields fields
          ((bytes_eq-Decides of.principal principal).0 first.0) (eqb-true stored.session session first.1) (eqb-true stored.version version tests.1) tag_is fields_are,
    )

module _ (X : List Entry) (names : Names) (pats : List Pattern) (more : List Written) where
  -- The state that `use` finds is one of this principal with this tag.
  pub recalled_state : (tag : List ℕ) → recall X names tag pats ≡ Writes more → (session version : ℕ) × StateFound X names tag pats session version more
  recalled_state tag is =
      let found = find (matches_first X names tag pats) X in
      let wrote = matched_is names pats (option_map (λ (s : Stored). s.fields) (option_and_then stored_by found)) more is in
      let of = map_is (λ (s : Stored). s.fields) (option_and_then stored_by found) wrote.0 wrote.1 in
      let entry = and_then_is stored_by found of.0 of.1 in
      let passes = find_passes (matches_first X names tag pats) X entry.0 entry.1 in
      let first = (and_parts (matches names tag pats entry.0) (not (list_any (λ other. matches names tag pats other && stored_before other entry.0) X)) passes.1).0 in
      let state = matching_state names tag pats entry.0 of.0 wrote.0 (is_stored entry.0 of.0 entry.2) first of.2 in
      let at = stands_at X entry.0 passes.0 in (
        of.0.session,
        of.0.version,
        record {
          index = at.0;
          instance = state.0;
          fields = wrote.0;
          stands = stands_as X at.0 entry.0 at.1 state.1;
          fit = wrote.2;
          more_is = wrote.3;
        },
      )

-- The state that a handler goes on from is the newest version of its session, with this tag.
pub state_gone_on : (X : List Entry) (names : Names) (more : List Written) (on : OnPart) → go_on X names on ≡ Writes more
    → StateFound X names on.state.word on.pats names.session (newest X names.principal names.session) more
state_gone_on X names more on is =
    let at_start = newest X names.principal names.session in
    let found = state_at X names.principal names.session at_start in
    let wrote = matched_is names on.pats (option_and_then (fields_tagged on.state.word) (option_and_then (state_in X) found)) more is in
    let of = and_then_is (fields_tagged on.state.word) (option_and_then (state_in X) found) wrote.0 wrote.1 in
    let tagged = if_some (bytes_eq of.0.tag on.state.word) of.0.fields wrote.0 of.2 in
    let index = and_then_is (state_in X) found of.0 of.1 in
    let entry = and_then_is stored_by (slice_get X index.0) of.0 index.2 in
    let passes = found_stands (is_version_of names.principal names.session at_start) X index.0 entry.0 index.1 entry.1 in
    let state = version_state names.principal names.session at_start entry.0 of.0 on.state.word wrote.0 (is_stored entry.0 of.0 entry.2) passes
    ((bytes_eq-Decides of.0.tag on.state.word).0 tagged.0) tagged.1 in
    record {
      index = index.0;
      instance = state.0;
      fields = wrote.0;
      stands = stands_as X index.0 entry.0 entry.1 state.1;
      fit = wrote.2;
      more_is = wrote.3;
    }
