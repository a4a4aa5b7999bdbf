-- The State that `use` takes.
use Rattle.std.proofs.Common.{◌≡◌, ◌∙◌, ap, sym, subst, ℕ, ◌<◌, Bool, true, false, ◌&&◌, not, Option, Some, None, List, refl, inl, inr, arith, if◌then◌else◌}
use Rattle.std.specs.Prelude.{slice_get, count_by}
use Rattle.std.specs.List.{list_any}
use Rattle.std.specs.Option.{option_map, option_map_or, option_and_then}
use Rattle.std.specs.Str.{bytes_eq}
use Rattle.std.proofs.lemmas.Bool.{cases_Bool}
use Rattle.std.proofs.lemmas.Bool.{and_parts, and_from}
use Rattle.std.proofs.lemmas.Slice.Eq.{bytes_eq-Decides}
use Rattle.dy_term.specs.Terms.{Term}
use Rattle.dy_label.specs.StateOrder.{comes_before, is_after}
use Rattle.dy_syntax.specs.Statements.{Pattern}
use Rattle.dy_entry.specs.Entries.{Entry, Setup, Start, Fresh, Message, State, Event, Cert, End, Corrupt, Forge, Inject, Skip}
use Rattle.dy_entry.specs.LookUps.{place_of_state, Fits, IsNext, HasNoNext}
use Rattle.dy_eval.specs.Names.{Names}
use Rattle.dy_eval.specs.Patterns.{fits, match_if}
use Rattle.dy_eval.specs.Past.{Stored, stored_by, state_in, matches, stored_before, matches_first, recall, HasEachVersionOnce}
use Rattle.dy_eval.specs.MirrorPast.{FoundNext}
use Rattle.dy_eval.proofs.Found.{find_none, find_only, none_passes, one_fails}
use Rattle.dy_eval.proofs.Counting.{fewer}

abbrev pub At : Type 0
At = ℕ × ℕ

-- the session and version of an entry, if it is a State
abbrev pub at_of : Entry → At
at_of (State instance principal session version tag fields) = (session, version)
at_of e = (0, 0)

same_bytes : (a b : List ℕ) → bytes_eq a b ≡ true → a ≡ b
same_bytes a b h = (bytes_eq-Decides a b).0 h

own_bytes : (a : List ℕ) → bytes_eq a a ≡ true
own_bytes a = (bytes_eq-Decides a a).1 refl

-- The entry is a State of this principal and tag.
pub record IsState (principal tag : List ℕ) (e : Entry) : Type 0 where
  pub instance : ℕ
  pub session : ℕ
  pub version : ℕ
  pub fields : List Term
  pub is : e ≡ State instance principal session version tag fields

placed : (p principal t tag : List ℕ) (s v : ℕ) (at : At) → (if bytes_eq p principal && bytes_eq t tag then Some (s, v) else None) ≡ Some at
    → (p ≡ principal) × (t ≡ tag) × ((s, v) ≡ at)
placed p principal t tag s v at is = elim (cases_Bool (bytes_eq p principal && bytes_eq t tag)) [
  | inl same ↦ let h = and_parts (bytes_eq p principal) (bytes_eq t tag) same in let k = rw same at is in (same_bytes p principal h.0, same_bytes t tag h.1, cc)
  | inr other ↦ let k = rw other at is in absurd (grind (arith, k))
]

-- what has a place is a State
pub state_placed : (principal tag : List ℕ) (e : Entry) (at : At) → place_of_state principal tag e ≡ Some at → IsState principal tag e
state_placed principal tag (State i p s v t f) at is =
    let h = placed p principal t tag s v at is in
    record { instance = i; session = s; version = v; fields = f; is = ap (λ q. State i q s v t f) h.0 ∙ ap (λ u. State i principal s v u f) h.1 }
state_placed principal tag (Setup a) at is = grind arith
state_placed principal tag (Start a b d e f g) at is = grind arith
state_placed principal tag (Fresh a b d) at is = grind arith
state_placed principal tag (Message a b) at is = grind arith
state_placed principal tag (Event a b d e) at is = grind arith
state_placed principal tag (Cert a b d e) at is = grind arith
state_placed principal tag (End a b) at is = grind arith
state_placed principal tag (Corrupt a b) at is = grind arith
state_placed principal tag (Forge a) at is = grind arith
state_placed principal tag (Inject a b) at is = grind arith
state_placed principal tag (Skip a) at is = grind arith

-- a State of this principal and tag has its place
pub has_place : (i : ℕ) (principal : List ℕ) (s v : ℕ) (tag : List ℕ) (f : List Term) → place_of_state principal tag (State i principal s v tag f) ≡ Some (s, v)
has_place i principal s v tag f = rw (own_bytes principal, own_bytes tag) refl

-- the next State of the trace is found by its index
pub found_next : (X : List Entry) (principal tag : List ℕ) (from : Option At) (index : ℕ) (s : Stored)
    → IsNext X principal tag from index → state_in X index ≡ Some s → FoundNext X principal tag from s
found_next X principal tag from index s next is =
    let e = next.fits.0 in
    let h = state_placed principal tag e next.at next.fits.2 in
    let here : slice_get X index ≡ Some (State h.instance principal h.session h.version tag h.fields) = next.fits.1 ∙ ap Some h.is in
    let place : (h.session, h.version) ≡ next.at = at_same (sym (has_place h.instance principal h.session h.version tag h.fields) ∙ ap (place_of_state principal tag) (sym h.is) ∙ next.fits.2) in
    let k : s ≡ record { tag = tag; session = h.session; version = h.version; fields = h.fields } = stored_same (sym is ∙ ap (option_and_then stored_by) here) in
    subst (FoundNext X principal tag from) (sym k) (record {
      index = index;
      instance = h.instance;
      stands = here;
      after = ap (is_after from) place ∙ next.fits.3;
      first = λ other at f. ap (comes_before at) place ∙ next.first other at f;
    })
  where
    at_same : {a b : At} → Some a ≡ Some b → a ≡ b
    at_same e = cc

    stored_same : {a b : Stored} → Some a ≡ Some b → a ≡ b
    stored_same e = cc

-- and it is a State
pub next_is_state : (X : List Entry) (principal tag : List ℕ) (from : Option At) (index : ℕ) → IsNext X principal tag from index → state_in X index ≡ None → ⊥
next_is_state X principal tag from index next is =
    let h = state_placed principal tag next.fits.0 next.at next.fits.2 in
    let here = sym is ∙ ap (option_and_then stored_by) (next.fits.1 ∙ ap Some h.is) in
    grind (arith, here)

-- The entry is a State of this tag and of the instance's principal, and its fields match.
record Match (names : Names) (tag : List ℕ) (patterns : List Pattern) (e : Entry) : Type 0 where
  state : IsState names.principal tag e
  fit : fits names patterns state.fields ≡ true

match_of : (names : Names) (tag : List ℕ) (patterns : List Pattern) (e : Entry) → matches names tag patterns e ≡ true → Match names tag patterns e
match_of names tag patterns (State i p s v t f) h =
    let k = and_parts (bytes_eq p names.principal && bytes_eq t tag) (fits names patterns f) h in
    let m = and_parts (bytes_eq p names.principal) (bytes_eq t tag) k.0 in
    record {
      state = record { instance = i; session = s; version = v; fields = f; is = ap (λ q. State i q s v t f) (same_bytes p names.principal m.0) ∙ ap (λ u. State i names.principal s v u f) (same_bytes t tag m.1) };
      fit = k.1;
    }
match_of names tag patterns (Setup a) h = grind arith
match_of names tag patterns (Start a b d e f g) h = grind arith
match_of names tag patterns (Fresh a b d) h = grind arith
match_of names tag patterns (Message a b) h = grind arith
match_of names tag patterns (Event a b d e) h = grind arith
match_of names tag patterns (Cert a b d e) h = grind arith
match_of names tag patterns (End a b) h = grind arith
match_of names tag patterns (Corrupt a b) h = grind arith
match_of names tag patterns (Forge a) h = grind arith
match_of names tag patterns (Inject a b) h = grind arith
match_of names tag patterns (Skip a) h = grind arith

state_matches : (names : Names) (tag : List ℕ) (patterns : List Pattern) (i s v : ℕ) (f : List Term)
    → matches names tag patterns (State i names.principal s v tag f) ≡ fits names patterns f
state_matches names tag patterns i s v f = rw (own_bytes names.principal, own_bytes tag) refl

-- the order of look-ups is total
abbrev Total : Type 0
Total = (a b : At) → comes_before a b ≡ false → comes_before b a ≡ false → a ≡ b

-- All that match come after what is given.
abbrev pub Passed : List Entry → Names → List ℕ → List Pattern → Option At → Type 0
Passed X names tag patterns from = (i : ℕ) (e : Entry) → slice_get X i ≡ Some e → matches names tag patterns e ≡ true → is_after from (at_of e) ≡ true

fits_there : (X : List Entry) (principal tag : List ℕ) (from : Option At) (i : ℕ) (e : Entry) → slice_get X i ≡ Some e → IsState principal tag e
    → is_after from (at_of e) ≡ true → Fits X principal tag from i (at_of e)
fits_there X principal tag from i e there state after =
    (e, there, ap (place_of_state principal tag) state.is ∙ has_place state.instance principal state.session state.version tag state.fields ∙ ap (λ x. Some (at_of x)) (sym state.is), after)

before_as : (x : Entry) (i : ℕ) (p : List ℕ) (s v : ℕ) (t : List ℕ) (f : List Term) (principal tag : List ℕ) → IsState principal tag x
    → stored_before x (State i p s v t f) ≡ comes_before (at_of x) (s, v)
before_as x i p s v t f principal tag state = ap (λ e. stored_before e (State i p s v t f)) state.is ∙ sym (ap (λ e. comes_before (at_of e) (s, v)) state.is)

after_as : (x : Entry) (i : ℕ) (p : List ℕ) (s v : ℕ) (t : List ℕ) (f : List Term) (principal tag : List ℕ) → IsState principal tag x
    → stored_before (State i p s v t f) x ≡ comes_before (s, v) (at_of x)
after_as x i p s v t f principal tag state = ap (stored_before (State i p s v t f)) state.is ∙ sym (ap (λ e. comes_before (s, v) (at_of e)) state.is)

module _ (X : List Entry) (names : Names) (tag : List ℕ) (patterns : List Pattern) (from : Option At) (s : Stored)
    (found : FoundNext X names.principal tag from s) (total : Total) (once : HasEachVersionOnce X) (passed : Passed X names tag patterns from) where
  -- the State that was found
  abbrev here : Entry
  here = State found.instance names.principal s.session s.version tag s.fields

  none_before : (i : ℕ) (x : Entry) → slice_get X i ≡ Some x → matches names tag patterns x ≡ true → comes_before (at_of x) (s.session, s.version) ≡ false
  none_before i x there match =
      found.first i (at_of x) (fits_there X names.principal tag from i x there (match_of names tag patterns x match).state (passed i x there match))

  -- what matches and comes neither before nor after it is this State
  same_state : (i : ℕ) (x : Entry) → slice_get X i ≡ Some x → matches names tag patterns x ≡ true → comes_before (s.session, s.version) (at_of x) ≡ false → x ≡ here
  same_state i x there match not_after =
      let state = (match_of names tag patterns x match).state in
      let at : at_of x ≡ (s.session, s.version) = total (at_of x) (s.session, s.version) (none_before i x there match) not_after in
      let place : (state.session, state.version) ≡ (s.session, s.version) = sym (ap at_of state.is) ∙ at in
      let stands : slice_get X i ≡ Some (State state.instance names.principal s.session s.version tag state.fields) =
      there ∙ ap Some (state.is ∙ ap (λ a. State state.instance names.principal a.0 a.1 tag state.fields) place) in
      let same : i ≡ found.index = once i found.index state.instance found.instance names.principal s.session s.version tag tag state.fields s.fields stands found.stands in
      the_same (sym there ∙ ap (slice_get X) same ∙ found.stands)
    where
      the_same : {a b : Entry} → Some a ≡ Some b → a ≡ b
      the_same e = cc

  not_before : (i : ℕ) (x : Entry) → slice_get X i ≡ Some x → (matches names tag patterns x && stored_before x here) ≡ false
  not_before i x there = elim (cases_Bool (matches names tag patterns x)) [
    | inl match ↦ ap (λ b. b && stored_before x here) match
        ∙ before_as x found.instance names.principal s.session s.version tag s.fields names.principal tag (match_of names tag patterns x match).state ∙ none_before i x there match
    | inr other ↦ ap (λ b. b && stored_before x here) other
  ]

  module _ (fit : fits names patterns s.fields ≡ true) where
    here_matches : matches names tag patterns here ≡ true
    here_matches = state_matches names tag patterns found.instance s.session s.version s.fields ∙ fit

    is_first : matches_first X names tag patterns here ≡ true
    is_first = and_from _ _ here_matches (ap not (none_passes (λ other. matches names tag patterns other && stored_before other here) X not_before))

    only_first : (j : ℕ) (y : Entry) → slice_get X j ≡ Some y → matches_first X names tag patterns y ≡ true → y ≡ here
    only_first j y there first =
        let h = and_parts (matches names tag patterns y) (not (list_any (λ other. matches names tag patterns other && stored_before other y) X)) first in
        let none = one_fails (λ other. matches names tag patterns other && stored_before other y) X found.index here (not_true _ h.1) found.stands in
        let apart : stored_before here y ≡ false = sym (ap (λ b. b && stored_before here y) here_matches) ∙ none in
        same_state j y there h.0 (sym (after_as y found.instance names.principal s.session s.version tag s.fields names.principal tag (match_of names tag patterns y h.0).state) ∙ apart)
      where
        not_true : (b : Bool) → not b ≡ true → b ≡ false
        not_true true e = absurd (grind arith)
        not_true false e = refl

    -- The State that was found is the one that is recalled.
    pub recalled_found : recall X names tag patterns ≡ match_if names patterns (Some s.fields)
    recalled_found =
        ap (λ e. match_if names patterns (option_map (λ k. k.fields) (option_and_then stored_by e)))
        (find_only (matches_first X names tag patterns) X found.index here found.stands is_first only_first)

  -- Where it does not match, all that match come after it.
  pub passes_on : fits names patterns s.fields ≡ false → Passed X names tag patterns (Some (s.session, s.version))
  passes_on unfit i e there match = elim (cases_Bool (comes_before (s.session, s.version) (at_of e))) [
    | inl after ↦ after
    | inr not_after ↦
        let same = same_state i e there match not_after in
        let h : true ≡ false = sym match ∙ ap (matches names tag patterns) same ∙ state_matches names tag patterns found.instance s.session s.version s.fields ∙ unfit in
        absurd (grind (arith, h))
  ]

-- Where none is left, none is recalled.
pub recalled_none : (X : List Entry) (names : Names) (tag : List ℕ) (patterns : List Pattern) (from : Option At)
    → HasNoNext X names.principal tag from → Passed X names tag patterns from → recall X names tag patterns ≡ match_if names patterns None
recalled_none X names tag patterns from none passed =
    ap (λ e. match_if names patterns (option_map (λ k. k.fields) (option_and_then stored_by e)))
    (find_none (matches_first X names tag patterns) X (λ i x there first.
    let h = and_parts (matches names tag patterns x) (not (list_any (λ other. matches names tag patterns other && stored_before other x) X)) first in
    none i (at_of x) (fits_there X names.principal tag from i x there (match_of names tag patterns x h.0).state (passed i x there h.0))))

-- the entry is a State of this principal and tag after what is given
abbrev pub is_left : List ℕ → List ℕ → Option At → Entry → Bool
is_left principal tag from e = option_map_or (is_after from) (place_of_state principal tag e) false

after_less : ((a b d : At) → comes_before a b ≡ true → comes_before b d ≡ true → comes_before a d ≡ true) → (from : Option At) (at : At) → is_after from at ≡ true
    → (o : Option At) → option_map_or (is_after (Some at)) o false ≡ true → option_map_or (is_after from) o false ≡ true
after_less through from at after None h = h
after_less through None at after (Some other) h = refl
after_less through (Some first) at after (Some other) h = through first at other after h

-- Fewer States are left after the next one.
pub fewer_left : ((a : At) → comes_before a a ≡ false) → ((a b d : At) → comes_before a b ≡ true → comes_before b d ≡ true → comes_before a d ≡ true)
    → (X : List Entry) (principal tag : List ℕ) (from : Option At) (s : Stored) → FoundNext X principal tag from s
    → count_by (is_left principal tag (Some (s.session, s.version))) X < count_by (is_left principal tag from) X
fewer_left itself through X principal tag from s found =
    let place = has_place found.instance principal s.session s.version tag s.fields in
    fewer (is_left principal tag (Some (s.session, s.version))) (is_left principal tag from) X found.index (State found.instance principal s.session s.version tag s.fields)
    (λ i x there h. after_less through from (s.session, s.version) found.after (place_of_state principal tag x) h) found.stands
    (ap (λ o. option_map_or (is_after (Some (s.session, s.version))) o false) place ∙ itself (s.session, s.version))
    (ap (λ o. option_map_or (is_after from) o false) place ∙ found.after)
