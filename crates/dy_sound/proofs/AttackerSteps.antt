-- A good trace stays good with what neither starts an instance nor is put by one, and with an injected value.
use Rattle.std.proofs.Common.{◌≡◌, ℕ, Bool, true, false, List, [], ◌∷◌, ◌++◌, length, Some, refl, sym, subst, ◌∙◌}
use Rattle.std.specs.List.{slice_get}
use Rattle.dy_term.specs.Terms.{Term}
use Rattle.dy_label.specs.Labels.{Place}
use Rattle.dy_label.specs.declared.usages.Outcome.{Outcome}
use Rattle.dy_syntax.specs.Files.{Decl}
use Rattle.dy_entry.specs.Entries.{Entry, Setup, Start, Fresh, Message, State, Event, Cert, End, Corrupt, Forge, Inject, Skip}
use Rattle.dy_entry.specs.Attacker.{Derives}
use Rattle.dy_traces.specs.Instances.{is_item_of}
use Rattle.dy_sound.specs.Valid.{MayBeKnown}
use Rattle.dy_sound.specs.Good.{IsGood}
use Rattle.dy_sound.specs.LawsBelow.{LawsBelow}
use Rattle.dy_sound.proofs.Lists.{in_last}
use Rattle.dy_sound.proofs.LongerValid.{may_be_known_still}
use Rattle.dy_sound.proofs.DerivedValues.{derived_may_be_known}
use Rattle.dy_sound.proofs.OneMore.{IsGoodLast, good_with_more}

-- The entry starts no instance, and is not put by one.
abbrev is_apart : Entry → Bool
is_apart (Setup input) = true
is_apart (End instance outcome) = true
is_apart (Corrupt step corruption) = true
is_apart (Forge step) = true
is_apart (Inject step value) = true
is_apart (Skip step) = true
is_apart e = false

abbrev is_inject : Entry → Bool
is_inject (Inject step value) = true
is_inject e = false

no_item : (e : Entry) (instance : ℕ) → is_apart e ≡ true → is_item_of instance e ≡ false
no_item (Setup input) instance apart = refl
no_item (Start step handler principal session args message) instance apart = refl
no_item (Fresh other label usage) instance apart = absurd cc
no_item (Message other value) instance apart = absurd cc
no_item (State other principal session version tag fields) instance apart = absurd cc
no_item (Event other principal name args) instance apart = absurd cc
no_item (Cert other principal usage key) instance apart = absurd cc
no_item (End other outcome) instance apart = refl
no_item (Corrupt step corruption) instance apart = refl
no_item (Forge step) instance apart = refl
no_item (Inject step value) instance apart = refl
no_item (Skip step) instance apart = refl

is_not : (e other : Entry) → is_apart e ≡ true → is_apart other ≡ false → e ≡ other → ⊥
is_not e other apart is_none same = let own : is_apart other ≡ true = subst (λ (x : Entry). is_apart x ≡ true) same apart in cc

module _ (decls : List Decl) (T : List Entry) (e : Entry) (apart : is_apart e ≡ true) where
  starts_none : (at : ℕ) (start : Entry) → is_apart start ≡ false → at ≡ length T → slice_get (T ++ e ∷ []) at ≡ Some start → ⊥
  starts_none at start is_none is_last stands =
      let here : Some e ≡ Some start = sym (in_last T e) ∙ subst (λ (n : ℕ). slice_get (T ++ e ∷ []) n ≡ Some start) is_last stands in
      let same : e ≡ start = cc in
      is_not e start apart is_none same

  good_last : ((step : ℕ) (value : Term) → e ≡ Inject step value → MayBeKnown decls (T ++ e ∷ []) value) → IsGoodLast decls T e
  good_last injected = record {
    message = λ instance value is. absurd (is_not e _ apart refl is);
    injection = injected;
    cert = λ instance owner usage key is. absurd (is_not e _ apart refl is);
    state = λ instance principal session version tag fields is. absurd (is_not e _ apart refl is);
    event = λ instance principal name args is. absurd (is_not e _ apart refl is);
    own_instance = λ instance handler left is_own inside h. let none = no_item e instance apart in absurd cc;
    new_instance = λ handler left h. absurd (starts_none (length T) _ refl refl h.stands);
  }

module _ (below : LawsBelow) (decls : List Decl) (T : List Entry) (good : IsGood decls T) where
  stays_good : (e : Entry) → is_apart e ≡ true → is_inject e ≡ false → IsGood decls (T ++ e ∷ [])
  stays_good e apart none =
      good_with_more below decls T e good
      (good_last decls T e apart (λ step value is. let own : is_inject (Inject step value) ≡ false = subst (λ (x : Entry). is_inject x ≡ false) is none in absurd cc))

  pub good_with_corrupt : (step : ℕ) (corruption : Place) → IsGood decls (T ++ Corrupt step corruption ∷ [])
  good_with_corrupt step corruption = stays_good (Corrupt step corruption) refl refl

  pub good_with_forge : (step : ℕ) → IsGood decls (T ++ Forge step ∷ [])
  good_with_forge step = stays_good (Forge step) refl refl

  pub good_with_skip : (step : ℕ) → IsGood decls (T ++ Skip step ∷ [])
  good_with_skip step = stays_good (Skip step) refl refl

  pub good_with_end : (instance : ℕ) (outcome : Outcome) → IsGood decls (T ++ End instance outcome ∷ [])
  good_with_end instance outcome = stays_good (End instance outcome) refl refl

  pub good_with_setup : (input : List ℕ) → IsGood decls (T ++ Setup input ∷ [])
  good_with_setup input = stays_good (Setup input) refl refl

  pub good_with_inject : (step : ℕ) (value : Term) → Derives T value → IsGood decls (T ++ Inject step value ∷ [])
  good_with_inject step value derived =
      let known = may_be_known_still below decls T (Inject step value ∷ []) value (derived_may_be_known below decls T good value derived) in
      good_with_more below decls T (Inject step value) good
      (good_last decls T (Inject step value) refl
      (λ own_step own is. let same : value ≡ own = cc in subst (MayBeKnown decls (T ++ Inject step value ∷ [])) same known))

-- A trace without entries is good.
pub good_without_entries : (decls : List Decl) → IsGood decls []
good_without_entries decls = record {
  messages = λ index instance value at. absurd cc;
  injections = λ index step value at. absurd cc;
  certs = λ index instance owner usage key at. absurd cc;
  states = λ index instance principal session version tag fields at. absurd cc;
  events = λ index instance principal name args at. absurd cc;
  instances = λ instance handler left h. let at = h.stands in absurd cc;
}
