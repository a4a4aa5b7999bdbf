-- Security can be decided. So where it merely holds, it holds.
use Rattle.std.proofs.Common.{◌≡◌, ℕ, Bool, true, false, List, take, Option, Some, None, inl, inr, refl, subst}
use Rattle.std.proofs.Math.Logic.{∥∥₁_elim}
use Rattle.std.specs.Bool.{Decides}
use Rattle.std.specs.Prelude.{◌&&◌}
use Rattle.std.specs.List.{slice_get, position}
use Rattle.std.specs.Str.{bytes_eq}
use Rattle.std.specs.Cmp.Lexicographic.{pointwise}
use Rattle.std.proofs.lemmas.Bool.{cases_Bool, and_parts, and_from}
use Rattle.std.proofs.lemmas.Slice.Eq.{slice_eq-Decides, bytes_eq-Decides}
use Rattle.dy_term.specs.Terms.{Term, Nonce}
use Rattle.dy_term.specs.Sameness.{is_same}
use Rattle.dy_label.specs.Labels.{Label, is_open}
use Rattle.dy_syntax.specs.Names.{AtomText}
use Rattle.dy_syntax.specs.Declarations.{Partner, EventDecl}
use Rattle.dy_syntax.specs.Files.{Decl, File}
use Rattle.dy_entry.specs.Entries.{Entry, Event}
use Rattle.dy_entry.specs.LookUps.{corruptions}
use Rattle.dy_entry.specs.ValueLabels.{label_of}
use Rattle.dy_traces.proofs.Searches.{none_passes, found_passes}
use Rattle.dy_sound.specs.Flows.{IsShown}
use Rattle.dy_sound.specs.Words.{Words, event_words, label_meant, args_meant}
use Rattle.dy_sound.specs.Events.{HasHappened, HasHappenedFor, HasPartner}
use Rattle.dy_sound.specs.Secure.{IsSecure}
use Rattle.dy_sound.specs.Acceptance.{IsSecureFile}

-- It cannot fail.
abbrev IsSure : Type 0 → Type 0
IsSure A = (A → ⊥) → ⊥

at_most_none : IsProp ⊥
at_most_none x y = absurd x

-- what merely holds cannot fail
sure_of : {A : Type 0} → ∥ A ∥₁ → IsSure A
sure_of holds fails = ∥∥₁_elim holds at_most_none fails

test_holds : (b : Bool) → IsSure (b ≡ true) → b ≡ true
test_holds true sure = refl
test_holds false sure = absurd (sure (λ never. cc))

shown_holds : (T : List Entry) (label : Label) → IsSure (IsShown T label) → IsShown T label
shown_holds T label sure =
    record { is_open_now = test_holds (is_open (corruptions T) label) (λ fails. sure (λ shown. fails shown.is_open_now)) }

module _ (equal : (a b : Term) → is_same a b ≡ true → a ≡ b) (same : (a : Term) → is_same a a ≡ true) where
  same_terms : (a b : Term) → Decides (is_same a b) (a ≡ b)
  same_terms a b = (equal a b, λ is. subst (λ (c : Term). is_same a c ≡ true) is (same a))

  same_lists : (xs ys : List Term) → Decides (pointwise is_same xs ys) (xs ≡ ys)
  same_lists xs ys = slice_eq-Decides same_terms xs ys (pointwise is_same xs ys) refl

  -- the entry is this event with these arguments
  abbrev is_event : List ℕ → List Term → Entry → Bool
  is_event name args (Event instance principal other values) = bytes_eq other name && pointwise is_same values args
  is_event name args e = false

  module _ (T : List Entry) (name : List ℕ) (args : List Term) where
    passes : (h : HasHappened T name args) → is_event name args (Event h.instance h.principal name args) ≡ true
    passes h = and_from (bytes_eq name name) (pointwise is_same args args) ((bytes_eq-Decides name name).1 refl) ((same_lists args args).1 refl)

    stands : (index : ℕ) (e : Entry) → slice_get T index ≡ Some e → is_event name args e ≡ true → HasHappened T name args
    stands index (Event instance principal other values) at is =
        let parts = and_parts (bytes_eq other name) (pointwise is_same values args) is in
        record {
          index = index;
          instance = instance;
          principal = principal;
          stands =
              subst (λ (xs : List Term). slice_get T index ≡ Some (Event instance principal name xs)) ((same_lists values args).0 parts.1)
              (subst (λ (n : List ℕ). slice_get T index ≡ Some (Event instance principal n values)) ((bytes_eq-Decides other name).0 parts.0) at);
        }
    stands index e at is = absurd cc

    found : (place : Option ℕ) → position (is_event name args) T ≡ place → IsSure (HasHappened T name args) → HasHappened T name args
    found None none sure =
        absurd (sure (λ h. let fails = none_passes (is_event name args) T none h.index _ h.stands in let is = passes h in cc))
    found (Some index) some sure =
        let there = found_passes (is_event name args) T index some in
        stands index there.0 there.1 there.2

  happened_for : (T : List Entry) (words : Words) (atom : AtomText) (args : Option (List Term)) → args_meant words atom ≡ args
      → IsSure (HasHappenedFor T words atom) → HasHappenedFor T words atom
  happened_for T words atom None none sure = absurd (sure (λ h. let some = h.args_are in cc))
  happened_for T words atom (Some args) some sure = record {
    args = args;
    args_are = some;
    has_happened =
        found T atom.event.word args (position (is_event atom.event.word args) T) refl
        (λ fails. sure (λ h.
        let one : h.args ≡ args = let other = h.args_are in cc in
        fails (subst (λ (xs : List Term). HasHappened T atom.event.word xs) one h.has_happened)));
  }

  partner_holds : (T : List Entry) (words : Words) (partner : Partner) → IsSure (HasPartner T words partner) → HasPartner T words partner
  partner_holds T words partner sure = elim (cases_Bool (is_open (corruptions T) (label_meant words partner.unless))) [
    | inl open_now ↦ inr (record { is_open_now = open_now })
    | inr closed ↦
        inl (happened_for T words partner.atom (args_meant words partner.atom) refl (λ fails. sure (λ holds. elim holds [
          | inl happened ↦ fails happened
          | inr shown ↦ let is_open_now = shown.is_open_now in cc
        ])))
  ]

  security_holds : (decls : List Decl) (T : List Entry) → IsSure (IsSecure decls T) → IsSecure decls T
  security_holds decls T sure = record {
    secrets = λ n. record {
      shown = λ index derives.
          shown_holds (take n T) (label_of (take n T) (Nonce index)) (λ fails. sure (λ secure. fails ((secure.secrets n).shown index derives)));
    };
    events = λ n. record {
      follow = λ index instance principal name args at event is_declared partner among.
          partner_holds (take index (take n T)) (event_words event args) partner
          (λ fails. sure (λ secure. fails ((secure.events n).follow index instance principal name args at event is_declared partner among)));
    };
  }

  -- A file that is merely known to be secure is secure.
  pub secure_file : (file : File) → ∥ IsSecureFile file ∥₁ → IsSecureFile file
  secure_file file holds = λ bytes T is_one.
      security_holds file.decls T (λ fails. sure_of holds (λ secure. fails (secure bytes T is_one)))
