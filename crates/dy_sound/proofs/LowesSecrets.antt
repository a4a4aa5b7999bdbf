-- Lowe's attack is not secure: the attacker has a nonce whose label is closed, and an event lacks its partner. On the repaired
-- file what the attacker has of the same schedule has an open label.
use Rattle.std.proofs.Common.{◌≡◌, ℕ, Bool, true, false, ◌&&◌, List, [], ◌∷◌, ◌++◌, take, Some, inl, inr, refl, subst, codes}
use Rattle.std.specs.List.{slice_get}
use Rattle.std.specs.Str.{bytes_eq}
use Rattle.std.specs.Cmp.Lexicographic.{pointwise}
use Rattle.dy_term.specs.Terms.{Term, Name, Nonce}
use Rattle.dy_term.specs.Sameness.{is_same}
use Rattle.dy_syntax.specs.Files.{Decl}
use Rattle.dy_entry.specs.Entries.{Entry, Setup, Event}
use Rattle.dy_entry.specs.ValueLabels.{label_of}
use Rattle.dy_traces.proofs.Searches.{none_passes}
use Rattle.dy_traces.proofs.NeedhamSchroeder.{original_decls, confirm_partner, accept_event}
use Rattle.dy_traces.proofs.LowesSchedule.{ann, ben, schedule}
use Rattle.dy_traces.proofs.LowesAttack.{confirms, attack, derives_nonce}
use Rattle.dy_traces.proofs.LowesRepair.{attempt}
use Rattle.dy_sound.specs.Flows.{IsShown}
use Rattle.dy_sound.specs.Words.{event_words}
use Rattle.dy_sound.specs.Events.{HasHappened, HasPartner}
use Rattle.dy_sound.specs.Secure.{SecretsKept, IsSecure}
use Rattle.dy_sound.proofs.Lists.{Contains-first}

-- what ben accepts, and what ann would have confirmed to him
abbrev accepted_args : List Term
accepted_args = Name ben ∷ Name ann ∷ Nonce 24 ∷ []

abbrev confirmed_args : List Term
confirmed_args = Name ann ∷ Name ben ∷ Nonce 24 ∷ []

abbrev is_confirmed : Entry → Bool
is_confirmed (Event instance principal name args) = bytes_eq name (codes "Confirm") && pointwise is_same args confirmed_args
is_confirmed e = false

module _ (bytes : List ℕ) where
  abbrev attack_trace : List Entry
  attack_trace = Setup bytes ∷ attack

  -- Ann and ben are not corrupted, and the attacker has ben's nonce for ann.
  secret_is_lost : SecretsKept (Setup bytes ∷ schedule ++ confirms) → ⊥
  secret_is_lost kept = let shown = (kept.shown 24 (derives_nonce bytes)).is_open_now in cc

  -- Ann has not confirmed the nonce to ben.
  not_confirmed : HasHappened (take 35 attack_trace) (codes "Confirm") confirmed_args → ⊥
  not_confirmed h = let other = none_passes is_confirmed (take 35 attack_trace) refl h.index _ h.stands in cc

  ben_is_wrong : HasPartner (take 35 attack_trace) (event_words accept_event accepted_args) confirm_partner → ⊥
  ben_is_wrong partner = elim partner [
    | inl happened ↦
        let same : happened.args ≡ confirmed_args = let args = happened.args_are in cc in
        not_confirmed (subst (λ (args : List Term). HasHappened (take 35 attack_trace) (codes "Confirm") args) same happened.has_happened)
    | inr shown ↦ let is_open_now = shown.is_open_now in cc
  ]

  -- The attack breaks both parts of security.
  pub attack_loses_a_secret : (decls : List Decl) → IsSecure decls attack_trace → ⊥
  attack_loses_a_secret decls secure = secret_is_lost (secure.secrets 33)

  pub attack_breaks_the_order : IsSecure original_decls attack_trace → ⊥
  attack_breaks_the_order secure =
      ben_is_wrong ((secure.events 37).follow 35 34 ben (codes "Accept") accepted_args refl accept_event refl confirm_partner (Contains-first confirm_partner []))

  -- On the repaired file the attacker has the nonce that ann made for eve, and its label is open.
  pub eves_nonce_is_shown : IsShown (Setup bytes ∷ attempt) (label_of (Setup bytes ∷ attempt) (Nonce 18))
  eves_nonce_is_shown = record { is_open_now = refl }
