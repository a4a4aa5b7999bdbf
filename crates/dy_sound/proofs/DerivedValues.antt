-- What the attacker derives in a good trace is valid, and its label is open.
use Rattle.std.proofs.Common.{◌≡◌, List, inl, inr, refl, sym, ap, subst, ◌∙◌}
use Rattle.std.proofs.lemmas.Bool.{and_parts, and_from}
use Rattle.dy_term.specs.Terms.{Term, Pair, Pk, Penc, Aead, Sign}
use Rattle.dy_label.specs.Labels.{Label, Public, Meet}
use Rattle.dy_syntax.specs.Files.{Decl}
use Rattle.dy_entry.specs.Entries.{Entry, Forge}
use Rattle.dy_entry.specs.LookUps.{corruptions}
use Rattle.dy_entry.specs.ValueLabels.{label_of, label_of_nonce}
use Rattle.dy_entry.specs.Attacker.{Derives, literal, name, sent, injected, certified, forged, corrupted, pair, pk, vk, penc, aead, sign, mac, kdf, hash, fst, snd, pdec, adec, ad, body}
use Rattle.dy_sound.specs.Flows.{Flows, IsShown, IsOver}
use Rattle.dy_sound.specs.Valid.{IsEncrypted, MayBeKnown}
use Rattle.dy_sound.specs.Good.{IsGood}
use Rattle.dy_sound.specs.LawsBelow.{LawsBelow}

module _ (below : LawsBelow) (decls : List Decl) (T : List Entry) where
  itself : IsOver T (corruptions T)
  itself = record { has_all = λ corruption stands. stands }

  -- What is shown opens what it flows to.
  pub shown_by_flow : {from to : Label} → Flows T from to → IsShown T from → IsShown T to
  shown_by_flow flows shown = record { is_open_now = flows.opens (corruptions T) itself shown.is_open_now }

  -- To what is shown everything flows.
  pub flows_to_shown : {from to : Label} → IsShown T to → Flows T from to
  flows_to_shown {from} {to} shown = record { opens = λ C over from_open. below.no_label_closes (corruptions T) C to over.has_all shown.is_open_now }

  both_shown : {first second : Label} → IsShown T first → IsShown T second → IsShown T (Meet first second)
  both_shown one other = record { is_open_now = and_from _ _ one.is_open_now other.is_open_now }

  first_shown : {first second : Label} → IsShown T (Meet first second) → IsShown T first
  first_shown shown = record { is_open_now = (and_parts _ _ shown.is_open_now).0 }

  second_shown : {first second : Label} → IsShown T (Meet first second) → IsShown T second
  second_shown shown = record { is_open_now = (and_parts _ _ shown.is_open_now).1 }

  public_shown : IsShown T Public
  public_shown = record { is_open_now = refl }

  -- Who has the key that a message is encrypted to may know the message.
  pub message_shown : (key message : Term) → IsEncrypted decls T (Pk key) message → IsShown T (label_of T key) → IsShown T (label_of T message)
  message_shown key message (inl by_rules) shown =
      let same : key ≡ by_rules.key = let is = by_rules.to_is in cc in
      shown_by_flow by_rules.readers_may_know (subst (λ (k : Term). IsShown T (label_of T k)) same shown)
  message_shown key message (inr known) shown = known

  pub derived_may_be_known : IsGood decls T → (value : Term) → Derives T value → MayBeKnown decls T value
  derived_may_be_known good _ (literal text) = record { valid = tt; shown = public_shown }
  derived_may_be_known good _ (name principal) = record { valid = tt; shown = public_shown }
  derived_may_be_known good _ (sent index instance value at) = good.messages index instance value at
  derived_may_be_known good _ (injected index step value at) = good.injections index step value at
  derived_may_be_known good _ (certified index instance principal usage key at) = (good.certs index instance principal usage key at).may_be_known
  derived_may_be_known good _ (forged index step at) = record {
    valid = (Forge step, at, refl);
    shown = subst (IsShown T) (sym (ap label_of_nonce at)) public_shown;
  }
  derived_may_be_known good _ (corrupted index instance principal session version tag fields field at covered within) =
      let stored = good.states index instance principal session version tag fields at in
      record {
        valid = stored.are_valid field within;
        shown = shown_by_flow (stored.readers_may_know field within) (record { is_open_now = sym (below.covered_is_open T principal session version) ∙ covered });
      }
  derived_may_be_known good _ (pair a b da db) =
      let one = derived_may_be_known good a da in
      let other = derived_may_be_known good b db in
      record { valid = (one.valid, other.valid); shown = both_shown one.shown other.shown }
  derived_may_be_known good _ (pk k dk) = record { valid = (derived_may_be_known good k dk).valid; shown = public_shown }
  derived_may_be_known good _ (vk k dk) = record { valid = (derived_may_be_known good k dk).valid; shown = public_shown }
  derived_may_be_known good _ (penc k m dk dm) =
      let message = derived_may_be_known good m dm in
      record { valid = ((derived_may_be_known good k dk).valid, message.valid, inr message.shown); shown = public_shown }
  derived_may_be_known good _ (aead k m a dk dm da) =
      let key = derived_may_be_known good k dk in
      let message = derived_may_be_known good m dm in
      let associated = derived_may_be_known good a da in
      record { valid = (key.valid, message.valid, associated.valid, flows_to_shown message.shown, inr key.shown); shown = associated.shown }
  derived_may_be_known good _ (sign k m dk dm) =
      let key = derived_may_be_known good k dk in
      let message = derived_may_be_known good m dm in
      record { valid = (key.valid, message.valid, inr key.shown); shown = message.shown }
  derived_may_be_known good _ (mac k m dk dm) =
      let key = derived_may_be_known good k dk in
      let message = derived_may_be_known good m dm in
      record { valid = (key.valid, message.valid, inr key.shown); shown = message.shown }
  derived_may_be_known good _ (kdf k c x dk dx) =
      let key = derived_may_be_known good k dk in
      record { valid = (key.valid, (derived_may_be_known good x dx).valid); shown = key.shown }
  derived_may_be_known good _ (hash m dm) =
      let message = derived_may_be_known good m dm in
      record { valid = message.valid; shown = message.shown }
  derived_may_be_known good _ (fst a b d) =
      let whole = derived_may_be_known good (Pair a b) d in
      record { valid = whole.valid.0; shown = first_shown whole.shown }
  derived_may_be_known good _ (snd a b d) =
      let whole = derived_may_be_known good (Pair a b) d in
      record { valid = whole.valid.1; shown = second_shown whole.shown }
  derived_may_be_known good _ (pdec k m d dk) =
      let whole = derived_may_be_known good (Penc (Pk k) m) d in
      record { valid = whole.valid.1; shown = message_shown k m whole.valid.2 (derived_may_be_known good k dk).shown }
  derived_may_be_known good _ (adec k m a d dk) =
      let whole = derived_may_be_known good (Aead k m a) d in
      record { valid = whole.valid.1; shown = shown_by_flow whole.valid.3 (derived_may_be_known good k dk).shown }
  derived_may_be_known good _ (ad k m a d) =
      let whole = derived_may_be_known good (Aead k m a) d in
      record { valid = whole.valid.2; shown = whole.shown }
  derived_may_be_known good _ (body k m d) =
      let whole = derived_may_be_known good (Sign k m) d in
      record { valid = whole.valid.1; shown = whole.shown }
