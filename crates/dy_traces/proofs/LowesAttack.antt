-- Lowe's attack on examples/needham-schroeder.dy, which is the run of its plan. Ann says ben's nonce to eve, and ben takes
-- what the attacker makes of it for ann's.
use Rattle.std.proofs.Common.{◌≡◌, ℕ, List, [], ◌∷◌, ◌++◌, Some, None, refl, sym, subst, codes, lit≤}
use Rattle.std.specs.List.{slice_get}
use Rattle.dy_term.specs.Terms.{Term, Lit, Name, Nonce, Pair, Pk}
use Rattle.dy_term.specs.Tuples.{tagged_tuple}
use Rattle.dy_label.specs.declared.usages.Outcome.TheVariants.{Done}
use Rattle.dy_syntax.specs.Files.{File, Decl}
use Rattle.dy_syntax.specs.Rules.{IsWellFormed}
use Rattle.dy_parse.specs.Reading.{Reads}
use Rattle.dy_entry.specs.Entries.{Entry, Setup, Start, Message, State, Event, Cert, End, Inject}
use Rattle.dy_entry.specs.Attacker as attacker
use Rattle.dy_entry.specs.Attacker.{Derives}
use Rattle.dy_traces.specs.Interleavings.{Interleaves}
use Rattle.dy_traces.proofs.Walks.{Walks, walked, walks_on, none_runs}
use Rattle.dy_traces.proofs.NeedhamSchroeder.{dec, original_decls, original_case, original_fields, original_pats, confirm, accept}
use Rattle.dy_traces.proofs.LowesSchedule.{ann, ben, eve, ciphertext, schedule, schedule_walks, eves_key}

-- what ann confirms to eve, under a key
abbrev confirmation : ℕ → Term
confirmation own = ciphertext own (codes "confirm") (Nonce 24 ∷ Name ann ∷ [])

-- ben's reply to ann
abbrev reply_message : Term
reply_message = ciphertext 2 (codes "reply") (Nonce 18 ∷ Nonce 24 ∷ [])

-- entries 26 to 32: ben replies to ann, who takes it for eve's reply and confirms it to eve
abbrev pub confirms : List Entry
confirms =
    Message 23 reply_message
    ∷ State 23 ben 23 1 (codes "Replied") (Nonce 24 ∷ Name ann ∷ [])
    ∷ End 23 Done
    ∷ Start 7 (codes "Confirm") ann 17 [] (Some 26)
    ∷ Event 29 ann (codes "Confirm") (Name ann ∷ Name eve ∷ Nonce 24 ∷ [])
    ∷ Message 29 (confirmation 12)
    ∷ End 29 Done
    ∷ []

-- entries 33 to 36: the attacker confirms it to ben, who accepts ann
abbrev accepts : List Entry
accepts =
    Inject 8 (confirmation 7)
    ∷ Start 9 (codes "Accept") ben 23 [] (Some 33)
    ∷ Event 34 ben (codes "Accept") (Name ben ∷ Name ann ∷ Nonce 24 ∷ [])
    ∷ End 34 Done
    ∷ []

-- the attack after the Setup
abbrev pub attack : List Entry
attack = schedule ++ confirms ++ accepts

-- what the attacker reads of ann's message to eve
reads_confirmed : (T : List Entry) → slice_get T 31 ≡ Some (Message 29 (confirmation 12)) → Derives T (Nonce 12)
    → Derives T (tagged_tuple (codes "confirm") (Nonce 24 ∷ Name ann ∷ []))
reads_confirmed T message own =
    attacker.pdec (Nonce 12) (tagged_tuple (codes "confirm") (Nonce 24 ∷ Name ann ∷ [])) (attacker.sent 31 29 (confirmation 12) message) own

module _ (bytes : List ℕ) where
  abbrev opens : List Entry
  opens = Setup bytes ∷ []

  confirms_walks : Walks original_decls (opens ++ schedule) confirms
  confirms_walks = (refl, (refl, (refl, (record { unused = refl; declared = confirm original_pats; is_declared = refl; arguments = refl; session_fits = (record { start = _; stands = refl; opens = refl }, none_runs _ 17 refl); message_fits = (reply_message, refl) }, (refl, (refl, (refl, tt)))))))

  accepts_walks : Walks original_decls (opens ++ schedule ++ confirms) accepts
  accepts_walks = (record { unused = refl; derived = attacker.penc _ _ (attacker.certified 8 6 ben dec (Pk (Nonce 7)) refl) (reads_confirmed _ refl (eves_key _ 11 refl refl)); few_nodes = lit≤ tt }, (record { unused = refl; declared = accept; is_declared = refl; arguments = refl; session_fits = (record { start = _; stands = refl; opens = refl }, none_runs _ 23 refl); message_fits = (confirmation 7, refl) }, (refl, (refl, tt))))

  attack_walks : Walks original_decls opens attack
  attack_walks =
      walks_on original_decls opens schedule (confirms ++ accepts) (schedule_walks original_case original_fields original_pats bytes)
      (walks_on original_decls (opens ++ schedule) confirms accepts confirms_walks accepts_walks)

  -- The attack is an interleaving of each file with these declarations.
  pub attack_interleaves : (file : File) → file.decls ≡ original_decls → Reads bytes file → IsWellFormed file
      → Interleaves bytes file (Setup bytes ∷ attack)
  attack_interleaves file same reads well_formed =
      walked bytes file attack reads well_formed (subst (λ (ds : List Decl). Walks ds opens attack) (sym same) attack_walks)

  -- The attacker derives ben's nonce once ann has confirmed it to eve.
  pub derives_nonce : Derives (Setup bytes ∷ schedule ++ confirms) (Nonce 24)
  derives_nonce = attacker.fst (Nonce 24) (Name ann) (attacker.snd (Lit (codes "confirm")) (Pair (Nonce 24) (Name ann)) (reads_confirmed _ refl (eves_key _ 11 refl refl)))
