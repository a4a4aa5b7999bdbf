-- Lowe's schedule on examples/needham-schroeder-lowe.dy, where ben's reply says that it is his: ann, who called eve, stops.
use Rattle.std.proofs.Common.{◌≡◌, ℕ, List, [], ◌∷◌, ◌++◌, Some, None, refl, sym, subst, codes}
use Rattle.dy_term.specs.Terms.{Term, Lit, Name, Nonce, Pair}
use Rattle.dy_term.specs.Tuples.{tagged_tuple}
use Rattle.dy_label.specs.declared.usages.Outcome.TheVariants.{Done, Stopped}
use Rattle.dy_syntax.specs.Files.{File, Decl}
use Rattle.dy_syntax.specs.Rules.{IsWellFormed}
use Rattle.dy_parse.specs.Reading.{Reads}
use Rattle.dy_entry.specs.Entries.{Entry, Setup, Start, Message, State, End}
use Rattle.dy_entry.specs.Attacker as attacker
use Rattle.dy_entry.specs.Attacker.{Derives}
use Rattle.dy_traces.specs.Interleavings.{Interleaves}
use Rattle.dy_traces.proofs.Walks.{Walks, walked, walks_on, none_runs}
use Rattle.dy_traces.proofs.NeedhamSchroeder.{repaired_decls, repaired_case, repaired_fields, repaired_pats, confirm}
use Rattle.dy_traces.proofs.LowesSchedule.{ann, ben, ciphertext, question, schedule, schedule_walks, eves_key}

-- ben's reply to ann, with his name
abbrev reply_message : Term
reply_message = ciphertext 2 (codes "reply") (Nonce 18 ∷ Nonce 24 ∷ Name ben ∷ [])

-- entries 26 to 30: ben replies to ann, whose second statement fails, since the reply is not eve's
abbrev stops : List Entry
stops =
    Message 23 reply_message
    ∷ State 23 ben 23 1 (codes "Replied") (Nonce 24 ∷ Name ann ∷ [])
    ∷ End 23 Done
    ∷ Start 7 (codes "Confirm") ann 17 [] (Some 26)
    ∷ End 29 (Stopped 2)
    ∷ []

-- the run after the Setup
abbrev pub attempt : List Entry
attempt = schedule ++ stops

module _ (bytes : List ℕ) where
  abbrev opens : List Entry
  opens = Setup bytes ∷ []

  stops_walks : Walks repaired_decls (opens ++ schedule) stops
  stops_walks = (refl, (refl, (refl, (record { unused = refl; declared = confirm repaired_pats; is_declared = refl; arguments = refl; session_fits = (record { start = _; stands = refl; opens = refl }, none_runs _ 17 refl); message_fits = (reply_message, refl) }, (refl, tt)))))

  attempt_walks : Walks repaired_decls opens attempt
  attempt_walks =
      walks_on repaired_decls opens schedule stops (schedule_walks repaired_case repaired_fields repaired_pats bytes) stops_walks

  -- The run is an interleaving of each file with these declarations.
  pub attempt_interleaves : (file : File) → file.decls ≡ repaired_decls → Reads bytes file → IsWellFormed file
      → Interleaves bytes file (Setup bytes ∷ attempt)
  attempt_interleaves file same reads well_formed =
      walked bytes file attempt reads well_formed (subst (λ (ds : List Decl). Walks ds opens attempt) (sym same) attempt_walks)

  -- The attacker derives the nonce that ann made for eve.
  pub derives_eves_nonce : Derives (Setup bytes ∷ attempt) (Nonce 18)
  derives_eves_nonce =
      attacker.fst (Nonce 18) (Name ann)
      (attacker.snd (Lit (codes "ask")) (Pair (Nonce 18) (Name ann)) (attacker.pdec (Nonce 12) (tagged_tuple (codes "ask") (Nonce 18 ∷ Name ann ∷ [])) (attacker.sent 19 17 (question 12) refl) (eves_key _ 11 refl refl)))
