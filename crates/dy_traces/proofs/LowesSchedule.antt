-- Lowe's schedule on the protocol of Needham and Schroeder, up to ben's reply. Ann calls eve, whose key is corrupted, and
-- the attacker takes what ann says to ben. So far it is the same for the original file and for the repaired one.
use Rattle.std.proofs.Common.{◌≡◌, ℕ, ◌+◌, true, List, [], ◌∷◌, ◌++◌, Some, None, refl, codes, lit≤, rules}
use Rattle.std.specs.List.{slice_get}
use Rattle.dy_term.specs.Terms.{Term, Name, Nonce, Pk, Penc}
use Rattle.dy_term.specs.Tuples.{tagged_tuple}
use Rattle.dy_label.specs.Labels.{One, Join, Principal, Version, Label}
use Rattle.dy_label.specs.declared.usages.Kind.TheVariants as kinds
use Rattle.dy_label.specs.declared.usages.Usage.{Usage}
use Rattle.dy_label.specs.declared.usages.Outcome.TheVariants.{Done}
use Rattle.dy_syntax.specs.Expressions.{Expr}
use Rattle.dy_syntax.specs.Declarations.{CaseDecl}
use Rattle.dy_syntax.specs.Statements.{Pattern}
use Rattle.dy_syntax.specs.Files.{Decl}
use Rattle.dy_entry.specs.Entries.{Entry, Setup, Start, Fresh, Message, State, Event, Cert, End, Corrupt, Inject}
use Rattle.dy_entry.specs.LookUps.{is_covered}
use Rattle.dy_entry.specs.Attacker as attacker
use Rattle.dy_entry.specs.Attacker.{Derives}
use Rattle.dy_traces.proofs.Walks.{Walks, walks_on}
use Rattle.dy_traces.proofs.NeedhamSchroeder.{dec, rand, key, file_with, make_key, ask, reply}

abbrev pub ann : List ℕ
ann = codes "ann"

abbrev pub ben : List ℕ
ben = codes "ben"

abbrev pub eve : List ℕ
eve = codes "eve"

abbrev pub nonce_use : Usage
nonce_use = record { kind = kinds.Nonce; name = rand; owners = [] }

abbrev pub for_both : List ℕ → List ℕ → Label
for_both one other = Join (One (Principal one)) (One (Principal other))

-- a message under the key of this nonce
abbrev pub ciphertext : ℕ → List ℕ → List Term → Term
ciphertext own tag fields = Penc (Pk (Nonce own)) (tagged_tuple tag fields)

-- A principal makes a key, by an instance whose Start has this index. The key is the nonce after it.
abbrev pub keys_made : ℕ → List ℕ → ℕ → List Entry
keys_made step principal start =
    Start step (codes "MakeKey") principal start [] None
    ∷ Fresh start (One (Principal principal)) (record { kind = kinds.Pke; name = dec; owners = principal ∷ [] })
    ∷ Cert start principal dec (Pk (Nonce (start + 1)))
    ∷ State start principal start 1 key (Nonce (start + 1) ∷ [])
    ∷ End start Done
    ∷ []

-- entries 1 to 15: ann's key is nonce 2, ben's 7 and eve's 12
abbrev pub enrolment : List Entry
enrolment = keys_made 0 ann 1 ++ keys_made 1 ben 6 ++ keys_made 2 eve 11

-- what ann says to eve, under a key
abbrev pub question : ℕ → Term
question own = ciphertext own (codes "ask") (Nonce 18 ∷ Name ann ∷ [])

-- entries 16 to 22: eve's key is corrupted, ann asks eve, and the attacker asks ben
abbrev pub asked_on : List Entry
asked_on =
    Corrupt 3 (Version eve 11 1)
    ∷ Start 4 (codes "Ask") ann 17 (eve ∷ []) None
    ∷ Fresh 17 (for_both ann eve) nonce_use
    ∷ Message 17 (question 12)
    ∷ State 17 ann 17 1 (codes "Asked") (Nonce 18 ∷ Name eve ∷ [])
    ∷ End 17 Done
    ∷ Inject 5 (question 7)
    ∷ []

-- entries 23 to 25: ben is about to reply
abbrev pub about_to_reply : List Entry
about_to_reply =
    Start 6 (codes "Reply") ben 23 [] (Some 22)
    ∷ Fresh 23 (for_both ben ann) nonce_use
    ∷ Event 23 ben (codes "Reply") (Name ben ∷ Name ann ∷ Nonce 24 ∷ [])
    ∷ []

abbrev pub schedule : List Entry
schedule = enrolment ++ asked_on ++ about_to_reply

-- the attacker takes eve's key from her state
pub eves_key : (T : List Entry) (instance : ℕ) → slice_get T 14 ≡ Some (State instance eve 11 1 key (Nonce 12 ∷ []))
    → is_covered T eve 11 1 ≡ true → Derives T (Nonce 12)
eves_key T instance at covered = attacker.corrupted 14 instance eve 11 1 key (Nonce 12 ∷ []) (Nonce 12) at covered (search rules)

-- what the attacker asks ben, from ann's message to eve and ben's certificate
asks_ben : (T : List Entry) → slice_get T 8 ≡ Some (Cert 6 ben dec (Pk (Nonce 7))) → slice_get T 19 ≡ Some (Message 17 (question 12))
    → Derives T (Nonce 12) → Derives T (question 7)
asks_ben T cert message own =
    attacker.penc (Pk (Nonce 7)) (tagged_tuple (codes "ask") (Nonce 18 ∷ Name ann ∷ [])) (attacker.certified 8 6 ben dec (Pk (Nonce 7)) cert)
    (attacker.pdec (Nonce 12) (tagged_tuple (codes "ask") (Nonce 18 ∷ Name ann ∷ [])) (attacker.sent 19 17 (question 12) message) own)

module _ (case : CaseDecl) (fields : List Expr) (pats : List Pattern) (bytes : List ℕ) where
  abbrev decls : List Decl
  decls = file_with case fields pats

  abbrev opens : List Entry
  opens = Setup bytes ∷ []

  enrolled_walks : Walks decls opens enrolment
  enrolled_walks =
      (record { unused = refl; declared = make_key; is_declared = refl; arguments = refl; session_fits = refl; message_fits = tt }, (refl, (refl, (refl, (refl, (record { unused = refl; declared = make_key; is_declared = refl; arguments = refl; session_fits = refl; message_fits = tt }, (refl, (refl, (refl, (refl, (record { unused = refl; declared = make_key; is_declared = refl; arguments = refl; session_fits = refl; message_fits = tt }, (refl, (refl, (refl, (refl, tt)))))))))))))))

  asked_on_walks : Walks decls (opens ++ enrolment) asked_on
  asked_on_walks =
      (refl, (record { unused = refl; declared = ask; is_declared = refl; arguments = refl; session_fits = refl; message_fits = tt }, (refl, (refl, (refl, (refl, (record { unused = refl; derived = asks_ben _ refl refl (eves_key _ 11 refl refl); few_nodes = lit≤ tt }, tt)))))))

  about_to_reply_walks : Walks decls (opens ++ enrolment ++ asked_on) about_to_reply
  about_to_reply_walks =
      (record { unused = refl; declared = reply fields; is_declared = refl; arguments = refl; session_fits = refl; message_fits = (question 7, refl) }, (refl, (refl, tt)))

  -- Each entry of the schedule may follow those before it.
  pub schedule_walks : Walks decls opens schedule
  schedule_walks =
      walks_on decls opens enrolment (asked_on ++ about_to_reply) enrolled_walks
      (walks_on decls (opens ++ enrolment) asked_on about_to_reply asked_on_walks about_to_reply_walks)
