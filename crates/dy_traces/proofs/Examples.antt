-- Two hand-made traces of two handlers: one that is an interleaving, and one that is none, for each of some reasons.
use Rattle.std.proofs.Common.{◌≡◌, ℕ, zero, suc, true, List, [], ◌∷◌, ◌++◌, Some, None, refl, ap, sym, ◌∙◌, subst, codes, arith, rules}
use Rattle.dy_term.specs.Terms as terms
use Rattle.dy_term.specs.Terms.{Term, Lit, Nonce, Pair}
use Rattle.dy_label.specs.Labels.{One, Principal, Version}
use Rattle.dy_label.specs.declared.usages.Kind.TheVariants as kinds
use Rattle.dy_label.specs.declared.usages.Outcome.TheVariants.{Done, Stopped}
use Rattle.dy_syntax.specs.Names as names
use Rattle.dy_syntax.specs.Names.{Id, Quote, Nm}
use Rattle.dy_syntax.specs.Labels as labels
use Rattle.dy_syntax.specs.Expressions as e
use Rattle.dy_syntax.specs.Declarations.{UsageDecl}
use Rattle.dy_syntax.specs.Statements as s
use Rattle.dy_syntax.specs.Statements.{Handler, Statement, Act}
use Rattle.dy_syntax.specs.Files as files
use Rattle.dy_syntax.specs.Files.{File, Decl}
use Rattle.dy_syntax.specs.Rules.{IsWellFormed}
use Rattle.dy_parse.specs.Reading.{Reads}
use Rattle.dy_entry.specs.Entries.{Entry, Setup, Start, Fresh, Message, State, End, Corrupt, Forge, Inject, Skip}
use Rattle.dy_entry.specs.Attacker as attacker
use Rattle.dy_traces.specs.Instances.{IsRunningIn, IsSessionOf, opens_for}
use Rattle.dy_traces.specs.Following.{MayFollow, MayReceive, MayBeIn}
use Rattle.dy_traces.specs.Interleavings.{Interleaves}
use Rattle.dy_traces.proofs.Walks.{Walks, walked, none_with, no_start_at, none_at, ended_at}

-- words of the file, whose lines are left out
abbrev id : List ℕ → Id
id word = record { word = word; line = 0 }

abbrev quote : List ℕ → Quote
quote text = record { text = text; line = 0 }

abbrev does : Act → Statement
does act = record { line = 0; act = act }

abbrev nm_named : List ℕ → Nm
nm_named word = names.Named (id word)

-- usage nonce Rand();
abbrev rand : UsageDecl
rand = record { line = 0; kind = names.Nonce; kind_line = 0; name = id (codes "Rand"); params = []; rows = [] }

-- handler Begin args(b) { new n : Rand() secret b; send "hi"(self, n); store Stage(n); }
abbrev begin : Handler
begin = record {
  line = 0;
  name = id (codes "Begin");
  on = None;
  args = id (codes "b") ∷ [];
  recv = None;
  body =
      does (s.New (id (codes "n")) (record { usage = id (codes "Rand"); args = [] }) (labels.One (nm_named (codes "b"))))
      ∷ does (s.Send (e.Tuple (quote (codes "hi")) (e.row_of (e.Nm (names.Me 0) ∷ e.Nm (nm_named (codes "n")) ∷ []))))
      ∷ does (s.Store (id (codes "Stage")) (e.Nm (nm_named (codes "n")) ∷ []))
      ∷ [];
}

-- handler Reply on Stage(x) recv m { send x; split m as "hi"(name a, =x); }
abbrev reply : Handler
reply = record {
  line = 0;
  name = id (codes "Reply");
  on = Some (record { line = 0; state = id (codes "Stage"); pats = s.Bind (id (codes "x")) ∷ [] });
  args = [];
  recv = Some (id (codes "m"));
  body =
      does (s.Send (e.Nm (nm_named (codes "x"))))
      ∷ does (s.Split (id (codes "m")) (quote (codes "hi")) (s.Named 0 (id (codes "a")) ∷ s.Equal 0 (nm_named (codes "x")) ∷ []))
      ∷ [];
}

abbrev decls : List Decl
decls = files.Usage rand ∷ files.Handler begin ∷ files.Handler reply ∷ []

abbrev alice : List ℕ
alice = codes "alice"

abbrev bob : List ℕ
bob = codes "bob"

-- a Start of each handler
abbrev begins : ℕ → List ℕ → ℕ → List ℕ → Entry
begins step principal session other = Start step (codes "Begin") principal session (other ∷ []) None

abbrev replies : ℕ → ℕ → ℕ → Entry
replies step session message = Start step (codes "Reply") alice session [] (Some message)

abbrev nonce_for : ℕ → List ℕ → Entry
nonce_for instance other = Fresh instance (One (Principal other)) (record { kind = kinds.Nonce; name = codes "Rand"; owners = [] })

abbrev greeting : List ℕ → ℕ → Term
greeting principal nonce = Pair (Lit (codes "hi")) (Pair (terms.Name principal) (Nonce nonce))

-- alice and bob begin, and alice's instance ends
abbrev opening : List Entry
opening =
    begins 0 alice 1 bob
    ∷ nonce_for 1 bob
    ∷ begins 7 bob 3 alice
    ∷ Message 1 (greeting alice 2)
    ∷ State 1 alice 1 1 (codes "Stage") (Nonce 2 ∷ [])
    ∷ End 1 Done
    ∷ []

-- the attacker takes the state, and injects what is stored
abbrev attacked_trace : List Entry
attacked_trace = opening ++ Corrupt 3 (Version alice 1 1) ∷ Inject 4 (Nonce 2) ∷ []

-- No instance of alice's session runs.
idle : (instance : ℕ) → IsRunningIn (Setup [] ∷ attacked_trace) 1 instance → ⊥
idle zero = no_start_at (Setup [] ∷ attacked_trace) 1 0 _ refl refl
idle (suc zero) = ended_at (Setup [] ∷ attacked_trace) 1 1 6 refl
idle (suc (suc zero)) = no_start_at (Setup [] ∷ attacked_trace) 1 2 _ refl refl
idle (suc (suc (suc zero))) = no_start_at (Setup [] ∷ attacked_trace) 1 3 _ refl refl
idle (suc (suc (suc (suc zero)))) = no_start_at (Setup [] ∷ attacked_trace) 1 4 _ refl refl
idle (suc (suc (suc (suc (suc zero))))) = no_start_at (Setup [] ∷ attacked_trace) 1 5 _ refl refl
idle (suc (suc (suc (suc (suc (suc zero)))))) = no_start_at (Setup [] ∷ attacked_trace) 1 6 _ refl refl
idle (suc (suc (suc (suc (suc (suc (suc zero))))))) = no_start_at (Setup [] ∷ attacked_trace) 1 7 _ refl refl
idle (suc (suc (suc (suc (suc (suc (suc (suc zero)))))))) = no_start_at (Setup [] ∷ attacked_trace) 1 8 _ refl refl
idle (suc (suc (suc (suc (suc (suc (suc (suc (suc i))))))))) = none_at (Setup [] ∷ attacked_trace) 1 _ refl

-- alice goes on in her session with the message of the attacker, which is no greeting
abbrev whole : List Entry
whole =
    attacked_trace
    ++ replies 5 1 8
    ∷ nonce_for 3 alice
    ∷ Message 9 (Nonce 2)
    ∷ End 9 (Stopped 2)
    ∷ Forge 6
    ∷ Skip 8
    ∷ []

-- the first trace: each entry of it may follow those before it
whole_walks : Walks decls (Setup [] ∷ []) whole
whole_walks = (
  record { unused = refl; declared = begin; is_declared = refl; arguments = refl; session_fits = refl; message_fits = tt },
  (
    refl,
    (
      record { unused = refl; declared = begin; is_declared = refl; arguments = refl; session_fits = refl; message_fits = tt },
      (
        refl,
        (
          refl,
          (
            refl,
            (
              refl,
              (
                record { unused = refl; derived = attacker.corrupted 5 1 alice 1 1 (codes "Stage") (Nonce 2 ∷ []) (Nonce 2) refl refl (search rules); few_nodes = omega arith },
                (
                  record { unused = refl; declared = reply; is_declared = refl; arguments = refl; session_fits = (record { start = _; stands = refl; opens = refl }, idle); message_fits = (Nonce 2, refl) },
                  (refl, (refl, (refl, (refl, (refl, tt))))),
                ),
              ),
            ),
          ),
        ),
      ),
    ),
  ),
)

-- It is an interleaving of each file that declares the two handlers.
whole_is_one : (file : File) → file.decls ≡ decls → Reads [] file → IsWellFormed file → Interleaves [] file (Setup [] ∷ whole)
whole_is_one file same reads well_formed = walked [] file whole reads well_formed (subst (λ (ds : List Decl). Walks ds (Setup [] ∷ []) whole) (sym same) whole_walks)

inside : {A : Type 0} (a b : A) → Some a ≡ Some b → a ≡ b
inside a b same = cc

-- The second trace is that of one entry more after alice's opening, and is none for each of these entries.
module _ (bytes : List ℕ) (file : File) (declares : file.decls ≡ decls) where
  -- an entry that may not follow of the two handlers
  none_after : (before : List Entry) (e : Entry) → (MayFollow decls (Setup bytes ∷ before) e → ⊥) → Interleaves bytes file (Setup bytes ∷ before ++ e ∷ []) → ⊥
  none_after before e may_not =
      none_with bytes file (Setup bytes) before e (λ may. may_not (subst (λ (ds : List Decl). MayFollow ds (Setup bytes ∷ before) e) declares may))

  -- a step that was used
  used_step : Interleaves bytes file (Setup bytes ∷ opening ++ Forge 7 ∷ []) → ⊥
  used_step = none_after opening (Forge 7) (λ unused. cc)

  -- an item that is not the next one
  other_item : Interleaves bytes file (Setup bytes ∷ opening ++ nonce_for 3 bob ∷ []) → ⊥
  other_item = none_after opening (nonce_for 3 bob) (λ next. cc)

  -- an item after the End
  after_end : Interleaves bytes file (Setup bytes ∷ opening ++ Message 1 (Nonce 2) ∷ []) → ⊥
  after_end = none_after opening (Message 1 (Nonce 2)) (λ next. cc)

  -- an item of no instance
  no_instance : Interleaves bytes file (Setup bytes ∷ opening ++ Message 2 (Nonce 2) ∷ []) → ⊥
  no_instance = none_after opening (Message 2 (Nonce 2)) (λ next. cc)

  -- a second Setup
  second_setup : Interleaves bytes file (Setup bytes ∷ opening ++ Setup bytes ∷ []) → ⊥
  second_setup = none_after opening (Setup bytes) (λ never. never)

  -- a handler that receives a message, started with none
  no_message : Interleaves bytes file (Setup bytes ∷ opening ++ Start 9 (codes "Reply") alice 1 [] None ∷ []) → ⊥
  no_message = none_after opening (Start 9 (codes "Reply") alice 1 [] None) (λ may. fits may.declared may.is_declared may.message_fits) where
    fits : (h : Handler) → Some reply ≡ Some h → MayReceive (Setup bytes ∷ opening) h.recv None → ⊥
    fits h same receives = subst (λ (r : Handler). MayReceive (Setup bytes ∷ opening) r.recv None) (sym (inside reply h same)) receives

  -- a session that another principal opened
  foreign_session : Interleaves bytes file (Setup bytes ∷ opening ++ replies 9 3 4 ∷ []) → ⊥
  foreign_session = none_after opening (replies 9 3 4) (λ may. fits may.declared may.is_declared may.session_fits) where
    not_opened : IsSessionOf (Setup bytes ∷ opening) alice 3 → ⊥
    not_opened session =
        let is_bobs : opens_for alice 3 (begins 7 bob 3 alice) ≡ true = ap (opens_for alice 3) (inside (begins 7 bob 3 alice) session.start session.stands) ∙ session.opens in
        cc

    fits : (h : Handler) → Some reply ≡ Some h → MayBeIn (Setup bytes ∷ opening) h.on alice 3 → ⊥
    fits h same be_in = not_opened (subst (λ (r : Handler). MayBeIn (Setup bytes ∷ opening) r.on alice 3) (sym (inside reply h same)) be_in).0
