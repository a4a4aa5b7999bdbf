-- Handlers that run, step by step, by computation.
use Rattle.std.proofs.Common.{◌≡◌, ℕ, List, [], ◌∷◌, Some, None, refl}
use Rattle.std.specs.Prelude.{codes}
use Rattle.dy_term.specs.Terms.{Term, Lit, Nonce, Pair, Aead}
use Rattle.dy_label.specs.Labels as labels
use Rattle.dy_label.specs.Labels.{Version}
use Rattle.dy_label.specs.declared.usages.Kind.TheVariants as kinds
use Rattle.dy_label.specs.declared.usages.Usage.{Usage}
use Rattle.dy_label.specs.declared.usages.Outcome.TheVariants.{Done, Stopped}
use Rattle.dy_syntax.specs.Names as names
use Rattle.dy_syntax.specs.Names.{Id, Quote, UseText, Nm, Named}
use Rattle.dy_syntax.specs.Labels as text
use Rattle.dy_syntax.specs.Expressions as e
use Rattle.dy_syntax.specs.Statements as s
use Rattle.dy_syntax.specs.Statements.{Handler, Statement, Act}
use Rattle.dy_syntax.specs.Files.{Decl}
use Rattle.dy_syntax.specs.Files as files
use Rattle.dy_entry.specs.Entries.{Entry}
use Rattle.dy_entry.specs.Entries as entries
use Rattle.dy_eval.specs.declared.items.Item.TheVariants.{Fresh, Message, State}
use Rattle.dy_eval.specs.declared.items.Emit.TheVariants.{Put, End}
use Rattle.dy_eval.specs.Runs.{Left, does}
use Rattle.dy_eval.specs.Starts.{opening}
use Rattle.dy_eval.specs.Turns.{emit_of}

abbrev id : List ℕ → Id
id word = record { word = word; line = 1 }

abbrev quote : List ℕ → Quote
quote text = record { text = text; line = 1 }

abbrev stmt : Act → Statement
stmt act = record { line = 1; act = act }

abbrev box : UseText
box = record { usage = id (codes "Box"); args = [] }

abbrev decls : List Decl
decls = files.Usage (record { line = 1; kind = names.Aead; kind_line = 1; name = id (codes "Box"); params = []; rows = [] }) ∷ []

abbrev box_meant : Usage
box_meant = record { kind = kinds.Aead; name = codes "Box"; owners = [] }

-- It makes a key, sends a text, and opens what it received with its key.
abbrev get : Handler
get = record {
  line = 1;
  name = id (codes "Get");
  on = None;
  args = [];
  recv = Some (id (codes "m"));
  body =
      stmt (s.New (id (codes "k")) box (text.Nobody 1))
      ∷ stmt (s.Send (e.Lit (quote (codes "got"))))
      ∷ stmt (s.Opened (id (codes "m")) (id (codes "k")) box (quote (codes "d")) (s.Bind (id (codes "x")) ∷ []) (e.Lit (quote [])))
      ∷ [];
}

-- what was sealed with the key of this index
abbrev sealed_with : ℕ → Term
sealed_with index = Aead (Nonce index) (Pair (Lit (codes "d")) (Lit (codes "hi"))) (Lit [])

abbrev got_from : ℕ → Left
got_from index = opening decls get (codes "bob") 5 [] (Some (sealed_with index))

first_a_key : emit_of (does [] (got_from 2) []) ≡ Put (Fresh labels.Nobody box_meant)
first_a_key = refl

then_a_text : emit_of (does [] (got_from 2) (6 ∷ [])) ≡ Put (Message (Lit (codes "got")))
then_a_text = refl

another_key_opens_nothing : emit_of (does [] (got_from 2) (6 ∷ 7 ∷ [])) ≡ End (Stopped 3)
another_key_opens_nothing = refl

its_own_key_opens : emit_of (does [] (got_from 6) (6 ∷ 7 ∷ [])) ≡ End Done
its_own_key_opens = refl

-- It goes on from a state, makes a key for the next version, and stores it.
abbrev two : Handler
two = record {
  line = 1;
  name = id (codes "Two");
  on = Some (record { line = 1; state = id (codes "S"); pats = s.Bind (id (codes "old")) ∷ [] });
  args = [];
  recv = None;
  body = stmt (s.New (id (codes "k")) box (text.Next 1)) ∷ stmt (s.Store (id (codes "S")) (e.Nm (Named (id (codes "k"))) ∷ [])) ∷ [];
}

-- the first version of a session, stored with this tag
abbrev stored_trace : List ℕ → List Entry
stored_trace tag = entries.State 1 (codes "alice") 1 1 tag (Nonce 2 ∷ []) ∷ []

abbrev goes_on : Left
goes_on = opening decls two (codes "alice") 1 [] None

a_key_for_the_next_version : emit_of (does (stored_trace (codes "S")) goes_on []) ≡ Put (Fresh (labels.One (Version (codes "alice") 1 2)) box_meant)
a_key_for_the_next_version = refl

the_next_version : emit_of (does (stored_trace (codes "S")) goes_on (8 ∷ [])) ≡ Put (State 2 (codes "S") (Nonce 8 ∷ []))
the_next_version = refl

and_ends : emit_of (does (stored_trace (codes "S")) goes_on (8 ∷ 9 ∷ [])) ≡ End Done
and_ends = refl

another_tag_is_no_such_state : emit_of (does (stored_trace (codes "T")) goes_on []) ≡ End (Stopped 0)
another_tag_is_no_such_state = refl

no_state_to_go_on_from : emit_of (does [] goes_on []) ≡ End (Stopped 0)
no_state_to_go_on_from = refl
