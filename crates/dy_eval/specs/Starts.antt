-- How an instance starts.
use Rattle.std.specs.Prelude.{ℕ, List, [], ◌∷◌, ◌++◌, Option, Some, None, slice_get}
use Rattle.std.specs.Option.{option_map, option_and_then}
use Rattle.dy_term.specs.Terms as trees
use Rattle.dy_term.specs.Terms.{Term}
use Rattle.dy_syntax.specs.Names.{Id}
use Rattle.dy_syntax.specs.Statements as statements
use Rattle.dy_syntax.specs.Files.{Decl}
use Rattle.dy_syntax.specs.LookUps.{handler_named}
use Rattle.dy_entry.specs.Entries.{Entry, Start, Message, Inject}
use Rattle.dy_eval.specs.declared.written.Written.{Written}
use Rattle.dy_eval.specs.Lines.{lines_of, first_number}
use Rattle.dy_eval.specs.Runs.{Left, Next, does}

-- names in place of a handler's arguments
abbrev pub names_written : List Id → List (List ℕ) → List Written
names_written (arg ∷ args) (name ∷ names) =
    record { word = arg.word; bytes = trees.Name name } ∷ names_written args names
names_written _ _ = []

-- the received message in place of its word
abbrev pub message_written : Option Id → Option Term → List Written
message_written (Some word) (Some message) = record { word = word.word; bytes = message } ∷ []
message_written _ _ = []

-- what an instance of a handler has to do when it starts
abbrev pub opening : List Decl → statements.Handler → List ℕ → ℕ → List (List ℕ) → Option Term → Left
opening decls handler principal session args message =
    record {
      names =
          record {
            principal = principal;
            session = session;
            written = names_written handler.args args ++ message_written handler.recv message;
          };
      number = first_number handler;
      lines = lines_of decls handler;
    }

-- the bytes that may be received of an entry
abbrev pub message_in : Entry → Option Term
message_in (Message instance value) = Some value
message_in (Inject step value) = Some value
message_in e = None

-- What the instance of a Start does next, after a trace: the item after those whose entries have these indices, or
-- how it ends. There is nothing where the entry is no Start of a handler that is declared.
abbrev pub does_after : List Decl → List Entry → Entry → List ℕ → Option Next
does_after decls X (Start step handler principal session args message) indices =
    let received = option_and_then (λ index. option_and_then message_in (slice_get X index)) message in
    option_map (λ h. does X (opening decls h principal session args received) indices) (handler_named decls handler)
does_after decls X e indices = None
