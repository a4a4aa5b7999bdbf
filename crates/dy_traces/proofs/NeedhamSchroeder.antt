-- The declarations of examples/needham-schroeder.dy, and those of its repaired form, examples/needham-schroeder-lowe.dy.
use Rattle.std.proofs.Common.{ℕ, Bool, true, false, List, [], ◌∷◌, ◌++◌, Option, Some, None, codes}
use Rattle.dy_syntax.specs.Names as names
use Rattle.dy_syntax.specs.Names.{Id, Quote, Nm, Me, UseText, AtomText}
use Rattle.dy_syntax.specs.Labels as labels
use Rattle.dy_syntax.specs.Labels.{LabelText}
use Rattle.dy_syntax.specs.Expressions as expressions
use Rattle.dy_syntax.specs.Expressions.{Expr, row_of}
use Rattle.dy_syntax.specs.Declarations as types
use Rattle.dy_syntax.specs.Declarations.{FieldType, Field, Partner, CaseDecl, EventDecl}
use Rattle.dy_syntax.specs.Statements as statements
use Rattle.dy_syntax.specs.Statements.{Act, Statement, OnPart, Handler, Pattern, Bind, Named, Equal}
use Rattle.dy_syntax.specs.Files as files
use Rattle.dy_syntax.specs.Files.{Decl}

-- ---- parts, each with its line

abbrev id : ℕ → List ℕ → Id
id line word = record { word = word; line = line }

abbrev quote : ℕ → List ℕ → Quote
quote line text = record { text = text; line = line }

abbrev nm : ℕ → List ℕ → Nm
nm line word = names.Named (id line word)

abbrev var : ℕ → List ℕ → Expr
var line word = expressions.Nm (nm line word)

abbrev use_of : ℕ → List ℕ → List Nm → UseText
use_of line usage args = record { usage = id line usage; args = args }

abbrev atom : ℕ → List ℕ → List Nm → AtomText
atom line event args = record { event = id line event; args = args }

-- join(l, m) of two readers
abbrev either : ℕ → Nm → Nm → LabelText
either line left right = labels.Join line (labels.One left) (labels.One right)

abbrev field : ℕ → List ℕ → FieldType → Field
field line name type = record { name = id line name; kind = type; kind_line = line }

abbrev does : ℕ → Act → Statement
does line act = record { line = line; act = act }

-- ---- the words of the files

abbrev pub dec : List ℕ
dec = codes "Dec"

abbrev pub rand : List ℕ
rand = codes "Rand"

abbrev pub key : List ℕ
key = codes "Key"

-- ---- the declarations

-- event NAME(name FIRST, name SECOND, nb)
abbrev event_decl : ℕ → List ℕ → List ℕ → List ℕ → List Partner → EventDecl
event_decl line name first second after = record {
  line = line;
  name = id line name;
  params =
      record { line = line; is_name = true; name = id line first }
      ∷ record { line = line; is_name = true; name = id line second }
      ∷ record { line = line; is_name = false; name = id line (codes "nb") }
      ∷ [];
  after = after;
}

-- after EVENT(FIRST, SECOND, nb) unless join(a, b)
abbrev partner : ℕ → List ℕ → List ℕ → List ℕ → Partner
partner line event first second = record {
  atom = atom line event (nm line first ∷ nm line second ∷ nm line (codes "nb") ∷ []);
  unless = either line (nm line (codes "a")) (nm line (codes "b"));
}

abbrev case_decl : ℕ → List ℕ → List Field → List AtomText → CaseDecl
case_decl line tag fields events = record {
  line = line;
  usage = id line dec;
  tag = quote line tag;
  fields = fields;
  requires_ = events;
}

abbrev state_decl : ℕ → List ℕ → Bool → List Field → Decl
state_decl line name lasting fields =
    files.State (record { line = line; name = id line name; lasting = lasting; fields = fields; knows = [] })

abbrev handler : ℕ → List ℕ → Option OnPart → List Id → Option Id → List Statement → Handler
handler line name on args recv body =
    record { line = line; name = id line name; on = on; args = args; recv = recv; body = body }

-- use Key(sk)
abbrev use_key : ℕ → Statement
use_key line = does line (statements.Recall (id line key) (Bind (id line (codes "sk")) ∷ []))

-- find Dec of OWNER as NAME
abbrev find_key : ℕ → List ℕ → List ℕ → Statement
find_key line owner name = does line (statements.Find (id line dec) (nm line owner) (id line name))

-- popen m with sk using Dec(self) as TAG(PATTERNS)
abbrev decrypt : ℕ → List ℕ → List Pattern → Statement
decrypt line tag pats =
    does line
    (statements.Popened (id line (codes "m")) (id line (codes "sk")) (use_of line dec (Me line ∷ [])) (quote line tag)
    pats)

-- send penc(KEY using Dec(OWNER), TAG(FIELDS))
abbrev encrypt : ℕ → List ℕ → List ℕ → List ℕ → List Expr → Statement
encrypt line public owner tag fields =
    does line
    (statements.Send (expressions.Penc line (nm line public) (use_of line dec (nm line owner ∷ [])) (quote line tag)
    (row_of fields)))

abbrev pub confirm_partner : Partner
confirm_partner = partner 6 (codes "Confirm") (codes "a") (codes "b")

abbrev pub accept_event : EventDecl
accept_event = event_decl 6 (codes "Accept") (codes "b") (codes "a") (confirm_partner ∷ [])

abbrev declared_first : List Decl
declared_first =
    files.Usage (record {
      line = 2;
      kind = names.Pke;
      kind_line = 2;
      name = id 2 dec;
      params = id 2 (codes "owner") ∷ [];
      rows = [];
    })
    ∷ files.Usage (record { line = 3; kind = names.Nonce; kind_line = 3; name = id 3 rand; params = []; rows = [] })
    ∷ files.Event (event_decl 4 (codes "Reply") (codes "b") (codes "a") [])
    ∷ files.Event (event_decl 5 (codes "Confirm") (codes "a") (codes "b") (partner 5 (codes "Reply") (codes "b") (codes "a") ∷ []))
    ∷ files.Event accept_event
    ∷ files.Case (case_decl 7 (codes "ask")
    (field 7 (codes "na") (types.Secret (either 7 (nm 7 (codes "a")) (nm 7 (codes "owner"))))
    ∷ field 7 (codes "a") types.Name ∷ []) [])
    ∷ []

abbrev declared_then : List Decl
declared_then =
    files.Case (case_decl 9 (codes "confirm")
    (field 9 (codes "nb") (types.Upto (either 9 (nm 9 (codes "a")) (nm 9 (codes "owner"))))
    ∷ field 9 (codes "a") types.Name ∷ [])
    (atom 9 (codes "Confirm") (nm 9 (codes "a") ∷ nm 9 (codes "owner") ∷ nm 9 (codes "nb") ∷ []) ∷ []))
    ∷ state_decl 10 key true
    (field 10 (codes "sk") (types.Key (labels.One (Me 10)) (use_of 10 dec (Me 10 ∷ []))) ∷ [])
    ∷ state_decl 11 (codes "Asked") false
    (field 11 (codes "na") (types.Secret (either 11 (Me 11) (nm 11 (codes "b"))))
    ∷ field 11 (codes "b") types.Name ∷ [])
    ∷ state_decl 12 (codes "Replied") false
    (field 12 (codes "nb") (types.Secret (either 12 (Me 12) (nm 12 (codes "a"))))
    ∷ field 12 (codes "a") types.Name ∷ [])
    ∷ []

abbrev pub make_key : Handler
make_key = handler 13 (codes "MakeKey") None [] None
    (does 14 (statements.New (id 14 (codes "sk")) (use_of 14 dec (Me 14 ∷ [])) (labels.One (Me 14)))
    ∷ does 15 (statements.Certify (id 15 (codes "sk")) (id 15 dec))
    ∷ does 16 (statements.Store (id 16 key) (var 16 (codes "sk") ∷ []))
    ∷ [])

abbrev pub ask : Handler
ask = handler 18 (codes "Ask") None (id 18 (codes "b") ∷ []) None
    (find_key 19 (codes "b") (codes "pb")
    ∷ does 20 (statements.New (id 20 (codes "na")) (use_of 20 rand []) (either 20 (Me 20) (nm 20 (codes "b"))))
    ∷ encrypt 21 (codes "pb") (codes "b") (codes "ask") (var 21 (codes "na") ∷ expressions.Nm (Me 21) ∷ [])
    ∷ does 22 (statements.Store (id 22 (codes "Asked")) (var 22 (codes "na") ∷ var 22 (codes "b") ∷ []))
    ∷ [])

-- It sends these fields.
abbrev pub reply : List Expr → Handler
reply fields = handler 24 (codes "Reply") None [] (Some (id 24 (codes "m")))
    (use_key 25
    ∷ decrypt 26 (codes "ask") (Bind (id 26 (codes "na")) ∷ Named 26 (id 26 (codes "a")) ∷ [])
    ∷ find_key 27 (codes "a") (codes "pa")
    ∷ does 28 (statements.New (id 28 (codes "nb")) (use_of 28 rand []) (either 28 (Me 28) (nm 28 (codes "a"))))
    ∷ does 29 (statements.Event (atom 29 (codes "Reply") (Me 29 ∷ nm 29 (codes "a") ∷ nm 29 (codes "nb") ∷ [])))
    ∷ encrypt 30 (codes "pa") (codes "a") (codes "reply") fields
    ∷ does 31 (statements.Store (id 31 (codes "Replied")) (var 31 (codes "nb") ∷ var 31 (codes "a") ∷ []))
    ∷ [])

-- It matches the fields against these patterns.
abbrev pub confirm : List Pattern → Handler
confirm pats = handler 33 (codes "Confirm")
    (Some (record {
      line = 33;
      state = id 33 (codes "Asked");
      pats = Bind (id 33 (codes "na")) ∷ Named 33 (id 33 (codes "b")) ∷ [];
    }))
    [] (Some (id 33 (codes "m")))
    (use_key 34
    ∷ decrypt 35 (codes "reply") pats
    ∷ does 36 (statements.Event (atom 36 (codes "Confirm") (Me 36 ∷ nm 36 (codes "b") ∷ nm 36 (codes "nb") ∷ [])))
    ∷ find_key 37 (codes "b") (codes "pb")
    ∷ encrypt 38 (codes "pb") (codes "b") (codes "confirm") (var 38 (codes "nb") ∷ expressions.Nm (Me 38) ∷ [])
    ∷ [])

abbrev pub accept : Handler
accept = handler 40 (codes "Accept")
    (Some (record {
      line = 40;
      state = id 40 (codes "Replied");
      pats = Bind (id 40 (codes "nb")) ∷ Named 40 (id 40 (codes "a")) ∷ [];
    }))
    [] (Some (id 40 (codes "m")))
    (use_key 41
    ∷ decrypt 42 (codes "confirm") (Equal 42 (nm 42 (codes "nb")) ∷ Equal 42 (nm 42 (codes "a")) ∷ [])
    ∷ does 43 (statements.Event (atom 43 (codes "Accept") (Me 43 ∷ nm 43 (codes "a") ∷ nm 43 (codes "nb") ∷ [])))
    ∷ [])

-- the files, by the case of message 2, what is sent by it, and what is matched
abbrev pub file_with : CaseDecl → List Expr → List Pattern → List Decl
file_with case fields pats =
    declared_first ++ files.Case case ∷ declared_then
    ++ files.Handler make_key ∷ files.Handler ask ∷ files.Handler (reply fields) ∷ files.Handler (confirm pats)
    ∷ files.Handler accept ∷ []

-- ---- examples/needham-schroeder.dy

abbrev pub original_case : CaseDecl
original_case = case_decl 8 (codes "reply")
    (field 8 (codes "na") (types.Upto (labels.One (nm 8 (codes "owner"))))
    ∷ field 8 (codes "nb") (types.Secret (labels.One (nm 8 (codes "owner"))))
    ∷ [])
    []

abbrev pub original_fields : List Expr
original_fields = var 30 (codes "na") ∷ var 30 (codes "nb") ∷ []

abbrev pub original_pats : List Pattern
original_pats = Equal 35 (nm 35 (codes "na")) ∷ Bind (id 35 (codes "nb")) ∷ []

abbrev pub original_decls : List Decl
original_decls = file_with original_case original_fields original_pats

-- ---- examples/needham-schroeder-lowe.dy, where message 2 says who replies

abbrev pub repaired_case : CaseDecl
repaired_case = case_decl 8 (codes "reply")
    (field 8 (codes "na") (types.Upto (either 8 (nm 8 (codes "owner")) (nm 8 (codes "b"))))
    ∷ field 8 (codes "nb") (types.Secret (either 8 (nm 8 (codes "owner")) (nm 8 (codes "b"))))
    ∷ field 8 (codes "b") types.Name
    ∷ [])
    (atom 8 (codes "Reply") (nm 8 (codes "b") ∷ nm 8 (codes "owner") ∷ nm 8 (codes "nb") ∷ []) ∷ [])

abbrev pub repaired_fields : List Expr
repaired_fields = var 30 (codes "na") ∷ var 30 (codes "nb") ∷ expressions.Nm (Me 30) ∷ []

abbrev pub repaired_pats : List Pattern
repaired_pats =
    Equal 35 (nm 35 (codes "na")) ∷ Bind (id 35 (codes "nb")) ∷ Equal 35 (nm 35 (codes "b")) ∷ []

abbrev pub repaired_decls : List Decl
repaired_decls = file_with repaired_case repaired_fields repaired_pats
