-- The canonical text of a protocol file: for each part of a file its tokens in order.
use Rattle.std.specs.Prelude.{ℕ, Bool, true, false, List, [], ◌∷◌, ◌++◌, codes, Option, Some, None}
use Rattle.std.specs.List.{flat_map}
use Rattle.std.specs.Fmt.{decimal}
use Rattle.dy_term.specs.Characters.{in_quotes}
use Rattle.dy_lex.specs.declared.letters.TheConstants.{NEWLINE}
use Rattle.dy_lex.specs.declared.tokens.TokenKind.TheVariants.{Word, Number, Text, Symbol}
use Rattle.dy_syntax.specs.Names as n
use Rattle.dy_syntax.specs.Names.{Id, Quote, Nm, KindText, UseText, AtomText}
use Rattle.dy_syntax.specs.Labels as l
use Rattle.dy_syntax.specs.Labels.{LabelText}
use Rattle.dy_syntax.specs.Expressions as e
use Rattle.dy_syntax.specs.Expressions.{Expr, Exprs}
use Rattle.dy_syntax.specs.Declarations as d
use Rattle.dy_syntax.specs.Declarations.{FieldType, Field, Row, Param, Partner, UsageDecl, CaseDecl, EventDecl, StateDecl}
use Rattle.dy_syntax.specs.Statements as s
use Rattle.dy_syntax.specs.Statements.{Pattern, OnPart, Act, Statement, Handler}
use Rattle.dy_syntax.specs.Recipes as r
use Rattle.dy_syntax.specs.Recipes.{Numbered, RecipeText, Recipes}
use Rattle.dy_syntax.specs.Plans as p
use Rattle.dy_syntax.specs.Plans.{OnStep, Action, Step, Round, Plan}
use Rattle.dy_syntax.specs.Files as f
use Rattle.dy_syntax.specs.Files.{Decl, File}
use Rattle.dy_show.specs.declared.spacing.Stand.TheVariants.{Near, Apart, Between, OnLine, Indented}
use Rattle.dy_show.specs.declared.spacing.Ending.TheVariants.{Bound}
use Rattle.dy_show.specs.Spacing.{Lexeme, text_after}

-- ---- single tokens

abbrev pub word : List ℕ → Lexeme
word w = record { stand = Near; kind = Word; text = w }

-- a word that begins a line
abbrev pub line : List ℕ → Lexeme
line w = record { stand = OnLine; kind = Word; text = w }

-- a word that begins a line after two spaces
abbrev pub first_word : List ℕ → Lexeme
first_word w = record { stand = Indented; kind = Word; text = w }

abbrev pub mark : List ℕ → Lexeme
mark m = record { stand = Near; kind = Symbol; text = m }

-- a symbol with a space on both sides
abbrev pub between : List ℕ → Lexeme
between m = record { stand = Between; kind = Symbol; text = m }

abbrev pub name : Id → Lexeme
name id = word id.word

abbrev pub text : Quote → Lexeme
text quote = record { stand = Near; kind = Text; text = in_quotes quote.text }

abbrev pub number : ℕ → Lexeme
number i = record { stand = Near; kind = Number; text = decimal i }

abbrev pub left_paren : Lexeme
left_paren = mark (codes "(")

abbrev pub right_paren : Lexeme
right_paren = mark (codes ")")

abbrev pub comma : Lexeme
comma = mark (codes ",")

abbrev pub semicolon : Lexeme
semicolon = mark (codes ";")

abbrev pub colon : Lexeme
colon = mark (codes ":")

abbrev pub dot : Lexeme
dot = mark (codes ".")

abbrev pub left_brace : Lexeme
left_brace = mark (codes "{")

abbrev pub right_brace : Lexeme
right_brace = mark (codes "}")

-- a brace that begins a line
abbrev pub last_brace : Lexeme
last_brace = record { stand = OnLine; kind = Symbol; text = codes "}" }

-- ---- lists

-- items with a comma before each, and what ends the list
unfoldable pub more_to : {A : Type 0} → Lexeme → (A → List Lexeme) → List A → List Lexeme
more_to end item [] = end ∷ []
more_to end item (x ∷ xs) = comma ∷ (item x ++ more_to end item xs)

-- items with commas between them, and what ends the list
unfoldable pub comma_list : {A : Type 0} → Lexeme → (A → List Lexeme) → List A → List Lexeme
comma_list end item [] = end ∷ []
comma_list end item (x ∷ xs) = item x ++ more_to end item xs

-- such a list in parentheses, after the first of them
abbrev pub commas : {A : Type 0} → (A → List Lexeme) → List A → List Lexeme
commas item xs = comma_list right_paren item xs

-- nothing, or a word and items with commas between them, and `;`
unfoldable pub list_end : {A : Type 0} → List ℕ → (A → List Lexeme) → List A → List Lexeme
list_end w item [] = semicolon ∷ []
list_end w item (x ∷ xs) = word w ∷ comma_list semicolon item (x ∷ xs)

-- items, and what ends them
abbrev pub many_to : {A : Type 0} → Lexeme → (A → List Lexeme) → List A → List Lexeme
many_to end item xs = flat_map item xs ++ end ∷ []

-- ---- names, usages, events, labels

abbrev pub id : Id → List Lexeme
id i = name i ∷ []

abbrev pub nm : Nm → List Lexeme
nm (n.Named i) = name i ∷ []
nm (n.Me line) = word (codes "self") ∷ []

abbrev pub kind : KindText → Lexeme
kind n.Nonce = word (codes "nonce")
kind n.Pke = word (codes "pke")
kind n.Sig = word (codes "sig")
kind n.Aead = word (codes "aead")
kind n.Mac = word (codes "mac")
kind n.Kdf = word (codes "kdf")

unfoldable pub use_text : UseText → List Lexeme
use_text u = name u.usage ∷ left_paren ∷ commas nm u.args

unfoldable pub atom : AtomText → List Lexeme
atom a = name a.event ∷ left_paren ∷ commas nm a.args

unfoldable pub label : LabelText → List Lexeme
label (l.Public line) = word (codes "public") ∷ []
label (l.Nobody line) = word (codes "nobody") ∷ []
label (l.Session line) = word (codes "session") ∷ []
label (l.Next line) = word (codes "next") ∷ []
label (l.Prior line) = word (codes "prior") ∷ []
label (l.Here line) = word (codes "here") ∷ []
label (l.One name) = nm name
label (l.Join line left right) =
    word (codes "join") ∷ left_paren ∷ (label left ++ comma ∷ (label right ++ right_paren ∷ []))
label (l.Meet line left right) =
    word (codes "meet") ∷ left_paren ∷ (label left ++ comma ∷ (label right ++ right_paren ∷ []))

-- ---- expressions

-- a key and its usage, and a tuple's tag
unfoldable pub seal : List ℕ → Nm → UseText → Quote → List Lexeme
seal w key usage tag =
    word w ∷ left_paren ∷ (nm key ++ word (codes "using") ∷ (use_text usage ++ comma ∷ text tag ∷ left_paren ∷ []))

unfoldable mutual
  pub expr : Expr → List Lexeme
  expr (e.Nm name) = nm name
  expr (e.Lit quote) = text quote ∷ []
  expr (e.Tuple tag args) = text tag ∷ left_paren ∷ exprs args
  expr (e.Pair line first second) =
      word (codes "pair") ∷ left_paren ∷ (expr first ++ comma ∷ (expr second ++ right_paren ∷ []))
  expr (e.Pk line key) = word (codes "pk") ∷ left_paren ∷ (nm key ++ right_paren ∷ [])
  expr (e.Vk line key) = word (codes "vk") ∷ left_paren ∷ (nm key ++ right_paren ∷ [])
  expr (e.Penc line key usage tag args) = seal (codes "penc") key usage tag ++ (exprs args ++ right_paren ∷ [])
  expr (e.Aead line key usage tag args ad) =
      seal (codes "aead") key usage tag ++ (exprs args ++ comma ∷ (expr ad ++ right_paren ∷ []))
  expr (e.Sign line key usage tag args) = seal (codes "sign") key usage tag ++ (exprs args ++ right_paren ∷ [])
  expr (e.Mac line key usage tag args) = seal (codes "mac") key usage tag ++ (exprs args ++ right_paren ∷ [])
  expr (e.Kdf line key context input) =
      word (codes "kdf") ∷ left_paren ∷ (nm key ++ comma ∷ text context ∷ comma ∷ (expr input ++ right_paren ∷ []))
  expr (e.Hash line message) = word (codes "hash") ∷ left_paren ∷ (expr message ++ right_paren ∷ [])

  -- the fields of a tuple, and `)`
  pub exprs : Exprs → List Lexeme
  exprs e.Nil = right_paren ∷ []
  exprs (e.Cons first rest) = expr first ++ more_exprs rest

  pub more_exprs : Exprs → List Lexeme
  more_exprs e.Nil = right_paren ∷ []
  more_exprs (e.Cons first rest) = comma ∷ (expr first ++ more_exprs rest)

-- ---- declarations

unfoldable pub field_type : FieldType → List Lexeme
field_type d.Name = word (codes "name") ∷ []
field_type d.Any = word (codes "any") ∷ []
field_type (d.Upto to) = word (codes "upto") ∷ label to
field_type (d.Secret to) = word (codes "secret") ∷ label to
field_type (d.Key to usage) = word (codes "key") ∷ (label to ++ use_text usage)
field_type (d.Pk to usage) = word (codes "pk") ∷ (label to ++ use_text usage)
field_type (d.Vk to usage) = word (codes "vk") ∷ (label to ++ use_text usage)

unfoldable pub field : Field → List Lexeme
field x = name x.name ∷ colon ∷ field_type x.kind

unfoldable pub row : Row → List Lexeme
row x = text x.text ∷ mark (codes "->") ∷ kind x.kind ∷ name x.usage ∷ semicolon ∷ []

abbrev pub param_named : Bool → Id → List Lexeme
param_named true i = word (codes "name") ∷ name i ∷ []
param_named false i = name i ∷ []

unfoldable pub param : Param → List Lexeme
param x = param_named x.is_name x.name

unfoldable pub partner : Partner → List Lexeme
partner x = atom x.atom ++ word (codes "unless") ∷ label x.unless

-- a table, where it has rows, and `;`
unfoldable pub table : List Row → List Lexeme
table [] = semicolon ∷ []
table (x ∷ xs) = left_brace ∷ (many_to right_brace row (x ∷ xs) ++ semicolon ∷ [])

unfoldable pub usage_decl : UsageDecl → List Lexeme
usage_decl x =
    line (codes "usage") ∷ kind x.kind ∷ name x.name ∷ left_paren ∷ (commas id x.params ++ table x.rows)

unfoldable pub case_decl : CaseDecl → List Lexeme
case_decl x =
    line (codes "case") ∷ name x.usage ∷ text x.tag ∷ left_paren ∷
    (commas field x.fields ++ list_end (codes "requires") atom x.requires_)

unfoldable pub event_decl : EventDecl → List Lexeme
event_decl x =
    line (codes "event") ∷ name x.name ∷ left_paren ∷
    (commas param x.params ++ list_end (codes "after") partner x.after)

abbrev pub apart_paren : Lexeme
apart_paren = record { stand = Apart; kind = Symbol; text = codes "(" }

-- `lasting` or nothing, and `(` after a space
abbrev pub lasting_open : Bool → List Lexeme
lasting_open true = word (codes "lasting") ∷ apart_paren ∷ []
lasting_open false = apart_paren ∷ []

unfoldable pub state_decl : StateDecl → List Lexeme
state_decl x =
    line (codes "state") ∷ name x.name ∷
    (lasting_open x.lasting ++ (commas field x.fields ++ list_end (codes "knows") partner x.knows))

-- ---- handlers

unfoldable pub pattern_ : Pattern → List Lexeme
pattern_ (s.Bind i) = name i ∷ []
pattern_ (s.Named line i) = word (codes "name") ∷ name i ∷ []
pattern_ (s.Equal line to) = mark (codes "=") ∷ nm to

-- a value, its key and usage, and a case with patterns for its fields
unfoldable pub opened_as : List ℕ → Id → Id → UseText → Quote → List Pattern → List Lexeme
opened_as w value key usage tag pats =
    first_word w ∷ name value ∷ word (codes "with") ∷ name key ∷ word (codes "using") ∷
    (use_text usage ++ word (codes "as") ∷ text tag ∷ left_paren ∷ commas pattern_ pats)

unfoldable pub act : Act → List Lexeme
act (s.New i usage to) =
    first_word (codes "new") ∷ name i ∷ between (codes ":") ∷
    (use_text usage ++ word (codes "secret") ∷ (label to ++ semicolon ∷ []))
act (s.Let i value) = first_word (codes "let") ∷ name i ∷ between (codes "=") ∷ (expr value ++ semicolon ∷ [])
act (s.Event event) = first_word (codes "event") ∷ (atom event ++ semicolon ∷ [])
act (s.Send value) = first_word (codes "send") ∷ (expr value ++ semicolon ∷ [])
act (s.Store state fields) =
    first_word (codes "store") ∷ name state ∷ left_paren ∷ (commas expr fields ++ semicolon ∷ [])
act (s.Certify key usage) =
    first_word (codes "certify") ∷ name key ∷ word (codes "as") ∷ name usage ∷ semicolon ∷ []
act (s.Find usage owner i) =
    first_word (codes "find") ∷ name usage ∷ word (codes "of") ∷
    (nm owner ++ word (codes "as") ∷ name i ∷ semicolon ∷ [])
act (s.Recall state pats) =
    first_word (codes "use") ∷ name state ∷ left_paren ∷ (commas pattern_ pats ++ semicolon ∷ [])
act (s.Split value tag pats) =
    first_word (codes "split") ∷ name value ∷ word (codes "as") ∷ text tag ∷ left_paren ∷
    (commas pattern_ pats ++ semicolon ∷ [])
act (s.Opened value key usage tag pats ad) =
    opened_as (codes "open") value key usage tag pats ++ word (codes "ad") ∷ (expr ad ++ semicolon ∷ [])
act (s.Popened value key usage tag pats) = opened_as (codes "popen") value key usage tag pats ++ semicolon ∷ []
act (s.Verify value key usage tag pats) = opened_as (codes "verify") value key usage tag pats ++ semicolon ∷ []
act (s.Check value key usage tag args) =
    first_word (codes "check") ∷ name value ∷ between (codes "=") ∷ word (codes "mac") ∷ left_paren ∷ name key ∷
    word (codes "using") ∷ (use_text usage ++ comma ∷ text tag ∷ left_paren ∷
    (commas nm args ++ right_paren ∷ semicolon ∷ []))
act (s.Same left right) = first_word (codes "same") ∷ (nm left ++ (nm right ++ semicolon ∷ []))

abbrev pub statement : Statement → List Lexeme
statement x = act x.act

-- the state that a handler goes on from, or nothing, and `args`
unfoldable pub on_args : Option OnPart → List Lexeme
on_args None = word (codes "args") ∷ []
on_args (Some on) =
    word (codes "on") ∷ name on.state ∷ left_paren ∷ (commas pattern_ on.pats ++ word (codes "args") ∷ [])

-- the message that a handler receives, or nothing, and `{`
unfoldable pub recv_open : Option Id → List Lexeme
recv_open None = left_brace ∷ []
recv_open (Some i) = word (codes "recv") ∷ name i ∷ left_brace ∷ []

unfoldable pub handler : Handler → List Lexeme
handler x =
    line (codes "handler") ∷ name x.name ∷
    (on_args x.on ++ left_paren ∷ (commas id x.args ++ (recv_open x.recv ++ many_to last_brace statement x.body)))

unfoldable pub decl : Decl → List Lexeme
decl (f.Usage x) = usage_decl x
decl (f.Case x) = case_decl x
decl (f.Event x) = event_decl x
decl (f.State x) = state_decl x
decl (f.Handler x) = handler x

-- ---- plans

abbrev pub numbered_item : List ℕ → Numbered → List Lexeme
numbered_item w x = word w ∷ name x.step ∷ dot ∷ number x.number ∷ []

abbrev pub unary : List ℕ → List Lexeme → List Lexeme
unary w a = word w ∷ left_paren ∷ (a ++ right_paren ∷ [])

abbrev pub binary : List ℕ → List Lexeme → List Lexeme → List Lexeme
binary w a b = word w ∷ left_paren ∷ (a ++ comma ∷ (b ++ right_paren ∷ []))

unfoldable mutual
  pub recipe : RecipeText → List Lexeme
  recipe (r.Lit quote) = text quote ∷ []
  recipe (r.Tuple tag args) = text tag ∷ left_paren ∷ recipes args
  recipe (r.Name line principal) = word (codes "name") ∷ name principal ∷ []
  recipe (r.Msg x) = numbered_item (codes "msg") x
  recipe (r.Cert x) = numbered_item (codes "cert") x
  recipe (r.Nonce line step) = word (codes "nonce") ∷ name step ∷ []
  recipe (r.Field line step version i) =
      word (codes "field") ∷ name step ∷ dot ∷ number version ∷ dot ∷ number i ∷ []
  recipe (r.Pair line first second) = binary (codes "pair") (recipe first) (recipe second)
  recipe (r.Pk line key) = unary (codes "pk") (recipe key)
  recipe (r.Vk line key) = unary (codes "vk") (recipe key)
  recipe (r.Penc line key message) = binary (codes "penc") (recipe key) (recipe message)
  recipe (r.Aead line key message ad) =
      word (codes "aead") ∷ left_paren ∷
      (recipe key ++ comma ∷ (recipe message ++ comma ∷ (recipe ad ++ right_paren ∷ [])))
  recipe (r.Sign line key message) = binary (codes "sign") (recipe key) (recipe message)
  recipe (r.Mac line key message) = binary (codes "mac") (recipe key) (recipe message)
  recipe (r.Kdf line key context input) =
      word (codes "kdf") ∷ left_paren ∷
      (recipe key ++ comma ∷ text context ∷ comma ∷ (recipe input ++ right_paren ∷ []))
  recipe (r.Hash line message) = unary (codes "hash") (recipe message)
  recipe (r.Fst line value) = unary (codes "fst") (recipe value)
  recipe (r.Snd line value) = unary (codes "snd") (recipe value)
  recipe (r.Pdec line value key) = binary (codes "pdec") (recipe value) (recipe key)
  recipe (r.Adec line value key) = binary (codes "adec") (recipe value) (recipe key)
  recipe (r.Ad line value) = unary (codes "ad") (recipe value)
  recipe (r.Body line value) = unary (codes "body") (recipe value)

  -- the parts of a tuple, and `)`
  pub recipes : Recipes → List Lexeme
  recipes r.Nil = right_paren ∷ []
  recipes (r.Cons first rest) = recipe first ++ more_recipes rest

  pub more_recipes : Recipes → List Lexeme
  more_recipes r.Nil = right_paren ∷ []
  more_recipes (r.Cons first rest) = comma ∷ (recipe first ++ more_recipes rest)

-- `msg` and a number of a step, or nothing, and `;`
unfoldable pub msg_end : Option Numbered → List Lexeme
msg_end None = semicolon ∷ []
msg_end (Some x) = word (codes "msg") ∷ name x.step ∷ dot ∷ number x.number ∷ semicolon ∷ []

-- `on` and a step or nothing, and the message
unfoldable pub start_end : Option OnStep → Option Numbered → List Lexeme
start_end None msg = msg_end msg
start_end (Some on) msg = word (codes "on") ∷ name on.step ∷ msg_end msg

unfoldable pub action : Action → List Lexeme
action (p.Start principal handler args on msg) =
    name principal ∷ name handler ∷ left_paren ∷ (commas id args ++ start_end on msg)
action (p.Corrupt principal session version) =
    word (codes "corrupt") ∷ name principal ∷ name session ∷ number version ∷ semicolon ∷ []
action p.Forge = word (codes "forge") ∷ semicolon ∷ []
action (p.Inject made) = word (codes "inject") ∷ (recipe made ++ semicolon ∷ [])

unfoldable pub step : Step → List Lexeme
step x = name x.name ∷ colon ∷ action x.action

unfoldable pub round : Round → List Lexeme
round x = first_word (codes "round") ∷ left_brace ∷ many_to right_brace step x.steps

-- a plan, where it has rounds
unfoldable pub rounds : List Round → List Lexeme
rounds [] = []
rounds (x ∷ xs) = line (codes "plan") ∷ left_brace ∷ many_to last_brace round (x ∷ xs)

-- ---- files

unfoldable pub file : File → List Lexeme
file x = word (codes "dystar") ∷ number x.version ∷ (flat_map decl x.decls ++ rounds x.plan.rounds)

-- the canonical text of the file, which ends with a newline
abbrev pub canon : File → List ℕ
canon x = text_after Bound (file x) ++ NEWLINE ∷ []
