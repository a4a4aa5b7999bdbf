-- The grammar of protocol files. A rule has its first token, what follows, and the value that they make.
use Rattle.std.specs.Prelude.{ℕ, ◌+◌, true, false, nat_lt, List, [], ◌∷◌, ◌++◌, codes, map, Option, Some, None, if◌then◌else◌}
use Rattle.dy_lex.specs.declared.tokens.TokenKind.TheVariants.{Word, Number, Symbol}
use Rattle.dy_syntax.specs.Names as n
use Rattle.dy_syntax.specs.Names.{Id, Quote, KindText, UseText, AtomText}
use Rattle.dy_syntax.specs.Labels as l
use Rattle.dy_syntax.specs.Labels.{LabelText}
use Rattle.dy_syntax.specs.Expressions as e
use Rattle.dy_syntax.specs.Expressions.{Expr}
use Rattle.dy_syntax.specs.Declarations as d
use Rattle.dy_syntax.specs.Declarations.{FieldType, Field, Row, Param, Partner}
use Rattle.dy_syntax.specs.Statements as s
use Rattle.dy_syntax.specs.Statements.{Pattern, OnPart, Act, Statement}
use Rattle.dy_syntax.specs.Recipes as r
use Rattle.dy_syntax.specs.Recipes.{Numbered, RecipeText}
use Rattle.dy_syntax.specs.Plans as p
use Rattle.dy_syntax.specs.Plans.{OnStep, Action, Step, Round, Plan}
use Rattle.dy_syntax.specs.Files as f
use Rattle.dy_syntax.specs.Files.{Decl, File}
use Rattle.dy_grammar.specs.declared.limits.TheConstants.{TOO_DEEP}
use Rattle.dy_grammar.specs.Terminals.{This, AName, AText, ANumber}
use Rattle.dy_grammar.specs.Tables.{Sym, silent, token, part, Takes, Rule, rule, followed_by}
use Rattle.dy_grammar.specs.Parts.{Item, AnId, ANm, AKind, AUse, AnAtom, AFieldType, AField, ARow, AParam, APartner, APattern, ALabel, AStatement, ADecl, ARound, AStep, AnAction, AnInner, AnExpr, ARecipe, ItemValue, Closing, Parenthesis, Semicolon, Listing, Requires, After, Knows, Part, AFile, Decls, TableEnd, LastingOpen, OnArgs, RecvOpen, StartEnd, MsgEnd, One, ManyTo, Commas, MoreTo, ListEnd, MaybeListed, PartValue}

abbrev pub Syms : Type 0
Syms = List (Sym Part)

abbrev pub RuleOf : Type 0 → Type 0
RuleOf X = Rule Part PartValue X

abbrev pub Rules : Item → Type 0
Rules x = List (RuleOf (ItemValue x))

-- ---- what stands in a rule

abbrev pub word : List ℕ → Sym Part
word w = silent (This Word w)

abbrev pub mark : List ℕ → Sym Part
mark m = silent (This Symbol m)

abbrev pub name : Sym Part
name = token AName

abbrev pub text : Sym Part
text = token AText

abbrev pub number : Sym Part
number = token ANumber

abbrev pub one : Item → Sym Part
one x = part (One x)

abbrev pub commas : Item → Sym Part
commas x = part (Commas x)

abbrev pub left_paren : Sym Part
left_paren = mark (codes "(")

abbrev pub right_paren : Sym Part
right_paren = mark (codes ")")

abbrev pub left_brace : Sym Part
left_brace = mark (codes "{")

abbrev pub comma : Sym Part
comma = mark (codes ",")

abbrev pub semicolon : Sym Part
semicolon = mark (codes ";")

abbrev pub colon : Sym Part
colon = mark (codes ":")

abbrev pub equals : Sym Part
equals = mark (codes "=")

abbrev pub dot : Sym Part
dot = mark (codes ".")

abbrev pub arrow : Sym Part
arrow = mark (codes "->")

-- a rule that begins with this word, whose line is kept
abbrev pub starts : {X : Type 0} (w : List ℕ) (more : Syms) → (ℕ → Takes PartValue more X) → RuleOf X
starts w more make = rule (This Word w) more make

-- a rule that begins with this symbol
abbrev pub opens : {X : Type 0} (m : List ℕ) (more : Syms) → (ℕ → Takes PartValue more X) → RuleOf X
opens m more make = rule (This Symbol m) more make

-- a rule, and then these symbols
abbrev pub with_more : {A X : Type 0} → (more : Syms) → (A → Takes PartValue more X) → RuleOf A → RuleOf X
with_more {A = A} {X = X} more make r = rule r.first (r.more ++ more)
    (λ k. followed_by PartValue A X r.more more (r.make k) make)

-- ---- names, usages and events

-- `self`, or a name
abbrev pub nm_rules : Rules ANm
nm_rules =
    starts (codes "self") [] (λ line. n.Me line) ∷
    rule AName [] (λ id. n.Named id) ∷
    []

abbrev pub kind_rules : Rules AKind
kind_rules =
    starts (codes "nonce") [] (λ line. (n.Nonce, line)) ∷
    starts (codes "pke") [] (λ line. (n.Pke, line)) ∷
    starts (codes "sig") [] (λ line. (n.Sig, line)) ∷
    starts (codes "aead") [] (λ line. (n.Aead, line)) ∷
    starts (codes "mac") [] (λ line. (n.Mac, line)) ∷
    starts (codes "kdf") [] (λ line. (n.Kdf, line)) ∷
    []

abbrev pub use_rules : Rules AUse
use_rules = rule AName (left_paren ∷ commas ANm ∷ []) (λ usage args. record { usage = usage; args = args }) ∷ []

abbrev pub atom_rules : Rules AnAtom
atom_rules = rule AName (left_paren ∷ commas ANm ∷ []) (λ event args. record { event = event; args = args }) ∷ []

-- ---- what stands inside each other

-- two of them in parentheses
abbrev pub two : Item → Syms
two x = left_paren ∷ one x ∷ comma ∷ one x ∷ right_paren ∷ []

-- One level deeper. Past MAX_LEVEL the levels are not told apart.
abbrev pub deeper : ℕ → ℕ
deeper level = if nat_lt level TOO_DEEP then level + 1 else TOO_DEEP

-- of a part past level MAX_LEVEL only its place is kept
abbrev pub within : {X : Type 0} → ℕ → X → X → X
within level x too_deep = if nat_lt level TOO_DEEP then x else too_deep

abbrev pub label_at : ℕ → ℕ → LabelText → LabelText
label_at level line label = within level label (l.Nobody line)

-- Two labels, on level `next`; `keep` says what is kept of the label that they make.
abbrev pub join_rule : ℕ → (ℕ → LabelText → LabelText) → RuleOf LabelText
join_rule next keep =
    starts (codes "join") (two (AnInner next)) (λ line left right. keep line (l.Join line left right))

abbrev pub meet_rule : ℕ → (ℕ → LabelText → LabelText) → RuleOf LabelText
meet_rule next keep =
    starts (codes "meet") (two (AnInner next)) (λ line left right. keep line (l.Meet line left right))

abbrev pub inner_rules_with : ℕ → (ℕ → LabelText → LabelText) → List (RuleOf LabelText)
inner_rules_with next keep =
    starts (codes "self") [] (λ line. keep line (l.One (n.Me line))) ∷
    starts (codes "nobody") [] (λ line. keep line (l.Nobody line)) ∷
    starts (codes "session") [] (λ line. keep line (l.Session line)) ∷
    starts (codes "next") [] (λ line. keep line (l.Next line)) ∷
    starts (codes "prior") [] (λ line. keep line (l.Prior line)) ∷
    starts (codes "here") [] (λ line. keep line (l.Here line)) ∷
    join_rule next keep ∷
    meet_rule next keep ∷
    rule AName [] (λ id. keep id.line (l.One (n.Named id))) ∷
    []

abbrev pub inner_rules : (level : ℕ) → Rules (AnInner level)
inner_rules level = inner_rules_with (deeper level) (label_at level)

-- `public`, or a label that may stand inside another
abbrev pub label_rules : Rules ALabel
label_rules = starts (codes "public") [] (λ line. l.Public line) ∷ inner_rules 1

abbrev pub expr_at : ℕ → ℕ → Expr → Expr
expr_at level line expr = within level expr (e.Lit (record { text = []; line = line }))

-- a text, or a tuple where fields follow
abbrev pub text_or_tuple : Quote → Option (List Expr) → Expr
text_or_tuple quote None = e.Lit quote
text_or_tuple quote (Some args) = e.Tuple quote (e.row_of args)

-- What stands inside is on level `next`; `keep` says what is kept of the expression.
abbrev pub pair_rule : ℕ → (ℕ → Expr → Expr) → RuleOf Expr
pair_rule next keep =
    starts (codes "pair") (two (AnExpr next)) (λ line first second. keep line (e.Pair line first second))

abbrev pub pk_rule : (ℕ → Expr → Expr) → RuleOf Expr
pk_rule keep = starts (codes "pk") (left_paren ∷ one ANm ∷ right_paren ∷ []) (λ line key. keep line (e.Pk line key))

abbrev pub vk_rule : (ℕ → Expr → Expr) → RuleOf Expr
vk_rule keep = starts (codes "vk") (left_paren ∷ one ANm ∷ right_paren ∷ []) (λ line key. keep line (e.Vk line key))

-- a key, its usage and a tuple, and what follows
abbrev pub seal_symbols : ℕ → Syms → Syms
seal_symbols next more =
    left_paren ∷ one ANm ∷ word (codes "using") ∷ one AUse ∷ comma ∷
    text ∷ left_paren ∷ commas (AnExpr next) ∷ more

abbrev pub penc_rule : ℕ → (ℕ → Expr → Expr) → RuleOf Expr
penc_rule next keep =
    starts (codes "penc") (seal_symbols next (right_paren ∷ []))
    (λ line key usage tag args. keep line (e.Penc line key usage tag (e.row_of args)))

abbrev pub aead_rule : ℕ → (ℕ → Expr → Expr) → RuleOf Expr
aead_rule next keep =
    starts (codes "aead") (seal_symbols next (comma ∷ one (AnExpr next) ∷ right_paren ∷ []))
    (λ line key usage tag args ad. keep line (e.Aead line key usage tag (e.row_of args) ad))

abbrev pub sign_rule : ℕ → (ℕ → Expr → Expr) → RuleOf Expr
sign_rule next keep =
    starts (codes "sign") (seal_symbols next (right_paren ∷ []))
    (λ line key usage tag args. keep line (e.Sign line key usage tag (e.row_of args)))

abbrev pub mac_rule : ℕ → (ℕ → Expr → Expr) → RuleOf Expr
mac_rule next keep =
    starts (codes "mac") (seal_symbols next (right_paren ∷ []))
    (λ line key usage tag args. keep line (e.Mac line key usage tag (e.row_of args)))

abbrev pub kdf_rule : ℕ → (ℕ → Expr → Expr) → RuleOf Expr
kdf_rule next keep =
    starts (codes "kdf")
    (left_paren ∷ one ANm ∷ comma ∷ text ∷ comma ∷ one (AnExpr next) ∷ right_paren ∷ [])
    (λ line key context input. keep line (e.Kdf line key context input))

abbrev pub hash_rule : ℕ → (ℕ → Expr → Expr) → RuleOf Expr
hash_rule next keep =
    starts (codes "hash") (left_paren ∷ one (AnExpr next) ∷ right_paren ∷ [])
    (λ line message. keep line (e.Hash line message))

abbrev pub text_rule : ℕ → (ℕ → Expr → Expr) → RuleOf Expr
text_rule next keep =
    rule AText (part (MaybeListed (AnExpr next)) ∷ [])
    (λ quote args. keep quote.line (text_or_tuple quote args))

abbrev pub name_rule : (ℕ → Expr → Expr) → RuleOf Expr
name_rule keep = rule AName [] (λ id. keep id.line (e.Nm (n.Named id)))

abbrev pub expr_rules_with : ℕ → (ℕ → Expr → Expr) → List (RuleOf Expr)
expr_rules_with next keep =
    starts (codes "self") [] (λ line. keep line (e.Nm (n.Me line))) ∷
    pair_rule next keep ∷
    pk_rule keep ∷
    vk_rule keep ∷
    penc_rule next keep ∷
    aead_rule next keep ∷
    sign_rule next keep ∷
    mac_rule next keep ∷
    kdf_rule next keep ∷
    hash_rule next keep ∷
    text_rule next keep ∷
    name_rule keep ∷
    []

abbrev pub expr_rules : (level : ℕ) → Rules (AnExpr level)
expr_rules level = expr_rules_with (deeper level) (expr_at level)

-- ---- declarations

abbrev pub field_type_rules : Rules AFieldType
field_type_rules =
    starts (codes "name") [] (λ line. (d.Name, line)) ∷
    starts (codes "any") [] (λ line. (d.Any, line)) ∷
    starts (codes "upto") (one ALabel ∷ []) (λ line label. (d.Upto label, line)) ∷
    starts (codes "secret") (one ALabel ∷ []) (λ line label. (d.Secret label, line)) ∷
    starts (codes "key") (one ALabel ∷ one AUse ∷ []) (λ line label usage. (d.Key label usage, line)) ∷
    starts (codes "pk") (one ALabel ∷ one AUse ∷ []) (λ line label usage. (d.Pk label usage, line)) ∷
    starts (codes "vk") (one ALabel ∷ one AUse ∷ []) (λ line label usage. (d.Vk label usage, line)) ∷
    []

abbrev pub field_rules : Rules AField
field_rules = rule AName (colon ∷ one AFieldType ∷ [])
    (λ field kind. record { name = field; kind = kind.0; kind_line = kind.1 }) ∷ []

abbrev pub row_rules : Rules ARow
row_rules =
    rule AText (arrow ∷ one AKind ∷ name ∷ semicolon ∷ [])
    (λ quote kind usage. record { text = quote; kind = kind.0; kind_line = kind.1; usage = usage }) ∷
    []

-- a parameter, with `name` before it where it takes a name alone
abbrev pub param_rules : Rules AParam
param_rules =
    starts (codes "name") (name ∷ []) (λ line param. record { line = line; is_name = true; name = param }) ∷
    rule AName [] (λ param. record { line = param.line; is_name = false; name = param }) ∷
    []

-- an event, and the label after `unless`
abbrev pub partner_rules : Rules APartner
partner_rules = map (with_more (word (codes "unless") ∷ one (AnInner 1) ∷ [])
    (λ atom label. record { atom = atom; unless = label })) atom_rules

abbrev pub declares_usage : RuleOf (ItemValue ADecl)
declares_usage =
    starts (codes "usage") (one AKind ∷ name ∷ left_paren ∷ commas AnId ∷ part TableEnd ∷ [])
    (λ line kind usage params rows.
    f.Usage (record { line = line; kind = kind.0; kind_line = kind.1; name = usage; params = params; rows = rows }))

abbrev pub declares_case : RuleOf (ItemValue ADecl)
declares_case =
    starts (codes "case") (name ∷ text ∷ left_paren ∷ commas AField ∷ part (ListEnd Requires AnAtom) ∷ [])
    (λ line usage tag fields events.
    f.Case (record { line = line; usage = usage; tag = tag; fields = fields; requires_ = events }))

abbrev pub declares_event : RuleOf (ItemValue ADecl)
declares_event =
    starts (codes "event") (name ∷ left_paren ∷ commas AParam ∷ part (ListEnd After APartner) ∷ [])
    (λ line event params after. f.Event (record { line = line; name = event; params = params; after = after }))

abbrev pub declares_state : RuleOf (ItemValue ADecl)
declares_state =
    starts (codes "state") (name ∷ part LastingOpen ∷ commas AField ∷ part (ListEnd Knows APartner) ∷ [])
    (λ line state lasting fields knows.
    f.State (record { line = line; name = state; lasting = lasting; fields = fields; knows = knows }))

abbrev pub declares_handler : RuleOf (ItemValue ADecl)
declares_handler =
    starts (codes "handler")
    (name ∷ part OnArgs ∷ left_paren ∷ commas AnId ∷ part RecvOpen ∷ part (ManyTo AStatement) ∷ [])
    (λ line handler on args recv body.
    f.Handler (record { line = line; name = handler; on = on; args = args; recv = recv; body = body }))

abbrev pub decl_rules : Rules ADecl
decl_rules =
    declares_usage ∷ declares_case ∷ declares_event ∷ declares_state ∷ declares_handler ∷ []

-- ---- statements

abbrev pub pattern_rules : Rules APattern
pattern_rules =
    starts (codes "name") (name ∷ []) (λ line id. s.Named line id) ∷
    opens (codes "=") (one ANm ∷ []) (λ line to. s.Equal line to) ∷
    rule AName [] (λ id. s.Bind id) ∷
    []

abbrev pub does : ℕ → Act → Statement
does line act = record { line = line; act = act }

abbrev pub does_new : RuleOf (ItemValue AStatement)
does_new =
    starts (codes "new") (name ∷ colon ∷ one AUse ∷ word (codes "secret") ∷ one ALabel ∷ semicolon ∷ [])
    (λ line id usage label. does line (s.New id usage label))

abbrev pub does_let : RuleOf (ItemValue AStatement)
does_let =
    starts (codes "let") (name ∷ equals ∷ one (AnExpr 1) ∷ semicolon ∷ [])
    (λ line id value. does line (s.Let id value))

abbrev pub does_event : RuleOf (ItemValue AStatement)
does_event =
    starts (codes "event") (one AnAtom ∷ semicolon ∷ []) (λ line atom. does line (s.Event atom))

abbrev pub does_send : RuleOf (ItemValue AStatement)
does_send =
    starts (codes "send") (one (AnExpr 1) ∷ semicolon ∷ []) (λ line value. does line (s.Send value))

abbrev pub does_store : RuleOf (ItemValue AStatement)
does_store =
    starts (codes "store") (name ∷ left_paren ∷ commas (AnExpr 1) ∷ semicolon ∷ [])
    (λ line state fields. does line (s.Store state fields))

abbrev pub does_certify : RuleOf (ItemValue AStatement)
does_certify =
    starts (codes "certify") (name ∷ word (codes "as") ∷ name ∷ semicolon ∷ [])
    (λ line key usage. does line (s.Certify key usage))

abbrev pub does_find : RuleOf (ItemValue AStatement)
does_find =
    starts (codes "find") (name ∷ word (codes "of") ∷ one ANm ∷ word (codes "as") ∷ name ∷ semicolon ∷ [])
    (λ line usage owner id. does line (s.Find usage owner id))

abbrev pub does_use : RuleOf (ItemValue AStatement)
does_use =
    starts (codes "use") (name ∷ left_paren ∷ commas APattern ∷ semicolon ∷ [])
    (λ line state pats. does line (s.Recall state pats))

abbrev pub does_split : RuleOf (ItemValue AStatement)
does_split =
    starts (codes "split") (name ∷ word (codes "as") ∷ text ∷ left_paren ∷ commas APattern ∷ semicolon ∷ [])
    (λ line value tag pats. does line (s.Split value tag pats))

-- a value, its key and usage, and a tuple of patterns, and what follows
abbrev pub opened_as : Syms → Syms
opened_as more =
    name ∷ word (codes "with") ∷ name ∷ word (codes "using") ∷ one AUse ∷ word (codes "as") ∷
    text ∷ left_paren ∷ commas APattern ∷ more

abbrev pub does_open : RuleOf (ItemValue AStatement)
does_open =
    starts (codes "open") (opened_as (word (codes "ad") ∷ one (AnExpr 1) ∷ semicolon ∷ []))
    (λ line value key usage tag pats ad. does line (s.Opened value key usage tag pats ad))

abbrev pub does_popen : RuleOf (ItemValue AStatement)
does_popen =
    starts (codes "popen") (opened_as (semicolon ∷ []))
    (λ line value key usage tag pats. does line (s.Popened value key usage tag pats))

abbrev pub does_verify : RuleOf (ItemValue AStatement)
does_verify =
    starts (codes "verify") (opened_as (semicolon ∷ []))
    (λ line value key usage tag pats. does line (s.Verify value key usage tag pats))

abbrev pub does_check : RuleOf (ItemValue AStatement)
does_check =
    starts (codes "check")
    (name ∷ equals ∷ word (codes "mac") ∷ left_paren ∷ name ∷ word (codes "using") ∷ one AUse ∷ comma ∷
    text ∷ left_paren ∷ commas ANm ∷ right_paren ∷ semicolon ∷ [])
    (λ line value key usage tag args. does line (s.Check value key usage tag args))

abbrev pub does_same : RuleOf (ItemValue AStatement)
does_same =
    starts (codes "same") (one ANm ∷ one ANm ∷ semicolon ∷ []) (λ line left right. does line (s.Same left right))

abbrev pub statement_rules : Rules AStatement
statement_rules =
    does_new ∷ does_let ∷ does_event ∷ does_send ∷ does_store ∷ does_certify ∷ does_find ∷ does_use ∷
    does_split ∷ does_open ∷ does_popen ∷ does_verify ∷ does_check ∷ does_same ∷ []

-- ---- plans

abbrev pub round_rules : Rules ARound
round_rules = starts (codes "round") (left_brace ∷ part (ManyTo AStep) ∷ [])
    (λ line steps. record { line = line; steps = steps }) ∷ []

abbrev pub step_rules : Rules AStep
step_rules = rule AName (colon ∷ one AnAction ∷ [])
    (λ step action. record { line = step.line; name = step; action = action }) ∷ []

-- each action ends with `;`
abbrev pub action_rules : Rules AnAction
action_rules =
    starts (codes "corrupt") (name ∷ name ∷ number ∷ semicolon ∷ [])
    (λ line principal session version. p.Corrupt principal session version) ∷
    starts (codes "forge") (semicolon ∷ []) (λ line. p.Forge) ∷
    starts (codes "inject") (one (ARecipe 1) ∷ semicolon ∷ []) (λ line recipe. p.Inject recipe) ∷
    rule AName (name ∷ left_paren ∷ commas AnId ∷ part StartEnd ∷ [])
    (λ principal handler args end. p.Start principal handler args end.0 end.1) ∷
    []

abbrev pub recipe_at : ℕ → ℕ → RecipeText → RecipeText
recipe_at level line recipe = within level recipe (r.Lit (record { text = []; line = line }))

abbrev pub text_or_recipes : Quote → Option (List RecipeText) → RecipeText
text_or_recipes quote None = r.Lit quote
text_or_recipes quote (Some args) = r.Tuple quote (r.row_of args)

abbrev pub numbered_of : ℕ → Id → ℕ → Numbered
numbered_of line step i = record { line = line; step = step; number = i }

-- An operation on one recipe on level `next`; `keep` says what is kept of the recipe.
abbrev pub unary : ℕ → (ℕ → RecipeText → RecipeText) → List ℕ → (ℕ → RecipeText → RecipeText) → RuleOf RecipeText
unary next keep w make = starts w (left_paren ∷ one (ARecipe next) ∷ right_paren ∷ [])
    (λ line a. keep line (make line a))

-- an operation on two
abbrev pub binary : ℕ → (ℕ → RecipeText → RecipeText) → List ℕ → (ℕ → RecipeText → RecipeText → RecipeText)
    → RuleOf RecipeText
binary next keep w make = starts w (two (ARecipe next)) (λ line a b. keep line (make line a b))

abbrev pub principal_rule : (ℕ → RecipeText → RecipeText) → RuleOf RecipeText
principal_rule keep = starts (codes "name") (name ∷ []) (λ line principal. keep line (r.Name line principal))

abbrev pub message_rule : (ℕ → RecipeText → RecipeText) → RuleOf RecipeText
message_rule keep =
    starts (codes "msg") (name ∷ dot ∷ number ∷ []) (λ line step i. keep line (r.Msg (numbered_of line step i)))

abbrev pub certificate_rule : (ℕ → RecipeText → RecipeText) → RuleOf RecipeText
certificate_rule keep =
    starts (codes "cert") (name ∷ dot ∷ number ∷ []) (λ line step i. keep line (r.Cert (numbered_of line step i)))

abbrev pub nonce_rule : (ℕ → RecipeText → RecipeText) → RuleOf RecipeText
nonce_rule keep = starts (codes "nonce") (name ∷ []) (λ line step. keep line (r.Nonce line step))

abbrev pub field_rule : (ℕ → RecipeText → RecipeText) → RuleOf RecipeText
field_rule keep =
    starts (codes "field") (name ∷ dot ∷ number ∷ dot ∷ number ∷ [])
    (λ line step version i. keep line (r.Field line step version i))

abbrev pub sealed_rule : ℕ → (ℕ → RecipeText → RecipeText) → RuleOf RecipeText
sealed_rule next keep =
    starts (codes "aead")
    (left_paren ∷ one (ARecipe next) ∷ comma ∷ one (ARecipe next) ∷ comma ∷ one (ARecipe next) ∷ right_paren ∷ [])
    (λ line key message ad. keep line (r.Aead line key message ad))

abbrev pub derived_rule : ℕ → (ℕ → RecipeText → RecipeText) → RuleOf RecipeText
derived_rule next keep =
    starts (codes "kdf")
    (left_paren ∷ one (ARecipe next) ∷ comma ∷ text ∷ comma ∷ one (ARecipe next) ∷ right_paren ∷ [])
    (λ line key context input. keep line (r.Kdf line key context input))

abbrev pub parts_rule : ℕ → (ℕ → RecipeText → RecipeText) → RuleOf RecipeText
parts_rule next keep =
    rule AText (part (MaybeListed (ARecipe next)) ∷ [])
    (λ quote args. keep quote.line (text_or_recipes quote args))

-- a value taken apart, or a text or tuple
abbrev pub taking_rules : ℕ → (ℕ → RecipeText → RecipeText) → List (RuleOf RecipeText)
taking_rules next keep =
    unary next keep (codes "fst") r.Fst ∷
    unary next keep (codes "snd") r.Snd ∷
    binary next keep (codes "pdec") r.Pdec ∷
    binary next keep (codes "adec") r.Adec ∷
    unary next keep (codes "ad") r.Ad ∷
    unary next keep (codes "body") r.Body ∷
    parts_rule next keep ∷
    []

-- a value made of others, or one of those
abbrev pub making_rules : ℕ → (ℕ → RecipeText → RecipeText) → List (RuleOf RecipeText)
making_rules next keep =
    binary next keep (codes "pair") r.Pair ∷
    unary next keep (codes "pk") r.Pk ∷
    unary next keep (codes "vk") r.Vk ∷
    binary next keep (codes "penc") r.Penc ∷
    sealed_rule next keep ∷
    binary next keep (codes "sign") r.Sign ∷
    binary next keep (codes "mac") r.Mac ∷
    derived_rule next keep ∷
    unary next keep (codes "hash") r.Hash ∷
    taking_rules next keep

abbrev pub recipe_rules_with : ℕ → (ℕ → RecipeText → RecipeText) → List (RuleOf RecipeText)
recipe_rules_with next keep =
    principal_rule keep ∷
    message_rule keep ∷
    certificate_rule keep ∷
    nonce_rule keep ∷
    field_rule keep ∷
    making_rules next keep

abbrev pub recipe_rules : (level : ℕ) → Rules (ARecipe level)
recipe_rules level = recipe_rules_with (deeper level) (recipe_at level)

-- ---- lists, and what may be left out

unfoldable pub item_rules : (x : Item) → Rules x
item_rules AnId = rule AName [] (λ id. id) ∷ []
item_rules ANm = nm_rules
item_rules AKind = kind_rules
item_rules AUse = use_rules
item_rules AnAtom = atom_rules
item_rules AFieldType = field_type_rules
item_rules AField = field_rules
item_rules ARow = row_rules
item_rules AParam = param_rules
item_rules APartner = partner_rules
item_rules APattern = pattern_rules
item_rules ALabel = label_rules
item_rules AStatement = statement_rules
item_rules ADecl = decl_rules
item_rules ARound = round_rules
item_rules AStep = step_rules
item_rules AnAction = action_rules
item_rules (AnInner level) = inner_rules level
item_rules (AnExpr level) = expr_rules level
item_rules (ARecipe level) = recipe_rules level

abbrev pub closing : Closing → List ℕ
closing Parenthesis = codes ")"
closing Semicolon = codes ";"

abbrev pub listing : Listing → List ℕ
listing Requires = codes "requires"
listing After = codes "after"
listing Knows = codes "knows"

-- The end of the input stands after the tokens, as a symbol of no bytes.
abbrev pub end_of_input : List ℕ
end_of_input = []

unfoldable pub rules : (p : Part) → List (RuleOf (PartValue p))
-- `dystar 1`, declarations, and a plan or none
rules AFile = starts (codes "dystar") (silent (This Number (codes "1")) ∷ part Decls ∷ [])
    (λ line ds. record { version = 1; decls = ds.0; plan = ds.1 }) ∷ []
rules Decls =
    opens end_of_input [] (λ line. ([], record { rounds = [] })) ∷
    starts (codes "plan") (left_brace ∷ part (ManyTo ARound) ∷ mark end_of_input ∷ [])
    (λ line rounds. ([], record { rounds = rounds })) ∷
    map (with_more (part Decls ∷ []) (λ decl ds. (decl ∷ ds.0, ds.1))) (item_rules ADecl)
-- a table or none, and `;`
rules TableEnd =
    opens (codes ";") [] (λ line. []) ∷
    opens (codes "{") (part (ManyTo ARow) ∷ semicolon ∷ []) (λ line rows. rows) ∷
    []
-- `lasting` or nothing, and `(`
rules LastingOpen =
    opens (codes "(") [] (λ line. false) ∷
    starts (codes "lasting") (left_paren ∷ []) (λ line. true) ∷
    []
-- `on` and the fields of a state, or nothing, and `args`
rules OnArgs =
    starts (codes "args") [] (λ line. None) ∷
    starts (codes "on") (name ∷ left_paren ∷ commas APattern ∷ word (codes "args") ∷ [])
    (λ line state pats. Some (record { line = line; state = state; pats = pats })) ∷
    []
-- `recv` and a name, or nothing, and `{`
rules RecvOpen =
    opens (codes "{") [] (λ line. None) ∷
    starts (codes "recv") (name ∷ left_brace ∷ []) (λ line id. Some id) ∷
    []
-- `on` and a step or nothing, `msg` and a number of a step or nothing, and `;`
rules StartEnd =
    opens (codes ";") [] (λ line. (None, None)) ∷
    starts (codes "on") (name ∷ part MsgEnd ∷ [])
    (λ line step msg. (Some (record { line = line; step = step }), msg)) ∷
    starts (codes "msg") (name ∷ dot ∷ number ∷ semicolon ∷ [])
    (λ line step i. (None, Some (numbered_of line step i))) ∷
    []
rules MsgEnd =
    opens (codes ";") [] (λ line. None) ∷
    starts (codes "msg") (name ∷ dot ∷ number ∷ semicolon ∷ []) (λ line step i. Some (numbered_of line step i)) ∷
    []
rules (One x) = item_rules x
-- items up to `}`
rules (ManyTo x) = opens (codes "}") []
    (λ line. []) ∷ map (with_more (part (ManyTo x) ∷ []) (λ v vs. v ∷ vs)) (item_rules x)
-- items with commas between them, and `)`
rules (Commas x) = opens (codes ")") []
    (λ line. []) ∷ map (with_more (part (MoreTo Parenthesis x) ∷ []) (λ v vs. v ∷ vs)) (item_rules x)
-- items with a comma before each, and what ends them
rules (MoreTo end x) =
    opens (closing end) [] (λ line. []) ∷
    opens (codes ",") (one x ∷ part (MoreTo end x) ∷ []) (λ line v vs. v ∷ vs) ∷
    []
-- nothing, or a word and items with commas between them, and `;`
rules (ListEnd w x) =
    opens (codes ";") [] (λ line. []) ∷
    starts (listing w) (one x ∷ part (MoreTo Semicolon x) ∷ []) (λ line v vs. v ∷ vs) ∷
    []
-- items in parentheses, which may be left out
rules (MaybeListed x) = opens (codes "(") (commas x ∷ []) (λ line vs. Some vs) ∷ []

-- what a part stands for where it is left out
abbrev pub left_out : (p : Part) → Option (PartValue p)
left_out (MaybeListed x) = Some None
left_out _ = None
