-- Line numbers are no part of the canonical text.
use Rattle.std.proofs.Common.{◌≡◌, ◌∙◌, sym, ap, refl, ℕ, Bool, true, false, List, [], ◌∷◌, ◌++◌, map, Option, Some, None}
use Rattle.std.specs.Prelude.{option_map, codes}
use Rattle.std.specs.List.{flat_map}
use Rattle.dy_lex.specs.declared.letters.TheConstants.{NEWLINE}
use Rattle.dy_syntax.specs.Names as n
use Rattle.dy_syntax.specs.Labels as l
use Rattle.dy_syntax.specs.Declarations as d
use Rattle.dy_syntax.specs.Expressions as e
use Rattle.dy_syntax.specs.Statements as s
use Rattle.dy_syntax.specs.Recipes as r
use Rattle.dy_syntax.specs.Plans as p
use Rattle.dy_syntax.specs.Files as f
use Rattle.dy_syntax.specs.SameFiles as b
use Rattle.dy_show.specs.declared.spacing.Ending.TheVariants.{Bound}
use Rattle.dy_show.specs.Spacing.{Lexeme, text_after}
use Rattle.dy_show.specs.Canonical as c
use Rattle.dy_show.specs.Canonical.{canon}

-- ---- lists

more_to : {A : Type 0} (end : Lexeme) (item : A → List Lexeme) (bare : A → A) → ((x : A) → item (bare x) ≡ item x)
    → (xs : List A) → c.more_to end item (map bare xs) ≡ c.more_to end item xs
unfolding c.more_to
more_to end item bare same [] = refl
more_to end item bare same (x ∷ xs) = λ i. c.comma ∷ (same x i ++ more_to end item bare same xs i)

comma_list : {A : Type 0} (end : Lexeme) (item : A → List Lexeme) (bare : A → A) → ((x : A) → item (bare x) ≡ item x)
    → (xs : List A) → c.comma_list end item (map bare xs) ≡ c.comma_list end item xs
unfolding c.comma_list
comma_list end item bare same [] = refl
comma_list end item bare same (x ∷ xs) = λ i. same x i ++ more_to end item bare same xs i

list_end : {A : Type 0} (w : List ℕ) (item : A → List Lexeme) (bare : A → A) → ((x : A) → item (bare x) ≡ item x)
    → (xs : List A) → c.list_end w item (map bare xs) ≡ c.list_end w item xs
unfolding c.list_end
list_end w item bare same [] = refl
list_end w item bare same (x ∷ xs) = ap (λ ys. c.word w ∷ ys) (comma_list c.semicolon item bare same (x ∷ xs))

each : {A : Type 0} (item : A → List Lexeme) (bare : A → A) → ((x : A) → item (bare x) ≡ item x)
    → (xs : List A) → flat_map item (map bare xs) ≡ flat_map item xs
each item bare same [] = refl
each item bare same (x ∷ xs) = λ i. same x i ++ each item bare same xs i

many_to : {A : Type 0} (end : Lexeme) (item : A → List Lexeme) (bare : A → A) → ((x : A) → item (bare x) ≡ item x)
    → (xs : List A) → c.many_to end item (map bare xs) ≡ c.many_to end item xs
many_to end item bare same xs = ap (λ ys. ys ++ end ∷ []) (each item bare same xs)

-- ---- names, usages, events, labels

id : (x : n.Id) → c.id (b.bare_id x) ≡ c.id x
id x = refl

nm : (x : n.Nm) → c.nm (b.bare_nm x) ≡ c.nm x
nm (n.Named i) = refl
nm (n.Me line) = refl

nms : (xs : List n.Nm) → c.commas c.nm (map b.bare_nm xs) ≡ c.commas c.nm xs
nms xs = comma_list c.right_paren c.nm b.bare_nm nm xs

ids : (xs : List n.Id) → c.commas c.id (map b.bare_id xs) ≡ c.commas c.id xs
ids xs = comma_list c.right_paren c.id b.bare_id id xs

use_text : (x : n.UseText) → c.use_text (b.bare_use x) ≡ c.use_text x
unfolding c.use_text
use_text x = ap (λ ys. c.name x.usage ∷ c.left_paren ∷ ys) (nms x.args)

atom : (x : n.AtomText) → c.atom (b.bare_atom x) ≡ c.atom x
unfolding c.atom
atom x = ap (λ ys. c.name x.event ∷ c.left_paren ∷ ys) (nms x.args)

label : (x : l.LabelText) → c.label (b.bare_label x) ≡ c.label x
unfolding c.label
label (l.Public line) = refl
label (l.Nobody line) = refl
label (l.Session line) = refl
label (l.Next line) = refl
label (l.Prior line) = refl
label (l.Here line) = refl
label (l.One name) = nm name
label (l.Join line left right) = λ i. c.word (codes "join") ∷ c.left_paren ∷ (label left i ++ c.comma ∷ (label right i ++ c.right_paren ∷ []))
label (l.Meet line left right) = λ i. c.word (codes "meet") ∷ c.left_paren ∷ (label left i ++ c.comma ∷ (label right i ++ c.right_paren ∷ []))

-- ---- expressions

seal : (w : List ℕ) (key : n.Nm) (usage : n.UseText) (tag : n.Quote) → c.seal w (b.bare_nm key) (b.bare_use usage) (b.bare_quote tag) ≡ c.seal w key usage tag
unfolding c.seal
seal w key usage tag = λ i. c.word w ∷ c.left_paren ∷ (nm key i ++ c.word (codes "using") ∷ (use_text usage i ++ c.comma ∷ c.text tag ∷ c.left_paren ∷ []))

mutual
  unfolding c.expr

  expr : (x : e.Expr) → c.expr (b.bare_expr x) ≡ c.expr x
  expr (e.Nm name) = nm name
  expr (e.Lit quote) = refl
  expr (e.Tuple tag args) = ap (λ ys. c.text tag ∷ c.left_paren ∷ ys) (exprs args)
  expr (e.Pair line first second) = λ i. c.word (codes "pair") ∷ c.left_paren ∷ (expr first i ++ c.comma ∷ (expr second i ++ c.right_paren ∷ []))
  expr (e.Pk line key) = ap (λ ys. c.word (codes "pk") ∷ c.left_paren ∷ (ys ++ c.right_paren ∷ [])) (nm key)
  expr (e.Vk line key) = ap (λ ys. c.word (codes "vk") ∷ c.left_paren ∷ (ys ++ c.right_paren ∷ [])) (nm key)
  expr (e.Penc line key usage tag args) = λ i. seal (codes "penc") key usage tag i ++ (exprs args i ++ c.right_paren ∷ [])
  expr (e.Aead line key usage tag args ad) = λ i. seal (codes "aead") key usage tag i ++ (exprs args i ++ c.comma ∷ (expr ad i ++ c.right_paren ∷ []))
  expr (e.Sign line key usage tag args) = λ i. seal (codes "sign") key usage tag i ++ (exprs args i ++ c.right_paren ∷ [])
  expr (e.Mac line key usage tag args) = λ i. seal (codes "mac") key usage tag i ++ (exprs args i ++ c.right_paren ∷ [])
  expr (e.Kdf line key context input) = λ i. c.word (codes "kdf") ∷ c.left_paren ∷ (nm key i ++ c.comma ∷ c.text context ∷ c.comma ∷ (expr input i ++ c.right_paren ∷ []))
  expr (e.Hash line message) = ap (λ ys. c.word (codes "hash") ∷ c.left_paren ∷ (ys ++ c.right_paren ∷ [])) (expr message)

  exprs : (xs : e.Exprs) → c.exprs (b.bare_exprs xs) ≡ c.exprs xs
  exprs e.Nil = refl
  exprs (e.Cons first rest) = λ i. expr first i ++ more_exprs rest i

  more_exprs : (xs : e.Exprs) → c.more_exprs (b.bare_exprs xs) ≡ c.more_exprs xs
  more_exprs e.Nil = refl
  more_exprs (e.Cons first rest) = λ i. c.comma ∷ (expr first i ++ more_exprs rest i)

-- ---- declarations

field_type : (x : d.FieldType) → c.field_type (b.bare_type x) ≡ c.field_type x
unfolding c.field_type
field_type d.Name = refl
field_type d.Any = refl
field_type (d.Upto to) = ap (λ ys. c.word (codes "upto") ∷ ys) (label to)
field_type (d.Secret to) = ap (λ ys. c.word (codes "secret") ∷ ys) (label to)
field_type (d.Key to usage) = λ i. c.word (codes "key") ∷ (label to i ++ use_text usage i)
field_type (d.Pk to usage) = λ i. c.word (codes "pk") ∷ (label to i ++ use_text usage i)
field_type (d.Vk to usage) = λ i. c.word (codes "vk") ∷ (label to i ++ use_text usage i)

field : (x : d.Field) → c.field (b.bare_field x) ≡ c.field x
unfolding c.field
field x = ap (λ ys. c.name x.name ∷ c.colon ∷ ys) (field_type x.kind)

fields : (xs : List d.Field) → c.commas c.field (map b.bare_field xs) ≡ c.commas c.field xs
fields xs = comma_list c.right_paren c.field b.bare_field field xs

row : (x : d.Row) → c.row (b.bare_row x) ≡ c.row x
unfolding c.row
row x = refl

param_named : (is_name : Bool) (x : n.Id) → c.param_named is_name (b.bare_id x) ≡ c.param_named is_name x
param_named true x = refl
param_named false x = refl

param : (x : d.Param) → c.param (b.bare_param x) ≡ c.param x
unfolding c.param
param x = param_named x.is_name x.name

partner : (x : d.Partner) → c.partner (b.bare_partner x) ≡ c.partner x
unfolding c.partner
partner x = λ i. atom x.atom i ++ c.word (codes "unless") ∷ label x.unless i

table : (xs : List d.Row) → c.table (map b.bare_row xs) ≡ c.table xs
unfolding c.table
table [] = refl
table (x ∷ xs) = ap (λ ys. c.left_brace ∷ (ys ++ c.semicolon ∷ [])) (many_to c.right_brace c.row b.bare_row row (x ∷ xs))

usage_decl : (x : d.UsageDecl) → c.usage_decl (b.bare_usage x) ≡ c.usage_decl x
unfolding c.usage_decl
usage_decl x = λ i. c.line (codes "usage") ∷ c.kind x.kind ∷ c.name x.name ∷ c.left_paren ∷ (ids x.params i ++ table x.rows i)

case_decl : (x : d.CaseDecl) → c.case_decl (b.bare_case x) ≡ c.case_decl x
unfolding c.case_decl
case_decl x = λ i. c.line (codes "case") ∷ c.name x.usage ∷ c.text x.tag ∷ c.left_paren ∷ (fields x.fields i ++ list_end (codes "requires") c.atom b.bare_atom atom x.requires_ i)

event_decl : (x : d.EventDecl) → c.event_decl (b.bare_event x) ≡ c.event_decl x
unfolding c.event_decl
event_decl x = λ i. c.line (codes "event") ∷ c.name x.name ∷ c.left_paren ∷
    (comma_list c.right_paren c.param b.bare_param param x.params i ++ list_end (codes "after") c.partner b.bare_partner partner x.after i)

state_decl : (x : d.StateDecl) → c.state_decl (b.bare_state x) ≡ c.state_decl x
unfolding c.state_decl
state_decl x = λ i. c.line (codes "state") ∷ c.name x.name ∷
    (c.lasting_open x.lasting ++ (fields x.fields i ++ list_end (codes "knows") c.partner b.bare_partner partner x.knows i))

-- ---- handlers

pattern_ : (x : s.Pattern) → c.pattern_ (b.bare_pattern x) ≡ c.pattern_ x
unfolding c.pattern_
pattern_ (s.Bind i) = refl
pattern_ (s.Named line i) = refl
pattern_ (s.Equal line to) = ap (λ ys. c.mark (codes "=") ∷ ys) (nm to)

patterns : (xs : List s.Pattern) → c.commas c.pattern_ (map b.bare_pattern xs) ≡ c.commas c.pattern_ xs
patterns xs = comma_list c.right_paren c.pattern_ b.bare_pattern pattern_ xs

opened_as : (w : List ℕ) (value key : n.Id) (usage : n.UseText) (tag : n.Quote) (pats : List s.Pattern)
    → c.opened_as w (b.bare_id value) (b.bare_id key) (b.bare_use usage) (b.bare_quote tag) (map b.bare_pattern pats) ≡ c.opened_as w value key usage tag pats
unfolding c.opened_as
opened_as w value key usage tag pats = λ i. c.first_word w ∷ c.name value ∷ c.word (codes "with") ∷ c.name key ∷ c.word (codes "using") ∷
    (use_text usage i ++ c.word (codes "as") ∷ c.text tag ∷ c.left_paren ∷ patterns pats i)

act : (x : s.Act) → c.act (b.bare_act x) ≡ c.act x
unfolding c.act
act (s.New name usage to) = λ i. c.first_word (codes "new") ∷ c.name name ∷ c.between (codes ":") ∷ (use_text usage i ++ c.word (codes "secret") ∷ (label to i ++ c.semicolon ∷ []))
act (s.Let name value) = ap (λ ys. c.first_word (codes "let") ∷ c.name name ∷ c.between (codes "=") ∷ (ys ++ c.semicolon ∷ [])) (expr value)
act (s.Event event) = ap (λ ys. c.first_word (codes "event") ∷ (ys ++ c.semicolon ∷ [])) (atom event)
act (s.Send value) = ap (λ ys. c.first_word (codes "send") ∷ (ys ++ c.semicolon ∷ [])) (expr value)
act (s.Store state args) = ap (λ ys. c.first_word (codes "store") ∷ c.name state ∷ c.left_paren ∷ (ys ++ c.semicolon ∷ [])) (comma_list c.right_paren c.expr b.bare_expr expr args)
act (s.Certify key usage) = refl
act (s.Find usage owner name) = ap (λ ys. c.first_word (codes "find") ∷ c.name usage ∷ c.word (codes "of") ∷ (ys ++ c.word (codes "as") ∷ c.name name ∷ c.semicolon ∷ [])) (nm owner)
act (s.Recall state pats) = ap (λ ys. c.first_word (codes "use") ∷ c.name state ∷ c.left_paren ∷ (ys ++ c.semicolon ∷ [])) (patterns pats)
act (s.Split value tag pats) = ap (λ ys. c.first_word (codes "split") ∷ c.name value ∷ c.word (codes "as") ∷ c.text tag ∷ c.left_paren ∷ (ys ++ c.semicolon ∷ [])) (patterns pats)
act (s.Opened value key usage tag pats ad) = λ i. opened_as (codes "open") value key usage tag pats i ++ c.word (codes "ad") ∷ (expr ad i ++ c.semicolon ∷ [])
act (s.Popened value key usage tag pats) = ap (λ ys. ys ++ c.semicolon ∷ []) (opened_as (codes "popen") value key usage tag pats)
act (s.Verify value key usage tag pats) = ap (λ ys. ys ++ c.semicolon ∷ []) (opened_as (codes "verify") value key usage tag pats)
act (s.Check value key usage tag args) = λ i. c.first_word (codes "check") ∷ c.name value ∷ c.between (codes "=") ∷ c.word (codes "mac") ∷ c.left_paren ∷ c.name key ∷
    c.word (codes "using") ∷ (use_text usage i ++ c.comma ∷ c.text tag ∷ c.left_paren ∷ (nms args i ++ c.right_paren ∷ c.semicolon ∷ []))
act (s.Same left right) = λ i. c.first_word (codes "same") ∷ (nm left i ++ (nm right i ++ c.semicolon ∷ []))

on_args : (x : Option s.OnPart) → c.on_args (option_map b.bare_on_part x) ≡ c.on_args x
unfolding c.on_args
on_args None = refl
on_args (Some on) = ap (λ ys. c.word (codes "on") ∷ c.name on.state ∷ c.left_paren ∷ (ys ++ c.word (codes "args") ∷ [])) (patterns on.pats)

recv_open : (x : Option n.Id) → c.recv_open (option_map b.bare_id x) ≡ c.recv_open x
unfolding c.recv_open
recv_open None = refl
recv_open (Some i) = refl

handler : (x : s.Handler) → c.handler (b.bare_handler x) ≡ c.handler x
unfolding c.handler
handler x = λ i. c.line (codes "handler") ∷ c.name x.name ∷
    (on_args x.on i ++ c.left_paren ∷ (ids x.args i ++ (recv_open x.recv i
    ++ many_to c.last_brace c.statement b.bare_statement (λ y. act y.act) x.body i)))

decl : (x : f.Decl) → c.decl (b.bare_decl x) ≡ c.decl x
unfolding c.decl
decl (f.Usage x) = usage_decl x
decl (f.Case x) = case_decl x
decl (f.Event x) = event_decl x
decl (f.State x) = state_decl x
decl (f.Handler x) = handler x

-- ---- plans

unary : (w : List ℕ) {x y : List Lexeme} → x ≡ y → c.unary w x ≡ c.unary w y
unary w same = ap (λ ys. c.word w ∷ c.left_paren ∷ (ys ++ c.right_paren ∷ [])) same

binary : (w : List ℕ) {x y z u : List Lexeme} → x ≡ y → z ≡ u → c.binary w x z ≡ c.binary w y u
binary w first second = λ i. c.word w ∷ c.left_paren ∷ (first i ++ c.comma ∷ (second i ++ c.right_paren ∷ []))

mutual
  unfolding c.recipe

  recipe : (x : r.RecipeText) → c.recipe (b.bare_recipe x) ≡ c.recipe x
  recipe (r.Lit quote) = refl
  recipe (r.Tuple tag args) = ap (λ ys. c.text tag ∷ c.left_paren ∷ ys) (recipes args)
  recipe (r.Name line principal) = refl
  recipe (r.Msg x) = refl
  recipe (r.Cert x) = refl
  recipe (r.Nonce line step) = refl
  recipe (r.Field line step version i) = refl
  recipe (r.Pair line first second) = binary (codes "pair") (recipe first) (recipe second)
  recipe (r.Pk line key) = unary (codes "pk") (recipe key)
  recipe (r.Vk line key) = unary (codes "vk") (recipe key)
  recipe (r.Penc line key message) = binary (codes "penc") (recipe key) (recipe message)
  recipe (r.Aead line key message ad) = λ i. c.word (codes "aead") ∷ c.left_paren ∷
      (recipe key i ++ c.comma ∷ (recipe message i ++ c.comma ∷ (recipe ad i ++ c.right_paren ∷ [])))
  recipe (r.Sign line key message) = binary (codes "sign") (recipe key) (recipe message)
  recipe (r.Mac line key message) = binary (codes "mac") (recipe key) (recipe message)
  recipe (r.Kdf line key context input) = λ i. c.word (codes "kdf") ∷ c.left_paren ∷
      (recipe key i ++ c.comma ∷ c.text context ∷ c.comma ∷ (recipe input i ++ c.right_paren ∷ []))
  recipe (r.Hash line message) = unary (codes "hash") (recipe message)
  recipe (r.Fst line value) = unary (codes "fst") (recipe value)
  recipe (r.Snd line value) = unary (codes "snd") (recipe value)
  recipe (r.Pdec line value key) = binary (codes "pdec") (recipe value) (recipe key)
  recipe (r.Adec line value key) = binary (codes "adec") (recipe value) (recipe key)
  recipe (r.Ad line value) = unary (codes "ad") (recipe value)
  recipe (r.Body line value) = unary (codes "body") (recipe value)

  recipes : (xs : r.Recipes) → c.recipes (b.bare_recipes xs) ≡ c.recipes xs
  recipes r.Nil = refl
  recipes (r.Cons first rest) = λ i. recipe first i ++ more_recipes rest i

  more_recipes : (xs : r.Recipes) → c.more_recipes (b.bare_recipes xs) ≡ c.more_recipes xs
  more_recipes r.Nil = refl
  more_recipes (r.Cons first rest) = λ i. c.comma ∷ (recipe first i ++ more_recipes rest i)

msg_end : (x : Option r.Numbered) → c.msg_end (option_map b.bare_numbered x) ≡ c.msg_end x
unfolding c.msg_end
msg_end None = refl
msg_end (Some x) = refl

start_end : (on : Option p.OnStep) (msg : Option r.Numbered) → c.start_end (option_map b.bare_on_step on) (option_map b.bare_numbered msg) ≡ c.start_end on msg
unfolding c.start_end
start_end None msg = msg_end msg
start_end (Some on) msg = ap (λ ys. c.word (codes "on") ∷ c.name on.step ∷ ys) (msg_end msg)

action : (x : p.Action) → c.action (b.bare_action x) ≡ c.action x
unfolding c.action
action (p.Start principal handler args on msg) = λ i. c.name principal ∷ c.name handler ∷ c.left_paren ∷ (ids args i ++ start_end on msg i)
action (p.Corrupt principal session version) = refl
action p.Forge = refl
action (p.Inject x) = ap (λ ys. c.word (codes "inject") ∷ (ys ++ c.semicolon ∷ [])) (recipe x)

step : (x : p.Step) → c.step (b.bare_step x) ≡ c.step x
unfolding c.step
step x = ap (λ ys. c.name x.name ∷ c.colon ∷ ys) (action x.action)

round : (x : p.Round) → c.round (b.bare_round x) ≡ c.round x
unfolding c.round
round x = ap (λ ys. c.first_word (codes "round") ∷ c.left_brace ∷ ys) (many_to c.right_brace c.step b.bare_step step x.steps)

rounds : (xs : List p.Round) → c.rounds (map b.bare_round xs) ≡ c.rounds xs
unfolding c.rounds
rounds [] = refl
rounds (x ∷ xs) = ap (λ ys. c.line (codes "plan") ∷ c.left_brace ∷ ys) (many_to c.last_brace c.round b.bare_round round (x ∷ xs))

-- ---- files

file : (x : f.File) → c.file (b.bare_file x) ≡ c.file x
unfolding c.file
file x = λ i. c.word (codes "dystar") ∷ c.number x.version ∷ (each c.decl b.bare_decl decl x.decls i ++ rounds x.plan.rounds i)

pub one_text : (x y : f.File) → b.AreSame x y → canon x ≡ canon y
one_text x y same =
    ap (λ zs. text_after Bound zs ++ NEWLINE ∷ []) (sym (file x) ∙ ap c.file same ∙ file y)
