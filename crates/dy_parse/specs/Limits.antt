-- The limits of a file: how many members its lists may have, and where a list has more.
use Rattle.std.specs.Prelude.{◌≡◌, ℕ, ◌-◌, ◌≤◌, ◌==◌, ◌⊎◌, List, [], ◌∷◌, ◌++◌, map, slice_get, Option, None, Some, if◌then◌else◌}
use Rattle.std.specs.List.{flat_map, list_any}
use Rattle.std.specs.Option.{option_to_list}
use Rattle.std.specs.Str.{bytes_eq}
use Rattle.dy_term.specs.declared.limits.TheConstants.{MAX_LENGTH}
use Rattle.dy_lex.specs.declared.tokens.TokenKind.{TokenKind}
use Rattle.dy_lex.specs.declared.tokens.TokenKind.TheVariants as kinds
use Rattle.dy_lex.specs.Tokens.{Piece}
use Rattle.dy_grammar.specs.declared.limits.TheConstants.{MAX_LEVEL}
use Rattle.dy_grammar.specs.Terminals.{text_inside}
use Rattle.dy_syntax.specs.Names.{Id, UseText, AtomText, line_of}
use Rattle.dy_syntax.specs.Labels as l
use Rattle.dy_syntax.specs.Labels.{LabelText}
use Rattle.dy_syntax.specs.Expressions as e
use Rattle.dy_syntax.specs.Expressions.{Expr, Exprs, list_of}
use Rattle.dy_syntax.specs.Declarations as d
use Rattle.dy_syntax.specs.Declarations.{FieldType, Field, Partner}
use Rattle.dy_syntax.specs.Statements as s
use Rattle.dy_syntax.specs.Statements.{Pattern, OnPart, Act, Handler}
use Rattle.dy_syntax.specs.Recipes as r
use Rattle.dy_syntax.specs.Recipes.{RecipeText, Recipes}
use Rattle.dy_syntax.specs.Plans as p
use Rattle.dy_syntax.specs.Plans.{Action, Step, Round}
use Rattle.dy_syntax.specs.Files as f
use Rattle.dy_syntax.specs.Files.{Decl, File}
use Rattle.dy_parse.specs.declared.errors.LimitName.{LimitName}
use Rattle.dy_parse.specs.declared.errors.LimitName.TheVariants.{Word, Text, Nesting, Usages, Cases, Events, States, Handlers, Statements, Names, Fields, Leaves, Partners, Rows, Rounds, Steps, Principals}

-- ---- the table

-- each limit's number
abbrev pub number : LimitName → ℕ
number Word = 1
number Text = 2
number Nesting = 3
number Usages = 4
number Cases = 5
number Events = 6
number States = 7
number Handlers = 8
number Statements = 9
number Names = 10
number Fields = 11
number Leaves = 12
number Partners = 13
number Rows = 14
number Rounds = 15
number Steps = 16
number Principals = 17

-- how many members a list may have
abbrev pub most : LimitName → ℕ
most Word = MAX_LENGTH
most Text = MAX_LENGTH
most Nesting = MAX_LEVEL
most Usages = 256
most Cases = 1024
most Events = 256
most States = 256
most Handlers = 256
most Statements = 64
most Names = 7
most Fields = 16
most Leaves = 16
most Partners = 8
most Rows = 16
most Rounds = 256
most Steps = 1024
most Principals = 64

-- a limit that is broken, and the line
pub record Excess : Type 0 where
  pub which : LimitName
  pub line : ℕ

abbrev pub breaks : LimitName → List ℕ → List Excess
breaks which lines = map (λ line. record { which = which; line = line }) lines

-- A list, given by the lines of its members: it has too many where there is one past the limit.
abbrev pub counts : LimitName → List ℕ → List Excess
counts which lines = breaks which (option_to_list (slice_get lines (most which)))

-- ---- words and texts, which are lists of bytes

abbrev pub lines_of_bytes : ℕ → List ℕ → List ℕ
lines_of_bytes line bytes = map (λ b. line) bytes

abbrev pub excess_by_kind : TokenKind → Piece → List Excess
excess_by_kind kinds.Word token = counts Word (lines_of_bytes token.line token.text)
excess_by_kind kinds.Number token = []
excess_by_kind kinds.Text token = counts Text (lines_of_bytes token.line (text_inside token.text))
excess_by_kind kinds.Symbol token = []

abbrev pub excess_in_token : Piece → List Excess
excess_in_token token = excess_by_kind token.kind token

-- ---- lists in parentheses

abbrev pub counts_fields : {X : Type 0} → (X → ℕ) → List X → List Excess
counts_fields line members = counts Fields (map line members)

abbrev pub excess_in_use : UseText → List Excess
excess_in_use usage = counts_fields line_of usage.args

abbrev pub excess_in_atom : AtomText → List Excess
excess_in_atom atom = counts_fields line_of atom.args

-- ---- what stands inside each other. `room` is how many may still stand there. Of what is deeper only
-- the place is kept.

-- something on this line, and what is inside
abbrev pub on_level : ℕ → ℕ → List Excess → List Excess
on_level room line inside = if room == 0 then breaks Nesting (line ∷ []) else inside

-- the words of a label
abbrev pub leaves : LabelText → List ℕ
leaves (l.Public line) = line ∷ []
leaves (l.Nobody line) = line ∷ []
leaves (l.Session line) = line ∷ []
leaves (l.Next line) = line ∷ []
leaves (l.Prior line) = line ∷ []
leaves (l.Here line) = line ∷ []
leaves (l.One name) = line_of name ∷ []
leaves (l.Join line left right) = leaves left ++ leaves right
leaves (l.Meet line left right) = leaves left ++ leaves right

-- the line of a label's first token
abbrev pub label_line : LabelText → ℕ
label_line (l.Public line) = line
label_line (l.Nobody line) = line
label_line (l.Session line) = line
label_line (l.Next line) = line
label_line (l.Prior line) = line
label_line (l.Here line) = line
label_line (l.One name) = line_of name
label_line (l.Join line left right) = line
label_line (l.Meet line left right) = line

abbrev pub inside_label : ℕ → LabelText → List Excess
inside_label room (l.Join line left right) =
    on_level room (label_line left) (inside_label (room - 1) left)
    ++ on_level room (label_line right) (inside_label (room - 1) right)
inside_label room (l.Meet line left right) =
    on_level room (label_line left) (inside_label (room - 1) left)
    ++ on_level room (label_line right) (inside_label (room - 1) right)
inside_label room (l.Public line) = []
inside_label room (l.Nobody line) = []
inside_label room (l.Session line) = []
inside_label room (l.Next line) = []
inside_label room (l.Prior line) = []
inside_label room (l.Here line) = []
inside_label room (l.One name) = []

-- a label, where so many may still stand inside each other
abbrev pub label_within : ℕ → LabelText → List Excess
label_within room label = on_level room (label_line label) (inside_label (room - 1) label)

abbrev pub excess_in_label : LabelText → List Excess
excess_in_label label = counts Leaves (leaves label) ++ label_within (most Nesting) label

abbrev pub counts_args : Exprs → List Excess
counts_args args = counts_fields e.line_of (list_of args)

abbrev mutual
  pub inside_expr : ℕ → Expr → List Excess
  inside_expr room (e.Nm name) = []
  inside_expr room (e.Lit quote) = []
  inside_expr room (e.Tuple tag args) = counts_args args ++ inside_args room args
  inside_expr room (e.Pair line first second) =
      on_level room (e.line_of first) (inside_expr (room - 1) first)
      ++ on_level room (e.line_of second) (inside_expr (room - 1) second)
  inside_expr room (e.Pk line key) = []
  inside_expr room (e.Vk line key) = []
  inside_expr room (e.Penc line key usage tag args) = excess_in_use usage ++ counts_args args ++ inside_args room args
  inside_expr room (e.Aead line key usage tag args ad) =
      excess_in_use usage ++ counts_args args ++ inside_args room args
      ++ on_level room (e.line_of ad) (inside_expr (room - 1) ad)
  inside_expr room (e.Sign line key usage tag args) = excess_in_use usage ++ counts_args args ++ inside_args room args
  inside_expr room (e.Mac line key usage tag args) = excess_in_use usage ++ counts_args args ++ inside_args room args
  inside_expr room (e.Kdf line key context input) = on_level room (e.line_of input) (inside_expr (room - 1) input)
  inside_expr room (e.Hash line message) = on_level room (e.line_of message) (inside_expr (room - 1) message)

  pub inside_args : ℕ → Exprs → List Excess
  inside_args room e.Nil = []
  inside_args room (e.Cons first rest) =
      on_level room (e.line_of first) (inside_expr (room - 1) first) ++ inside_args room rest

-- an expression, where so many may still stand inside each other
abbrev pub expr_within : ℕ → Expr → List Excess
expr_within room expr = on_level room (e.line_of expr) (inside_expr (room - 1) expr)

abbrev pub excess_in_expr : Expr → List Excess
excess_in_expr expr = expr_within (most Nesting) expr

-- the line of a recipe's first token
abbrev pub recipe_line : RecipeText → ℕ
recipe_line (r.Lit quote) = quote.line
recipe_line (r.Tuple tag args) = tag.line
recipe_line (r.Name line principal) = line
recipe_line (r.Msg message) = message.line
recipe_line (r.Cert cert) = cert.line
recipe_line (r.Nonce line step) = line
recipe_line (r.Field line step version number) = line
recipe_line (r.Pair line a b) = line
recipe_line (r.Pk line a) = line
recipe_line (r.Vk line a) = line
recipe_line (r.Penc line a b) = line
recipe_line (r.Aead line a b c) = line
recipe_line (r.Sign line a b) = line
recipe_line (r.Mac line a b) = line
recipe_line (r.Kdf line a context b) = line
recipe_line (r.Hash line a) = line
recipe_line (r.Fst line a) = line
recipe_line (r.Snd line a) = line
recipe_line (r.Pdec line a b) = line
recipe_line (r.Adec line a b) = line
recipe_line (r.Ad line a) = line
recipe_line (r.Body line a) = line

abbrev mutual
  pub inside_recipe : ℕ → RecipeText → List Excess
  inside_recipe room (r.Lit quote) = []
  inside_recipe room (r.Tuple tag args) = counts_fields recipe_line (r.list_of args) ++ inside_recipes room args
  inside_recipe room (r.Name line principal) = []
  inside_recipe room (r.Msg message) = []
  inside_recipe room (r.Cert cert) = []
  inside_recipe room (r.Nonce line step) = []
  inside_recipe room (r.Field line step version number) = []
  inside_recipe room (r.Pair line a b) =
      on_level room (recipe_line a) (inside_recipe (room - 1) a)
      ++ on_level room (recipe_line b) (inside_recipe (room - 1) b)
  inside_recipe room (r.Pk line a) = on_level room (recipe_line a) (inside_recipe (room - 1) a)
  inside_recipe room (r.Vk line a) = on_level room (recipe_line a) (inside_recipe (room - 1) a)
  inside_recipe room (r.Penc line a b) =
      on_level room (recipe_line a) (inside_recipe (room - 1) a)
      ++ on_level room (recipe_line b) (inside_recipe (room - 1) b)
  inside_recipe room (r.Aead line a b c) =
      on_level room (recipe_line a) (inside_recipe (room - 1) a)
      ++ on_level room (recipe_line b) (inside_recipe (room - 1) b)
      ++ on_level room (recipe_line c) (inside_recipe (room - 1) c)
  inside_recipe room (r.Sign line a b) =
      on_level room (recipe_line a) (inside_recipe (room - 1) a)
      ++ on_level room (recipe_line b) (inside_recipe (room - 1) b)
  inside_recipe room (r.Mac line a b) =
      on_level room (recipe_line a) (inside_recipe (room - 1) a)
      ++ on_level room (recipe_line b) (inside_recipe (room - 1) b)
  inside_recipe room (r.Kdf line a context b) =
      on_level room (recipe_line a) (inside_recipe (room - 1) a)
      ++ on_level room (recipe_line b) (inside_recipe (room - 1) b)
  inside_recipe room (r.Hash line a) = on_level room (recipe_line a) (inside_recipe (room - 1) a)
  inside_recipe room (r.Fst line a) = on_level room (recipe_line a) (inside_recipe (room - 1) a)
  inside_recipe room (r.Snd line a) = on_level room (recipe_line a) (inside_recipe (room - 1) a)
  inside_recipe room (r.Pdec line a b) =
      on_level room (recipe_line a) (inside_recipe (room - 1) a)
      ++ on_level room (recipe_line b) (inside_recipe (room - 1) b)
  inside_recipe room (r.Adec line a b) =
      on_level room (recipe_line a) (inside_recipe (room - 1) a)
      ++ on_level room (recipe_line b) (inside_recipe (room - 1) b)
  inside_recipe room (r.Ad line a) = on_level room (recipe_line a) (inside_recipe (room - 1) a)
  inside_recipe room (r.Body line a) = on_level room (recipe_line a) (inside_recipe (room - 1) a)

  pub inside_recipes : ℕ → Recipes → List Excess
  inside_recipes room r.Nil = []
  inside_recipes room (r.Cons first rest) =
      on_level room (recipe_line first) (inside_recipe (room - 1) first) ++ inside_recipes room rest

-- a recipe, where so many may still stand inside each other
abbrev pub recipe_within : ℕ → RecipeText → List Excess
recipe_within room recipe = on_level room (recipe_line recipe) (inside_recipe (room - 1) recipe)

-- ---- declarations

abbrev pub excess_in_type : FieldType → List Excess
excess_in_type d.Name = []
excess_in_type d.Any = []
excess_in_type (d.Upto label) = excess_in_label label
excess_in_type (d.Secret label) = excess_in_label label
excess_in_type (d.Key label usage) = excess_in_label label ++ excess_in_use usage
excess_in_type (d.Pk label usage) = excess_in_label label ++ excess_in_use usage
excess_in_type (d.Vk label usage) = excess_in_label label ++ excess_in_use usage

abbrev pub excess_in_fields : List Field → List Excess
excess_in_fields fields =
    counts_fields (λ field. field.name.line) fields ++ flat_map (λ field. excess_in_type field.kind) fields

-- what stands after `after` or `knows`
abbrev pub excess_in_partners : List Partner → List Excess
excess_in_partners partners =
    counts Partners (map (λ partner. partner.atom.event.line) partners)
    ++ flat_map (λ partner. excess_in_atom partner.atom ++ excess_in_label partner.unless) partners

-- what stands after `requires`
abbrev pub excess_in_required : List AtomText → List Excess
excess_in_required atoms = counts Partners (map (λ atom. atom.event.line) atoms) ++ flat_map excess_in_atom atoms

-- ---- handlers

abbrev pub pattern_line : Pattern → ℕ
pattern_line (s.Bind name) = name.line
pattern_line (s.Named line name) = line
pattern_line (s.Equal line to) = line

abbrev pub excess_in_patterns : List Pattern → List Excess
excess_in_patterns pats = counts_fields pattern_line pats

abbrev pub excess_in_act : Act → List Excess
excess_in_act (s.New name usage label) = excess_in_use usage ++ excess_in_label label
excess_in_act (s.Let name value) = excess_in_expr value
excess_in_act (s.Event atom) = excess_in_atom atom
excess_in_act (s.Send value) = excess_in_expr value
excess_in_act (s.Store state fields) = counts_fields e.line_of fields ++ flat_map excess_in_expr fields
excess_in_act (s.Certify key usage) = []
excess_in_act (s.Find usage owner name) = []
excess_in_act (s.Recall state pats) = excess_in_patterns pats
excess_in_act (s.Split value tag pats) = excess_in_patterns pats
excess_in_act (s.Opened value key usage tag pats ad) =
    excess_in_use usage ++ excess_in_patterns pats ++ excess_in_expr ad
excess_in_act (s.Popened value key usage tag pats) = excess_in_use usage ++ excess_in_patterns pats
excess_in_act (s.Verify value key usage tag pats) = excess_in_use usage ++ excess_in_patterns pats
excess_in_act (s.Check value key usage tag args) = excess_in_use usage ++ counts_fields line_of args
excess_in_act (s.Same left right) = []

abbrev pub patterns_of_act : Act → List Pattern
patterns_of_act (s.Recall state pats) = pats
patterns_of_act (s.Split value tag pats) = pats
patterns_of_act (s.Opened value key usage tag pats ad) = pats
patterns_of_act (s.Popened value key usage tag pats) = pats
patterns_of_act (s.Verify value key usage tag pats) = pats
patterns_of_act _ = []

abbrev pub patterns_of_on : Option OnPart → List Pattern
patterns_of_on None = []
patterns_of_on (Some on) = on.pats

-- the word `name` of a pattern
abbrev pub name_lines : Pattern → List ℕ
name_lines (s.Named line name) = line ∷ []
name_lines _ = []

-- `self`, for which the word `handler` stands, the arguments, the `name` patterns
abbrev pub names_of : Handler → List ℕ
names_of handler =
    handler.line ∷ (map (λ arg. arg.line) handler.args
    ++ flat_map name_lines (patterns_of_on handler.on)
    ++ flat_map (λ statement. flat_map name_lines (patterns_of_act statement.act)) handler.body)

abbrev pub excess_in_handler : Handler → List Excess
excess_in_handler handler =
    counts Names (names_of handler)
    ++ excess_in_patterns (patterns_of_on handler.on)
    ++ counts_fields (λ arg. arg.line) handler.args
    ++ counts Statements (map (λ statement. statement.line) handler.body)
    ++ flat_map (λ statement. excess_in_act statement.act) handler.body

abbrev pub excess_in_decl : Decl → List Excess
excess_in_decl (f.Usage usage) =
    counts_fields (λ param. param.line) usage.params ++ counts Rows (map (λ row. row.text.line) usage.rows)
excess_in_decl (f.Case case) = excess_in_fields case.fields ++ excess_in_required case.requires_
excess_in_decl (f.Event event) = counts_fields (λ param. param.line) event.params ++ excess_in_partners event.after
excess_in_decl (f.State state) = excess_in_fields state.fields ++ excess_in_partners state.knows
excess_in_decl (f.Handler handler) = excess_in_handler handler

-- ---- plans

abbrev mutual
  -- the principals that a recipe names
  pub named_in : RecipeText → List Id
  named_in (r.Lit quote) = []
  named_in (r.Tuple tag args) = named_in_parts args
  named_in (r.Name line principal) = principal ∷ []
  named_in (r.Msg message) = []
  named_in (r.Cert cert) = []
  named_in (r.Nonce line step) = []
  named_in (r.Field line step version number) = []
  named_in (r.Pair line a b) = named_in a ++ named_in b
  named_in (r.Pk line a) = named_in a
  named_in (r.Vk line a) = named_in a
  named_in (r.Penc line a b) = named_in a ++ named_in b
  named_in (r.Aead line a b c) = named_in a ++ named_in b ++ named_in c
  named_in (r.Sign line a b) = named_in a ++ named_in b
  named_in (r.Mac line a b) = named_in a ++ named_in b
  named_in (r.Kdf line a context b) = named_in a ++ named_in b
  named_in (r.Hash line a) = named_in a
  named_in (r.Fst line a) = named_in a
  named_in (r.Snd line a) = named_in a
  named_in (r.Pdec line a b) = named_in a ++ named_in b
  named_in (r.Adec line a b) = named_in a ++ named_in b
  named_in (r.Ad line a) = named_in a
  named_in (r.Body line a) = named_in a

  pub named_in_parts : Recipes → List Id
  named_in_parts r.Nil = []
  named_in_parts (r.Cons first rest) = named_in first ++ named_in_parts rest

-- the principals that a step names
abbrev pub principals_of : Action → List Id
principals_of (p.Start principal handler args on msg) = principal ∷ args
principals_of (p.Corrupt principal session version) = principal ∷ []
principals_of p.Forge = []
principals_of (p.Inject recipe) = named_in recipe

-- those whose word is none of these and not that of an earlier one
abbrev pub others : List (List ℕ) → List Id → List Id
others words [] = []
others words (id ∷ ids) =
    if list_any (λ word. bytes_eq word id.word) words then others words ids
    else id ∷ others (words ++ id.word ∷ []) ids

abbrev pub excess_in_action : Action → List Excess
excess_in_action (p.Start principal handler args on msg) = counts_fields (λ arg. arg.line) args
excess_in_action (p.Corrupt principal session version) = []
excess_in_action p.Forge = []
excess_in_action (p.Inject recipe) = recipe_within (most Nesting) recipe

-- what each step of a plan has, in order
abbrev pub of_steps : {X : Type 0} → (Step → List X) → List Round → List X
of_steps of_step rounds = flat_map (λ round. flat_map of_step round.steps) rounds

abbrev pub principals_in : List Round → List Id
principals_in rounds = of_steps (λ step. principals_of step.action) rounds

abbrev pub excess_in_plan : List Round → List Excess
excess_in_plan rounds =
    counts Rounds (map (λ round. round.line) rounds)
    ++ counts Steps (flat_map (λ round. map (λ step. step.line) round.steps) rounds)
    ++ counts Principals (map (λ id. id.line) (others [] (principals_in rounds)))
    ++ of_steps (λ step. excess_in_action step.action) rounds

-- ---- files

-- the line of a declaration, if it is of this sort
abbrev pub lines_of_sort : LimitName → Decl → List ℕ
lines_of_sort Usages (f.Usage usage) = usage.line ∷ []
lines_of_sort Cases (f.Case case) = case.line ∷ []
lines_of_sort Events (f.Event event) = event.line ∷ []
lines_of_sort States (f.State state) = state.line ∷ []
lines_of_sort Handlers (f.Handler handler) = handler.line ∷ []
lines_of_sort _ _ = []

abbrev pub counts_declared : LimitName → List Decl → List Excess
counts_declared sort decls = counts sort (flat_map (lines_of_sort sort) decls)

abbrev pub excess_in_file : File → List Excess
excess_in_file file =
    counts_declared Usages file.decls
    ++ counts_declared Cases file.decls
    ++ counts_declared Events file.decls
    ++ counts_declared States file.decls
    ++ counts_declared Handlers file.decls
    ++ flat_map excess_in_decl file.decls
    ++ excess_in_plan file.plan.rounds

-- it stands in the list
abbrev pub IsIn : {X : Type 0} → X → List X → Type 0
IsIn x [] = ⊥
IsIn x (y ∷ ys) = (y ≡ x) ⊎ IsIn x ys

-- the file breaks this limit on this line, whatever its tokens
abbrev pub FileBreaks : LimitName → ℕ → File → Type 0
FileBreaks which line file = IsIn (record { which = which; line = line }) (excess_in_file file)

-- all that tokens and their file have too much of
abbrev pub excess_in : File → List Piece → List Excess
excess_in file tokens = flat_map excess_in_token tokens ++ excess_in_file file

-- the file breaks this limit on this line
abbrev pub BreaksLimit : LimitName → ℕ → File → List Piece → Type 0
BreaksLimit which line file tokens = IsIn (record { which = which; line = line }) (excess_in file tokens)

-- The first limit that is broken: on no lesser line is one, and on this line none of a lesser number.
pub record IsFirstLimit (which : LimitName) (line : ℕ) (file : File) (tokens : List Piece) : Type 0 where
  pub breaks : BreaksLimit which line file tokens
  pub line_is_least : (other : LimitName) (before : ℕ) → BreaksLimit other before file tokens → line ≤ before
  pub number_is_least : (other : LimitName) → BreaksLimit other line file tokens → number which ≤ number other
