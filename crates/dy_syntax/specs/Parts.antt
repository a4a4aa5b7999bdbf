-- The parts of a declaration, a handler or a plan of which a rule speaks.
use Rattle.std.specs.Prelude.{ℕ, Bool, List, [], ◌∷◌, ◌++◌, map, Option}
use Rattle.std.specs.List.{flat_map}
use Rattle.dy_syntax.specs.Names.{Id, Quote, Nm, Named, KindText, Pke, Sig, Aead, Mac, UseText, AtomText}
use Rattle.dy_syntax.specs.Labels.{LabelText, Public, Nobody, Session, Next, Prior, Here, One, Join, Meet}
use Rattle.dy_syntax.specs.Declarations as declarations
use Rattle.dy_syntax.specs.Declarations.{FieldType, Any, Upto, Secret, Key, Field, Row, UsageDecl, CaseDecl, Param, Partner, EventDecl, StateDecl}
use Rattle.dy_syntax.specs.Expressions as e
use Rattle.dy_syntax.specs.Expressions.{Expr, Exprs, list_of}
use Rattle.dy_syntax.specs.Statements as statements
use Rattle.dy_syntax.specs.Statements.{Pattern, Bind, Equal, Act, New, Let, Send, Store, Certify, Find, Recall, Split, Opened, Popened, Verify, Check, Same}
use Rattle.dy_syntax.specs.Recipes as r
use Rattle.dy_syntax.specs.Recipes.{RecipeText, Recipes}
use Rattle.dy_syntax.specs.Plans.{Step, OnStep}

-- what a step must be that another one names: a forge step, a start step, or one that sends a message. It may also
-- be one that opens a session, or one that opens a session of this principal
pub data Wanted : Type 0 where
  Forging : Wanted
  Starting : Wanted
  Sending : Wanted
  Opening : Wanted
  OpeningOf : (principal : List ℕ) → Wanted

pub data Part : Type 0 where
  -- a variable is used; a name or something else stands where only a name may stand
  Variable : (name : Nm) → Part
  NameOnly : (name : Nm) → Part
  -- a usage with its arguments; what its kind must be; a usage of which certificates are
  Used : (usage : UseText) → Part
  OfKind : (kind : KindText) (usage : Id) → Part
  Certified : (usage : Id) → Part
  -- an event with its arguments, and as a statement
  Atom : (atom : AtomText) → Part
  Triggered : (args : List Nm) → Part
  -- a word of a label
  LabelWord : (word : LabelText) → Part
  -- a case or a state, with expressions or patterns for its fields
  Filled : (usage : Id) (tag : Quote) (args : List Expr) → Part
  Matched : (usage : Id) (tag : Quote) (pats : List Pattern) → Part
  StateFilled : (state : Id) (args : List Expr) → Part
  StateMatched : (state : Id) (pats : List Pattern) → Part
  -- a `store`, the last statement or not; a `use` of a state; the expression of a `let`
  Stored : (line : ℕ) (is_last : Bool) → Part
  Recalled : (line : ℕ) (state : Id) → Part
  Defined : (value : Expr) → Part
  -- what one declaration or handler binds; what the file declares of one sort; its cases
  Bound : (ids : List Id) → Part
  Declared : (ids : List Id) → Part
  Cases : (cases : List CaseDecl) → Part
  -- declarations
  OfUsage : (usage : UsageDecl) → Part
  OfRow : (usage : UsageDecl) (row : Row) → Part
  OfCase : (case : CaseDecl) → Part
  OfEvent : (event : EventDecl) → Part
  -- a plan's step names; a step that another one names, of a round; a start step; the steps of a round
  StepNames : (ids : List Id) → Part
  StepNamed : (round : ℕ) (wanted : Wanted) (step : Id) → Part
  Started : (handler : Id) (args : List Id) (on : Option OnStep) (msg : Option r.Numbered) → Part
  Together : (steps : List Step) → Part

unfoldable pub parts_of_use : UseText → List Part
parts_of_use usage = Used usage ∷ map NameOnly usage.args

unfoldable pub parts_of_atom : AtomText → List Part
parts_of_atom atom = Atom atom ∷ map Variable atom.args

abbrev pub parts_of_label : LabelText → List Part
parts_of_label (Public line) = LabelWord (Public line) ∷ []
parts_of_label (Nobody line) = LabelWord (Nobody line) ∷ []
parts_of_label (Session line) = LabelWord (Session line) ∷ []
parts_of_label (Next line) = LabelWord (Next line) ∷ []
parts_of_label (Prior line) = LabelWord (Prior line) ∷ []
parts_of_label (Here line) = LabelWord (Here line) ∷ []
parts_of_label (One name) = LabelWord (One name) ∷ NameOnly name ∷ []
parts_of_label (Join line left right) = parts_of_label left ++ parts_of_label right
parts_of_label (Meet line left right) = parts_of_label left ++ parts_of_label right

-- a key's usage, whose kind is said
unfoldable pub parts_of_key : KindText → UseText → List Part
parts_of_key kind usage = OfKind kind usage.usage ∷ parts_of_use usage

abbrev pub parts_of_type : FieldType → List Part
parts_of_type declarations.Name = []
parts_of_type Any = []
parts_of_type (Upto label) = parts_of_label label
parts_of_type (Secret label) = parts_of_label label
parts_of_type (Key label usage) = parts_of_label label ++ parts_of_use usage
parts_of_type (declarations.Pk label usage) = parts_of_label label ++ parts_of_key Pke usage
parts_of_type (declarations.Vk label usage) = parts_of_label label ++ parts_of_key Sig usage

unfoldable pub parts_of_partner : Partner → List Part
parts_of_partner partner = parts_of_atom partner.atom ++ parts_of_label partner.unless

-- a key, by which a tuple is encrypted, signed or tagged
unfoldable pub parts_of_sealed : KindText → Nm → UseText → Quote → List Expr → List Part
parts_of_sealed kind key usage tag args = Variable key ∷ Filled usage.usage tag args ∷ parts_of_key kind usage

abbrev mutual
  pub parts_of_expr : Expr → List Part
  parts_of_expr (e.Nm name) = Variable name ∷ []
  parts_of_expr (e.Lit quote) = []
  parts_of_expr (e.Tuple tag args) = parts_of_exprs args
  parts_of_expr (e.Pair line first second) = parts_of_expr first ++ parts_of_expr second
  parts_of_expr (e.Pk line key) = Variable key ∷ []
  parts_of_expr (e.Vk line key) = Variable key ∷ []
  parts_of_expr (e.Penc line key usage tag args) =
      parts_of_sealed Pke key usage tag (list_of args) ++ parts_of_exprs args
  parts_of_expr (e.Aead line key usage tag args ad) =
      parts_of_sealed Aead key usage tag (list_of args) ++ parts_of_exprs args ++ parts_of_expr ad
  parts_of_expr (e.Sign line key usage tag args) =
      parts_of_sealed Sig key usage tag (list_of args) ++ parts_of_exprs args
  parts_of_expr (e.Mac line key usage tag args) =
      parts_of_sealed Mac key usage tag (list_of args) ++ parts_of_exprs args
  parts_of_expr (e.Kdf line key context input) = Variable key ∷ parts_of_expr input
  parts_of_expr (e.Hash line message) = parts_of_expr message

  pub parts_of_exprs : Exprs → List Part
  parts_of_exprs e.Nil = []
  parts_of_exprs (e.Cons first rest) = parts_of_expr first ++ parts_of_exprs rest

abbrev pub parts_of_pattern : Pattern → List Part
parts_of_pattern (Bind name) = []
parts_of_pattern (statements.Named line name) = []
parts_of_pattern (Equal line to) = Variable to ∷ []

-- a value that is opened by a key
unfoldable pub parts_of_opening : KindText → Id → Id → UseText → Quote → List Pattern → List Part
parts_of_opening kind value key usage tag pats =
    Variable (Named value) ∷ Variable (Named key) ∷ Matched usage.usage tag pats
    ∷ (parts_of_key kind usage ++ flat_map parts_of_pattern pats)

-- a statement that begins on this line, the last one or not
abbrev pub parts_of_act : ℕ → Bool → Act → List Part
parts_of_act line is_last (New name usage label) = parts_of_use usage ++ parts_of_label label
parts_of_act line is_last (Let name value) = Defined value ∷ parts_of_expr value
parts_of_act line is_last (statements.Event atom) = Triggered atom.args ∷ parts_of_atom atom
parts_of_act line is_last (Send value) = parts_of_expr value
parts_of_act line is_last (Store state fields) =
    Stored line is_last ∷ StateFilled state fields ∷ flat_map parts_of_expr fields
parts_of_act line is_last (Certify key usage) = Variable (Named key) ∷ Certified usage ∷ []
parts_of_act line is_last (Find usage owner name) = Certified usage ∷ NameOnly owner ∷ []
parts_of_act line is_last (Recall state pats) =
    Recalled line state ∷ StateMatched state pats ∷ flat_map parts_of_pattern pats
parts_of_act line is_last (Split value tag pats) = Variable (Named value) ∷ flat_map parts_of_pattern pats
parts_of_act line is_last (Opened value key usage tag pats ad) =
    parts_of_opening Aead value key usage tag pats ++ parts_of_expr ad
parts_of_act line is_last (Popened value key usage tag pats) = parts_of_opening Pke value key usage tag pats
parts_of_act line is_last (Verify value key usage tag pats) = parts_of_opening Sig value key usage tag pats
parts_of_act line is_last (Check value key usage tag args) =
    Variable (Named value) ∷ (parts_of_sealed Mac (Named key) usage tag (map e.Nm args) ++ map Variable args)
parts_of_act line is_last (Same left right) = Variable left ∷ Variable right ∷ []

-- a recipe of a step of this round
abbrev mutual
  pub parts_of_recipe : ℕ → RecipeText → List Part
  parts_of_recipe round (r.Lit quote) = []
  parts_of_recipe round (r.Tuple tag args) = parts_of_recipes round args
  parts_of_recipe round (r.Name line principal) = []
  parts_of_recipe round (r.Msg message) = StepNamed round Sending message.step ∷ []
  parts_of_recipe round (r.Cert cert) = StepNamed round Starting cert.step ∷ []
  parts_of_recipe round (r.Nonce line step) = StepNamed round Forging step ∷ []
  parts_of_recipe round (r.Field line step version number) = StepNamed round Opening step ∷ []
  parts_of_recipe round (r.Pair line first second) = parts_of_recipe round first ++ parts_of_recipe round second
  parts_of_recipe round (r.Pk line key) = parts_of_recipe round key
  parts_of_recipe round (r.Vk line key) = parts_of_recipe round key
  parts_of_recipe round (r.Penc line key message) = parts_of_recipe round key ++ parts_of_recipe round message
  parts_of_recipe round (r.Aead line key message ad) =
      parts_of_recipe round key ++ parts_of_recipe round message ++ parts_of_recipe round ad
  parts_of_recipe round (r.Sign line key message) = parts_of_recipe round key ++ parts_of_recipe round message
  parts_of_recipe round (r.Mac line key message) = parts_of_recipe round key ++ parts_of_recipe round message
  parts_of_recipe round (r.Kdf line key context input) = parts_of_recipe round key ++ parts_of_recipe round input
  parts_of_recipe round (r.Hash line message) = parts_of_recipe round message
  parts_of_recipe round (r.Fst line value) = parts_of_recipe round value
  parts_of_recipe round (r.Snd line value) = parts_of_recipe round value
  parts_of_recipe round (r.Pdec line value key) = parts_of_recipe round value ++ parts_of_recipe round key
  parts_of_recipe round (r.Adec line value key) = parts_of_recipe round value ++ parts_of_recipe round key
  parts_of_recipe round (r.Ad line value) = parts_of_recipe round value
  parts_of_recipe round (r.Body line value) = parts_of_recipe round value

  pub parts_of_recipes : ℕ → Recipes → List Part
  parts_of_recipes round r.Nil = []
  parts_of_recipes round (r.Cons first rest) = parts_of_recipe round first ++ parts_of_recipes round rest
