-- What the types of the code stand for.
use Rattle.std.specs.Prelude.{map}
use Rattle.std.specs.Option.{option_map}
use Rattle.std.specs.declared.vec.Vec.{Vec}
use Rattle.std.specs.declared.alloc.Global.{Global}
use Rattle.dy_syntax.specs.declared.names.Id as id
use Rattle.dy_syntax.specs.declared.names.Quote as quote
use Rattle.dy_syntax.specs.declared.names.Nm as nm
use Rattle.dy_syntax.specs.declared.names.Nm.TheVariants as nms
use Rattle.dy_syntax.specs.declared.names.KindText as kind
use Rattle.dy_syntax.specs.declared.names.KindText.TheVariants as kinds
use Rattle.dy_syntax.specs.declared.names.UseText as use_text
use Rattle.dy_syntax.specs.declared.names.AtomText as atom_text
use Rattle.dy_syntax.specs.declared.labels.LabelText as label
use Rattle.dy_syntax.specs.declared.labels.LabelText.TheVariants as labels
use Rattle.dy_syntax.specs.declared.expressions.Tuple as tuple
use Rattle.dy_syntax.specs.declared.expressions.Expr as expr
use Rattle.dy_syntax.specs.declared.expressions.Expr.TheBlock.{hidden-the_row-Expr-0}
use Rattle.dy_syntax.specs.declared.expressions.Expr.TheVariants as exprs
use Rattle.dy_syntax.specs.declared.declarations.FieldType as field_type
use Rattle.dy_syntax.specs.declared.declarations.FieldType.TheVariants as field_types
use Rattle.dy_syntax.specs.declared.declarations.Field as field
use Rattle.dy_syntax.specs.declared.declarations.Row as row
use Rattle.dy_syntax.specs.declared.declarations.UsageDecl as usage_decl
use Rattle.dy_syntax.specs.declared.declarations.CaseDecl as case_decl
use Rattle.dy_syntax.specs.declared.declarations.Param as param
use Rattle.dy_syntax.specs.declared.declarations.Partner as partner
use Rattle.dy_syntax.specs.declared.declarations.EventDecl as event_decl
use Rattle.dy_syntax.specs.declared.declarations.StateDecl as state_decl
use Rattle.dy_syntax.specs.declared.declarations.Decl as decl
use Rattle.dy_syntax.specs.declared.declarations.Decl.TheVariants as decls
use Rattle.dy_syntax.specs.declared.statements.Pattern as pattern_
use Rattle.dy_syntax.specs.declared.statements.Pattern.TheVariants as patterns
use Rattle.dy_syntax.specs.declared.statements.OnPart as on_part
use Rattle.dy_syntax.specs.declared.statements.Act as act
use Rattle.dy_syntax.specs.declared.statements.Act.TheVariants as acts
use Rattle.dy_syntax.specs.declared.statements.Statement as statement
use Rattle.dy_syntax.specs.declared.statements.Handler as handler
use Rattle.dy_syntax.specs.declared.recipes.Numbered as numbered
use Rattle.dy_syntax.specs.declared.recipes.RecipeText as recipe
use Rattle.dy_syntax.specs.declared.recipes.RecipeText.TheBlock.{hidden-the_row-RecipeText-0}
use Rattle.dy_syntax.specs.declared.recipes.RecipeText.TheVariants as recipes
use Rattle.dy_syntax.specs.declared.plans.OnStep as on_step
use Rattle.dy_syntax.specs.declared.plans.Action as action
use Rattle.dy_syntax.specs.declared.plans.Action.TheVariants as actions
use Rattle.dy_syntax.specs.declared.plans.Step as step
use Rattle.dy_syntax.specs.declared.plans.Round as round
use Rattle.dy_syntax.specs.declared.plans.Plan as plan
use Rattle.dy_syntax.specs.declared.files.File as file
use Rattle.dy_syntax.specs.Names as n
use Rattle.dy_syntax.specs.Labels as l
use Rattle.dy_syntax.specs.Expressions as e
use Rattle.dy_syntax.specs.Declarations as d
use Rattle.dy_syntax.specs.Statements as s
use Rattle.dy_syntax.specs.Recipes as r
use Rattle.dy_syntax.specs.Plans as p
use Rattle.dy_syntax.specs.Files as f

abbrev pub id_of : id.Id → n.Id
id_of i = record { word = i.word; line = i.line }

abbrev pub quote_of : quote.Quote → n.Quote
quote_of q = record { text = q.text; line = q.line }

abbrev pub nm_of : nm.Nm → n.Nm
nm_of (nms.Named i) = n.Named (id_of i)
nm_of (nms.Me line) = n.Me line

abbrev pub kind_of : kind.KindText → n.KindText
kind_of kinds.Nonce = n.Nonce
kind_of kinds.Pke = n.Pke
kind_of kinds.Sig = n.Sig
kind_of kinds.Aead = n.Aead
kind_of kinds.Mac = n.Mac
kind_of kinds.Kdf = n.Kdf

abbrev pub use_of : use_text.UseText → n.UseText
use_of u = record { usage = id_of u.usage; args = map nm_of u.args }

abbrev pub atom_of : atom_text.AtomText → n.AtomText
atom_of a = record { event = id_of a.event; args = map nm_of a.args }

abbrev pub label_of : label.LabelText → l.LabelText
label_of (labels.Public line) = l.Public line
label_of (labels.Nobody line) = l.Nobody line
label_of (labels.Session line) = l.Session line
label_of (labels.Next line) = l.Next line
label_of (labels.Prior line) = l.Prior line
label_of (labels.Here line) = l.Here line
label_of (labels.One name) = l.One (nm_of name)
label_of (labels.Join' line p left q right) = l.Join line (label_of left) (label_of right)
label_of (labels.Meet' line p left q right) = l.Meet line (label_of left) (label_of right)

abbrev mutual
  pub expr_of : expr.Expr → e.Expr
  expr_of (exprs.Nm name) = e.Nm (nm_of name)
  expr_of (exprs.Lit q) = e.Lit (quote_of q)
  expr_of (exprs.Tuple' tag shape args) = e.Tuple (quote_of tag) (exprs_of args)
  expr_of (exprs.Pair' line p first q second) = e.Pair line (expr_of first) (expr_of second)
  expr_of (exprs.Pk line key) = e.Pk line (nm_of key)
  expr_of (exprs.Vk line key) = e.Vk line (nm_of key)
  expr_of (exprs.Penc' line key usage tag shape args) =
      e.Penc line (nm_of key) (use_of usage) (quote_of tag) (exprs_of args)
  expr_of (exprs.Aead' line key usage tag shape args p ad) =
      e.Aead line (nm_of key) (use_of usage) (quote_of tag) (exprs_of args) (expr_of ad)
  expr_of (exprs.Sign' line key usage tag shape args) =
      e.Sign line (nm_of key) (use_of usage) (quote_of tag) (exprs_of args)
  expr_of (exprs.Mac' line key usage tag shape args) =
      e.Mac line (nm_of key) (use_of usage) (quote_of tag) (exprs_of args)
  expr_of (exprs.Kdf' line key context p input) = e.Kdf line (nm_of key) (quote_of context) (expr_of input)
  expr_of (exprs.Hash' line p message) = e.Hash line (expr_of message)

  pub exprs_of : {m : _} → expr.Row_of-Expr m → e.Exprs
  exprs_of expr.end_of-Expr = e.Nil
  exprs_of (expr.more_of-Expr first rest) = e.Cons (expr_of first) (exprs_of rest)

-- the expressions of a tuple
abbrev pub args_of : tuple.Tuple → e.Exprs
args_of t = exprs_of (hidden-the_row-Expr-0 t.args)

abbrev pub field_type_of : field_type.FieldType → d.FieldType
field_type_of field_types.Name = d.Name
field_type_of field_types.Any = d.Any
field_type_of (field_types.Upto label) = d.Upto (label_of label)
field_type_of (field_types.Secret label) = d.Secret (label_of label)
field_type_of (field_types.Key label usage) = d.Key (label_of label) (use_of usage)
field_type_of (field_types.Pk label usage) = d.Pk (label_of label) (use_of usage)
field_type_of (field_types.Vk label usage) = d.Vk (label_of label) (use_of usage)

abbrev pub field_of : field.Field → d.Field
field_of x = record { name = id_of x.name; kind = field_type_of x.kind; kind_line = x.kind_line }

abbrev pub row_of : row.Row → d.Row
row_of x = record { text = quote_of x.text; kind = kind_of x.kind; kind_line = x.kind_line; usage = id_of x.usage }

abbrev pub usage_of : usage_decl.UsageDecl → d.UsageDecl
usage_of x =
    record {
      line = x.line;
      kind = kind_of x.kind;
      kind_line = x.kind_line;
      name = id_of x.name;
      params = map id_of x.params;
      rows = map row_of x.rows;
    }

abbrev pub case_of : case_decl.CaseDecl → d.CaseDecl
case_of x =
    record {
      line = x.line;
      usage = id_of x.usage;
      tag = quote_of x.tag;
      fields = map field_of x.fields;
      requires_ = map atom_of x.requires_;
    }

abbrev pub param_of : param.Param → d.Param
param_of x = record { line = x.line; is_name = x.is_name; name = id_of x.name }

abbrev pub partner_of : partner.Partner → d.Partner
partner_of x = record { atom = atom_of x.atom; unless = label_of x.unless }

abbrev pub event_of : event_decl.EventDecl → d.EventDecl
event_of x =
    record { line = x.line; name = id_of x.name; params = map param_of x.params; after = map partner_of x.after }

abbrev pub state_of : state_decl.StateDecl → d.StateDecl
state_of x =
    record {
      line = x.line;
      name = id_of x.name;
      lasting = x.lasting;
      fields = map field_of x.fields;
      knows = map partner_of x.knows;
    }

abbrev pub pattern_of : pattern_.Pattern → s.Pattern
pattern_of (patterns.Bind name) = s.Bind (id_of name)
pattern_of (patterns.Named line name) = s.Named line (id_of name)
pattern_of (patterns.Equal line to) = s.Equal line (nm_of to)

abbrev pub on_part_of : on_part.OnPart → s.OnPart
on_part_of x = record { line = x.line; state = id_of x.state; pats = map pattern_of x.pats }

abbrev pub act_of : act.Act → s.Act
act_of (acts.New name usage label) = s.New (id_of name) (use_of usage) (label_of label)
act_of (acts.Let name value) = s.Let (id_of name) (expr_of value)
act_of (acts.Event atom) = s.Event (atom_of atom)
act_of (acts.Send value) = s.Send (expr_of value)
act_of (acts.Store state fields) = s.Store (id_of state) (map expr_of fields)
act_of (acts.Certify key usage) = s.Certify (id_of key) (id_of usage)
act_of (acts.Find usage owner name) = s.Find (id_of usage) (nm_of owner) (id_of name)
act_of (acts.Recall state pats) = s.Recall (id_of state) (map pattern_of pats)
act_of (acts.Split value tag pats) = s.Split (id_of value) (quote_of tag) (map pattern_of pats)
act_of (acts.Opened value key usage tag pats ad) =
    s.Opened (id_of value) (id_of key) (use_of usage) (quote_of tag) (map pattern_of pats) (expr_of ad)
act_of (acts.Popened value key usage tag pats) =
    s.Popened (id_of value) (id_of key) (use_of usage) (quote_of tag) (map pattern_of pats)
act_of (acts.Verify value key usage tag pats) =
    s.Verify (id_of value) (id_of key) (use_of usage) (quote_of tag) (map pattern_of pats)
act_of (acts.Check value key usage tag args) =
    s.Check (id_of value) (id_of key) (use_of usage) (quote_of tag) (map nm_of args)
act_of (acts.Same left right) = s.Same (nm_of left) (nm_of right)

abbrev pub statement_of : statement.Statement → s.Statement
statement_of x = record { line = x.line; act = act_of x.act }

abbrev pub handler_of : handler.Handler → s.Handler
handler_of x = record {
  line = x.line;
  name = id_of x.name;
  on = option_map on_part_of x.on;
  args = map id_of x.args;
  recv = option_map id_of x.recv;
  body = map statement_of x.body;
}

abbrev pub decl_of : decl.Decl → f.Decl
decl_of (decls.Usage x) = f.Usage (usage_of x)
decl_of (decls.Case x) = f.Case (case_of x)
decl_of (decls.Event x) = f.Event (event_of x)
decl_of (decls.State x) = f.State (state_of x)
decl_of (decls.Handler x) = f.Handler (handler_of x)

abbrev pub numbered_of : numbered.Numbered → r.Numbered
numbered_of x = record { line = x.line; step = id_of x.step; number = x.number }

abbrev mutual
  pub recipe_of : recipe.RecipeText → r.RecipeText
  recipe_of (recipes.Lit q) = r.Lit (quote_of q)
  recipe_of (recipes.Tuple' tag shape args) = r.Tuple (quote_of tag) (recipes_of args)
  recipe_of (recipes.Name line name) = r.Name line (id_of name)
  recipe_of (recipes.Msg x) = r.Msg (numbered_of x)
  recipe_of (recipes.Cert x) = r.Cert (numbered_of x)
  recipe_of (recipes.Nonce line step) = r.Nonce line (id_of step)
  recipe_of (recipes.Field line step version number) = r.Field line (id_of step) version number
  recipe_of (recipes.Pair' line a first b second) = r.Pair line (recipe_of first) (recipe_of second)
  recipe_of (recipes.Pk' line a key) = r.Pk line (recipe_of key)
  recipe_of (recipes.Vk' line a key) = r.Vk line (recipe_of key)
  recipe_of (recipes.Penc' line a key b message) = r.Penc line (recipe_of key) (recipe_of message)
  recipe_of (recipes.Aead' line a key b message c ad) = r.Aead line (recipe_of key) (recipe_of message) (recipe_of ad)
  recipe_of (recipes.Sign' line a key b message) = r.Sign line (recipe_of key) (recipe_of message)
  recipe_of (recipes.Mac' line a key b message) = r.Mac line (recipe_of key) (recipe_of message)
  recipe_of (recipes.Kdf' line a key context b input) = r.Kdf line (recipe_of key) (quote_of context) (recipe_of input)
  recipe_of (recipes.Hash' line a message) = r.Hash line (recipe_of message)
  recipe_of (recipes.Fst' line a value) = r.Fst line (recipe_of value)
  recipe_of (recipes.Snd' line a value) = r.Snd line (recipe_of value)
  recipe_of (recipes.Pdec' line a value b key) = r.Pdec line (recipe_of value) (recipe_of key)
  recipe_of (recipes.Adec' line a value b key) = r.Adec line (recipe_of value) (recipe_of key)
  recipe_of (recipes.Ad' line a value) = r.Ad line (recipe_of value)
  recipe_of (recipes.Body' line a value) = r.Body line (recipe_of value)

  pub recipes_of : {m : _} → recipe.Row_of-RecipeText m → r.Recipes
  recipes_of recipe.end_of-RecipeText = r.Nil
  recipes_of (recipe.more_of-RecipeText first rest) = r.Cons (recipe_of first) (recipes_of rest)

-- the recipes of a tuple
abbrev pub row_of_recipes : Vec recipe.RecipeText Global → r.Recipes
row_of_recipes args = recipes_of (hidden-the_row-RecipeText-0 args)

abbrev pub on_step_of : on_step.OnStep → p.OnStep
on_step_of x = record { line = x.line; step = id_of x.step }

abbrev pub action_of : action.Action → p.Action
action_of (actions.Start principal handler args on msg) =
    p.Start (id_of principal) (id_of handler) (map id_of args) (option_map on_step_of on) (option_map numbered_of msg)
action_of (actions.Corrupt principal session version) = p.Corrupt (id_of principal) (id_of session) version
action_of actions.Forge = p.Forge
action_of (actions.Inject recipe) = p.Inject (recipe_of recipe)

abbrev pub step_of : step.Step → p.Step
step_of x = record { line = x.line; name = id_of x.name; action = action_of x.action }

abbrev pub round_of : round.Round → p.Round
round_of x = record { line = x.line; steps = map step_of x.steps }

abbrev pub plan_of : plan.Plan → p.Plan
plan_of x = record { rounds = map round_of x.rounds }

abbrev pub file_of : file.File → f.File
file_of x = record { version = x.version; decls = map decl_of x.decls; plan = plan_of x.plan }
