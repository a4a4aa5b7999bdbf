-- When two files are the same but for line numbers: each part with its lines set to 0.
use Rattle.std.specs.Prelude.{◌≡◌, ℕ, List, map, Option}
use Rattle.std.specs.Option.{option_map}
use Rattle.dy_syntax.specs.Names as n
use Rattle.dy_syntax.specs.Labels as l
use Rattle.dy_syntax.specs.Declarations as d
use Rattle.dy_syntax.specs.Expressions as e
use Rattle.dy_syntax.specs.Statements as s
use Rattle.dy_syntax.specs.Recipes as r
use Rattle.dy_syntax.specs.Plans as p
use Rattle.dy_syntax.specs.Files as f

abbrev pub bare_id : n.Id → n.Id
bare_id id = record { word = id.word; line = 0 }

abbrev pub bare_quote : n.Quote → n.Quote
bare_quote quote = record { text = quote.text; line = 0 }

abbrev pub bare_nm : n.Nm → n.Nm
bare_nm (n.Named id) = n.Named (bare_id id)
bare_nm (n.Me line) = n.Me 0

abbrev pub bare_use : n.UseText → n.UseText
bare_use use_text = record { usage = bare_id use_text.usage; args = map bare_nm use_text.args }

abbrev pub bare_atom : n.AtomText → n.AtomText
bare_atom atom = record { event = bare_id atom.event; args = map bare_nm atom.args }

abbrev pub bare_label : l.LabelText → l.LabelText
bare_label (l.Public line) = l.Public 0
bare_label (l.Nobody line) = l.Nobody 0
bare_label (l.Session line) = l.Session 0
bare_label (l.Next line) = l.Next 0
bare_label (l.Prior line) = l.Prior 0
bare_label (l.Here line) = l.Here 0
bare_label (l.One name) = l.One (bare_nm name)
bare_label (l.Join line left right) = l.Join 0 (bare_label left) (bare_label right)
bare_label (l.Meet line left right) = l.Meet 0 (bare_label left) (bare_label right)

abbrev pub bare_type : d.FieldType → d.FieldType
bare_type d.Name = d.Name
bare_type d.Any = d.Any
bare_type (d.Upto label) = d.Upto (bare_label label)
bare_type (d.Secret label) = d.Secret (bare_label label)
bare_type (d.Key label usage) = d.Key (bare_label label) (bare_use usage)
bare_type (d.Pk label usage) = d.Pk (bare_label label) (bare_use usage)
bare_type (d.Vk label usage) = d.Vk (bare_label label) (bare_use usage)

abbrev pub bare_field : d.Field → d.Field
bare_field field = record { name = bare_id field.name; kind = bare_type field.kind; kind_line = 0 }

abbrev pub bare_row : d.Row → d.Row
bare_row row = record { text = bare_quote row.text; kind = row.kind; kind_line = 0; usage = bare_id row.usage }

abbrev pub bare_usage : d.UsageDecl → d.UsageDecl
bare_usage usage =
    record {
      line = 0;
      kind = usage.kind;
      kind_line = 0;
      name = bare_id usage.name;
      params = map bare_id usage.params;
      rows = map bare_row usage.rows;
    }

abbrev pub bare_case : d.CaseDecl → d.CaseDecl
bare_case case =
    record {
      line = 0;
      usage = bare_id case.usage;
      tag = bare_quote case.tag;
      fields = map bare_field case.fields;
      requires_ = map bare_atom case.requires_;
    }

abbrev pub bare_param : d.Param → d.Param
bare_param param = record { line = 0; is_name = param.is_name; name = bare_id param.name }

abbrev pub bare_partner : d.Partner → d.Partner
bare_partner partner = record { atom = bare_atom partner.atom; unless = bare_label partner.unless }

abbrev pub bare_event : d.EventDecl → d.EventDecl
bare_event event =
    record {
      line = 0;
      name = bare_id event.name;
      params = map bare_param event.params;
      after = map bare_partner event.after;
    }

abbrev pub bare_state : d.StateDecl → d.StateDecl
bare_state state =
    record {
      line = 0;
      name = bare_id state.name;
      lasting = state.lasting;
      fields = map bare_field state.fields;
      knows = map bare_partner state.knows;
    }

abbrev mutual
  pub bare_expr : e.Expr → e.Expr
  bare_expr (e.Nm name) = e.Nm (bare_nm name)
  bare_expr (e.Lit quote) = e.Lit (bare_quote quote)
  bare_expr (e.Tuple tag args) = e.Tuple (bare_quote tag) (bare_exprs args)
  bare_expr (e.Pair line first second) = e.Pair 0 (bare_expr first) (bare_expr second)
  bare_expr (e.Pk line key) = e.Pk 0 (bare_nm key)
  bare_expr (e.Vk line key) = e.Vk 0 (bare_nm key)
  bare_expr (e.Penc line key usage tag args) =
      e.Penc 0 (bare_nm key) (bare_use usage) (bare_quote tag) (bare_exprs args)
  bare_expr (e.Aead line key usage tag args ad) =
      e.Aead 0 (bare_nm key) (bare_use usage) (bare_quote tag) (bare_exprs args) (bare_expr ad)
  bare_expr (e.Sign line key usage tag args) =
      e.Sign 0 (bare_nm key) (bare_use usage) (bare_quote tag) (bare_exprs args)
  bare_expr (e.Mac line key usage tag args) = e.Mac 0 (bare_nm key) (bare_use usage) (bare_quote tag) (bare_exprs args)
  bare_expr (e.Kdf line key context input) = e.Kdf 0 (bare_nm key) (bare_quote context) (bare_expr input)
  bare_expr (e.Hash line message) = e.Hash 0 (bare_expr message)

  pub bare_exprs : e.Exprs → e.Exprs
  bare_exprs e.Nil = e.Nil
  bare_exprs (e.Cons first rest) = e.Cons (bare_expr first) (bare_exprs rest)

abbrev pub bare_pattern : s.Pattern → s.Pattern
bare_pattern (s.Bind name) = s.Bind (bare_id name)
bare_pattern (s.Named line name) = s.Named 0 (bare_id name)
bare_pattern (s.Equal line to) = s.Equal 0 (bare_nm to)

abbrev pub bare_on_part : s.OnPart → s.OnPart
bare_on_part on = record { line = 0; state = bare_id on.state; pats = map bare_pattern on.pats }

abbrev pub bare_act : s.Act → s.Act
bare_act (s.New name usage label) = s.New (bare_id name) (bare_use usage) (bare_label label)
bare_act (s.Let name value) = s.Let (bare_id name) (bare_expr value)
bare_act (s.Event atom) = s.Event (bare_atom atom)
bare_act (s.Send value) = s.Send (bare_expr value)
bare_act (s.Store state fields) = s.Store (bare_id state) (map bare_expr fields)
bare_act (s.Certify key usage) = s.Certify (bare_id key) (bare_id usage)
bare_act (s.Find usage owner name) = s.Find (bare_id usage) (bare_nm owner) (bare_id name)
bare_act (s.Recall state pats) = s.Recall (bare_id state) (map bare_pattern pats)
bare_act (s.Split value tag pats) = s.Split (bare_id value) (bare_quote tag) (map bare_pattern pats)
bare_act (s.Opened value key usage tag pats ad) =
    s.Opened (bare_id value) (bare_id key) (bare_use usage) (bare_quote tag) (map bare_pattern pats) (bare_expr ad)
bare_act (s.Popened value key usage tag pats) =
    s.Popened (bare_id value) (bare_id key) (bare_use usage) (bare_quote tag) (map bare_pattern pats)
bare_act (s.Verify value key usage tag pats) =
    s.Verify (bare_id value) (bare_id key) (bare_use usage) (bare_quote tag) (map bare_pattern pats)
bare_act (s.Check value key usage tag args) =
    s.Check (bare_id value) (bare_id key) (bare_use usage) (bare_quote tag) (map bare_nm args)
bare_act (s.Same left right) = s.Same (bare_nm left) (bare_nm right)

abbrev pub bare_statement : s.Statement → s.Statement
bare_statement statement = record { line = 0; act = bare_act statement.act }

abbrev pub bare_handler : s.Handler → s.Handler
bare_handler handler =
    record {
      line = 0;
      name = bare_id handler.name;
      on = option_map bare_on_part handler.on;
      args = map bare_id handler.args;
      recv = option_map bare_id handler.recv;
      body = map bare_statement handler.body;
    }

abbrev pub bare_decl : f.Decl → f.Decl
bare_decl (f.Usage usage) = f.Usage (bare_usage usage)
bare_decl (f.Case case) = f.Case (bare_case case)
bare_decl (f.Event event) = f.Event (bare_event event)
bare_decl (f.State state) = f.State (bare_state state)
bare_decl (f.Handler handler) = f.Handler (bare_handler handler)

abbrev pub bare_numbered : r.Numbered → r.Numbered
bare_numbered numbered = record { line = 0; step = bare_id numbered.step; number = numbered.number }

abbrev mutual
  pub bare_recipe : r.RecipeText → r.RecipeText
  bare_recipe (r.Lit quote) = r.Lit (bare_quote quote)
  bare_recipe (r.Tuple tag args) = r.Tuple (bare_quote tag) (bare_recipes args)
  bare_recipe (r.Name line principal) = r.Name 0 (bare_id principal)
  bare_recipe (r.Msg message) = r.Msg (bare_numbered message)
  bare_recipe (r.Cert cert) = r.Cert (bare_numbered cert)
  bare_recipe (r.Nonce line step) = r.Nonce 0 (bare_id step)
  bare_recipe (r.Field line step version number) = r.Field 0 (bare_id step) version number
  bare_recipe (r.Pair line first second) = r.Pair 0 (bare_recipe first) (bare_recipe second)
  bare_recipe (r.Pk line key) = r.Pk 0 (bare_recipe key)
  bare_recipe (r.Vk line key) = r.Vk 0 (bare_recipe key)
  bare_recipe (r.Penc line key message) = r.Penc 0 (bare_recipe key) (bare_recipe message)
  bare_recipe (r.Aead line key message ad) = r.Aead 0 (bare_recipe key) (bare_recipe message) (bare_recipe ad)
  bare_recipe (r.Sign line key message) = r.Sign 0 (bare_recipe key) (bare_recipe message)
  bare_recipe (r.Mac line key message) = r.Mac 0 (bare_recipe key) (bare_recipe message)
  bare_recipe (r.Kdf line key context input) = r.Kdf 0 (bare_recipe key) (bare_quote context) (bare_recipe input)
  bare_recipe (r.Hash line message) = r.Hash 0 (bare_recipe message)
  bare_recipe (r.Fst line value) = r.Fst 0 (bare_recipe value)
  bare_recipe (r.Snd line value) = r.Snd 0 (bare_recipe value)
  bare_recipe (r.Pdec line value key) = r.Pdec 0 (bare_recipe value) (bare_recipe key)
  bare_recipe (r.Adec line value key) = r.Adec 0 (bare_recipe value) (bare_recipe key)
  bare_recipe (r.Ad line value) = r.Ad 0 (bare_recipe value)
  bare_recipe (r.Body line value) = r.Body 0 (bare_recipe value)

  pub bare_recipes : r.Recipes → r.Recipes
  bare_recipes r.Nil = r.Nil
  bare_recipes (r.Cons first rest) = r.Cons (bare_recipe first) (bare_recipes rest)

abbrev pub bare_on_step : p.OnStep → p.OnStep
bare_on_step on = record { line = 0; step = bare_id on.step }

abbrev pub bare_action : p.Action → p.Action
bare_action (p.Start principal handler args on msg) =
    p.Start (bare_id principal) (bare_id handler) (map bare_id args) (option_map bare_on_step on)
    (option_map bare_numbered msg)
bare_action (p.Corrupt principal session version) = p.Corrupt (bare_id principal) (bare_id session) version
bare_action p.Forge = p.Forge
bare_action (p.Inject recipe) = p.Inject (bare_recipe recipe)

abbrev pub bare_step : p.Step → p.Step
bare_step step = record { line = 0; name = bare_id step.name; action = bare_action step.action }

abbrev pub bare_round : p.Round → p.Round
bare_round round = record { line = 0; steps = map bare_step round.steps }

abbrev pub bare_plan : p.Plan → p.Plan
bare_plan plan = record { rounds = map bare_round plan.rounds }

abbrev pub bare_file : f.File → f.File
bare_file file = record { version = file.version; decls = map bare_decl file.decls; plan = bare_plan file.plan }

-- the files are the same but for line numbers
abbrev pub AreSame : f.File → f.File → Type 0
AreSame a b = bare_file a ≡ bare_file b
