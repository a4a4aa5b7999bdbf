-- w11: the steps of a plan. A step is named where another one names it.
use Rattle.std.specs.Prelude.{ℕ, ◌+◌, Bool, true, false, not, ◌&&◌, ◌||◌, nat_lt, List, [], ◌∷◌, ◌++◌, map, filter, Option, Some, None, if◌then◌else◌}
use Rattle.std.specs.Option.{option_map_or, is_some, is_none}
use Rattle.std.specs.List.{list_any, flat_map}
use Rattle.std.specs.Str.{bytes_eq}
use Rattle.dy_syntax.specs.Names.{Id}
use Rattle.dy_syntax.specs.Statements as statements
use Rattle.dy_syntax.specs.Recipes as r
use Rattle.dy_syntax.specs.Recipes.{RecipeText, Recipes, Numbered}
use Rattle.dy_syntax.specs.Plans.{Action, Start, Forge, Inject, OnStep, Step, Round}
use Rattle.dy_syntax.specs.Files.{Decl, File}
use Rattle.dy_syntax.specs.LookUps.{handler_named}
use Rattle.dy_syntax.specs.Parts.{Part, Wanted, Forging, Starting, Sending, Opening, OpeningOf, StepNames, StepNamed, Started, Together}
use Rattle.dy_syntax.specs.Rules.Lines.{lines_if}
use Rattle.dy_syntax.specs.Rules.Doubles.{same_word, lines_of_same_names}

-- a step, and the number of its round
pub record StepAt : Type 0 where
  pub round : ℕ
  pub step : Step

-- the first step of this name in a round
abbrev pub step_in : List Step → List ℕ → Option Step
step_in [] name = None
step_in (step ∷ steps) name = if bytes_eq step.name.word name then Some step else step_in steps name

abbrev pub step_or : ℕ → Option Step → Option StepAt → Option StepAt
step_or number (Some step) later = Some (record { round = number; step = step })
step_or number None later = later

-- the first step of this name, where the first of these rounds has this number
abbrev pub step_named : ℕ → List Round → List ℕ → Option StepAt
step_named number [] name = None
step_named number (round ∷ rounds) name =
    step_or number (step_in round.steps name) (step_named (number + 1) rounds name)

-- the step of this name is of a round before this one
abbrev pub is_earlier : ℕ → Option StepAt → Bool
is_earlier round found = option_map_or (λ at. nat_lt at.round round) found false

-- the handler is declared and has no `on` part
abbrev pub opens_session : List Decl → Id → Bool
opens_session decls handler = option_map_or (λ h. is_none h.on) (handler_named decls handler.word) false

-- the action is one that is wanted
abbrev pub is_wanted : List Decl → Wanted → Action → Bool
is_wanted decls Forging Forge = true
is_wanted decls Starting (Start principal handler args on msg) = true
is_wanted decls Sending (Start principal handler args on msg) = true
is_wanted decls Sending (Inject recipe) = true
is_wanted decls Opening (Start principal handler args on msg) = opens_session decls handler
is_wanted decls (OpeningOf owner) (Start principal handler args on msg) =
    opens_session decls handler && bytes_eq principal.word owner
is_wanted decls wanted action = false

-- A step names one that is not of an earlier round.
abbrev pub lines_of_no_earlier : ℕ → Option StepAt → Id → List ℕ
lines_of_no_earlier round found step = lines_if (not (is_earlier round found)) step.line

-- What is named is no step of the sort that is wanted. A sort is a forge step, a start step, one that sends, or one
-- that opens a session.
abbrev pub lines_of_unwanted : List Decl → Wanted → Option StepAt → Id → List ℕ
lines_of_unwanted decls wanted found step =
    option_map_or (λ at. lines_if (not (is_wanted decls wanted at.step.action)) step.line) found []

abbrev pub lines_of_step : File → ℕ → Wanted → Id → List ℕ
lines_of_step file round wanted step =
    let found = step_named 0 file.plan.rounds step.word in
    lines_of_no_earlier round found step ++ lines_of_unwanted file.decls wanted found step

-- `on` stands where the handler has none; the fault is at `on`
abbrev pub lines_of_on : statements.Handler → Option OnStep → List ℕ
lines_of_on handler None = []
lines_of_on handler (Some on) = lines_if (is_none handler.on) on.line

-- `msg` stands where the handler has no `recv`; the fault is at `msg`
abbrev pub lines_of_msg : statements.Handler → Option Numbered → List ℕ
lines_of_msg handler None = []
lines_of_msg handler (Some msg) = lines_if (is_none handler.recv) msg.line

-- the handler has `on` and the step has none, or the handler has `recv` and the step no `msg`. The fault is at the
-- handler's name
abbrev pub lines_of_lacking : statements.Handler → Id → Option OnStep → Option Numbered → List ℕ
lines_of_lacking declared handler on msg =
    lines_if (is_some declared.on && is_none on) handler.line
    ++ lines_if (is_some declared.recv && is_none msg) handler.line

abbrev pub lines_of_start : statements.Handler → Id → Option OnStep → Option Numbered → List ℕ
lines_of_start declared handler on msg =
    lines_of_on declared on ++ lines_of_msg declared msg ++ lines_of_lacking declared handler on msg

-- the sessions that an action names by `field`
abbrev mutual
  pub fields_in : RecipeText → List Id
  fields_in (r.Lit quote) = []
  fields_in (r.Tuple tag args) = fields_in_row args
  fields_in (r.Name line principal) = []
  fields_in (r.Msg message) = []
  fields_in (r.Cert cert) = []
  fields_in (r.Nonce line step) = []
  fields_in (r.Field line step version number) = step ∷ []
  fields_in (r.Pair line first second) = fields_in first ++ fields_in second
  fields_in (r.Pk line key) = fields_in key
  fields_in (r.Vk line key) = fields_in key
  fields_in (r.Penc line key message) = fields_in key ++ fields_in message
  fields_in (r.Aead line key message ad) = fields_in key ++ fields_in message ++ fields_in ad
  fields_in (r.Sign line key message) = fields_in key ++ fields_in message
  fields_in (r.Mac line key message) = fields_in key ++ fields_in message
  fields_in (r.Kdf line key context input) = fields_in key ++ fields_in input
  fields_in (r.Hash line message) = fields_in message
  fields_in (r.Fst line value) = fields_in value
  fields_in (r.Snd line value) = fields_in value
  fields_in (r.Pdec line value key) = fields_in value ++ fields_in key
  fields_in (r.Adec line value key) = fields_in value ++ fields_in key
  fields_in (r.Ad line value) = fields_in value
  fields_in (r.Body line value) = fields_in value

  pub fields_in_row : Recipes → List Id
  fields_in_row r.Nil = []
  fields_in_row (r.Cons first rest) = fields_in first ++ fields_in_row rest

-- the sessions that a step names, by `on` and by `field`
pub record Sessions : Type 0 where
  pub on : Option Id
  pub fields : List Id

abbrev pub action_on : Action → Option Id
action_on (Start principal handler args (Some on) msg) = Some on.step
action_on _ = None

abbrev pub action_fields : Action → List Id
action_fields (Inject recipe) = fields_in recipe
action_fields _ = []

abbrev pub sessions_of : Action → Sessions
sessions_of action = record { on = action_on action; fields = action_fields action }

-- the step names this session
abbrev pub names_session : Sessions → Id → Bool
names_session sessions id = option_map_or (same_word id) sessions.on false || list_any (same_word id) sessions.fields

-- The later step names by `field` the session that the earlier one names by `on`.
abbrev pub lines_of_later_field : Option Id → List Id → List ℕ
lines_of_later_field None fields = []
lines_of_later_field (Some on) fields = map (λ id. id.line) (filter (same_word on) fields)

-- The later step names by `on` a session that the earlier one names by `on` or `field`.
abbrev pub lines_of_later_on : Sessions → Option Id → List ℕ
lines_of_later_on earlier None = []
lines_of_later_on earlier (Some on) = lines_if (names_session earlier on) on.line

abbrev pub lines_of_clash : Sessions → Sessions → List ℕ
lines_of_clash earlier later = lines_of_later_field earlier.on later.fields ++ lines_of_later_on earlier later.on

-- Two steps of one round name the same session. The fault is at the later of the two names.
abbrev pub lines_of_same_session : List Sessions → List ℕ
lines_of_same_session [] = []
lines_of_same_session (earlier ∷ later) = flat_map (lines_of_clash earlier) later ++ lines_of_same_session later

abbrev pub w11 : File → Part → List ℕ
w11 file (StepNames ids) = lines_of_same_names ids
w11 file (StepNamed round wanted step) = lines_of_step file round wanted step
w11 file (Started handler args on msg) =
    option_map_or (λ declared. lines_of_start declared handler on msg) (handler_named file.decls handler.word) []
w11 file (Together steps) = lines_of_same_session (map (λ step. sessions_of step.action) steps)
w11 file _ = []
