-- Good traces: what holds of each entry and of each unfinished instance.
use Rattle.std.specs.Prelude.{◌≡◌, ℕ, List, [], ◌∷◌, Contains, take, Some}
use Rattle.std.specs.List.{slice_get}
use Rattle.dy_term.specs.Terms.{Term}
use Rattle.dy_label.specs.Labels.{Label, One, Principal, Version}
use Rattle.dy_label.specs.declared.usages.Kind as kind
use Rattle.dy_label.specs.declared.usages.Kind.TheVariants as kinds
use Rattle.dy_label.specs.declared.usages.Usage.{Usage}
use Rattle.dy_syntax.specs.Declarations.{Partner, StateDecl}
use Rattle.dy_syntax.specs.Statements.{Handler}
use Rattle.dy_syntax.specs.Files.{Decl}
use Rattle.dy_syntax.specs.LookUps.{state_named}
use Rattle.dy_entry.specs.Entries.{Entry, Message, State, Event, Cert, Inject}
use Rattle.dy_entry.specs.ValueLabels.{label_of}
use Rattle.dy_eval.specs.Lines.{kind_of_usage}
use Rattle.dy_eval.specs.Runs.{Left}
use Rattle.dy_sound.specs.Usages.{usage_with}
use Rattle.dy_sound.specs.Flows.{Flows}
use Rattle.dy_sound.specs.Words.{state_words}
use Rattle.dy_sound.specs.Events.{HasPartner, Follows}
use Rattle.dy_sound.specs.Fields.{AllMeet, IsPkFor, IsVkFor}
use Rattle.dy_sound.specs.Valid.{IsValid, MayBeKnown}
use Rattle.dy_sound.specs.Instances.{IsUnfinished, IsGoodSoFar}

-- a public key where the usage is of kind pke, a verification key where it is of kind sig; no other is certified
abbrev pub IsKeyOfKind : kind.Kind → List Decl → List Entry → Term → Label → Usage → Type 0
IsKeyOfKind kinds.Pke = IsPkFor
IsKeyOfKind kinds.Sig = IsVkFor
IsKeyOfKind other = λ decls T key label usage. ⊥

-- The key may be in the attacker's hands, and belongs to a key of its owner with this usage.
pub record IsGoodCert (decls : List Decl) (T : List Entry) (owner usage : List ℕ) (key : Term) : Type 0 where
  pub may_be_known : MayBeKnown decls T key
  pub belongs : IsKeyOfKind (kind_of_usage decls usage) decls T key (One (Principal owner))
      (usage_with decls usage (owner ∷ []))

-- The state is declared. Its fields are valid and meet their types, and who has this version may know them. Each
-- event that the state knows has happened, or its label is open.
pub record IsGoodState (decls : List Decl) (T : List Entry) (principal : List ℕ) (session version : ℕ)
    (tag : List ℕ) (fields : List Term) : Type 0 where
  pub state : StateDecl
  pub is_declared : state_named decls tag ≡ Some state
  pub are_valid : (field : Term) → Contains fields field → IsValid decls T field
  pub fields_meet : AllMeet decls T (state_words state principal session version fields) state.fields fields
  pub readers_may_know : (field : Term) → Contains fields field
      → Flows T (One (Version principal session version)) (label_of T field)
  pub events_stand : (partner : Partner) → Contains state.knows partner
      → HasPartner T (state_words state principal session version fields) partner

-- The arguments are valid, and the event follows its partners, which stand in the trace before it.
pub record IsGoodEvent (decls : List Decl) (T before : List Entry) (name : List ℕ) (args : List Term) : Type 0 where
  pub are_valid : (arg : Term) → Contains args arg → IsValid decls T arg
  pub follows : Follows decls before name args

-- The invariant of the proof that typed files are secure.
pub record IsGood (decls : List Decl) (T : List Entry) : Type 0 where
  pub messages : (index instance : ℕ) (value : Term)
      → slice_get T index ≡ Some (Message instance value) → MayBeKnown decls T value
  pub injections : (index step : ℕ) (value : Term)
      → slice_get T index ≡ Some (Inject step value) → MayBeKnown decls T value
  pub certs : (index instance : ℕ) (owner usage : List ℕ) (key : Term)
      → slice_get T index ≡ Some (Cert instance owner usage key) → IsGoodCert decls T owner usage key
  pub states : (index instance : ℕ) (principal : List ℕ) (session version : ℕ) (tag : List ℕ) (fields : List Term)
      → slice_get T index ≡ Some (State instance principal session version tag fields)
      → IsGoodState decls T principal session version tag fields
  pub events : (index instance : ℕ) (principal name : List ℕ) (args : List Term)
      → slice_get T index ≡ Some (Event instance principal name args)
      → IsGoodEvent decls T (take index T) name args
  pub instances : (instance : ℕ) (handler : Handler) (left : Left)
      → IsUnfinished decls T instance handler left → IsGoodSoFar decls T (take instance T) handler left
