-- What each statement keeps: the hypotheses from which the induction over interleavings goes.
use Rattle.std.specs.Prelude.{◌≡◌, ℕ, true, List, [], ◌∷◌, ◌++◌, map, length, Contains, Option, Some}
use Rattle.std.specs.List.{flat_map}
use Rattle.dy_label.specs.Words.{Choice}
use Rattle.dy_syntax.specs.Names.{Id, Quote, Nm, UseText, AtomText}
use Rattle.dy_syntax.specs.Labels.{LabelText}
use Rattle.dy_syntax.specs.Expressions.{Expr}
use Rattle.dy_syntax.specs.Statements as statements
use Rattle.dy_syntax.specs.Statements.{Pattern, OnPart, Act, Statement}
use Rattle.dy_syntax.specs.Files.{Decl, Handler, File}
use Rattle.dy_syntax.specs.Rules.{IsWellFormed}
use Rattle.dy_syntax.specs.Scopes as scopes
use Rattle.dy_syntax.specs.Scopes.{is_among, words_of, handler_names, on_pats, pattern_binds, act_binds}
use Rattle.dy_typing.specs.Names.{setting_of}
use Rattle.dy_typing.specs.Knowledge.{Knowledge}
use Rattle.dy_typing.specs.Demands.{demands_of}
use Rattle.dy_typing.specs.Conditions.{AreMet}
use Rattle.dy_typing.specs.Effects.{bound_first, start_of, after}
use Rattle.dy_typing.specs.Typing.{Reaches}
use Rattle.dy_entry.specs.Entries.{Entry}
use Rattle.dy_entry.specs.LookUps.{newest}
use Rattle.dy_eval.specs.declared.written.Written.{Written}
use Rattle.dy_eval.specs.declared.items.Item.{Item}
use Rattle.dy_eval.specs.declared.items.Item.TheVariants as items
use Rattle.dy_eval.specs.Doings.{Puts, Writes}
use Rattle.dy_eval.specs.Lines.{kind_in}
use Rattle.dy_eval.specs.Names.{Names, write}
use Rattle.dy_eval.specs.Past.{go_on}
use Rattle.dy_eval.specs.Effects.{effect_of}
use Rattle.dy_eval.specs.Runs.{nonce_due}
use Rattle.dy_traces.specs.Instances.{entry_for}
use Rattle.dy_sound.specs.Fields.{IsName}
use Rattle.dy_sound.specs.Valid.{IsValid, MayBeKnown}
use Rattle.dy_sound.specs.Names.{Agrees}
use Rattle.dy_sound.specs.Knowledge.{Holds}
use Rattle.dy_sound.specs.Good.{IsGoodCert, IsGoodState, IsGoodEvent, IsGood}

-- What is written in place of a handler's names are principals' names.
abbrev pub NamesArePrincipals : statements.Handler → Names → Type 0
NamesArePrincipals handler names =
    (written : Written) → Contains names.written written
    → is_among written.word (words_of (handler_names handler)) ≡ true → IsName written.bytes

-- what is bound in a handler after these statements, in order
abbrev pub bound_after : statements.Handler → List Statement → List Id
bound_after handler done =
    scopes.bound_first handler ++ flat_map pattern_binds (on_pats handler) ++ flat_map (λ s. act_binds s.act) done

-- An instance of a handler of a well-formed file stands in a good trace, where these are bound and written. X is the
-- trace before its Start.
pub record IsRunning (file : File) (T X : List Entry) (handler : statements.Handler) (bound : List Id) (names : Names)
    : Type 0 where
  pub well_formed : IsWellFormed file
  pub is_declared : Contains file.decls (Handler handler)
  pub good : IsGood file.decls T
  pub since : List Entry
  pub extends : T ≡ X ++ since
  pub values_are_valid : (written : Written) → Contains names.written written → IsValid file.decls T written.bytes
  pub words : map (λ w. w.word) names.written ≡ words_of bound
  pub names_are_principals : NamesArePrincipals handler names

-- The statement is the next of the handler, this is known before it, and its demands are met.
pub record IsAt (file : File) (T X : List Entry) (handler : statements.Handler) (done : List Statement)
    (statement : Statement) (names : Names) (k : Knowledge) : Type 0 where
  pub running : IsRunning file T X handler (bound_after handler done) names
  pub later : List Statement
  pub body : handler.body ≡ done ++ statement ∷ later
  pub reached : Reaches file.decls handler done k
  pub are_met : AreMet file.decls k (demands_of (setting_of file.decls handler) statement.act)

-- What is known before holds, for a choice that agrees with what is written after.
pub record Knows (decls : List Decl) (T X : List Entry) (handler : statements.Handler) (choice : Choice)
    (before then : Names) (k : Knowledge) : Type 0 where
  pub agrees : Agrees (words_of (handler_names handler)) (newest X before.principal before.session) then choice
  pub holds : Holds decls T choice before k

-- What is written is valid, and this is known then.
pub record HoldsWritten (decls : List Decl) (T : List Entry) (choice : Choice) (names : Names)
    (more : List Written) (k : Knowledge) : Type 0 where
  pub values_are_valid : (written : Written) → Contains more written → IsValid decls T written.bytes
  pub holds : Holds decls T choice (write names more) k

-- What a trace asks of an item of an instance of this principal and session, put after a shorter trace.
abbrev pub IsGoodItem : List Decl → List Entry → List Entry → List ℕ → ℕ → Item → Type 0
IsGoodItem decls T before principal session (items.Fresh label usage) = Unit {0}
IsGoodItem decls T before principal session (items.Message value) = MayBeKnown decls T value
IsGoodItem decls T before principal session (items.State version tag fields) =
    IsGoodState decls T principal session version tag fields
IsGoodItem decls T before principal session (items.Event name args) = IsGoodEvent decls T before name args
IsGoodItem decls T before principal session (items.Cert usage key) = IsGoodCert decls T principal usage key

-- The item's entry may follow a good trace, and this is known in the longer trace, where its nonce is written too.
pub record HoldsPut (decls : List Decl) (T : List Entry) (choice : Choice) (names : Names) (instance : ℕ) (item : Item)
    (binds : Option (List ℕ)) (k : Knowledge) : Type 0 where
  pub item_is_good : IsGoodItem decls T T names.principal names.session item
  pub holds :
      Holds decls (T ++ entry_for instance names.principal names.session item ∷ []) choice
      (write names (nonce_due binds (length T))) k

-- Where this statement writes, what is known after it holds.
abbrev pub WritesSoundly : Act → Type 0
WritesSoundly act =
    (file : File) (T X : List Entry) (handler : statements.Handler) (done : List Statement) (line : ℕ) (names : Names)
    (choice : Choice) (k : Knowledge) (more : List Written)
    → IsAt file T X handler done (record { line = line; act = act }) names k
    → effect_of X names (kind_in file.decls act) act ≡ Writes more
    → Knows file.decls T X handler choice names (write names more) k
    → HoldsWritten file.decls T choice names more (after (setting_of file.decls handler) k act)

-- Where this statement puts an item, what is known after it holds in the trace with the item's entry.
abbrev pub PutsSoundly : Act → Type 0
PutsSoundly act =
    (file : File) (T X : List Entry) (handler : statements.Handler) (done : List Statement) (line : ℕ) (names : Names)
    (choice : Choice) (k : Knowledge) (instance : ℕ) (item : Item) (binds : Option (List ℕ))
    → IsAt file T X handler done (record { line = line; act = act }) names k
    → effect_of X names (kind_in file.decls act) act ≡ Puts item binds
    → Knows file.decls T X handler choice names (write names (nonce_due binds (length T))) k
    → HoldsPut file.decls T choice names instance item binds (after (setting_of file.decls handler) k act)

-- Where the `on` part writes, what is known at the start holds.
abbrev pub GoesOnSoundly : Type 0
GoesOnSoundly =
    (file : File) (T X : List Entry) (handler : statements.Handler) (on : OnPart) (names : Names) (choice : Choice)
    (more : List Written)
    → IsRunning file T X handler (scopes.bound_first handler) names
    → handler.on ≡ Some on
    → go_on X names on ≡ Writes more
    → Knows file.decls T X handler choice names (write names more) (bound_first handler)
    → HoldsWritten file.decls T choice names more (start_of file.decls handler)

-- What each statement keeps, one kind of statement after another, and the `on` part.
pub record StatementsAreSound : Type 0 where
  pub of_let : (name : Id) (value : Expr) → WritesSoundly (statements.Let name value)
  pub of_find : (usage : Id) (owner : Nm) (name : Id) → WritesSoundly (statements.Find usage owner name)
  pub of_use : (state : Id) (pats : List Pattern) → WritesSoundly (statements.Recall state pats)
  pub of_split : (value : Id) (tag : Quote) (pats : List Pattern) → WritesSoundly (statements.Split value tag pats)
  pub of_open : (value key : Id) (usage : UseText) (tag : Quote) (pats : List Pattern) (ad : Expr)
      → WritesSoundly (statements.Opened value key usage tag pats ad)
  pub of_popen : (value key : Id) (usage : UseText) (tag : Quote) (pats : List Pattern)
      → WritesSoundly (statements.Popened value key usage tag pats)
  pub of_verify : (value key : Id) (usage : UseText) (tag : Quote) (pats : List Pattern)
      → WritesSoundly (statements.Verify value key usage tag pats)
  pub of_check : (value key : Id) (usage : UseText) (tag : Quote) (args : List Nm)
      → WritesSoundly (statements.Check value key usage tag args)
  pub of_same : (left right : Nm) → WritesSoundly (statements.Same left right)
  pub of_new : (name : Id) (usage : UseText) (label : LabelText) → PutsSoundly (statements.New name usage label)
  pub of_event : (atom : AtomText) → PutsSoundly (statements.Event atom)
  pub of_send : (value : Expr) → PutsSoundly (statements.Send value)
  pub of_store : (state : Id) (fields : List Expr) → PutsSoundly (statements.Store state fields)
  pub of_certify : (key usage : Id) → PutsSoundly (statements.Certify key usage)
  pub of_on : GoesOnSoundly
