-- `let` keeps what is known: the value of an expression whose demands are met is valid, and what is known of it holds.
use Rattle.std.proofs.Common.{◌≡◌, List, [], ◌++◌, Contains, inl, inr, sym, subst}
use Rattle.std.proofs.lemmas.List.Elements.{Contains-append_left, Contains-append_right}
use Rattle.dy_term.specs.Terms.{Term}
use Rattle.dy_syntax.specs.Names.{Id}
use Rattle.dy_syntax.specs.Expressions.{Expr}
use Rattle.dy_syntax.specs.Statements as statements
use Rattle.dy_syntax.specs.Statements.{Statement}
use Rattle.dy_syntax.specs.Files.{File}
use Rattle.dy_typing.specs.Names.{Setting, setting_of}
use Rattle.dy_typing.specs.Knowledge.{Knowledge, bind}
use Rattle.dy_typing.specs.Expressions.{known_of_expr}
use Rattle.dy_typing.specs.Demands.{operations_of, operation_demands, sent_demands, other_demands}
use Rattle.dy_typing.specs.Conditions.{AreMet}
use Rattle.dy_entry.specs.Entries.{Entry}
use Rattle.dy_entry.specs.LookUps.{newest}
use Rattle.dy_eval.specs.declared.written.Written.{Written}
use Rattle.dy_eval.specs.Names.{Names, write}
use Rattle.dy_eval.specs.Values.{value, if_small}
use Rattle.dy_sound.specs.Valid.{IsValid}
use Rattle.dy_sound.specs.Knowledge.{KnownHolds, Holds}
use Rattle.dy_sound.specs.LawsBelow.{LawsBelow}
use Rattle.dy_sound.specs.StatementsAreSound.{IsAt, WritesSoundly}
use Rattle.dy_sound.proofs.Lists.{Contains-none, Contains-cases}
use Rattle.dy_sound.proofs.Bound.{bound_holds}
use Rattle.dy_sound.proofs.MatchesAt.{handler_matches}
use Rattle.dy_sound.proofs.ItemsPut.{writes_is, if_small_is}
use Rattle.dy_sound.proofs.KnownExpressions.{known_expr_holds}
use Rattle.dy_sound.proofs.SealedScopes.{sealed_are_of_cases}
use Rattle.dy_sound.proofs.TablesFitting.{tables_fit}

module _ (file : File) (T X : List Entry) (handler : statements.Handler) (done : List Statement) (statement : Statement) (names : Names) (k : Knowledge)
    (at : IsAt file T X handler done statement names k) where
  abbrev setting : Setting
  setting = setting_of file.decls handler

  -- The demands of the statement's operations are met.
  pub operations_met : AreMet file.decls k (operation_demands setting (operations_of statement.act))
  operations_met demand has =
      let sent = sent_demands statement.act in
      let operations = operation_demands setting (operations_of statement.act) in
      at.are_met demand (Contains-append_left (sent ++ operations) (other_demands setting statement.act) demand (Contains-append_right sent operations demand has))

pub let_is_sound : LawsBelow → (name : Id) (value : Expr) → WritesSoundly (statements.Let name value)
let_is_sound below name expr file T X handler done line names choice k more at effect knows =
    let decls = file.decls in
    let statement : Statement = record { line = line; act = statements.Let name expr } in
    let wrote = writes_is name.word (if_small (value names expr)) more effect in
    let same : value names expr ≡ wrote.0 = if_small_is (value names expr) wrote.0 wrote.1 in
    let at_start = newest X names.principal names.session in
    let matches = handler_matches handler at_start names more choice at.running.names_are_principals knows.agrees in
    let hold = known_expr_holds below T (setting_of decls handler) choice at_start names k matches knows.holds (tables_fit file at.running.well_formed)
    at.running.values_are_valid expr (sealed_are_of_cases file T X handler done statement names k at) (operations_met file T X handler done statement names k at) in
    let known = known_of_expr decls k expr in
    let written : Written = record { word = name.word; bytes = wrote.0 } in
    record {
      values_are_valid = λ other has. elim (Contains-cases written [] other (subst (λ (ws : List Written). Contains ws other) (sym wrote.2) has)) [
        | inl is ↦ subst (λ (w : Written). IsValid decls T w.bytes) is (subst (IsValid decls T) same hold.is_valid)
        | inr none ↦ absurd (Contains-none other none)
      ];
      holds = subst (λ (ws : List Written). Holds decls T choice (write names ws) (bind k name.word known)) wrote.2
          (bound_holds decls T choice names k knows.holds written known (subst (λ (v : Term). KnownHolds decls T choice v known) same hold.known_holds));
    }
