-- `send` keeps what is known, and all may know what is sent.
use Rattle.std.proofs.Common.{◌≡◌, [], ◌∷◌, ◌++◌, length, subst}
use Rattle.std.proofs.lemmas.List.Elements.{Contains-append_left}
use Rattle.dy_syntax.specs.Expressions.{Expr}
use Rattle.dy_syntax.specs.Statements as statements
use Rattle.dy_syntax.specs.Statements.{Statement}
use Rattle.dy_typing.specs.Names.{setting_of}
use Rattle.dy_typing.specs.Expressions.{known_of_expr}
use Rattle.dy_typing.specs.Demands.{Sent, operations_of, operation_demands, other_demands}
use Rattle.dy_entry.specs.LookUps.{newest}
use Rattle.dy_eval.specs.declared.items.Item.TheVariants as items
use Rattle.dy_eval.specs.Runs.{nonce_due}
use Rattle.dy_eval.specs.Values.{value, if_small}
use Rattle.dy_traces.specs.Instances.{entry_for}
use Rattle.dy_sound.specs.Valid.{MayBeKnown}
use Rattle.dy_sound.specs.LawsBelow.{LawsBelow}
use Rattle.dy_sound.specs.StatementsAreSound.{PutsSoundly, IsGoodItem}
use Rattle.dy_sound.proofs.Lists.{Contains-first}
use Rattle.dy_sound.proofs.DerivedValues.{shown_by_flow}
use Rattle.dy_sound.proofs.MatchesAt.{handler_matches}
use Rattle.dy_sound.proofs.ItemsPut.{puts_is, if_small_is, holds_still}
use Rattle.dy_sound.proofs.SealedTuples.{shown_if_public}
use Rattle.dy_sound.proofs.KnownExpressions.{known_expr_holds}
use Rattle.dy_sound.proofs.SealedScopes.{sealed_are_of_cases}
use Rattle.dy_sound.proofs.TablesFitting.{tables_fit}
use Rattle.dy_sound.proofs.LetStatement.{operations_met}

pub send_is_sound : LawsBelow → (value : Expr) → PutsSoundly (statements.Send value)
send_is_sound below expr file T X handler done line names choice k instance item binds at effect knows =
    let decls = file.decls in
    let setting = setting_of decls handler in
    let statement : Statement = record { line = line; act = statements.Send expr } in
    let put = puts_is items.Message (if_small (value names expr)) item binds effect in
    let same : value names expr ≡ put.value = if_small_is (value names expr) put.value put.value_is in
    let at_start = newest X names.principal names.session in
    let matches = handler_matches handler at_start names (nonce_due binds (length T)) choice at.running.names_are_principals knows.agrees in
    let hold = known_expr_holds below T setting choice at_start names k matches knows.holds (tables_fit file at.running.well_formed)
    at.running.values_are_valid expr (sealed_are_of_cases file T X handler done statement names k at) (operations_met file T X handler done statement names k at) in
    let operations = operation_demands setting (operations_of statement.act) in
    let public = at.are_met (Sent expr) (Contains-append_left (Sent expr ∷ [] ++ operations) (other_demands setting statement.act) (Sent expr)
    (Contains-append_left (Sent expr ∷ []) operations (Sent expr) (Contains-first (Sent expr) []))) in
    let known : MayBeKnown decls T (value names expr) = record {
      valid = hold.is_valid;
      shown = shown_by_flow below decls T hold.known_holds.is_open_by_hi (shown_if_public T choice (known_of_expr decls k expr).hi public);
    } in
    record {
      item_is_good = subst (IsGoodItem decls T T names.principal names.session) put.item_is (subst (MayBeKnown decls T) same known);
      holds = holds_still decls T names at.running.values_are_valid below choice k (entry_for instance names.principal names.session item) binds put.binds_none knows.holds;
    }
