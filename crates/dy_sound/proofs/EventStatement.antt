-- After `event`: the event is good, and is known to have happened.
use Rattle.std.proofs.Common.{◌≡◌, ℕ, Bool, true, false, not, List, [], ◌∷◌, ◌++◌, map, length, Contains, Option, Some, None, inl, inr, refl, sym, ap, subst, ◌∙◌, arith}
use Rattle.std.specs.Prelude.{◌&&◌}
use Rattle.std.specs.Option.{option_map_or}
use Rattle.dy_term.specs.Terms.{Term}
use Rattle.dy_label.specs.Labels.{Nobody}
use Rattle.dy_label.specs.Words.{Choice}
use Rattle.dy_syntax.specs.Names.{Nm, AtomText, line_of}
use Rattle.dy_syntax.specs.Declarations.{Param, EventDecl}
use Rattle.dy_syntax.specs.Statements as statements
use Rattle.dy_syntax.specs.Statements.{Statement}
use Rattle.dy_syntax.specs.Files.{File}
use Rattle.dy_syntax.specs.LookUps.{event_named}
use Rattle.dy_syntax.specs.Scopes.{Scope, is_name, words_of, handler_names, handler_scope, event_scope}
use Rattle.dy_syntax.specs.Parts.{Variable, Atom, parts_of_atom}
use Rattle.dy_syntax.specs.Rules.{IsIn}
use Rattle.dy_syntax.specs.Rules.Lines.{lines_if, lines_of_pairs}
use Rattle.dy_syntax.specs.Rules.Lengths.{lines_of_lengths}
use Rattle.dy_syntax.specs.Rules.Names.{lines_of_arg}
use Rattle.dy_typing.specs.Names.{Setting, setting_of, name_number, event_stands}
use Rattle.dy_typing.specs.Knowledge.{Knowledge, add_event}
use Rattle.dy_typing.specs.Demands.{after_demands}
use Rattle.dy_typing.specs.Conditions.{AreMet}
use Rattle.dy_typing.specs.Effects.{Guarded}
use Rattle.dy_entry.specs.Entries as entries
use Rattle.dy_entry.specs.Entries.{Entry}
use Rattle.dy_entry.specs.LookUps.{newest}
use Rattle.dy_eval.specs.declared.items.Item.{Item}
use Rattle.dy_eval.specs.declared.items.Item.TheVariants as items
use Rattle.dy_eval.specs.Names.{Names, write, bytes_for, principal_for}
use Rattle.dy_eval.specs.Runs.{nonce_due}
use Rattle.dy_sound.specs.LawsBelow.{LawsBelow}
use Rattle.dy_sound.specs.Words.{event_words}
use Rattle.dy_sound.specs.Events.{HasHappened, Follows}
use Rattle.dy_sound.specs.Valid.{IsValid}
use Rattle.dy_sound.specs.Knowledge.{Holds}
use Rattle.dy_sound.specs.Matches.{HandlerMatches, IsPrincipalOf}
use Rattle.dy_sound.specs.Givens.{event_slots, IsGiven, AreGiven}
use Rattle.dy_sound.specs.Good.{IsGoodEvent}
use Rattle.dy_sound.specs.StatementsAreSound.{bound_after, IsAt, PutsSoundly, HoldsPut}
use Rattle.dy_sound.proofs.Lists.{Contains-none, Contains-first, Contains-later, Contains-cases, in_last}
use Rattle.dy_sound.proofs.Elements.{map-from}
use Rattle.dy_sound.proofs.WrittenWords.{name_stands}
use Rattle.dy_sound.proofs.DeclarationWords.{event_matches}
use Rattle.dy_sound.proofs.DeclaredScopes.{event_is_declared, event_words_distinct, event_partner_in_scope, both_empty}
use Rattle.dy_sound.proofs.KnownNames.{name_is_valid}
use Rattle.dy_sound.proofs.GuardedHolds.{GuardedHolds, added_hold}
use Rattle.dy_sound.proofs.CasesAt.{as_long_where_no_line, rule_of_found}
use Rattle.dy_sound.proofs.MatchesAt.{handler_matches}
use Rattle.dy_sound.proofs.StatementParts.{IsIn-map, IsIn-from}
use Rattle.dy_sound.proofs.NamesAt.{part_keeps, variable_is_bound, is_named_at}
use Rattle.dy_sound.proofs.PartnersHold.{partners_hold}
use Rattle.dy_sound.proofs.ItemsPut.{puts_all_is, nothing_due, holds_still}

-- Where no line is named, what must be a name is one.
pub named_if : (is b : Bool) (line : ℕ) → lines_if (is && not b) line ≡ [] → is ≡ true → b ≡ true
named_if true true line none is = refl
named_if true false line none is = absurd cc
named_if false b line none is = absurd cc

module _ (setting : Setting) (choice : Choice) (names : Names) (scope : Scope) where
  -- What is given for the parameters of an event.
  args_given : (params : List Param) (args : List Nm) → length params ≡ length args → lines_of_pairs (lines_of_arg scope) params args ≡ []
      → ((arg : Nm) → Contains args arg → is_name scope arg ≡ true → IsPrincipalOf choice (name_number setting arg) (principal_for names arg))
      → AreGiven setting choice names (event_slots params) (map Some args) (map (bytes_for names) args)
  args_given [] [] count none stands = tt
  args_given [] (arg ∷ args) count none stands = absurd cc
  args_given (param ∷ params) [] count none stands = absurd cc
  args_given (param ∷ params) (arg ∷ args) count none stands =
      let parts = both_empty (lines_of_arg scope param arg) (lines_of_pairs (lines_of_arg scope) params args) none in
      let first : IsGiven setting choice names (record { word = param.name.word; is_name = param.is_name }) (Some arg) (bytes_for names arg) = record {
        value_is = λ given is. let same : arg ≡ given = cc in ap (bytes_for names) same;
        name_is = λ takes_name. (arg, refl, stands arg (Contains-first arg args) (named_if param.is_name (is_name scope arg) (line_of arg) parts.0 takes_name));
      } in
      let rest : length params ≡ length args = omega (arith, count) in
      (first, args_given params args rest parts.1 (λ other has. stands other (Contains-later arg args other has)))

module _ (file : File) (T X : List Entry) (handler : statements.Handler) (done : List Statement) (line : ℕ) (atom : AtomText) (names : Names) (k : Knowledge)
    (at : IsAt file T X handler done (record { line = line; act = statements.Event atom }) names k) where
  abbrev scope_here : Scope
  scope_here = handler_scope handler (bound_after handler done)

  abbrev statement : Statement
  statement = record { line = line; act = statements.Event atom }

  arg_part : (arg : Nm) → Contains atom.args arg → IsIn (Variable arg) (parts_of_atom atom)
  unfolding parts_of_atom
  arg_part arg has = inr (IsIn-map Variable arg atom.args (IsIn-from arg atom.args has))

  atom_part : IsIn (Atom atom) (parts_of_atom atom)
  unfolding parts_of_atom
  atom_part = inl refl

  module _ (below : LawsBelow) (choice : Choice) (h : Holds file.decls T choice names k)
      (matches : HandlerMatches (words_of (handler_names handler)) (newest X names.principal names.session) names choice) where
    abbrev setting : Setting
    setting = setting_of file.decls handler

    arg_stands : (arg : Nm) → Contains atom.args arg → is_name scope_here arg ≡ true → IsPrincipalOf choice (name_number setting arg) (principal_for names arg)
    arg_stands arg has is =
        name_stands file.decls (words_of (handler_names handler)) (newest X names.principal names.session) names choice matches arg
        (is_named_at file T X handler done statement names k at arg is (variable_is_bound file T X handler done statement names k at arg (inr (arg_part arg has))))

    given_for : (event : EventDecl) → event_named file.decls atom.event.word ≡ Some event
        → AreGiven setting choice names (event_slots event.params) (map Some atom.args) (map (bytes_for names) atom.args)
    given_for event is =
        let keeps = part_keeps file T X handler done statement names k at (Atom atom) (inr atom_part) in
        let count : lines_of_lengths event.params atom.args atom.event.line ≡ [] =
        rule_of_found (λ (declared : EventDecl). lines_of_lengths declared.params atom.args atom.event.line) (event_named file.decls atom.event.word) event is keeps.rule_3 in
        let none : lines_of_pairs (lines_of_arg scope_here) event.params atom.args ≡ [] =
        rule_of_found (λ (declared : EventDecl). lines_of_pairs (lines_of_arg scope_here) declared.params atom.args) (event_named file.decls atom.event.word) event is keeps.rule_6 in
        args_given setting choice names scope_here event.params atom.args (as_long_where_no_line event.params atom.args atom.event.line count) none arg_stands

    partner_demands_met : (event : EventDecl) → event_named file.decls atom.event.word ≡ Some event → AreMet file.decls k (after_demands setting atom.args event)
    partner_demands_met event is =
        subst (AreMet file.decls k) (ap (λ (found : Option EventDecl). option_map_or (after_demands setting atom.args) found []) is) at.are_met

    follows : Follows file.decls T atom.event.word (map (bytes_for names) atom.args)
    follows event is partner has =
        let declared = event_is_declared file.decls atom.event.word event is in
        let read = event_partner_in_scope file at.running.well_formed event declared partner has in
        partners_hold below setting T choice names k h (event_scope event) (event_stands event atom.args) None (event_words event (map (bytes_for names) atom.args))
        (event_matches setting choice names event atom.args (map (bytes_for names) atom.args) (event_words_distinct file at.running.well_formed event declared) (given_for event is))
        event.after (partner_demands_met event is) partner has read.0 read.1

    args_valid : (arg : Term) → Contains (map (bytes_for names) atom.args) arg → IsValid file.decls T arg
    args_valid arg has =
        let found = map-from (bytes_for names) atom.args arg has in
        subst (IsValid file.decls T) found.2 (name_is_valid file.decls T names at.running.values_are_valid found.0)

    event_is_good : IsGoodEvent file.decls T T atom.event.word (map (bytes_for names) atom.args)
    event_is_good = record { are_valid = args_valid; follows = follows }

-- The event that is put is good, and what is known then holds.
pub event_is_sound : LawsBelow → (atom : AtomText) → PutsSoundly (statements.Event atom)
event_is_sound below atom file T X handler done line names choice k instance item binds at effect knows =
    let decls = file.decls in
    let args = map (bytes_for names) atom.args in
    let put = puts_all_is (items.Event atom.event.word) args item binds effect in
    let matches = handler_matches handler (newest X names.principal names.session) names (nonce_due binds (length T)) choice at.running.names_are_principals knows.agrees in
    let good = event_is_good file T X handler done line atom names k at below choice knows.holds matches in
    let e = entries.Event instance names.principal atom.event.word args in
    let then = write names (nonce_due binds (length T)) in
    let still = holds_still decls T names at.running.values_are_valid below choice k e binds put.1 knows.holds in
    let guarded : Guarded = record { event = atom.event.word; args = Some atom.args; guard = Nobody } in
    let happened : GuardedHolds (T ++ e ∷ []) choice then guarded = λ given is.
    let same : atom.args ≡ given = cc in
    inl (subst (λ (names_given : List Nm). HasHappened (T ++ e ∷ []) atom.event.word (map (bytes_for then) names_given)) same
    (record { index = length T; instance = instance; principal = names.principal; stands = in_last T e ∙ ap (λ (n : Names). Some (entries.Event instance names.principal atom.event.word (map (bytes_for n) atom.args))) (sym (nothing_due names binds (length T) put.1)) })) in
    let known = added_hold decls (T ++ e ∷ []) choice then k (guarded ∷ []) still
    (λ other has. elim (Contains-cases guarded [] other has) [
      | inl same ↦ subst (GuardedHolds (T ++ e ∷ []) choice then) same happened
      | inr none ↦ absurd (Contains-none other none)
    ]) in
    subst (λ (i : Item). HoldsPut decls T choice names instance i binds (add_event k atom.event.word (Some atom.args) Nobody)) put.0
    (record { item_is_good = good; holds = known })
