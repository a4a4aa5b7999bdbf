-- After the `on` part what is known holds.
use Rattle.std.proofs.Common.{◌≡◌, ℕ, ◌≤◌, List, [], ◌∷◌, ◌++◌, length, Contains, Option, Some, inl, inr, refl, sym, ap, subst, arith}
use Rattle.std.specs.List.{flat_map}
use Rattle.std.specs.Option.{option_map_or, option_to_list}
use Rattle.std.proofs.lemmas.List.Elements.{Contains-append_left, Contains-append_right}
use Rattle.dy_label.specs.Words.{Prior}
use Rattle.dy_syntax.specs.Names.{line_of}
use Rattle.dy_syntax.specs.Declarations.{StateDecl}
use Rattle.dy_syntax.specs.Statements as statements
use Rattle.dy_syntax.specs.Statements.{Pattern, Named, Equal, OnPart, Statement}
use Rattle.dy_syntax.specs.Files.{File}
use Rattle.dy_syntax.specs.LookUps.{state_named}
use Rattle.dy_syntax.specs.Scopes as scopes
use Rattle.dy_syntax.specs.Scopes.{Scope, is_among, is_bound, words_of, handler_names, handler_scope, on_pats, pattern_binds, pattern_names, act_binds, act_pats, variables}
use Rattle.dy_syntax.specs.Parts.{Part, Variable, StateMatched, parts_of_pattern}
use Rattle.dy_syntax.specs.Places.{Place, on_places}
use Rattle.dy_syntax.specs.Rules.{IsIn}
use Rattle.dy_syntax.specs.Rules.Lines.{lines_of_pairs}
use Rattle.dy_syntax.specs.Rules.Lengths.{lines_of_lengths}
use Rattle.dy_syntax.specs.Rules.Names.{lines_of_field_pattern}
use Rattle.dy_typing.specs.Names.{setting_of}
use Rattle.dy_typing.specs.Effects.{bound_first, open_state, match_state}
use Rattle.dy_entry.specs.Entries.{Entry}
use Rattle.dy_entry.specs.LookUps.{newest}
use Rattle.dy_eval.specs.declared.written.Written.{Written}
use Rattle.dy_eval.specs.Names.{Names, write}
use Rattle.dy_eval.specs.Patterns.{written_by}
use Rattle.dy_sound.specs.Good.{IsGoodState}
use Rattle.dy_sound.specs.StatementsAreSound.{IsRunning, Knows, HoldsWritten, GoesOnSoundly}
use Rattle.dy_sound.proofs.Lists.{Contains-first}
use Rattle.dy_sound.proofs.Members.{Contains-flat_map}
use Rattle.dy_sound.proofs.Tuples.{SameAreEqual}
use Rattle.dy_sound.proofs.DeclaredScopes.{state_is_declared}
use Rattle.dy_sound.proofs.CasesAt.{as_long_where_no_line, rule_of_found}
use Rattle.dy_sound.proofs.MatchesAt.{agrees_before}
use Rattle.dy_sound.proofs.NamesApart.{how_many, count_append, at_most_one, plain_binds, act_plain}
use Rattle.dy_sound.proofs.NamesAt.{passes_where_no_line}
use Rattle.dy_sound.proofs.NoFaults.{HasNoFault, no_fault, variables_place}
use Rattle.dy_sound.proofs.PatternsAt.{AreMatchedIn, among_of_member}
use Rattle.dy_sound.proofs.RecallStatement.{good_state_at}
use Rattle.dy_sound.proofs.StatementParts.{IsIn-map, IsIn-from, IsIn-flat_map, on_part_in_handler, in_file}
use Rattle.dy_sound.proofs.StatesFound.{StateFound, state_gone_on}
use Rattle.dy_sound.proofs.StatesOpened.{open_state_holds}
use Rattle.dy_sound.proofs.StoreStatement.{version_of, session_of}

module _ (file : File) (T X : List Entry) (handler : statements.Handler) (on : OnPart) (names : Names)
    (running : IsRunning file T X handler (scopes.bound_first handler) names) (on_is : handler.on ≡ Some on) where
  abbrev scope_here : Scope
  scope_here = handler_scope handler (scopes.bound_first handler)

  abbrev parts_here : List Part
  parts_here = StateMatched on.state on.pats ∷ flat_map parts_of_pattern on.pats

  pats_are : on_pats handler ≡ on.pats
  pats_are = ap (λ (found : Option OnPart). option_map_or (λ one. one.pats) found []) on_is

  -- The parts of the `on` part keep each rule.
  on_keeps : (part : Part) → IsIn part parts_here → HasNoFault file (record { scope = scope_here; part = part })
  on_keeps part h =
      let place : Place = record { scope = scope_here; part = part } in
      let there : IsIn place (on_places scope_here handler.on) =
      subst (λ (found : Option OnPart). IsIn place (on_places scope_here found)) (sym on_is) (IsIn-map (λ (p : Part). let one : Place = record { scope = scope_here; part = p } in one) part parts_here h) in
      no_fault file running.well_formed place (in_file file handler running.is_declared place (on_part_in_handler handler part there))

  once : (word : List ℕ) → how_many word (scopes.bound_first handler ++ flat_map pattern_binds on.pats) ≤ 1
  once word =
      let most = at_most_one word (variables handler) (no_fault file running.well_formed _ (variables_place file handler running.is_declared)).rule_5 in
      let first = scopes.bound_first handler in
      let body = flat_map (λ (s : Statement). act_binds s.act) handler.body in
      let own = flat_map pattern_binds (on_pats handler) in
      let a1 = count_append word (own ++ first) body in
      let a2 = count_append word own first in
      let a3 = count_append word first (flat_map pattern_binds on.pats) in
      let same : how_many word own ≡ how_many word (flat_map pattern_binds on.pats) = ap (λ (pats : List Pattern). how_many word (flat_map pattern_binds pats)) pats_are in
      omega (arith, most, a1, a2, a3, same)

  patterns_matched : AreMatchedIn handler (scopes.bound_first handler) on.pats
  patterns_matched = record {
    bound_once = once;
    plain_are_plain = λ id has.
        let all = flat_map (λ (s : Statement). act_plain s.act) handler.body in
        let own : Contains (flat_map plain_binds (on_pats handler)) id = subst (λ (pats : List Pattern). Contains (flat_map plain_binds pats) id) (sym pats_are) has in
        Contains-append_left (flat_map plain_binds (on_pats handler) ++ option_to_list handler.recv) all id
        (Contains-append_left (flat_map plain_binds (on_pats handler)) (option_to_list handler.recv) id own);
    compared_are_bound = λ line to has.
        passes_where_no_line (is_bound scope_here to) (line_of to)
        (on_keeps (Variable to) (inr (IsIn-flat_map parts_of_pattern (Equal line to) (Variable to) on.pats (IsIn-from (Equal line to) on.pats has) (inl refl)))).rule_2;
    names_are_own = λ line name has.
        let all = flat_map (λ (s : Statement). flat_map pattern_names (act_pats s.act)) handler.body in
        let own : Contains (flat_map pattern_names (on_pats handler)) name =
        subst (λ (pats : List Pattern). Contains (flat_map pattern_names pats) name) (sym pats_are)
        (Contains-flat_map pattern_names on.pats (Named line name) name has (Contains-first name [])) in
        among_of_member name (handler_names handler)
        (Contains-append_left (handler.args ++ flat_map pattern_names (on_pats handler)) all name
        (Contains-append_right handler.args (flat_map pattern_names (on_pats handler)) name own));
  }

  module _ (s : StateDecl) (is : state_named file.decls on.state.word ≡ Some s) where
    counts : length on.pats ≡ length s.fields
    counts =
        let keeps = on_keeps (StateMatched on.state on.pats) (inl refl) in
        sym (as_long_where_no_line s.fields on.pats on.state.line
        (rule_of_found (λ (one : StateDecl). lines_of_lengths one.fields on.pats on.state.line) (state_named file.decls on.state.word) s is keeps.rule_3))

    rule : lines_of_pairs (lines_of_field_pattern scope_here) s.fields on.pats ≡ []
    rule =
        let keeps = on_keeps (StateMatched on.state on.pats) (inl refl) in
        rule_of_found (λ (one : StateDecl). lines_of_pairs (lines_of_field_pattern scope_here) one.fields on.pats) (state_named file.decls on.state.word) s is keeps.rule_6

pub on_is_sound : SameAreEqual → GoesOnSoundly
on_is_sound equal file T X handler on names choice more running on_is effect knows =
    let decls = file.decls in
    let at_start = newest X names.principal names.session in
    let found : StateFound X names on.state.word on.pats names.session at_start more = state_gone_on X names more on effect in
    let good : IsGoodState decls T names.principal names.session at_start on.state.word found.fields =
    good_state_at decls T X running.since running.good running.extends found.index found.instance names.principal names.session at_start on.state.word found.fields found.stands in
    let agrees = agrees_before (words_of (handler_names handler)) at_start names more choice knows.agrees in
    let knows_then : Knows decls T X handler choice names (write names (written_by on.pats found.fields)) (bound_first handler) =
    subst (λ (ws : List Written). Knows decls T X handler choice names (write names ws) (bound_first handler)) (sym found.more_is) knows in
    let opened = open_state_holds equal file T X handler (scopes.bound_first handler) names running on.pats found.fields found.fit
    (patterns_matched file T X handler on names running on_is) names.session at_start on.state.word good (state_is_declared decls on.state.word good.state good.is_declared)
    (Some Prior) choice (bound_first handler) knows_then
    (λ has. session_of names.principal (choice.principals 0) names.session choice.session (sym agrees.self) (sym agrees.session))
    (λ has. ap Some (version_of names.principal (choice.principals 0) names.session choice.session at_start choice.prior (sym agrees.self) (sym agrees.session) (sym agrees.prior)))
    (counts file T X handler on names running on_is good.state good.is_declared)
    (rule file T X handler on names running on_is good.state good.is_declared) in
    let setting = setting_of decls handler in
    let matched : HoldsWritten decls T choice names more (match_state setting (bound_first handler) (Some Prior) on.state.word on.pats) =
    subst (λ (ws : List Written). HoldsWritten decls T choice names ws (match_state setting (bound_first handler) (Some Prior) on.state.word on.pats)) found.more_is
    (subst (λ (declared : Option StateDecl). HoldsWritten decls T choice names (written_by on.pats found.fields) (option_map_or (open_state setting (bound_first handler) (Some Prior) on.pats) declared (bound_first handler)))
    (sym good.is_declared) opened) in
    subst (λ (part : Option OnPart). HoldsWritten decls T choice names more (option_map_or (λ one. match_state setting (bound_first handler) (Some Prior) one.state.word one.pats) part (bound_first handler)))
    (sym on_is) matched
