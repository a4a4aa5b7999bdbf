-- After `store`: the state that is put is good, and what is known holds.
use Rattle.std.proofs.Common.{◌≡◌, ℕ, ◌+◌, true, List, [], ◌∷◌, ◌++◌, map, zip, length, Contains, Option, Some, inl, inr, refl, sym, ap, subst, arith}
use Rattle.std.specs.List.{flat_map}
use Rattle.std.specs.Option.{option_map_or}
use Rattle.std.proofs.lemmas.List.Elements.{Contains-append_left, Contains-append_right}
use Rattle.dy_term.specs.Terms.{Term}
use Rattle.dy_label.specs.Labels.{Place, One, Session, Version}
use Rattle.dy_label.specs.Words.{Atom, Next, Choice, place_of, Implies, meaning_of}
use Rattle.dy_types.specs.FieldTypes.{Fits}
use Rattle.dy_syntax.specs.Names.{Id, Nm}
use Rattle.dy_syntax.specs.Declarations.{Field, StateDecl}
use Rattle.dy_syntax.specs.Expressions as e
use Rattle.dy_syntax.specs.Expressions.{Expr}
use Rattle.dy_syntax.specs.Statements as statements
use Rattle.dy_syntax.specs.Statements.{Statement}
use Rattle.dy_syntax.specs.Files.{Decl, File}
use Rattle.dy_syntax.specs.LookUps.{state_named}
use Rattle.dy_syntax.specs.Scopes.{Scope, is_name, handler_scope, state_scope}
use Rattle.dy_syntax.specs.Parts.{Variable, StateFilled, parts_of_expr}
use Rattle.dy_syntax.specs.Rules.Lines.{lines_of_pairs}
use Rattle.dy_syntax.specs.Rules.Lengths.{lines_of_lengths}
use Rattle.dy_syntax.specs.Rules.Names.{lines_of_expr}
use Rattle.dy_typing.specs.Names.{Setting, Stands, setting_of, stands_number, state_stands, exprs_names}
use Rattle.dy_typing.specs.Instances.{type_in}
use Rattle.dy_typing.specs.Knowledge.{Knowledge}
use Rattle.dy_typing.specs.Expressions.{known_of_expr}
use Rattle.dy_typing.specs.Demands.{Demand, PartnerStands, StoreKeeps, StoreFits, Fitted, fitted_fields, partners_owed, operations_of_expr, operation_demands, state_demands, other_demands}
use Rattle.dy_typing.specs.Conditions.{AreMet}
use Rattle.dy_entry.specs.Entries.{Entry}
use Rattle.dy_entry.specs.LookUps.{newest}
use Rattle.dy_entry.specs.ValueLabels.{label_of}
use Rattle.dy_eval.specs.declared.items.Item.{Item}
use Rattle.dy_eval.specs.declared.items.Item.TheVariants as items
use Rattle.dy_eval.specs.Names.{Names}
use Rattle.dy_eval.specs.Runs.{nonce_due}
use Rattle.dy_eval.specs.Values.{value}
use Rattle.dy_traces.specs.Instances.{entry_for}
use Rattle.dy_sound.specs.LawsBelow.{LawsBelow}
use Rattle.dy_sound.specs.Flows.{Flows}
use Rattle.dy_sound.specs.Words.{Words, state_words}
use Rattle.dy_sound.specs.Fields.{AllMeet}
use Rattle.dy_sound.specs.Valid.{IsValid}
use Rattle.dy_sound.specs.Knowledge.{Holds}
use Rattle.dy_sound.specs.InScope.{IsNamed, TypeIsInScope}
use Rattle.dy_sound.specs.Matches.{scope_in, HandlerMatches, Matches}
use Rattle.dy_sound.specs.Sealings.{FillFields, AreOfCases}
use Rattle.dy_sound.specs.DerivedKeys.{TablesFit}
use Rattle.dy_sound.specs.Expressions.{ExprsHold}
use Rattle.dy_sound.specs.Good.{IsGoodState}
use Rattle.dy_sound.specs.StatementsAreSound.{bound_after, IsAt, PutsSoundly, HoldsPut}
use Rattle.dy_sound.proofs.Lists.{Contains-none, Contains-first, Contains-later, Contains-cases}
use Rattle.dy_sound.proofs.DeclarationWords.{state_matches}
use Rattle.dy_sound.proofs.DeclaredScopes.{state_is_declared, state_words_distinct, state_type_in_scope, state_partner_in_scope}
use Rattle.dy_sound.proofs.FittingFields.{fits_meets}
use Rattle.dy_sound.proofs.SealedFields.{fields_are_given, name_fills}
use Rattle.dy_sound.proofs.KnownExpressions.{known_exprs_hold}
use Rattle.dy_sound.proofs.MatchesAt.{handler_matches}
use Rattle.dy_sound.proofs.StatementParts.{IsIn-from, IsIn-flat_map}
use Rattle.dy_sound.proofs.NamesAt.{part_keeps, variable_is_bound, is_named_at}
use Rattle.dy_sound.proofs.SealedScopes.{fill_fields, sealed_are_of_cases}
use Rattle.dy_sound.proofs.TablesFitting.{tables_fit}
use Rattle.dy_sound.proofs.CasesAt.{found_where_no_line, as_long_where_no_line, rule_of_found}
use Rattle.dy_sound.proofs.PartnersHold.{in_numbered, partners_hold}
use Rattle.dy_sound.proofs.ItemsPut.{puts_all_is, holds_still}

module _ (decls : List Decl) (T : List Entry) (choice : Choice) (names : Names) (k : Knowledge) where
  pub values_valid : (exprs : List Expr) → ExprsHold decls T choice names k exprs → (term : Term) → Contains (map (value names) exprs) term → IsValid decls T term
  values_valid [] hold term has = absurd (Contains-none term has)
  values_valid (expr ∷ exprs) hold term has = elim (Contains-cases (value names expr) (map (value names) exprs) term has) [
    | inl same ↦ subst (IsValid decls T) same hold.0.is_valid
    | inr later ↦ values_valid exprs hold.1 term later
  ]

  -- Who has this version may know what is kept in it.
  readers_may : (fields : List Field) (exprs : List Expr) → length fields ≡ length exprs → ExprsHold decls T choice names k exprs
      → ((field : Field) (expr : Expr) → Contains (zip fields exprs) (field, expr) → Implies (One Next) (known_of_expr decls k expr).hi)
      → (term : Term) → Contains (map (value names) exprs) term → Flows T (meaning_of choice (One Next)) (label_of T term)
  readers_may fields [] count hold keeps term has = absurd (Contains-none term has)
  readers_may [] (expr ∷ exprs) count hold keeps term has = absurd cc
  readers_may (field ∷ fields) (expr ∷ exprs) count hold keeps term has =
      let rest : length fields ≡ length exprs = omega (arith, count) in
      elim (Contains-cases (value names expr) (map (value names) exprs) term has) [
        | inl same ↦
            subst (λ (t : Term). Flows T (meaning_of choice (One Next)) (label_of T t)) same
            (record { opens = λ C over opened. hold.0.known_holds.is_open_by_hi.opens C over (keeps field expr (Contains-first (field, expr) (zip fields exprs)) choice C opened) })
        | inr later ↦ readers_may fields exprs rest hold.1 (λ other one within. keeps other one (Contains-later (field, expr) (zip fields exprs) (other, one) within)) term later
      ]

module _ (below : LawsBelow) (T : List Entry) (setting : Setting) (choice : Choice) (at_start : ℕ) (names : Names) (k : Knowledge) (handler : HandlerMatches setting.names at_start names choice)
    (scope : Scope) (stands : Stands) (here : Option Atom) (words : Words) (matches : Matches setting choice names scope stands here words) where
  -- Values that fit the types of fields meet them.
  they_meet : (fields : List Field) (exprs : List Expr) → FillFields (scope_in setting.names names) fields exprs → ExprsHold setting.decls T choice names k exprs
      → ((field : Field) (expr : Expr) → Contains (zip fields exprs) (field, expr) → Fits (known_of_expr setting.decls k expr) (type_in (stands_number setting stands) here field.kind))
      → ((field : Field) → Contains fields field → TypeIsInScope scope field.kind) → AllMeet setting.decls T words fields (map (value names) exprs)
  they_meet [] [] fill hold fits read = tt
  they_meet [] (expr ∷ exprs) fill hold fits read = absurd fill
  they_meet (field ∷ fields) [] fill hold fits read = absurd fill
  they_meet (field ∷ fields) (expr ∷ exprs) fill hold fits read = (
    fits_meets below T setting choice names scope stands here words matches (value names expr) (known_of_expr setting.decls k expr) hold.0.known_holds field.kind
        (read field (Contains-first field fields)) (name_fills setting choice at_start names handler field expr fill.0) (fits field expr (Contains-first (field, expr) (zip fields exprs))),
    they_meet fields exprs fill.1 hold.1 (λ other one within. fits other one (Contains-later (field, expr) (zip fields exprs) (other, one) within))
        (λ other within. read other (Contains-later field fields other within)),
  )

pub version_of : (principal other : List ℕ) (session other_session version other_version : ℕ) → principal ≡ other → session ≡ other_session → version ≡ other_version
    → Version principal session version ≡ Version other other_session other_version
version_of principal other session other_session version other_version one two three = cc

pub session_of : (principal other : List ℕ) (session other_session : ℕ) → principal ≡ other → session ≡ other_session → Session principal session ≡ Session other other_session
session_of principal other session other_session one two = cc

module _ (file : File) (T X : List Entry) (handler : statements.Handler) (done : List Statement) (line : ℕ) (state : Id) (fields : List Expr) (names : Names) (k : Knowledge)
    (at : IsAt file T X handler done (record { line = line; act = statements.Store state fields }) names k) where
  abbrev statement : Statement
  statement = record { line = line; act = statements.Store state fields }

  abbrev scope_here : Scope
  scope_here = handler_scope handler (bound_after handler done)

  abbrev setting : Setting
  setting = setting_of file.decls handler

  abbrev at_start : ℕ
  at_start = newest X names.principal names.session

  abbrev values : List Term
  values = map (value names) fields

  name_here : (name : Nm) → Contains fields (e.Nm name) → is_name scope_here name ≡ true → IsNamed (scope_in setting.names names) name
  name_here name has is =
      is_named_at file T X handler done statement names k at name is
      (variable_is_bound file T X handler done statement names k at name
      (inr (inr (IsIn-flat_map parts_of_expr (e.Nm name) (Variable name) fields (IsIn-from (e.Nm name) fields has) (inl refl)))))

  state_here : (s : StateDecl) × (state_named file.decls state.word ≡ Some s)
  state_here =
      let keeps = part_keeps file T X handler done statement names k at (StateFilled state fields) (inr (inl refl)) in
      found_where_no_line (state_named file.decls state.word) state.line keeps.rule_2

  module _ (s : StateDecl) (is : state_named file.decls state.word ≡ Some s) where
    counts : length s.fields ≡ length fields
    counts =
        let keeps = part_keeps file T X handler done statement names k at (StateFilled state fields) (inr (inl refl)) in
        as_long_where_no_line s.fields fields state.line
        (rule_of_found (λ (one : StateDecl). lines_of_lengths one.fields fields state.line) (state_named file.decls state.word) s is keeps.rule_3)

    fill : FillFields (scope_in setting.names names) s.fields fields
    fill =
        let keeps = part_keeps file T X handler done statement names k at (StateFilled state fields) (inr (inl refl)) in
        fill_fields scope_here (scope_in setting.names names) s.fields fields counts
        (rule_of_found (λ (one : StateDecl). lines_of_pairs (lines_of_expr scope_here) one.fields fields) (state_named file.decls state.word) s is keeps.rule_6) name_here

    state_demands_met : AreMet file.decls k (state_demands setting fields s)
    state_demands_met =
        let others : AreMet file.decls k (other_demands setting (statements.Store state fields)) = λ demand has.
        at.are_met demand (Contains-append_right (operation_demands setting (flat_map operations_of_expr fields)) (other_demands setting (statements.Store state fields)) demand has) in
        subst (AreMet file.decls k) (ap (λ (found : Option StateDecl). option_map_or (state_demands setting fields) found []) is) others

    operations_met : AreMet file.decls k (operation_demands setting (flat_map operations_of_expr fields))
    operations_met demand has = at.are_met demand (Contains-append_left (operation_demands setting (flat_map operations_of_expr fields)) (other_demands setting (statements.Store state fields)) demand has)

    abbrev stands : Stands
    stands = state_stands s (exprs_names fields)

    abbrev make : ℕ → Field × Expr → Fitted
    make number pair = record { number = number; type = type_in (stands_number setting stands) (Some Next) pair.0.kind; value = pair.1 }

    abbrev owed_here : List Demand
    owed_here = map PartnerStands (partners_owed setting stands (Some Next) s.knows)

    abbrev stored_fields : List Fitted
    stored_fields = fitted_fields (stands_number setting stands) (Some Next) s.fields fields

    partners_met : AreMet file.decls k owed_here
    partners_met demand has = state_demands_met demand (Contains-append_left (owed_here ++ map StoreKeeps stored_fields) (map StoreFits stored_fields) demand (Contains-append_left owed_here (map StoreKeeps stored_fields) demand has))

    keeps_met : (field : Field) (expr : Expr) → Contains (zip s.fields fields) (field, expr) → Implies (One Next) (known_of_expr file.decls k expr).hi
    keeps_met field expr within =
        let found = in_numbered StoreKeeps make 1 (zip s.fields fields) (field, expr) within in
        state_demands_met (StoreKeeps (make found.0 (field, expr)))
        (Contains-append_left (owed_here ++ map StoreKeeps stored_fields) (map StoreFits stored_fields) _ (Contains-append_right owed_here (map StoreKeeps stored_fields) _ found.1))

    fits_met : (field : Field) (expr : Expr) → Contains (zip s.fields fields) (field, expr) → Fits (known_of_expr file.decls k expr) (type_in (stands_number setting stands) (Some Next) field.kind)
    fits_met field expr within =
        let found = in_numbered StoreFits make 1 (zip s.fields fields) (field, expr) within in
        state_demands_met (StoreFits (make found.0 (field, expr)))
        (Contains-append_right (owed_here ++ map StoreKeeps stored_fields) (map StoreFits stored_fields) _ found.1)

    module _ (below : LawsBelow) (tables : TablesFit file.decls) (of_cases : AreOfCases file.decls (scope_in setting.names names) (flat_map operations_of_expr fields))
        (choice : Choice) (h : Holds file.decls T choice names k) (matches : HandlerMatches setting.names at_start names choice) where
      exprs_hold : ExprsHold file.decls T choice names k fields
      exprs_hold = known_exprs_hold below T setting choice at_start names k matches h tables at.running.values_are_valid fields of_cases operations_met

      version_is : Version names.principal names.session (at_start + 1) ≡ place_of choice Next
      version_is = version_of names.principal (choice.principals 0) names.session choice.session (at_start + 1) choice.next (sym matches.agrees.self) (sym matches.agrees.session) (sym matches.agrees.next)

      words_match : Matches setting choice names (state_scope s) stands (Some Next) (state_words s names.principal names.session (at_start + 1) values)
      words_match =
          state_matches setting choice names s (Some Next) names.principal names.session (at_start + 1) (exprs_names fields) values
          (state_words_distinct file at.running.well_formed s (state_is_declared file.decls state.word s is))
          (fields_are_given setting choice at_start names matches s.fields fields fill) refl matches.agrees.self
          (λ has. session_of names.principal (choice.principals 0) names.session choice.session (sym matches.agrees.self) (sym matches.agrees.session))
          (λ has. ap Some version_is)

      pub state_is_good : IsGoodState file.decls T names.principal names.session (at_start + 1) state.word values
      state_is_good =
          let at_decl = state_is_declared file.decls state.word s is in
          record {
            state = s;
            is_declared = is;
            are_valid = values_valid file.decls T choice names k fields exprs_hold;
            fields_meet = they_meet below T setting choice at_start names k matches (state_scope s) stands (Some Next) (state_words s names.principal names.session (at_start + 1) values) words_match
                s.fields fields fill exprs_hold fits_met (state_type_in_scope file at.running.well_formed s at_decl);
            readers_may_know = λ term has. subst (λ (place : Place). Flows T (One place) (label_of T term)) (sym version_is) (readers_may file.decls T choice names k s.fields fields counts exprs_hold keeps_met term has);
            events_stand = λ partner has.
                let read = state_partner_in_scope file at.running.well_formed s at_decl partner has in
                partners_hold below setting T choice names k h (state_scope s) stands (Some Next) (state_words s names.principal names.session (at_start + 1) values) words_match s.knows partners_met partner has read.0 read.1;
          }

-- The state that is put is good, and what is known holds still.
pub store_is_sound : LawsBelow → (state : Id) (fields : List Expr) → PutsSoundly (statements.Store state fields)
store_is_sound below state fields file T X handler done line names choice k instance item binds at effect knows =
    let decls = file.decls in
    let at_start = newest X names.principal names.session in
    let values = map (value names) fields in
    let put = puts_all_is (items.State (at_start + 1) state.word) values item binds effect in
    let matches = handler_matches handler at_start names (nonce_due binds (length T)) choice at.running.names_are_principals knows.agrees in
    let own = state_here file T X handler done line state fields names k at in
    let statement : Statement = record { line = line; act = statements.Store state fields } in
    let good = state_is_good file T X handler done line state fields names k at own.0 own.1 below (tables_fit file at.running.well_formed) (sealed_are_of_cases file T X handler done statement names k at) choice knows.holds matches in
    let e = entry_for instance names.principal names.session (items.State (at_start + 1) state.word values) in
    subst (λ (i : Item). HoldsPut decls T choice names instance i binds k) put.0
    (record {
      item_is_good = good;
      holds = holds_still decls T names at.running.values_are_valid below choice k e binds put.1 knows.holds;
    })
