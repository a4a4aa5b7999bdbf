-- After `check` what is known holds.
use Rattle.std.proofs.Common.{◌≡◌, ℕ, Bool, true, not, ◌&&◌, List, [], ◌∷◌, map, length, Contains, Some, inl, inr, refl, sym, ap, subst, ◌∙◌, arith}
use Rattle.std.proofs.lemmas.Bool.{or_right}
use Rattle.std.proofs.lemmas.List.{length-map}
use Rattle.dy_term.specs.Terms as trees
use Rattle.dy_term.specs.Terms.{Term}
use Rattle.dy_term.specs.Tuples.{tagged_tuple}
use Rattle.dy_term.specs.Sameness.{is_same}
use Rattle.dy_label.specs.Words.{Choice}
use Rattle.dy_syntax.specs.Names.{Id, Quote, Nm, Named, Mac, UseText, line_of}
use Rattle.dy_syntax.specs.Declarations.{Field, CaseDecl}
use Rattle.dy_syntax.specs.Expressions as e
use Rattle.dy_syntax.specs.Expressions.{Expr}
use Rattle.dy_syntax.specs.Statements as statements
use Rattle.dy_syntax.specs.Statements.{Statement}
use Rattle.dy_syntax.specs.Files.{File}
use Rattle.dy_syntax.specs.LookUps.{case_named}
use Rattle.dy_syntax.specs.Scopes.{Scope, words_of, handler_names, params_named, is_name, is_name_type}
use Rattle.dy_syntax.specs.Parts.{Part, Variable, Filled, parts_of_key, parts_of_sealed}
use Rattle.dy_syntax.specs.Rules.{IsIn}
use Rattle.dy_syntax.specs.Rules.Lines.{lines_if, lines_of_pairs}
use Rattle.dy_syntax.specs.Rules.Lengths.{lines_of_lengths}
use Rattle.dy_syntax.specs.Rules.Names.{lines_of_expr}
use Rattle.dy_typing.specs.Names.{Setting, setting_of, name_number, case_stands}
use Rattle.dy_typing.specs.Knowledge.{Knowledge, known_of}
use Rattle.dy_typing.specs.Instances.{use_in}
use Rattle.dy_typing.specs.Demands.{OpenedBy}
use Rattle.dy_typing.specs.Effects.{after}
use Rattle.dy_entry.specs.Entries.{Entry}
use Rattle.dy_entry.specs.LookUps.{newest}
use Rattle.dy_eval.specs.declared.written.Written.{Written}
use Rattle.dy_eval.specs.Names.{Names, write, bytes_at, bytes_for}
use Rattle.dy_sound.specs.Valid.{IsValid}
use Rattle.dy_sound.specs.Knowledge.{usage_chosen, Holds}
use Rattle.dy_sound.specs.InScope.{IsNamed}
use Rattle.dy_sound.specs.Matches.{scope_in, HandlerMatches}
use Rattle.dy_sound.specs.Givens.{field_slots, IsGiven, AreGiven}
use Rattle.dy_sound.specs.StatementsAreSound.{IsAt, WritesSoundly}
use Rattle.dy_sound.specs.LawsBelow.{LawsBelow}
use Rattle.dy_sound.proofs.Lists.{Contains-none, Contains-first, Contains-later}
use Rattle.dy_sound.proofs.StatementParts.{IsIn-left, IsIn-right, IsIn-map, IsIn-from}
use Rattle.dy_sound.proofs.MatchesAt.{handler_matches}
use Rattle.dy_sound.proofs.NamesAt.{passes_where_no_line, parts_at, scope_at, part_keeps, variable_is_bound, name_in_scope}
use Rattle.dy_sound.proofs.DeclaredScopes.{case_is_declared, case_words_distinct, case_type_in_scope, case_atom_in_scope}
use Rattle.dy_sound.proofs.DeclarationWords.{case_matches}
use Rattle.dy_sound.proofs.SealedFields.{case_of_usage, name_given, owners_are_given}
use Rattle.dy_sound.proofs.KnownNames.{name_is_valid, known_of_name}
use Rattle.dy_sound.proofs.Weaker.{use_holds}
use Rattle.dy_sound.proofs.Tuples.{SameAreEqual}
use Rattle.dy_sound.proofs.GivenPatterns.{both_none}
use Rattle.dy_sound.proofs.CasesAt.{found_where_no_line, as_long_where_no_line, rule_of_found, owners_are_named, owners_count, claims_no_uses}
use Rattle.dy_sound.proofs.Verified.{IsChecked, check_holds}
use Rattle.dy_sound.proofs.OpeningStatements.{key_demanded}
use Rattle.dy_sound.proofs.SameStatement.{write_nothing, holds_writes}

-- the expressions of names
abbrev pub exprs_of : List Nm → List Expr
exprs_of args = map e.Nm args

module _ (setting : Setting) (choice : Choice) (newest : ℕ) (names : Names) (matches : HandlerMatches setting.names newest names choice) (scope : Scope) where
  -- What names give for fields.
  args_give : (fields : List Field) (args : List Nm) → length args ≡ length fields
      → ((name : Nm) → Contains args name → is_name scope name ≡ true → IsNamed (scope_in setting.names names) name)
      → lines_of_pairs (lines_of_expr scope) fields (exprs_of args) ≡ []
      → AreGiven setting choice names (field_slots fields) (map Some args) (map (bytes_for names) args)
  args_give [] [] count named rule = tt
  args_give [] (arg ∷ args) count named rule = absurd (omega (arith, count))
  args_give (field ∷ fields) [] count named rule = absurd (omega (arith, count))
  args_give (field ∷ fields) (arg ∷ args) count named rule =
      let rules = both_none (lines_of_expr scope field (e.Nm arg)) (lines_of_pairs (lines_of_expr scope) fields (exprs_of args)) rule in
      let first : IsGiven setting choice names (record { word = field.name.word; is_name = is_name_type field.kind }) (Some arg) (bytes_for names arg) = record {
        value_is = λ given is. let same : arg ≡ given = cc in ap (bytes_for names) same;
        name_is = λ is.
            let none : lines_if (not (is_name scope arg)) (line_of arg) ≡ [] = subst (λ (b : Bool). lines_if (b && not (is_name scope arg)) (line_of arg) ≡ []) is rules.0 in
            (arg, refl, name_given setting choice newest names matches arg (named arg (Contains-first arg args) (passes_where_no_line (is_name scope arg) (line_of arg) none)));
      } in
      (first, args_give fields args (omega (arith, count)) (λ name within. named name (Contains-later arg args name within)) rules.1)

module _ (file : File) (T X : List Entry) (handler : statements.Handler) (done : List Statement) (line : ℕ) (names : Names) (k : Knowledge)
    (code key : Id) (usage : UseText) (tag : Quote) (args : List Nm) (choice : Choice)
    (at : IsAt file T X handler done (record { line = line; act = statements.Check code key usage tag args }) names k)
    (matches : HandlerMatches (words_of (handler_names handler)) (newest X names.principal names.session) names choice) where
  abbrev checking : Statement
  checking = record { line = line; act = statements.Check code key usage tag args }

  abbrev parts_here : List Part
  parts_here = parts_at file T X handler done checking names k at

  filled_part : IsIn (Filled usage.usage tag (exprs_of args)) parts_here
  unfolding parts_of_sealed
  filled_part = inr (inr (inl refl))

  key_part : (part : Part) → IsIn part (parts_of_key Mac usage) → IsIn part parts_here
  unfolding parts_of_sealed
  key_part part h = inr (inr (inr (IsIn-left part (parts_of_key Mac usage) (map Variable args) h)))

  variable_part : (name : Nm) → Contains args name → IsIn (Variable name) parts_here
  variable_part name within =
      inr (IsIn-right (Variable name) (parts_of_sealed Mac (Named key) usage tag (exprs_of args)) (map Variable args)
      (IsIn-map Variable name args (IsIn-from name args within)))

  case_here : (case : CaseDecl) × (case_named file.decls usage.usage.word tag.text ≡ Some case)
  case_here =
      found_where_no_line (case_named file.decls usage.usage.word tag.text) tag.line
      (part_keeps file T X handler done checking names k at (Filled usage.usage tag (exprs_of args)) filled_part).rule_2

  as_many : length args ≡ length case_here.0.fields
  as_many =
      let same = as_long_where_no_line case_here.0.fields (exprs_of args) tag.line
      (rule_of_found (λ (declared : CaseDecl). lines_of_lengths declared.fields (exprs_of args) tag.line) (case_named file.decls usage.usage.word tag.text) case_here.0 case_here.1
      (part_keeps file T X handler done checking names k at (Filled usage.usage tag (exprs_of args)) filled_part).rule_3) in
      sym (length-map args e.Nm) ∙ sym same

  named_here : (name : Nm) → Contains args name → is_name (scope_at file T X handler done checking names k at) name ≡ true → IsNamed (scope_in (words_of (handler_names handler)) names) name
  named_here name within is = record {
    stands = name_in_scope handler done names at.running.words name is;
    binds = λ inside. variable_is_bound file T X handler done checking names k at name (variable_part name within);
  }

  -- The tag is checked of a case that matches.
  pub is_checked : IsChecked (setting_of file.decls handler) T choice names usage tag.text args
  is_checked =
      let setting = setting_of file.decls handler in
      let case = case_here.0 in
      let declared = case_is_declared file.decls usage.usage.word tag.text case case_here.1 in
      let word_is = case_of_usage file.decls usage.usage.word tag.text case case_here.1 in
      let count : length usage.args ≡ length (params_named file.decls case.usage.word) =
      subst (λ (u : List ℕ). length usage.args ≡ length (params_named file.decls u)) (sym word_is)
      (owners_count file T X handler done checking names k at Mac usage key_part) in
      let rule = rule_of_found (λ (c : CaseDecl). lines_of_pairs (lines_of_expr (scope_at file T X handler done checking names k at)) c.fields (exprs_of args))
      (case_named file.decls usage.usage.word tag.text) case case_here.1
      (part_keeps file T X handler done checking names k at (Filled usage.usage tag (exprs_of args)) filled_part).rule_6 in
      record {
        case = case;
        is_declared = case_here.1;
        as_many = as_many;
        matches =
            case_matches setting choice names case usage.args (usage_chosen setting.decls choice (use_in (name_number setting) usage)).owners (map Some args) (map (bytes_for names) args)
            (case_words_distinct file at.running.well_formed case declared)
            (owners_are_given setting choice (newest X names.principal names.session) names matches (params_named file.decls case.usage.word) usage.args count
            (owners_are_named file T X handler done checking names k at Mac usage key_part))
            (args_give setting choice (newest X names.principal names.session) names matches (scope_at file T X handler done checking names k at) case.fields args as_many named_here rule);
        types_are_in_scope = case_type_in_scope file at.running.well_formed case declared;
        atoms_are_in_scope = case_atom_in_scope file at.running.well_formed case declared;
        no_use = claims_no_uses file T X handler done checking names k at Mac usage key_part case tag.text case_here.1 (λ is. or_right _ _ is)
            (case_stands file.decls usage.args case (map Some args));
      }

module _ (below : LawsBelow) (equal : SameAreEqual) where
  pub check_is_sound : (code key : Id) (usage : UseText) (tag : Quote) (args : List Nm) → WritesSoundly (statements.Check code key usage tag args)
  check_is_sound code key usage tag args file T X handler done line names choice k more at effect knows =
      let decls = file.decls in
      let setting = setting_of decls handler in
      let act = statements.Check code key usage tag args in
      let tuple = tagged_tuple tag.text (map (bytes_for names) args) in
      let was = holds_writes (is_same (bytes_at names code.word) (trees.Mac (bytes_at names key.word) tuple)) more effect in
      let valid : IsValid decls T (trees.Mac (bytes_at names key.word) tuple) =
      subst (IsValid decls T) (equal (bytes_at names code.word) (trees.Mac (bytes_at names key.word) tuple) was.0) (name_is_valid decls T names at.running.values_are_valid (Named code)) in
      let matches = handler_matches handler (newest X names.principal names.session) names more choice at.running.names_are_principals knows.agrees in
      let has = use_holds below decls T choice (bytes_at names key.word) (known_of k (Named key)) (known_of_name decls T choice names k knows.holds (Named key)) (use_in (name_number setting) usage)
      (at.are_met (OpenedBy Mac (Named key) (use_in (name_number setting) usage)) (key_demanded setting act Mac (Named key) usage [] refl)) in
      let holds = check_holds below setting T choice names k knows.holds usage tag.text args (is_checked file T X handler done line names k code key usage tag args choice at matches) key has valid.2 in
      record {
        values_are_valid = λ written within. absurd (Contains-none written (subst (λ (ws : List Written). Contains ws written) (sym was.1) within));
        holds = subst (λ (ws : List Written). Holds decls T choice (write names ws) (after setting k act)) was.1
            (subst (λ (n : Names). Holds decls T choice n (after setting k act)) (sym (write_nothing names)) holds);
      }
