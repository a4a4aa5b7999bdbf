-- Each tuple that a statement of a well-formed file seals is one of a declared case, with all its names in scope.
use Rattle.std.proofs.Common.{◌≡◌, ℕ, Bool, true, false, not, ◌&&◌, List, [], ◌∷◌, length, Contains, Option, Some, refl, sym, ap, subst, ◌∙◌, arith}
use Rattle.std.specs.Option.{option_map_or}
use Rattle.dy_syntax.specs.Names.{Nm, UseText}
use Rattle.dy_syntax.specs.Declarations.{Field, CaseDecl, UsageDecl}
use Rattle.dy_syntax.specs.Expressions as e
use Rattle.dy_syntax.specs.Expressions.{Expr}
use Rattle.dy_syntax.specs.Statements as statements
use Rattle.dy_syntax.specs.Statements.{Statement}
use Rattle.dy_syntax.specs.Files.{File}
use Rattle.dy_syntax.specs.LookUps.{case_named, usage_named}
use Rattle.dy_syntax.specs.Scopes.{Scope, is_name_type, words_of, handler_names, is_name}
use Rattle.dy_syntax.specs.Parts.{Part, Filled, Used}
use Rattle.dy_syntax.specs.Places.{is_empty}
use Rattle.dy_syntax.specs.Rules.Lines.{lines_if, lines_of_pairs}
use Rattle.dy_syntax.specs.Rules.Lengths.{lines_of_lengths}
use Rattle.dy_syntax.specs.Rules.Names.{is_name_expr, lines_of_expr}
use Rattle.dy_typing.specs.Knowledge.{Knowledge}
use Rattle.dy_typing.specs.Demands.{operations_of}
use Rattle.dy_entry.specs.Entries.{Entry}
use Rattle.dy_eval.specs.Names.{Names}
use Rattle.dy_sound.specs.InScope.{IsNamed}
use Rattle.dy_sound.specs.Matches.{scope_in}
use Rattle.dy_sound.specs.Sealings.{FillFields, IsOfCase, AreOfCases}
use Rattle.dy_sound.specs.StatementsAreSound.{IsAt}
use Rattle.dy_sound.proofs.Lists.{Contains-first, Contains-later}
use Rattle.dy_sound.proofs.NamesAt.{passes_where_no_line, name_in_scope, scope_at, parts_at, part_keeps, variable_is_bound, usage_in_scope}
use Rattle.dy_sound.proofs.DeclaredScopes.{case_is_declared, case_words_distinct, case_type_in_scope, case_atom_in_scope}
use Rattle.dy_sound.proofs.CasesAt.{found_where_no_line, as_long_where_no_line, rule_of_found}
use Rattle.dy_sound.proofs.SealedParts.{HasSealed, is_used_first, sealed_in_act}
use Rattle.dy_sound.proofs.GivenPatterns.{both_none}

-- a name where only a name may stand
name_filled : (scope : Scope) (is_needed : Bool) (expr : Expr) (line : ℕ) → lines_if (is_needed && not (is_name_expr scope expr)) line ≡ []
    → is_needed ≡ true → (name : Nm) × (expr ≡ e.Nm name) × (is_name scope name ≡ true)
name_filled scope true (e.Nm name) line none needed = (name, refl, passes_where_no_line (is_name scope name) line none)
name_filled scope true (e.Lit quote) line none needed = absurd cc
name_filled scope true (e.Tuple tag args) line none needed = absurd cc
name_filled scope true (e.Pair own first second) line none needed = absurd cc
name_filled scope true (e.Pk own key) line none needed = absurd cc
name_filled scope true (e.Vk own key) line none needed = absurd cc
name_filled scope true (e.Penc own key usage tag args) line none needed = absurd cc
name_filled scope true (e.Aead own key usage tag args ad) line none needed = absurd cc
name_filled scope true (e.Sign own key usage tag args) line none needed = absurd cc
name_filled scope true (e.Mac own key usage tag args) line none needed = absurd cc
name_filled scope true (e.Kdf own key context input) line none needed = absurd cc
name_filled scope true (e.Hash own message) line none needed = absurd cc
name_filled scope false expr line none needed = absurd cc

-- Expressions that break no rule fill the fields.
pub fill_fields : (own scope : Scope) (fields : List Field) (exprs : List Expr) → length fields ≡ length exprs → lines_of_pairs (lines_of_expr own) fields exprs ≡ []
    → ((name : Nm) → Contains exprs (e.Nm name) → is_name own name ≡ true → IsNamed scope name) → FillFields scope fields exprs
fill_fields own scope [] [] same none named = tt
fill_fields own scope [] (expr ∷ exprs) same none named = absurd cc
fill_fields own scope (field ∷ fields) [] same none named = absurd cc
fill_fields own scope (field ∷ fields) (expr ∷ exprs) same none named =
    let shorter : length fields ≡ length exprs = omega (arith, same) in
    let parts = both_none (lines_of_expr own field expr) (lines_of_pairs (lines_of_expr own) fields exprs) none in (
      λ needed.
          let filled = name_filled own (is_name_type field.kind) expr (e.line_of expr) parts.0 needed in
          (filled.0, filled.1, named filled.0 (subst (λ (x : Expr). Contains (expr ∷ exprs) x) filled.1 (Contains-first expr exprs)) filled.2),
      fill_fields own scope fields exprs shorter parts.1 (λ name stands. named name (Contains-later expr exprs (e.Nm name) stands)),
    )

module _ (file : File) (T X : List Entry) (handler : statements.Handler) (done : List Statement) (statement : Statement) (names : Names) (k : Knowledge)
    (at : IsAt file T X handler done statement names k) where
  abbrev parts : List Part
  parts = parts_at file T X handler done statement names k at

  abbrev own_scope : Scope
  own_scope = scope_at file T X handler done statement names k at

  abbrev scope : Scope
  scope = scope_in (words_of (handler_names handler)) names

  module _ (usage : UseText) (tag : List ℕ) (fields : List Expr) (has : HasSealed parts usage tag fields) where
    -- A name that is a field is bound, and may be one of the handler's names.
    field_is_named : (name : Nm) → Contains fields (e.Nm name) → is_name own_scope name ≡ true → IsNamed scope name
    field_is_named name stands is = record {
      stands = name_in_scope handler done names at.running.words name is;
      binds = λ inside. variable_is_bound file T X handler done statement names k at name (has.has_names name stands);
    }

    is_of_case : IsOfCase file.decls scope usage tag fields
    is_of_case =
        let filled = part_keeps file T X handler done statement names k at (Filled usage.usage has.quote fields) has.is_filled in
        let used = part_keeps file T X handler done statement names k at (Used usage) (has.is_used (Used usage) (is_used_first usage)) in
        let case = found_where_no_line (case_named file.decls usage.usage.word has.quote.text) has.quote.line filled.rule_2 in
        let usage_found = found_where_no_line (usage_named file.decls usage.usage.word) usage.usage.line used.rule_2 in
        let declared = case_is_declared file.decls usage.usage.word has.quote.text case.0 case.1 in
        let owners = as_long_where_no_line usage_found.0.params usage.args usage.usage.line
        (rule_of_found (λ (d : UsageDecl). lines_of_lengths d.params usage.args usage.usage.line) (usage_named file.decls usage.usage.word) usage_found.0 usage_found.1 used.rule_3) in
        let long = as_long_where_no_line case.0.fields fields has.quote.line
        (rule_of_found (λ (d : CaseDecl). lines_of_lengths d.fields fields has.quote.line) (case_named file.decls usage.usage.word has.quote.text) case.0 case.1 filled.rule_3) in
        let pairs = rule_of_found (λ (d : CaseDecl). lines_of_pairs (lines_of_expr own_scope) d.fields fields) (case_named file.decls usage.usage.word has.quote.text) case.0 case.1 filled.rule_6 in
        record {
          case = case.0;
          is_declared = subst (λ (t : List ℕ). case_named file.decls usage.usage.word t ≡ Some case.0) has.tag_is case.1;
          in_scope = record {
            distinct = case_words_distinct file at.running.well_formed case.0 declared;
            types = case_type_in_scope file at.running.well_formed case.0 declared;
            events = case_atom_in_scope file at.running.well_formed case.0 declared;
          };
          owners_count = sym owners ∙ sym (ap (λ (u : Option UsageDecl). length (option_map_or (λ (d : UsageDecl). d.params) u [])) usage_found.1);
          owners = usage_in_scope file T X handler done statement names k at usage has.is_used;
          fill = fill_fields own_scope scope case.0.fields fields long pairs field_is_named;
        }

  -- Each tuple that the statement seals is one of a case.
  pub sealed_are_of_cases : AreOfCases file.decls scope (operations_of statement.act)
  sealed_are_of_cases kind key usage tag fields stands =
      is_of_case usage tag fields (sealed_in_act statement.line (is_empty at.later) statement.act kind key usage tag fields stands)
