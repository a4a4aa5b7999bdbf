-- What a handler gives for the parameters and fields of a case whose tuple it seals.
use Rattle.std.proofs.Common.{◌≡◌, ℕ, true, List, [], ◌∷◌, map, length, Contains, Option, Some, refl, sym, ap, subst, ◌∙◌}
use Rattle.std.specs.List.{filter_map, cons_option}
use Rattle.std.specs.Str.{bytes_eq}
use Rattle.std.specs.Prelude.{◌&&◌, Bool, false, if◌then◌else◌}
use Rattle.std.proofs.lemmas.Bool.{and_parts}
use Rattle.std.proofs.lemmas.Slice.Eq.{bytes_eq-Decides}
use Rattle.dy_term.specs.Terms as trees
use Rattle.dy_term.specs.Terms.{Term}
use Rattle.dy_label.specs.Words.{Choice}
use Rattle.dy_syntax.specs.Names.{Id, Nm}
use Rattle.dy_syntax.specs.Declarations.{Field, CaseDecl}
use Rattle.dy_syntax.specs.Expressions as e
use Rattle.dy_syntax.specs.Expressions.{Expr}
use Rattle.dy_syntax.specs.Files as files
use Rattle.dy_syntax.specs.Files.{Decl}
use Rattle.dy_syntax.specs.LookUps.{case_named}
use Rattle.dy_syntax.specs.Scopes.{is_name_type}
use Rattle.dy_typing.specs.Names.{Setting, name_number, expr_name, exprs_names}
use Rattle.dy_eval.specs.Names.{Names, bytes_for, principal_in, principal_for}
use Rattle.dy_eval.specs.Values.{value}
use Rattle.dy_sound.specs.Fields.{IsName}
use Rattle.dy_sound.specs.InScope.{IsNamed, AreNamed}
use Rattle.dy_sound.specs.Matches.{scope_in, HandlerMatches, IsPrincipalOf}
use Rattle.dy_sound.specs.Givens.{usage_slots, field_slots, IsGiven, AreGiven}
use Rattle.dy_sound.specs.Sealings.{FillsField, FillFields}
use Rattle.dy_sound.proofs.Lists.{Contains-first, Contains-later}
use Rattle.dy_sound.proofs.WrittenWords.{name_stands}
use Rattle.dy_sound.proofs.FittingFields.{named_bytes}

found_here : (case : CaseDecl) (usage tag : List ℕ) (decls : List Decl) (b : Bool) (found : CaseDecl) → (bytes_eq case.usage.word usage && bytes_eq case.tag.text tag) ≡ b
    → (if b then Some case else case_named decls usage tag) ≡ Some found → (case_named decls usage tag ≡ Some found → found.usage.word ≡ usage) → found.usage.word ≡ usage
found_here case usage tag decls true found is h later =
    let same : case ≡ found = cc in
    ap (λ (c : CaseDecl). c.usage.word) (sym same) ∙ (bytes_eq-Decides case.usage.word usage).0 (and_parts (bytes_eq case.usage.word usage) (bytes_eq case.tag.text tag) is).0
found_here case usage tag decls false found is h later = later h

-- A case that is found for a usage is a case of it.
pub case_of_usage : (decls : List Decl) (usage tag : List ℕ) (case : CaseDecl) → case_named decls usage tag ≡ Some case → case.usage.word ≡ usage
case_of_usage [] usage tag case h = absurd cc
case_of_usage (files.Case other ∷ decls) usage tag case h = found_here other usage tag decls _ case refl h (case_of_usage decls usage tag case)
case_of_usage (files.Usage other ∷ decls) usage tag case h = case_of_usage decls usage tag case h
case_of_usage (files.Event other ∷ decls) usage tag case h = case_of_usage decls usage tag case h
case_of_usage (files.State other ∷ decls) usage tag case h = case_of_usage decls usage tag case h
case_of_usage (files.Handler other ∷ decls) usage tag case h = case_of_usage decls usage tag case h

-- An expression that is a name or a variable has its value.
value_of_name : (names : Names) (expr : Expr) (given : Nm) → expr_name expr ≡ Some given → value names expr ≡ bytes_for names given
value_of_name names (e.Nm name) given is = let same : name ≡ given = cc in ap (bytes_for names) same
value_of_name names expr given is = absurd cc

module _ (setting : Setting) (choice : Choice) (newest : ℕ) (names : Names) (matches : HandlerMatches setting.names newest names choice) where
  pub name_given : (name : Nm) → IsNamed (scope_in setting.names names) name → IsPrincipalOf choice (name_number setting name) (principal_for names name)
  name_given name named = name_stands setting.decls setting.names newest names choice matches name named

  -- The arguments of a usage have the owners that their numbers stand for.
  pub owners_are_given : (params : List Id) (args : List Nm) → length args ≡ length params → AreNamed (scope_in setting.names names) args
      → AreGiven setting choice names (usage_slots params) (map Some args) (map trees.Name (map choice.principals (filter_map (name_number setting) args)))
  owners_are_given [] [] count named = tt
  owners_are_given [] (arg ∷ args) count named = absurd cc
  owners_are_given (param ∷ params) [] count named = absurd cc
  owners_are_given (param ∷ params) (arg ∷ args) count named =
      let own = name_given arg (named arg (Contains-first arg args)) in
      let fewer : length args ≡ length params = cc in
      let rest = owners_are_given params args fewer (λ (other : Nm) (has : Contains args other). named other (Contains-later arg args other has)) in
      let first : IsGiven setting choice names (record { word = param.word; is_name = true }) (Some arg) (trees.Name (choice.principals own.of_name)) = record {
        value_is = λ given is.
            let same : arg ≡ given = cc in
            sym (named_bytes (bytes_for names arg) (choice.principals own.of_name) own.principal_is) ∙ ap (bytes_for names) same;
        name_is = λ is_name. (arg, refl, record { of_name = own.of_name; number_is = own.number_is; principal_is = refl });
      } in
      subst (λ (number : Option ℕ). AreGiven setting choice names (usage_slots (param ∷ params)) (map Some (arg ∷ args))
      (map trees.Name (map choice.principals (cons_option number (filter_map (name_number setting) args)))))
      (sym own.number_is) (first, rest)

  field_given : (field : Field) (expr : Expr) → FillsField (scope_in setting.names names) field expr
      → IsGiven setting choice names (record { word = field.name.word; is_name = is_name_type field.kind }) (expr_name expr) (value names expr)
  field_given field expr fills = record {
    value_is = value_of_name names expr;
    name_is = λ is_name.
        let filled = fills is_name in
        let own = name_given filled.0 filled.2 in (
          filled.0,
          ap expr_name filled.1,
          record {
            of_name = own.of_name;
            number_is = own.number_is;
            principal_is = ap (λ (one : Expr). principal_in (value names one)) filled.1 ∙ own.principal_is;
          },
        );
  }

  -- What fills the fields of a case is given for them.
  pub fields_are_given : (fields : List Field) (exprs : List Expr) → FillFields (scope_in setting.names names) fields exprs
      → AreGiven setting choice names (field_slots fields) (exprs_names exprs) (map (value names) exprs)
  fields_are_given [] [] fill = tt
  fields_are_given [] (expr ∷ exprs) fill = absurd fill
  fields_are_given (field ∷ fields) [] fill = absurd fill
  fields_are_given (field ∷ fields) (expr ∷ exprs) fill = (field_given field expr fill.0, fields_are_given fields exprs fill.1)

  -- What fills a field that takes a name alone is a name.
  pub name_fills : (field : Field) (expr : Expr) → FillsField (scope_in setting.names names) field expr → is_name_type field.kind ≡ true → IsName (value names expr)
  name_fills field expr fills is_name =
      let filled = fills is_name in
      let own = name_given filled.0 filled.2 in
      (choice.principals own.of_name, ap (value names) filled.1 ∙ named_bytes (bytes_for names filled.0) (choice.principals own.of_name) own.principal_is)
