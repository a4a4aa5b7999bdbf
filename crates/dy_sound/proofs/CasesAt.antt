-- The case that a statement of a well-formed file opens: it is declared, has as many fields, and its words match.
use Rattle.std.proofs.Common.{◌≡◌, ℕ, Bool, true, false, not, List, [], ◌∷◌, map, length, Contains, Option, Some, None, inl, inr, refl, sym, ap, subst, ◌∙◌}
use Rattle.std.specs.Prelude.{◌==◌}
use Rattle.std.specs.Option.{option_map_or}
use Rattle.std.specs.List.{flat_map}
use Rattle.std.proofs.lemmas.Bool.{eqb-true}
use Rattle.std.proofs.lemmas.List.{map-append}
use Rattle.dy_term.specs.Terms.{Term}
use Rattle.dy_label.specs.Words.{Choice}
use Rattle.dy_syntax.specs.Names as syntax
use Rattle.dy_syntax.specs.Names.{Id, Quote, Nm, Me, KindText, Sig, Mac, UseText, AtomText}
use Rattle.dy_syntax.specs.Declarations as types
use Rattle.dy_syntax.specs.Declarations.{Field, FieldType, CaseDecl, UsageDecl}
use Rattle.dy_syntax.specs.Statements as statements
use Rattle.dy_syntax.specs.Statements.{Pattern, Equal, Act, Statement}
use Rattle.dy_syntax.specs.Files.{File}
use Rattle.dy_syntax.specs.LookUps.{case_named, usage_named}
use Rattle.dy_syntax.specs.Scopes.{words_of, is_among, is_bound, handler_scope, handler_names, act_pats, params_named}
use Rattle.dy_syntax.specs.Parts.{Part, Variable, NameOnly, Used, OfKind, Matched, OfCase, parts_of_use, parts_of_key, parts_of_pattern, parts_of_opening}
use Rattle.dy_syntax.specs.Rules.{IsIn}
use Rattle.dy_syntax.specs.Rules.Lines.{lines_if, lines_if_none, lines_of_pairs}
use Rattle.dy_syntax.specs.Rules.Lengths.{lines_of_lengths}
use Rattle.dy_syntax.specs.Rules.Kinds.{is_kind, is_hidden_type, shows_fields, lines_of_hidden_fields}
use Rattle.dy_syntax.specs.Rules.Names.{lines_of_field_pattern}
use Rattle.dy_typing.specs.Names.{Stands, setting_of, name_number, stands_number, patterns_names}
use Rattle.dy_typing.specs.Knowledge.{Knowledge}
use Rattle.dy_typing.specs.Instances.{use_in, type_in}
use Rattle.dy_entry.specs.Entries.{Entry}
use Rattle.dy_entry.specs.LookUps.{newest}
use Rattle.dy_eval.specs.declared.written.Written.{Written}
use Rattle.dy_eval.specs.Names.{Names, write}
use Rattle.dy_eval.specs.Patterns.{fits, written_by, fields_in}
use Rattle.dy_sound.specs.Names.{Agrees}
use Rattle.dy_sound.specs.Knowledge.{usage_chosen}
use Rattle.dy_sound.specs.InScope.{IsNamed, AreNamed}
use Rattle.dy_sound.specs.Matches.{words_written, scope_in}
use Rattle.dy_sound.specs.StatementsAreSound.{bound_after, IsAt}
use Rattle.dy_sound.proofs.Lists.{Contains-cases, Contains-none}
use Rattle.dy_sound.proofs.StatementParts.{IsIn-left, IsIn-right, IsIn-map, IsIn-from, IsIn-flat_map}
use Rattle.dy_sound.proofs.NamesAt.{passes_where_no_line, parts_at, scope_at, part_keeps, name_is_named}
use Rattle.dy_sound.proofs.DeclaredScopes.{case_is_declared, case_keeps, case_words_distinct, case_type_in_scope, case_atom_in_scope}
use Rattle.dy_sound.proofs.DeclarationWords.{case_matches}
use Rattle.dy_sound.proofs.SealedFields.{case_of_usage, owners_are_given}
use Rattle.dy_sound.proofs.Tuples.{SameAreEqual}
use Rattle.dy_sound.proofs.TypesHold.{ClaimsNoUse}
use Rattle.dy_sound.proofs.GivenPatterns.{patterns_give}
use Rattle.dy_sound.proofs.PatternsAt.{among_more, AreMatchedIn, statement_patterns, matches_then, are_written, are_placed}
use Rattle.dy_sound.proofs.Openings.{IsOpened}
use Rattle.dy_sound.proofs.Verified.{ClaimNoUses}

-- Where no line is named, there is something.
pub found_where_no_line : {A : Type 0} (x : Option A) (line : ℕ) → lines_if_none x line ≡ [] → (y : A) × (x ≡ Some y)
found_where_no_line None line none = absurd cc
found_where_no_line (Some y) line none = (y, refl)

-- Where no line is named, the two lists are as long.
pub as_long_where_no_line : {A B : Type 0} (declared : List A) (given : List B) (line : ℕ) → lines_of_lengths declared given line ≡ [] → length declared ≡ length given
as_long_where_no_line declared given line none = eqb-true (length declared) (length given) (passes_where_no_line (length declared == length given) line none)

-- what no line is named of, where there is something
pub rule_of_found : {A : Type 0} (rule : A → List ℕ) (x : Option A) (y : A) → x ≡ Some y → option_map_or rule x [] ≡ [] → rule y ≡ []
rule_of_found rule x y is none = sym (ap (λ (o : Option _). option_map_or rule o []) is) ∙ none

-- A name of a handler stays one when more is written.
pub named_still : (handler_words : List (List ℕ)) (names : Names) (more : List Written) (name : Nm) → IsNamed (scope_in handler_words names) name
    → IsNamed (scope_in handler_words (write names more)) name
named_still handler_words names more (Me line) named = record { stands = refl; binds = λ inside. refl }
named_still handler_words names more (syntax.Named id) named = record {
  stands = named.stands;
  binds = λ inside.
      subst (λ (words : List (List ℕ)). is_among id.word words ≡ true) (sym (map-append (λ (w : Written). w.word) names.written more))
      (among_more id.word (words_written names) (map (λ (w : Written). w.word) more) (named.binds inside));
}

-- a field that may be read has no type whose key has a usage
shown_type : (type : FieldType) (number : Nm → Option ℕ) → is_hidden_type type ≡ false → ClaimsNoUse (type_in number None type)
shown_type types.Name number shown = tt
shown_type types.Any number shown = tt
shown_type (types.Upto label) number shown = absurd cc
shown_type (types.Secret label) number shown = absurd cc
shown_type (types.Key label usage) number shown = absurd cc
shown_type (types.Pk label usage) number shown = tt
shown_type (types.Vk label usage) number shown = tt

all_shown_types : (fields : List Field) → lines_of_hidden_fields true fields ≡ [] → (field : Field) → Contains fields field → is_hidden_type field.kind ≡ false
all_shown_types [] none field within = absurd (Contains-none field within)
all_shown_types (first ∷ fields) none field within = by_test (is_hidden_type first.kind) refl (all_shown_types fields) where
  by_test : (b : Bool) → is_hidden_type first.kind ≡ b
      → (lines_of_hidden_fields true fields ≡ [] → (other : Field) → Contains fields other → is_hidden_type other.kind ≡ false) → is_hidden_type field.kind ≡ false
  by_test true is rest = absurd (let hidden = rw is at none in cc)
  by_test false is rest = elim (Contains-cases first fields field within) [
    | inl same ↦ subst (λ (f : Field). is_hidden_type f.kind ≡ false) same is
    | inr later ↦ rest (rw is at none) field later
  ]

module _ (file : File) (T X : List Entry) (handler : statements.Handler) (done : List Statement) (statement : Statement) (names : Names) (k : Knowledge)
    (at : IsAt file T X handler done statement names k) where
  -- The arguments of a usage that is written in the statement are as many as its parameters, and are the handler's names.
  module _ (kind : KindText) (usage : UseText) (has : (part : Part) → IsIn part (parts_of_key kind usage) → IsIn part (parts_at file T X handler done statement names k at)) where
    usage_part : (part : Part) → IsIn part (parts_of_use usage) → IsIn part (parts_at file T X handler done statement names k at)
    unfolding parts_of_key
    usage_part part h = has part (inr h)

    pub owners_are_named : AreNamed (scope_in (words_of (handler_names handler)) names) usage.args
    unfolding parts_of_use
    owners_are_named name stands =
        name_is_named file T X handler done statement names k at name
        (usage_part (NameOnly name) (inr (IsIn-map NameOnly name usage.args (IsIn-from name usage.args stands))))

    used_here : IsIn (Used usage) (parts_at file T X handler done statement names k at)
    unfolding parts_of_use
    used_here = usage_part (Used usage) (inl refl)

    kind_here : IsIn (OfKind kind usage.usage) (parts_at file T X handler done statement names k at)
    unfolding parts_of_key
    kind_here = has (OfKind kind usage.usage) (inl refl)

    pub usage_here : (declared : UsageDecl) × (usage_named file.decls usage.usage.word ≡ Some declared)
    usage_here = found_where_no_line (usage_named file.decls usage.usage.word) usage.usage.line (part_keeps file T X handler done statement names k at (Used usage) used_here).rule_2

    pub owners_count : length usage.args ≡ length (params_named file.decls usage.usage.word)
    owners_count =
        let found = usage_here in
        let same = as_long_where_no_line found.0.params usage.args usage.usage.line
        (rule_of_found (λ (declared : UsageDecl). lines_of_lengths declared.params usage.args usage.usage.line) (usage_named file.decls usage.usage.word) found.0 found.1
        (part_keeps file T X handler done statement names k at (Used usage) used_here).rule_3) in
        sym same ∙ sym (ap (λ (u : Option UsageDecl). length (option_map_or (λ (declared : UsageDecl). declared.params) u [])) found.1)

    kind_is : is_kind kind usage_here.0.kind ≡ true
    kind_is =
        passes_where_no_line (is_kind kind usage_here.0.kind) usage.usage.line
        (rule_of_found (λ (declared : UsageDecl). lines_if (not (is_kind kind declared.kind)) usage.usage.line) (usage_named file.decls usage.usage.word) usage_here.0 usage_here.1
        (part_keeps file T X handler done statement names k at (OfKind kind usage.usage) kind_here).rule_4)

    -- Where what is signed or tagged may be read, no usage is claimed of a field.
    pub claims_no_uses : (case : CaseDecl) (tag : List ℕ) → case_named file.decls usage.usage.word tag ≡ Some case
        → (is_kind kind usage_here.0.kind ≡ true → shows_fields usage_here.0.kind ≡ true) → (stands : Stands) → ClaimNoUses (setting_of file.decls handler) stands case
    claims_no_uses case tag declared shows stands field within =
        let word_is = case_of_usage file.decls usage.usage.word tag case declared in
        let usage_is : usage_named file.decls case.usage.word ≡ Some usage_here.0 = ap (usage_named file.decls) word_is ∙ usage_here.1 in
        let rule = (case_keeps file at.running.well_formed case (case_is_declared file.decls usage.usage.word tag case declared) (OfCase case) (inl refl)).rule_8 in
        let lines : lines_of_hidden_fields (shows_fields usage_here.0.kind) case.fields ≡ [] =
        rule_of_found (λ (u : UsageDecl). lines_of_hidden_fields (shows_fields u.kind) case.fields) (usage_named file.decls case.usage.word) usage_here.0 usage_is rule in
        let none : lines_of_hidden_fields true case.fields ≡ [] = subst (λ (b : Bool). lines_of_hidden_fields b case.fields ≡ []) (shows kind_is) lines in
        shown_type field.kind (stands_number (setting_of file.decls handler) stands) (all_shown_types case.fields none field within)

  abbrev pats : List Pattern
  pats = act_pats statement.act

  -- The patterns of the statement are matched in the handler.
  pub patterns_at : ((part : Part) → IsIn part (flat_map parts_of_pattern pats) → IsIn part (parts_at file T X handler done statement names k at)) → AreMatchedIn handler (bound_after handler done) pats
  patterns_at has =
      statement_patterns file T X handler done at.later statement names at.running at.body
      (λ line to within.
      let here = has (Variable to) (IsIn-flat_map parts_of_pattern (Equal line to) (Variable to) pats (IsIn-from (Equal line to) pats within) (inl refl)) in
      passes_where_no_line (is_bound (scope_at file T X handler done statement names k at) to) (syntax.line_of to) (part_keeps file T X handler done statement names k at (Variable to) here).rule_2)

  -- What the statement opens is a case that matches.
  module _ (equal : SameAreEqual) (choice : Choice) (kind : KindText) (value key : Id) (usage : UseText) (tag : Quote) (message : Term) (fields : List Term)
      (fields_are : fields_in tag.text (length pats) message ≡ Some fields) (fit : fits names pats fields ≡ true)
      (agrees : Agrees (words_of (handler_names handler)) (newest X names.principal names.session) (write names (written_by pats fields)) choice)
      (has : (part : Part) → IsIn part (parts_of_opening kind value key usage tag pats) → IsIn part (parts_at file T X handler done statement names k at)) where
    matched_part : IsIn (Matched usage.usage tag pats) (parts_at file T X handler done statement names k at)
    unfolding parts_of_opening
    matched_part = has (Matched usage.usage tag pats) (inr (inr (inl refl)))

    pub key_part : (part : Part) → IsIn part (parts_of_key kind usage) → IsIn part (parts_at file T X handler done statement names k at)
    unfolding parts_of_opening
    key_part part h = has part (inr (inr (inr (IsIn-left part (parts_of_key kind usage) (flat_map parts_of_pattern pats) h))))

    pattern_part : (part : Part) → IsIn part (flat_map parts_of_pattern pats) → IsIn part (parts_at file T X handler done statement names k at)
    unfolding parts_of_opening
    pattern_part part h = has part (inr (inr (inr (IsIn-right part (parts_of_key kind usage) (flat_map parts_of_pattern pats) h))))

    case_here : (case : CaseDecl) × (case_named file.decls usage.usage.word tag.text ≡ Some case)
    case_here = found_where_no_line (case_named file.decls usage.usage.word tag.text) tag.line (part_keeps file T X handler done statement names k at (Matched usage.usage tag pats) matched_part).rule_2

    as_many : length pats ≡ length case_here.0.fields
    as_many =
        sym (as_long_where_no_line case_here.0.fields pats tag.line
        (rule_of_found (λ (declared : CaseDecl). lines_of_lengths declared.fields pats tag.line) (case_named file.decls usage.usage.word tag.text) case_here.0 case_here.1
        (part_keeps file T X handler done statement names k at (Matched usage.usage tag pats) matched_part).rule_3))

    pub is_opened : IsOpened (setting_of file.decls handler) T choice names usage tag.text pats message fields
    is_opened =
        let setting = setting_of file.decls handler in
        let case = case_here.0 in
        let matched = patterns_at pattern_part in
        let handler_then = matches_then file T X handler (bound_after handler done) names at.running pats fields fit matched choice agrees in
        let placed = are_placed file T X handler (bound_after handler done) names at.running pats fields fit matched equal choice handler_then in
        let declared = case_is_declared file.decls usage.usage.word tag.text case case_here.1 in
        let word_is = case_of_usage file.decls usage.usage.word tag.text case case_here.1 in
        let count : length usage.args ≡ length (params_named file.decls case.usage.word) =
        subst (λ (u : List ℕ). length usage.args ≡ length (params_named file.decls u)) (sym word_is) (owners_count kind usage key_part) in
        let rule = rule_of_found (λ (c : CaseDecl). lines_of_pairs (lines_of_field_pattern (scope_at file T X handler done statement names k at)) c.fields pats)
        (case_named file.decls usage.usage.word tag.text) case case_here.1 (part_keeps file T X handler done statement names k at (Matched usage.usage tag pats) matched_part).rule_6 in
        record {
          case = case;
          is_declared = case_here.1;
          as_many = as_many;
          fields_are = fields_are;
          are_written = are_written file T X handler (bound_after handler done) names at.running pats fields fit matched;
          fit = fit;
          matches =
              case_matches setting choice (write names (written_by pats fields)) case usage.args
              (usage_chosen setting.decls choice (use_in (name_number setting) usage)).owners (patterns_names pats) fields
              (case_words_distinct file at.running.well_formed case declared)
              (owners_are_given setting choice (newest X names.principal names.session) (write names (written_by pats fields)) handler_then (params_named file.decls case.usage.word) usage.args count
              (λ name stands. named_still setting.names names (written_by pats fields) name (owners_are_named kind usage key_part name stands)))
              (patterns_give equal setting choice (newest X names.principal names.session) names (write names (written_by pats fields)) handler_then
              (handler_scope handler (bound_after handler done)) case.fields pats fields as_many placed rule fit);
          types_are_in_scope = case_type_in_scope file at.running.well_formed case declared;
          atoms_are_in_scope = case_atom_in_scope file at.running.well_formed case declared;
        }
