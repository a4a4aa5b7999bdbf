-- The names of a statement of a handler: they are bound, and stand for principals where names alone may stand.
use Rattle.std.proofs.Common.{◌≡◌, ℕ, Bool, true, false, not, List, [], map, inl, inr, refl, sym, subst}
use Rattle.dy_syntax.specs.Names.{Nm, Named, Me, UseText, line_of}
use Rattle.dy_syntax.specs.Labels as text
use Rattle.dy_syntax.specs.Labels.{LabelText}
use Rattle.dy_syntax.specs.Statements as statements
use Rattle.dy_syntax.specs.Statements.{Statement}
use Rattle.dy_syntax.specs.Files.{File}
use Rattle.dy_syntax.specs.Scopes.{Scope, is_among, is_name, is_bound, words_of, handler_names, handler_scope}
use Rattle.dy_syntax.specs.Parts.{Part, Variable, NameOnly, LabelWord, parts_of_act, parts_of_label, parts_of_use}
use Rattle.dy_syntax.specs.Places.{is_empty}
use Rattle.dy_syntax.specs.Rules.{IsIn}
use Rattle.dy_syntax.specs.Rules.Lines.{lines_if}
use Rattle.dy_typing.specs.Knowledge.{Knowledge}
use Rattle.dy_entry.specs.Entries.{Entry}
use Rattle.dy_eval.specs.Names.{Names}
use Rattle.dy_sound.specs.InScope.{IsNamed, LabelIsInScope, UseIsInScope}
use Rattle.dy_sound.specs.Matches.{scope_in}
use Rattle.dy_sound.specs.StatementsAreSound.{bound_after, IsAt}
use Rattle.dy_sound.proofs.NoFaults.{HasNoFault, no_fault}
use Rattle.dy_sound.proofs.StatementParts.{statement_part, IsIn-left, IsIn-right, IsIn-map, IsIn-from}

-- Where no line is named, the test passes.
pub passes_where_no_line : (b : Bool) (line : ℕ) → lines_if (not b) line ≡ [] → b ≡ true
passes_where_no_line true line none = refl
passes_where_no_line false line none = absurd cc

module _ (handler : statements.Handler) (done : List Statement) (names : Names) (words : map (λ w. w.word) names.written ≡ words_of (bound_after handler done)) where
  pub name_in_scope : (name : Nm) → is_name (handler_scope handler (bound_after handler done)) name ≡ true → is_name (scope_in (words_of (handler_names handler)) names) name ≡ true
  name_in_scope (Me line) is = refl
  name_in_scope (Named id) is = is

  bound_in_scope : (name : Nm) → is_bound (handler_scope handler (bound_after handler done)) name ≡ true → is_bound (scope_in (words_of (handler_names handler)) names) name ≡ true
  bound_in_scope (Me line) is = refl
  bound_in_scope (Named id) is = subst (λ (bound : List (List ℕ)). is_among id.word bound ≡ true) (sym words) is

module _ (file : File) (T X : List Entry) (handler : statements.Handler) (done : List Statement) (statement : Statement) (names : Names) (k : Knowledge)
    (at : IsAt file T X handler done statement names k) where
  abbrev pub scope_at : Scope
  scope_at = handler_scope handler (bound_after handler done)

  abbrev pub parts_at : List Part
  parts_at = parts_of_act statement.line (is_empty at.later) statement.act

  -- The parts of the statement keep each rule.
  pub part_keeps : (part : Part) → IsIn part parts_at → HasNoFault file (record { scope = scope_at; part = part })
  part_keeps part h =
      no_fault file at.running.well_formed (record { scope = scope_at; part = part })
      (statement_part file handler at.running.is_declared done at.later statement at.body part h)

  pub variable_is_bound : (name : Nm) → IsIn (Variable name) parts_at → is_bound (scope_in (words_of (handler_names handler)) names) name ≡ true
  variable_is_bound name h =
      let keeps = part_keeps (Variable name) h in
      bound_in_scope handler done names at.running.words name (passes_where_no_line (is_bound scope_at name) (line_of name) keeps.rule_2)

  pub name_is_named : (name : Nm) → IsIn (NameOnly name) parts_at → IsNamed (scope_in (words_of (handler_names handler)) names) name
  name_is_named name h =
      let keeps = part_keeps (NameOnly name) h in
      record {
        stands = name_in_scope handler done names at.running.words name (passes_where_no_line (is_name scope_at name) (line_of name) keeps.rule_6);
        binds = λ in_handler. bound_in_scope handler done names at.running.words name (passes_where_no_line (is_bound scope_at name) (line_of name) keeps.rule_2);
      }

  pub label_in_scope : (label : LabelText) → ((part : Part) → IsIn part (parts_of_label label) → IsIn part parts_at) → LabelIsInScope (scope_in (words_of (handler_names handler)) names) label
  label_in_scope (text.Public line) has = tt
  label_in_scope (text.Nobody line) has = tt
  label_in_scope (text.Session line) has = refl
  label_in_scope (text.Next line) has = refl
  label_in_scope (text.Prior line) has = refl
  label_in_scope (text.Here line) has =
      let keeps = part_keeps (LabelWord (text.Here line)) (has (LabelWord (text.Here line)) (inl refl)) in
      passes_where_no_line false line keeps.rule_7
  label_in_scope (text.One name) has = name_is_named name (has (NameOnly name) (inr (inl refl)))
  label_in_scope (text.Join line left right) has = (
    label_in_scope left (λ part h. has part (IsIn-left part (parts_of_label left) (parts_of_label right) h)),
    label_in_scope right (λ part h. has part (IsIn-right part (parts_of_label left) (parts_of_label right) h)),
  )
  label_in_scope (text.Meet line left right) has = (
    label_in_scope left (λ part h. has part (IsIn-left part (parts_of_label left) (parts_of_label right) h)),
    label_in_scope right (λ part h. has part (IsIn-right part (parts_of_label left) (parts_of_label right) h)),
  )

  pub usage_in_scope : (usage : UseText) → ((part : Part) → IsIn part (parts_of_use usage) → IsIn part parts_at) → UseIsInScope (scope_in (words_of (handler_names handler)) names) usage
  unfolding parts_of_use
  usage_in_scope usage has name stands =
      name_is_named name (has (NameOnly name) (inr (IsIn-map NameOnly name usage.args (IsIn-from name usage.args stands))))

  -- A name in the statement's scope that is bound is named in the instance.
  pub is_named_at : (name : Nm) → is_name scope_at name ≡ true → is_bound (scope_in (words_of (handler_names handler)) names) name ≡ true → IsNamed (scope_in (words_of (handler_names handler)) names) name
  is_named_at name is bound = record { stands = name_in_scope handler done names at.running.words name is; binds = λ in_handler. bound }
