-- After `use` what is known holds.
use Rattle.std.proofs.Common.{◌≡◌, ℕ, Bool, true, not, List, [], ◌++◌, length, Contains, Option, Some, None, inl, inr, refl, sym, ap, subst, ◌∙◌}
use Rattle.std.specs.List.{slice_get}
use Rattle.std.specs.Option.{option_map_or}
use Rattle.dy_term.specs.Terms.{Term}
use Rattle.dy_syntax.specs.Names.{Id, Nm, line_of}
use Rattle.dy_syntax.specs.Declarations.{StateDecl}
use Rattle.dy_syntax.specs.Statements as statements
use Rattle.dy_syntax.specs.Statements.{Pattern, Equal, Statement}
use Rattle.dy_syntax.specs.Files.{Decl, File}
use Rattle.dy_syntax.specs.LookUps.{state_named}
use Rattle.dy_syntax.specs.Scopes.{Scope, is_bound, handler_scope}
use Rattle.dy_syntax.specs.Parts.{Variable, StateMatched, Recalled, parts_of_pattern}
use Rattle.dy_syntax.specs.Rules.Lines.{lines_if, lines_of_pairs}
use Rattle.dy_syntax.specs.Rules.Lengths.{lines_of_lengths}
use Rattle.dy_syntax.specs.Rules.Names.{lines_of_field_pattern}
use Rattle.dy_typing.specs.Names.{setting_of}
use Rattle.dy_typing.specs.Knowledge.{Knowledge}
use Rattle.dy_typing.specs.Effects.{open_state, match_state}
use Rattle.dy_entry.specs.Entries.{Entry, State}
use Rattle.dy_eval.specs.declared.written.Written.{Written}
use Rattle.dy_eval.specs.Names.{Names, write}
use Rattle.dy_eval.specs.Patterns.{written_by}
use Rattle.dy_sound.specs.Good.{IsGood, IsGoodState}
use Rattle.dy_sound.specs.StatementsAreSound.{bound_after, IsAt, Knows, HoldsWritten, WritesSoundly}
use Rattle.dy_sound.proofs.Lists.{in_longer}
use Rattle.dy_sound.proofs.Tuples.{SameAreEqual}
use Rattle.dy_sound.proofs.DeclaredScopes.{state_is_declared}
use Rattle.dy_sound.proofs.CasesAt.{as_long_where_no_line, rule_of_found}
use Rattle.dy_sound.proofs.StatementParts.{IsIn-from, IsIn-flat_map}
use Rattle.dy_sound.proofs.NamesAt.{passes_where_no_line, part_keeps}
use Rattle.dy_sound.proofs.PatternsAt.{AreMatchedIn, statement_patterns}
use Rattle.dy_sound.proofs.StatesFound.{StateFound, recalled_state}
use Rattle.dy_sound.proofs.StatesOpened.{open_state_holds}

-- A state that stands before an instance's Start is good.
pub good_state_at : (decls : List Decl) (T X since : List Entry) → IsGood decls T → T ≡ X ++ since → (index instance : ℕ) (principal : List ℕ) (session version : ℕ) (tag : List ℕ) (fields : List Term)
    → slice_get X index ≡ Some (State instance principal session version tag fields) → IsGoodState decls T principal session version tag fields
good_state_at decls T X since good extends index instance principal session version tag fields at =
    good.states index instance principal session version tag fields
    (ap (λ (trace : List Entry). slice_get trace index) extends ∙ in_longer X since index (State instance principal session version tag fields) at)

-- A state that is lasting is not one that is not.
not_lasting : (lasting : Bool) → lasting ≡ true → not lasting ≡ true → ⊥
not_lasting lasting is other = let none : not true ≡ true = sym (ap not is) ∙ other in cc

module _ (file : File) (T X : List Entry) (handler : statements.Handler) (done : List Statement) (line : ℕ) (state : Id) (pats : List Pattern) (names : Names) (k : Knowledge)
    (at : IsAt file T X handler done (record { line = line; act = statements.Recall state pats }) names k) where
  abbrev statement : Statement
  statement = record { line = line; act = statements.Recall state pats }

  abbrev scope_here : Scope
  scope_here = handler_scope handler (bound_after handler done)

  compared_is_bound : (other : ℕ) (to : Nm) → Contains pats (Equal other to) → is_bound scope_here to ≡ true
  compared_is_bound other to has =
      passes_where_no_line (is_bound scope_here to) (line_of to)
      (part_keeps file T X handler done statement names k at (Variable to)
      (inr (inr (IsIn-flat_map parts_of_pattern (Equal other to) (Variable to) pats (IsIn-from (Equal other to) pats has) (inl refl))))).rule_2

  patterns_matched : AreMatchedIn handler (bound_after handler done) pats
  patterns_matched = statement_patterns file T X handler done at.later statement names at.running at.body compared_is_bound

  module _ (s : StateDecl) (is : state_named file.decls state.word ≡ Some s) where
    counts : length pats ≡ length s.fields
    counts =
        let keeps = part_keeps file T X handler done statement names k at (StateMatched state pats) (inr (inl refl)) in
        sym (as_long_where_no_line s.fields pats state.line
        (rule_of_found (λ (one : StateDecl). lines_of_lengths one.fields pats state.line) (state_named file.decls state.word) s is keeps.rule_3))

    rule : lines_of_pairs (lines_of_field_pattern scope_here) s.fields pats ≡ []
    rule =
        let keeps = part_keeps file T X handler done statement names k at (StateMatched state pats) (inr (inl refl)) in
        rule_of_found (λ (one : StateDecl). lines_of_pairs (lines_of_field_pattern scope_here) one.fields pats) (state_named file.decls state.word) s is keeps.rule_6

    lasts : s.lasting ≡ true
    lasts =
        let keeps = part_keeps file T X handler done statement names k at (Recalled line state) (inl refl) in
        passes_where_no_line s.lasting line
        (rule_of_found (λ (one : StateDecl). lines_if (not one.lasting) line) (state_named file.decls state.word) s is keeps.rule_9)

pub recall_is_sound : SameAreEqual → (state : Id) (pats : List Pattern) → WritesSoundly (statements.Recall state pats)
recall_is_sound equal state pats file T X handler done line names choice k more at effect knows =
    let decls = file.decls in
    let of = recalled_state X names pats more state.word effect in
    let session = of.0 in
    let version = of.1 in
    let found : StateFound X names state.word pats session version more = of.2 in
    let good : IsGoodState decls T names.principal session version state.word found.fields =
    good_state_at decls T X at.running.since at.running.good at.running.extends found.index found.instance names.principal session version state.word found.fields found.stands in
    let lasting = lasts file T X handler done line state pats names k at good.state good.is_declared in
    let knows_then : Knows decls T X handler choice names (write names (written_by pats found.fields)) k =
    subst (λ (ws : List Written). Knows decls T X handler choice names (write names ws) k) (sym found.more_is) knows in
    let opened = open_state_holds equal file T X handler (bound_after handler done) names at.running pats found.fields found.fit
    (patterns_matched file T X handler done line state pats names k at) session version state.word good (state_is_declared decls state.word good.state good.is_declared)
    None choice k knows_then
    (λ has. absurd (not_lasting good.state.lasting lasting has)) (λ has. absurd (not_lasting good.state.lasting lasting has))
    (counts file T X handler done line state pats names k at good.state good.is_declared)
    (rule file T X handler done line state pats names k at good.state good.is_declared) in
    subst (λ (ws : List Written). HoldsWritten decls T choice names ws (match_state (setting_of decls handler) k None state.word pats)) found.more_is
    (subst (λ (declared : Option StateDecl). HoldsWritten decls T choice names (written_by pats found.fields) (option_map_or (open_state (setting_of decls handler) k None pats) declared k))
    (sym good.is_declared) opened)
