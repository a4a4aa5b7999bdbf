-- What an instance of a typed handler does next keeps what is known of it, and the item that it puts is good.
use Rattle.std.proofs.Common.{◌≡◌, ℕ, zero, suc, ◌+◌, true, List, [], ◌∷◌, ◌++◌, take, length, Contains, Option, Some, None, inl, inr, refl, sym, subst, ◌∙◌, add-one, append_assoc}
use Rattle.std.specs.List.{flat_map}
use Rattle.std.proofs.lemmas.List.Elements.{Contains-append_cases}
use Rattle.dy_label.specs.Words.{Choice}
use Rattle.dy_syntax.specs.Statements as statements
use Rattle.dy_syntax.specs.Statements.{OnPart, Statement}
use Rattle.dy_syntax.specs.Files.{Handler, File}
use Rattle.dy_syntax.specs.Scopes.{words_of, handler_names, pattern_binds, act_binds}
use Rattle.dy_syntax.specs.Rules.{IsWellFormed}
use Rattle.dy_typing.specs.Names.{Setting, setting_of}
use Rattle.dy_typing.specs.Knowledge.{Knowledge}
use Rattle.dy_typing.specs.Demands.{demands_of}
use Rattle.dy_typing.specs.Conditions.{AreMet}
use Rattle.dy_typing.specs.Effects.{bound_first, start_of, after}
use Rattle.dy_typing.specs.Typing.{Reaches, HasDerivation}
use Rattle.dy_entry.specs.Entries.{Entry}
use Rattle.dy_entry.specs.LookUps.{newest}
use Rattle.dy_entry.specs.ValueLabels.{makes_nonce}
use Rattle.dy_eval.specs.declared.written.Written.{Written}
use Rattle.dy_eval.specs.declared.items.Item.{Item}
use Rattle.dy_eval.specs.Doings.{Effect}
use Rattle.dy_eval.specs.Doings as effects
use Rattle.dy_eval.specs.Lines.{Line, kind_in}
use Rattle.dy_eval.specs.Names.{Names, write}
use Rattle.dy_eval.specs.Past.{go_on}
use Rattle.dy_eval.specs.Effects.{effect, effect_of}
use Rattle.dy_eval.specs.Runs.{Left, Next, Puts, Ends, next_by, runs, nonce_due, tell}
use Rattle.dy_traces.specs.Instances.{entry_for}
use Rattle.dy_sound.specs.Valid.{IsValid}
use Rattle.dy_sound.specs.Names.{Agrees}
use Rattle.dy_sound.specs.Instances.{IsGoodSoFar}
use Rattle.dy_sound.specs.Good.{IsGood}
use Rattle.dy_sound.specs.LawsBelow.{LawsBelow}
use Rattle.dy_sound.specs.StatementsAreSound.{IsRunning, IsAt, IsGoodItem, HoldsWritten, HoldsPut, StatementsAreSound}
use Rattle.dy_sound.proofs.Lists.{Contains-none, Contains-cases, in_last}
use Rattle.dy_sound.proofs.LongerValid.{valid_still}
use Rattle.dy_sound.proofs.Weaker.{weaker_holds}
use Rattle.dy_sound.proofs.DerivationsBack.{came_from, known_earlier}
use Rattle.dy_sound.proofs.Opening.{weaker_than_start}
use Rattle.dy_sound.proofs.NamesApart.{plain_binds, act_plain}
use Rattle.dy_sound.proofs.WordsWritten.{IsWrittenBy, by_act, by_on}
use Rattle.dy_sound.proofs.Standing.{StandsBefore, IsLineAfter, bound_before, line_after, stands_after, on_line, stands_after_on}
use Rattle.dy_sound.proofs.AgreeingChoices.{some_choice_agrees}
use Rattle.dy_sound.proofs.MatchesAt.{agrees_before}
use Rattle.dy_sound.proofs.EachStatement.{each_writes, each_puts, due_is_nonce, matched_no_item}

abbrev pub left_at : Names → ℕ → List Line → Left
left_at names number lines = record { names = names; number = number; lines = lines }

module _ (below : LawsBelow) (sound : StatementsAreSound) (file : File) (well_formed : IsWellFormed file) (handler : statements.Handler)
    (stands : Contains file.decls (Handler handler)) (typed : HasDerivation file.decls handler) (T X since : List Entry) (extends : T ≡ X ++ since)
    (good : IsGood file.decls T) (instance : ℕ) where
  abbrev setting : Setting
  setting = setting_of file.decls handler

  abbrev handler_words : List (List ℕ)
  handler_words = words_of (handler_names handler)

  abbrev AgreesWith : Names → Names → Choice → Type 0
  AgreesWith before then choice = Agrees handler_words (newest X before.principal before.session) then choice

  is_running : (number : ℕ) (names : Names) (lines : List Line) → StandsBefore file.decls handler number names lines
      → IsGoodSoFar file.decls T X handler (left_at names number lines) → IsRunning file T X handler (bound_before handler number) names
  is_running number names lines before so_far = record {
    well_formed = well_formed;
    is_declared = stands;
    good = good;
    since = since;
    extends = extends;
    values_are_valid = so_far.values_are_valid;
    words = before.words;
    names_are_principals = before.names_are_principals;
  }

  -- Something is known before a statement of a typed handler, and meets its demands.
  met_before : (done : List Statement) (statement : Statement) (later : List Statement) → handler.body ≡ done ++ statement ∷ later
      → (k : Knowledge) × Reaches file.decls handler done k × AreMet file.decls k (demands_of setting statement.act)
  met_before done statement later body =
      let known = known_earlier below setting (start_of file.decls handler) handler.body typed.0 typed.1 (done ++ statement ∷ []) later
      (body ∙ sym (append_assoc done (statement ∷ []) later)) in
      let from = came_from below setting (start_of file.decls handler) (done ++ statement ∷ []) known.0 known.1 done statement refl in
      (from.before, from.reached, from.are_met)

  module _ (done : ℕ) (names : Names) (line : Line) (more : List Line) (before : StandsBefore file.decls handler (suc done) names (line ∷ more))
      (so_far : IsGoodSoFar file.decls T X handler (left_at names (suc done) (line ∷ more))) (at : IsLineAfter file.decls handler done line more) where
    abbrev earlier_statements : List Statement
    earlier_statements = take done handler.body

    is_at : (k : Knowledge) → Reaches file.decls handler earlier_statements k → AreMet file.decls k (demands_of setting at.statement.act)
        → IsAt file T X handler earlier_statements at.statement names k
    is_at k reached met = record {
      running = is_running (suc done) names (line ∷ more) before so_far;
      later = at.later;
      body = at.body;
      reached = reached;
      are_met = met;
    }

    effect_is : (eff : Effect) → effect X names line ≡ eff → effect_of X names (kind_in file.decls at.statement.act) at.statement.act ≡ eff
    effect_is eff is = subst (λ (l : Line). effect X names l ≡ eff) at.line_is is

    after_writing : (written : List Written) → effect X names line ≡ effects.Writes written
        → IsGoodSoFar file.decls T X handler (left_at (write names written) (suc (suc done)) more)
    after_writing written is =
        let act = at.statement.act in
        let then = write names written in
        let keeps : (k : Knowledge) → Reaches file.decls handler earlier_statements k → AreMet file.decls k (demands_of setting act) → (choice : Choice) → AgreesWith names then choice
        → HoldsWritten file.decls T choice names written (after setting k act) =
        λ k reached met choice agrees. each_writes sound act file T X handler earlier_statements at.statement.line names choice k written
        (is_at k reached met) (effect_is (effects.Writes written) is)
        (record { agrees = agrees; holds = so_far.knowledge_holds k reached choice (agrees_before handler_words _ names written choice agrees) }) in
        record {
          values_are_valid = λ w has. elim (Contains-append_cases names.written written w has) [
            | inl old ↦ so_far.values_are_valid w old
            | inr new ↦
                let known = met_before earlier_statements at.statement at.later at.body in
                let chosen = some_choice_agrees handler_words (newest X names.principal names.session) then in
                (keeps known.0 known.1 known.2 chosen.0 chosen.1).values_are_valid w new
          ];
          knowledge_holds = λ k known choice agrees.
              let from = came_from below setting (start_of file.decls handler) (take (suc done) handler.body) k known earlier_statements at.statement at.one_more in
              weaker_holds below file.decls T choice then (after setting from.before act) k from.no_stronger (keeps from.before from.reached from.are_met choice agrees).holds;
        }

    due_is_valid : (item : Item) (binds : Option (List ℕ)) → effect X names line ≡ effects.Puts item binds
        → (w : Written) → Contains (nonce_due binds (length T)) w
        → IsValid file.decls (T ++ entry_for instance names.principal names.session item ∷ []) w.bytes
    due_is_valid item None is w has = absurd (Contains-none w has)
    due_is_valid item (Some word) is w has =
        let e = entry_for instance names.principal names.session item in
        let nonce = due_is_nonce X names (kind_in file.decls at.statement.act) at.statement.act item word (effect_is _ is) in
        let makes : makes_nonce e ≡ true = subst (λ (i : Item). makes_nonce (entry_for instance names.principal names.session i) ≡ true) (sym nonce.item_is) refl in
        elim (Contains-cases _ [] w has) [
          | inl same ↦ subst (λ (v : Written). IsValid file.decls (T ++ e ∷ []) v.bytes) same (e, in_last T e, makes)
          | inr none ↦ absurd (Contains-none w none)
        ]

    after_putting : (item : Item) (binds : Option (List ℕ)) → effect X names line ≡ effects.Puts item binds
        → IsGoodItem file.decls T T names.principal names.session item
        × IsGoodSoFar file.decls (T ++ entry_for instance names.principal names.session item ∷ []) X handler
        (tell (length T) binds (left_at names (suc (suc done)) more))
    after_putting item binds is =
        let act = at.statement.act in
        let due = nonce_due binds (length T) in
        let then = write names due in
        let e = entry_for instance names.principal names.session item in
        let keeps : (k : Knowledge) → Reaches file.decls handler earlier_statements k → AreMet file.decls k (demands_of setting act) → (choice : Choice) → AgreesWith names then choice
        → HoldsPut file.decls T choice names instance item binds (after setting k act) =
        λ k reached met choice agrees. each_puts sound act file T X handler earlier_statements at.statement.line names choice k instance item binds
        (is_at k reached met) (effect_is (effects.Puts item binds) is)
        (record { agrees = agrees; holds = so_far.knowledge_holds k reached choice (agrees_before handler_words _ names due choice agrees) }) in
        let known = met_before earlier_statements at.statement at.later at.body in
        let chosen = some_choice_agrees handler_words (newest X names.principal names.session) then in (
          (keeps known.0 known.1 known.2 chosen.0 chosen.1).item_is_good,
          record {
            values_are_valid = λ w has. elim (Contains-append_cases names.written due w has) [
              | inl old ↦ valid_still below file.decls T (e ∷ []) w.bytes (so_far.values_are_valid w old)
              | inr new ↦ due_is_valid item binds is w new
            ];
            knowledge_holds = λ k known choice agrees.
                let from = came_from below setting (start_of file.decls handler) (take (suc done) handler.body) k known earlier_statements at.statement at.one_more in
                weaker_holds below file.decls (T ++ e ∷ []) choice then (after setting from.before act) k from.no_stronger (keeps from.before from.reached from.are_met choice agrees).holds;
          },
        )

  after_on : (names : Names) (line : Line) (more : List Line) → StandsBefore file.decls handler 0 names (line ∷ more)
      → IsGoodSoFar file.decls T X handler (left_at names 0 (line ∷ more)) → (on : OnPart) → handler.on ≡ Some on
      → (written : List Written) → go_on X names on ≡ effects.Writes written
      → IsGoodSoFar file.decls T X handler (left_at (write names written) 1 more)
  after_on names line more before so_far on is_on written is =
      let then = write names written in
      let keeps : (choice : Choice) → AgreesWith names then choice → HoldsWritten file.decls T choice names written (start_of file.decls handler) =
      λ choice agrees. sound.of_on file T X handler on names choice written (is_running 0 names (line ∷ more) before so_far) is_on is
      (record { agrees = agrees; holds = so_far.knowledge_holds (bound_first handler) refl choice (agrees_before handler_words _ names written choice agrees) }) in
      record {
        values_are_valid = λ w has. elim (Contains-append_cases names.written written w has) [
          | inl old ↦ so_far.values_are_valid w old
          | inr new ↦ let chosen = some_choice_agrees handler_words (newest X names.principal names.session) then in (keeps chosen.0 chosen.1).values_are_valid w new
        ];
        knowledge_holds = λ k known choice agrees.
            weaker_holds below file.decls T choice then (start_of file.decls handler) k (weaker_than_start below setting (start_of file.decls handler) [] k known refl) (keeps choice agrees).holds;
      }

  -- What an instance puts next is good, and what is known of it then holds in the trace with its entry.
  abbrev pub IsGoodNext : List ℕ → ℕ → Next → Type 0
  IsGoodNext principal session (Puts item binds left) =
      IsGoodItem file.decls T T principal session item
      × IsGoodSoFar file.decls (T ++ entry_for instance principal session item ∷ []) X handler (tell (length T) binds left)
  IsGoodNext principal session (Ends outcome) = Unit {0}

  abbrev GoesOnGood : List Line → Type 0
  GoesOnGood more = (number : ℕ) (names : Names) → StandsBefore file.decls handler number names more
      → IsGoodSoFar file.decls T X handler (left_at names number more) → IsGoodNext names.principal names.session (runs X names number more)

  statement_taken : (done : ℕ) (names : Names) (line : Line) (more : List Line) → StandsBefore file.decls handler (suc done) names (line ∷ more)
      → IsGoodSoFar file.decls T X handler (left_at names (suc done) (line ∷ more)) → IsLineAfter file.decls handler done line more → GoesOnGood more
      → (eff : Effect) → effect X names line ≡ eff
      → IsGoodNext names.principal names.session (next_by eff names (suc done) more (λ then. runs X then (suc done + 1) more))
  statement_taken done names line more before so_far at rest effects.Fails is = tt
  statement_taken done names line more before so_far at rest (effects.Puts item binds) is =
      subst (λ (n : ℕ). IsGoodNext names.principal names.session (Puts item binds (left_at names n more))) (sym (add-one (suc done)))
      (after_putting done names line more before so_far at item binds is)
  statement_taken done names line more before so_far at rest (effects.Writes written) is =
      let act = at.statement.act in
      let by = subst (λ (eff : Effect). IsWrittenBy names (act_binds act) (act_plain act) eff) (effect_is done names line more before so_far at (effects.Writes written) is) (by_act names X (kind_in file.decls act) act) in
      subst (λ (n : ℕ). IsGoodNext names.principal names.session (runs X (write names written) n more)) (sym (add-one (suc done)))
      (rest (suc (suc done)) (write names written) (stands_after file well_formed handler stands done names line more before at written by)
      (after_writing done names line more before so_far at written is))

  on_taken : (names : Names) (line : Line) (more : List Line) → StandsBefore file.decls handler 0 names (line ∷ more)
      → IsGoodSoFar file.decls T X handler (left_at names 0 (line ∷ more)) → (on : OnPart) → handler.on ≡ Some on → GoesOnGood more
      → (eff : Effect) → go_on X names on ≡ eff
      → IsGoodNext names.principal names.session (next_by eff names 0 more (λ then. runs X then 1 more))
  on_taken names line more before so_far on is_on rest effects.Fails is = tt
  on_taken names line more before so_far on is_on rest (effects.Puts item binds) is = absurd (matched_no_item names on.pats _ item binds is)
  on_taken names line more before so_far on is_on rest (effects.Writes written) is =
      let by = subst (λ (eff : Effect). IsWrittenBy names (flat_map pattern_binds on.pats) (flat_map plain_binds on.pats) eff) is (by_on names X on) in
      rest 1 (write names written) (stands_after_on file well_formed handler stands names line more before on is_on written by)
      (after_on names line more before so_far on is_on written is)

  line_taken : (number : ℕ) (names : Names) (line : Line) (more : List Line) → StandsBefore file.decls handler number names (line ∷ more)
      → IsGoodSoFar file.decls T X handler (left_at names number (line ∷ more)) → GoesOnGood more
      → IsGoodNext names.principal names.session (runs X names number (line ∷ more))
  line_taken zero names line more before so_far rest =
      let on = before.on_first refl in
      let is = (on_line file well_formed handler stands names line more before on.0 on.1).0 in
      subst (λ (l : Line). IsGoodNext names.principal names.session (runs X names 0 (l ∷ more))) (sym is)
      (on_taken names line more before so_far on.0 on.1 rest (go_on X names on.0) refl)
  line_taken (suc done) names line more before so_far rest =
      statement_taken done names line more before so_far (line_after file.decls handler done line more before.lines_are) rest (effect X names line) refl

  pub runs_good : (lines : List Line) → GoesOnGood lines
  runs_good [] = λ number names before so_far. tt
  runs_good (line ∷ more) = λ number names before so_far. line_taken number names line more before so_far (runs_good more)
