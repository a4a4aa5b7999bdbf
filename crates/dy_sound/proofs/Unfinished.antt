-- How each unfinished instance stands: by a fold over the indices of its items.
use Rattle.std.proofs.Common.{◌≡◌, ℕ, zero, suc, ◌+◌, List, [], ◌∷◌, ◌++◌, length, map, fold, Contains, Option, Some, None, inr, refl, sym, ap, subst, ◌∙◌, add-one, arith, if◌then◌else◌}
use Rattle.std.specs.Option.{option_and_then, option_to_list, is_some}
use Rattle.std.specs.List.{flat_map}
use Rattle.std.proofs.lemmas.List.{append-nil}
use Rattle.dy_term.specs.Terms as trees
use Rattle.dy_term.specs.Terms.{Term}
use Rattle.dy_syntax.specs.Names.{Id}
use Rattle.dy_syntax.specs.Statements as statements
use Rattle.dy_syntax.specs.Statements.{OnPart}
use Rattle.dy_syntax.specs.Files.{Handler, File}
use Rattle.dy_syntax.specs.Scopes.{words_of, bound_first, on_pats, pattern_binds, act_binds}
use Rattle.dy_syntax.specs.Rules.{IsWellFormed}
use Rattle.dy_entry.specs.Entries.{Entry}
use Rattle.dy_eval.specs.Doings.{Effect}
use Rattle.dy_eval.specs.Doings as effects
use Rattle.dy_eval.specs.Lines.{Line, GoesOn, first_number, kind_in}
use Rattle.dy_eval.specs.Names.{Names, write}
use Rattle.dy_eval.specs.Past.{go_on}
use Rattle.dy_eval.specs.Effects.{effect_of}
use Rattle.dy_eval.specs.Runs.{Left, Next, Puts, Ends, next_by, runs, next_of, nonce_due, tell}
use Rattle.dy_eval.specs.Starts.{names_written, message_written, opening}
use Rattle.dy_traces.specs.Following.{message_at, MayReceive}
use Rattle.dy_sound.specs.Instances.{left_told, with_item_at, left_after}
use Rattle.dy_sound.specs.StatementsAreSound.{NamesArePrincipals}
use Rattle.dy_sound.proofs.Lists.{Contains-none}
use Rattle.dy_sound.proofs.NamesApart.{plain_binds, act_plain}
use Rattle.dy_sound.proofs.WordsWritten.{IsWrittenFor, IsWrittenBy, nothing_written, one_written, plain_written, written_both, by_act, by_on}
use Rattle.dy_sound.proofs.Standing.{StandsBefore, IsLineAfter, lines_in, line_after, stands_after, on_line, stands_after_on, principals_still, plain_of_received}
use Rattle.dy_sound.proofs.EachStatement.{matched_no_item}

-- This is left of an instance of this principal and session, and it stands before a line of its handler.
pub record IsLeftOf (file : File) (handler : statements.Handler) (principal : List ℕ) (session : ℕ) (left : Left) : Type 0 where
  pub stands : StandsBefore file.decls handler left.number left.names left.lines
  pub principal_is : left.names.principal ≡ principal
  pub session_is : left.names.session ≡ session

module _ (file : File) (well_formed : IsWellFormed file) (handler : statements.Handler) (stands : Contains file.decls (Handler handler)) (X : List Entry) where
  module _ (principal : List ℕ) (session : ℕ) where
    -- What is left after the next item stands before a line again.
    abbrev IsLeftNext : Next → Type 0
    IsLeftNext (Puts item binds left) = (index : ℕ) → IsLeftOf file handler principal session (tell index binds left)
    IsLeftNext (Ends outcome) = Unit {0}

    abbrev GoesOnStanding : List Line → Type 0
    GoesOnStanding more = (number : ℕ) (names : Names) → StandsBefore file.decls handler number names more
        → names.principal ≡ principal → names.session ≡ session → IsLeftNext (runs X names number more)

    statement_taken : (done : ℕ) (names : Names) (line : Line) (more : List Line) → StandsBefore file.decls handler (suc done) names (line ∷ more)
        → names.principal ≡ principal → names.session ≡ session
        → (at : IsLineAfter file.decls handler done line more) → GoesOnStanding more
        → (eff : Effect) → effect_of X names (kind_in file.decls at.statement.act) at.statement.act ≡ eff
        → IsLeftNext (next_by eff names (suc done) more (λ now. runs X now (suc done + 1) more))
    statement_taken done names line more before own_principal own_session at rest effects.Fails is = tt
    statement_taken done names line more before own_principal own_session at rest (effects.Puts item binds) is = λ index.
        let act = at.statement.act in
        let by = subst (λ (eff : Effect). IsWrittenBy names (act_binds act) (act_plain act) eff) is (by_act names X (kind_in file.decls act) act) in
        record {
          stands = subst (λ (n : ℕ). StandsBefore file.decls handler n (write names (nonce_due binds index)) more) (sym (add-one (suc done)))
              (stands_after file well_formed handler stands done names line more before at (nonce_due binds index) (by index));
          principal_is = own_principal;
          session_is = own_session;
        }
    statement_taken done names line more before own_principal own_session at rest (effects.Writes written) is =
        let act = at.statement.act in
        let by = subst (λ (eff : Effect). IsWrittenBy names (act_binds act) (act_plain act) eff) is (by_act names X (kind_in file.decls act) act) in
        subst (λ (n : ℕ). IsLeftNext (runs X (write names written) n more)) (sym (add-one (suc done)))
        (rest (suc (suc done)) (write names written) (stands_after file well_formed handler stands done names line more before at written by) own_principal own_session)

    on_taken : (names : Names) (line : Line) (more : List Line) → StandsBefore file.decls handler 0 names (line ∷ more)
        → names.principal ≡ principal → names.session ≡ session → (on : OnPart) → handler.on ≡ Some on → GoesOnStanding more
        → (eff : Effect) → go_on X names on ≡ eff → IsLeftNext (next_by eff names 0 more (λ now. runs X now 1 more))
    on_taken names line more before own_principal own_session on is_on rest effects.Fails is = tt
    on_taken names line more before own_principal own_session on is_on rest (effects.Puts item binds) is = absurd (matched_no_item names on.pats _ item binds is)
    on_taken names line more before own_principal own_session on is_on rest (effects.Writes written) is =
        let by = subst (λ (eff : Effect). IsWrittenBy names (flat_map pattern_binds on.pats) (flat_map plain_binds on.pats) eff) is (by_on names X on) in
        rest 1 (write names written) (stands_after_on file well_formed handler stands names line more before on is_on written by) own_principal own_session

    line_taken : (number : ℕ) (names : Names) (line : Line) (more : List Line) → StandsBefore file.decls handler number names (line ∷ more)
        → names.principal ≡ principal → names.session ≡ session → GoesOnStanding more → IsLeftNext (runs X names number (line ∷ more))
    line_taken zero names line more before own_principal own_session rest =
        let on = before.on_first refl in
        let is = (on_line file well_formed handler stands names line more before on.0 on.1).0 in
        subst (λ (l : Line). IsLeftNext (runs X names 0 (l ∷ more))) (sym is)
        (on_taken names line more before own_principal own_session on.0 on.1 rest (go_on X names on.0) refl)
    line_taken (suc done) names line more before own_principal own_session rest =
        let at = line_after file.decls handler done line more before.lines_are in
        subst (λ (l : Line). IsLeftNext (runs X names (suc done) (l ∷ more))) (sym at.line_is)
        (statement_taken done names line more before own_principal own_session at rest _ refl)

    runs_standing : (lines : List Line) → GoesOnStanding lines
    runs_standing [] = λ number names before own_principal own_session. tt
    runs_standing (line ∷ more) = λ number names before own_principal own_session. line_taken number names line more before own_principal own_session (runs_standing more)

    next_standing : (left : Left) → IsLeftOf file handler principal session left → IsLeftNext (next_of X left)
    next_standing left is = runs_standing left.lines left.number left.names is.stands is.principal_is is.session_is

    abbrev IsLeftIfAny : Option Left → Type 0
    IsLeftIfAny None = Unit {0}
    IsLeftIfAny (Some left) = IsLeftOf file handler principal session left

    told_standing : (next : Next) (index : ℕ) → IsLeftNext next → IsLeftIfAny (left_told index next)
    told_standing (Puts item binds left) index is = is index
    told_standing (Ends outcome) index is = tt

    item_standing : (left : Option Left) (index : ℕ) → IsLeftIfAny left → IsLeftIfAny (with_item_at X left index)
    item_standing None index is = tt
    item_standing (Some left) index is = told_standing (next_of X left) index (next_standing left is)

    items_standing : (left : Option Left) (indices : List ℕ) → IsLeftIfAny left → IsLeftIfAny (fold (with_item_at X) left indices)
    items_standing left [] is = is
    items_standing left (index ∷ more) is = items_standing (with_item_at X left index) more (item_standing left index is)

    pub left_standing : (start left : Left) (indices : List ℕ) → IsLeftOf file handler principal session start → left_after X start indices ≡ Some left
        → IsLeftOf file handler principal session left
    left_standing start left indices is after = subst IsLeftIfAny after (items_standing (Some start) indices is)

module _ (file : File) (well_formed : IsWellFormed file) (handler : statements.Handler) (stands : Contains file.decls (Handler handler)) where
  names_are_written : (ids : List Id) (names : List (List ℕ)) → length names ≡ length ids → IsWrittenFor ids [] (names_written ids names)
  names_are_written [] [] same = nothing_written
  names_are_written [] (name ∷ names) same = absurd (omega (arith, same))
  names_are_written (id ∷ ids) [] same = absurd (omega (arith, same))
  names_are_written (id ∷ ids) (name ∷ names) same =
      written_both (id ∷ []) [] (record { word = id.word; bytes = trees.Name name } ∷ []) ids [] (names_written ids names)
      (one_written id [] (trees.Name name) (inr (name, refl))) (names_are_written ids names (omega (arith, same)))

  message_is_written : (X : List Entry) (received : Option Id) (message : Option ℕ) → MayReceive X received message
      → IsWrittenFor (option_to_list received) (option_to_list received) (message_written received (option_and_then (message_at X) message))
  message_is_written X None None fits = nothing_written
  message_is_written X None (Some index) fits = absurd fits
  message_is_written X (Some word) None fits = absurd fits
  message_is_written X (Some word) (Some index) fits =
      subst (λ (m : Option Term). IsWrittenFor (word ∷ []) (word ∷ []) (message_written (Some word) m)) (sym fits.1) (plain_written word fits.0)

  module _ (X : List Entry) (principal : List ℕ) (session : ℕ) (args : List (List ℕ)) (message : Option ℕ)
      (count : length args ≡ length handler.args) (fits : MayReceive X handler.recv message) where
    abbrev start : Left
    start = opening file.decls handler principal session args (option_and_then (message_at X) message)

    is_written : IsWrittenFor (bound_first handler) (option_to_list handler.recv) start.names.written
    is_written =
        written_both handler.args [] (names_written handler.args args) (option_to_list handler.recv) (option_to_list handler.recv)
        (message_written handler.recv (option_and_then (message_at X) message))
        (names_are_written handler.args args count) (message_is_written X handler.recv message fits)

    principals : NamesArePrincipals handler start.names
    principals =
        principals_still file well_formed handler stands (record { principal = principal; session = session; written = [] })
        (bound_first handler) (option_to_list handler.recv) start.names.written (plain_of_received file well_formed handler stands)
        (λ written none named. absurd (Contains-none written none)) is_written

    abbrev IsAtNumber : ℕ → Type 0
    IsAtNumber number = StandsBefore file.decls handler number start.names start.lines

    by_on_part : (on : Option OnPart) → handler.on ≡ on → IsAtNumber (first_number handler)
    by_on_part (Some on) is = subst IsAtNumber (sym (ap (λ (o : Option OnPart). if is_some o then 0 else 1) is)) (record {
      lines_are = refl;
      words = is_written.words;
      names_are_principals = principals;
      on_first = λ none. (on, is);
    })
    by_on_part None is =
        let pats : on_pats handler ≡ [] = rw is refl in
        let first = bound_first handler in
        let nothing_more = append-nil (first ++ flat_map pattern_binds (on_pats handler)) ∙ ap (λ ps. first ++ flat_map pattern_binds ps) pats ∙ append-nil first in
        subst IsAtNumber (sym (ap (λ (o : Option OnPart). if is_some o then 0 else 1) is)) (record {
          lines_are = ap (λ (o : Option OnPart). map GoesOn (option_to_list o) ++ lines_in file.decls handler.body) is;
          words = is_written.words ∙ ap words_of (sym nothing_more);
          names_are_principals = principals;
          on_first = λ none. absurd (omega arith);
        })

    -- An instance that begins stands before its first line.
    pub opening_stands : IsLeftOf file handler principal session (opening file.decls handler principal session args (option_and_then (message_at X) message))
    opening_stands = record { stands = by_on_part handler.on refl; principal_is = refl; session_is = refl }
