-- A Start may follow where its step fits the file and the trace.
use Rattle.std.proofs.Common.{◌≡◌, ℕ, ◌<◌, Bool, true, false, ◌==◌, List, length, Option, Some, None, refl, subst}
use Rattle.std.specs.Option.{option_map_or}
use Rattle.std.proofs.lemmas.Bool.{and_parts, eqb-true, ltb-true}
use Rattle.dy_syntax.specs.Names.{Id}
use Rattle.dy_syntax.specs.Statements.{OnPart, Handler}
use Rattle.dy_syntax.specs.Files.{Decl}
use Rattle.dy_syntax.specs.LookUps.{handler_named}
use Rattle.dy_entry.specs.Entries.{Entry}
use Rattle.dy_traces.specs.declared.limits.TheConstants.{MAX_STEPS}
use Rattle.dy_traces.specs.Steps.{IsUnused, has_step}
use Rattle.dy_traces.specs.Following.{MayStart, MayBeIn, MayReceive}
use Rattle.dy_core.specs.StepMeaning.{StartStep, session_of, start_of}
use Rattle.dy_core.specs.Asking.{are_both_given, fits_handler, asks_right}
use Rattle.dy_core.specs.Answers.{IsOpened, IsIdle, HasMessage}

declared_fits : (o : Option Handler) (fits : Handler → Bool) → option_map_or fits o false ≡ true → (h : Handler) × (o ≡ Some h) × (fits h ≡ true)
declared_fits None fits is = absurd cc
declared_fits (Some h) fits is = (h, refl, is)

module _ (T : List Entry) where
  session_fits : (principal : List ℕ) (session : Option ℕ) (on : Option OnPart) → are_both_given session on ≡ true
      → IsOpened T principal session → IsIdle T session → MayBeIn T on principal (session_of session (length T))
  session_fits principal None None both opened idle = refl
  session_fits principal None (Some on) both opened idle = absurd cc
  session_fits principal (Some session) None both opened idle = absurd cc
  session_fits principal (Some session) (Some on) both opened idle = (opened, idle)

  message_fits : (message : Option ℕ) (recv : Option Id) → are_both_given message recv ≡ true → HasMessage T message → MayReceive T recv message
  message_fits None None both has = tt
  message_fits None (Some word) both has = absurd cc
  message_fits (Some index) None both has = absurd cc
  message_fits (Some index) (Some word) both has = has

module _ (decls : List Decl) (s : StartStep) (right : asks_right decls s ≡ true) where
  parts : (option_map_or (fits_handler s) (handler_named decls s.handler) false ≡ true) × ((s.step < MAX_STEPS))
  parts = let both = and_parts _ _ right in (both.0, ltb-true s.step MAX_STEPS both.1)

  pub is_declared : (h : Handler) × (handler_named decls s.handler ≡ Some h) × (fits_handler s h ≡ true)
  is_declared = declared_fits (handler_named decls s.handler) (fits_handler s) parts.0

  pub may_start : (T : List Entry) → IsUnused T s.step → IsOpened T s.principal s.session → IsIdle T s.session → HasMessage T s.message
      → MayStart decls T s.step s.handler s.principal (session_of s.session (length T)) s.args s.message
  may_start T unused opened idle has =
      let h = is_declared.0 in
      let fits = and_parts (length s.args == length h.args) _ is_declared.2 in
      let rest = and_parts (are_both_given s.session h.on) (are_both_given s.message h.recv) fits.1 in
      record {
        unused = unused;
        declared = h;
        is_declared = is_declared.1;
        arguments = eqb-true _ _ fits.0;
        session_fits = session_fits T s.principal s.session h.on rest.0 opened idle;
        message_fits = message_fits T s.message h.recv rest.1 has;
      }

  pub few_steps : (T : List Entry) (step : ℕ) → has_step step (start_of s T) ≡ true → step < MAX_STEPS
  few_steps T step is = let same = eqb-true s.step step is in let low = parts.1 in subst (λ n. n < MAX_STEPS) same low
